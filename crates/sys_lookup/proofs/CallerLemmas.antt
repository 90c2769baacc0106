-- The process that a caller keeps is the one with its number.
use Rattle.std.specs.Prelude.{◌≡◌, Option, None, Some, MatchOption}
use Rattle.std.specs.FinMap as map
use Rattle.std.proofs.Common.{ap, sym, ◌∙◌, subst}
use Rattle.fd_table.specs.Fds.{Fds}
use Rattle.kern_model.specs.declared.numbers.Pid.{Pid}
use Rattle.kern_model.specs.State.{State, Process, process_at}
use Rattle.kern_model.proofs.StateLemmas.{process_is}

-- a process that was found in the table, and its descriptors
module _ (s : State) (who : Pid) (q : Process) (fds : Fds) (there : map.get s.procs who ≡ Some (record q { fds = fds })) where
  abbrev kept : Process
  kept = record q { fds = (process_at s who).fds }

  with_its_fds : record q { fds = fds } ≡ kept
  with_its_fds = λ i. record q { fds = (sym (process_is s who (record q { fds = fds }) there) i).fds }

  pub kept_lives : map.get s.procs who ≡ Some kept
  kept_lives = there ∙ ap (λ (p : Process). Some p) with_its_fds

  pub kept_is : kept ≡ process_at s who
  kept_is = sym (process_is s who kept kept_lives)

-- where there is nothing, what holds then holds
pub none_match : {X P : Type 0} (Q : X → Type 0) {o : Option X} → o ≡ None → P → MatchOption o P Q
none_match {P = P} Q none h = subst (λ o. MatchOption o P Q) (sym none) h
