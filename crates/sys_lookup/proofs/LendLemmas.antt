-- Credentials that are lent for changes.
use Rattle.std.specs.Prelude.{◌≡◌, true, false, Option, None, Some, IsSome, option_map}
use Rattle.std.specs.FinMap as map
use Rattle.std.specs.FinMap.{FinMap}
use Rattle.std.proofs.Common.{ap, sym, ◌∙◌}
use Rattle.kern_model.specs.declared.numbers.Pid.{Pid}
use Rattle.kern_model.specs.Keys.{pid_cmp}
use Rattle.kern_model.specs.State.{Process}
use Rattle.kern_model.proofs.MapLemmas.{some_same}
use Rattle.proc_creds.specs.Credentials.{Credentials}
use Rattle.fd_table.specs.Fds.{AllFds}
use Rattle.proc_table.specs.Procs.{creds_of, set_creds, under_creds, with_creds}
use Rattle.sys_lookup.specs.Shared.{with_fds}
use Rattle.sys_lookup.proofs.FdLemmas.{StandsIn, in_table, stands_in, with_fds-process}

module _ (procs : FinMap pid_cmp Process) (rows : AllFds) (who : Pid) (p : Process) (there : map.get (with_fds procs rows) who ≡ Some p) where
  stands : StandsIn procs rows who p
  stands = stands_in procs rows who p there

  -- the process has the credentials that were left
  pub creds_left : (c : Credentials) → with_fds (under_creds procs who c) rows ≡ map.insert (with_fds procs rows) who (with_creds p c)
  creds_left c =
      ap (λ w. with_fds (set_creds procs who c w) rows) stands.is
      ∙ with_fds-process procs rows who (with_creds stands.process c)
      ∙ ap (λ x. map.insert (with_fds procs rows) who (with_creds x c)) stands.same

  -- the credentials that are lent are those of the process
  pub creds_lent : (c : Credentials) → Some c ≡ option_map creds_of (map.get procs who) → creds_of p ≡ c
  creds_lent c lent = ap creds_of (sym stands.same) ∙ sym (some_same c (creds_of stands.process) (lent ∙ ap (option_map creds_of) stands.is))

no_creds : (w : Option Process) → option_map creds_of w ≡ None → IsSome w → ⊥
no_creds None none there = let no : false ≡ true = there in cc
no_creds (Some q) none there = let no : Some (creds_of q) ≡ None = none in cc

-- those of a living process are lent
pub creds_there : (procs : FinMap pid_cmp Process) (rows : AllFds) (who : Pid) → IsSome (map.get (with_fds procs rows) who) → option_map creds_of (map.get procs who) ≡ None → ⊥
creds_there procs rows who there none = no_creds (map.get procs who) none (in_table procs rows who there)
