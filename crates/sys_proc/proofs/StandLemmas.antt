-- Processes of the state, as they stand in the table.
use Rattle.std.specs.Prelude.{◌≡◌, false, true, None, Some, IsSome, Result, refl}
use Rattle.std.specs.FinMap as map
use Rattle.std.proofs.Common.{sym, subst}
use Rattle.kern_model.specs.declared.numbers.Pid.{Pid}
use Rattle.kern_model.specs.Row.{Row}
use Rattle.kern_model.specs.State.{State, Process, process_at}
use Rattle.kern_model.specs.Valid.{IsThere}
use Rattle.kern_model.proofs.StateLemmas.{process_is}
use Rattle.chk_rules.specs.CheckLog.{CheckLog}
use Rattle.chk_rules.specs.declared.stop.Stop.{Stop}
use Rattle.sys_lookup.specs.declared.effect.Effect.{Effect}
use Rattle.sys_lookup.specs.declared.shared.Shared.TheInside.{Inside}
use Rattle.sys_lookup.specs.PlaysRow.{PlaysRow}
use Rattle.sys_lookup.specs.Shared.{process_with_fds, state_of}
use Rattle.sys_lookup.proofs.FdLemmas.{found, not_found}

module _ (h : Inside) (s : State) (is : state_of h ≡ s) (who : Pid) (living : IsSome (map.get s.procs who)) where
  -- a living process is in the table
  pub in_procs : IsThere h.procs.procs who
  in_procs = elim (map.get h.procs.procs who) as (λ w. map.get h.procs.procs who ≡ w → IsThere h.procs.procs who) [
    | None ↦ λ none.
        let there = subst (λ (t : State). IsSome (map.get t.procs who)) (sym is) living in
        let no : false ≡ true = subst IsSome (not_found h.procs.procs h.fds.processes who none) there in absurd cc
    | Some q ↦ λ e. record { value = q; is = e }
  ] refl

  -- its row is that of the process in the table, with its descriptors
  pub stands_plays : (row : State → Process → Row) → {log : CheckLog} {r : Result Effect Stop} {t : State}
      → ((q : Process) → map.get h.procs.procs who ≡ Some q → PlaysRow (state_of h) log (row (state_of h) (process_with_fds h.fds.processes who q)) r t log) → PlaysRow s log (row s (process_at s who)) r t log
  stands_plays row {log} {r} {t} plays =
      let q = in_procs in
      let same = process_is (state_of h) who (process_with_fds h.fds.processes who q.value) (found h.procs.procs h.fds.processes who q.value q.is) in
      subst (λ (x : State). PlaysRow x log (row x (process_at x who)) r t log) is
      (subst (λ x. PlaysRow (state_of h) log (row (state_of h) x) r t log) (sym same) (plays q.value q.is))
