use Rattle.std.proofs.Common.{Ok, refl, subst, sym}
use Rattle.kern_model.specs.declared.calls.Signal.{Signal}
use Rattle.kern_model.specs.ProcessRows.{signal_row}
use Rattle.kern_model.specs.State.{process_at}
use Rattle.sys_lookup.specs.PlaysRow.{PlaysRow}
use Rattle.sys_lookup.proofs.PlayLemmas.{commits_as}
use Rattle.sys_proc.proofs.ends.send_signal.Goals as goal

pub returns-in-Zero : goal.returns-in-Zero
returns-in-Zero c = λ log.
    let s = c.args.shared.now in
    let target = c.args.target.now in
    subst (λ (sig : Signal). PlaysRow s log (signal_row s target (process_at s target) sig) (Ok c.done.result) s log) (sym c.in-Zero.is) (commits_as c.done.ensures refl)
