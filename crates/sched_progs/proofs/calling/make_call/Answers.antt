use Rattle.std.specs.Prelude.{[], ◌∷◌}
use Rattle.std.proofs.Common.{ap, subst, sym, ◌∙◌}
use Rattle.sched_progs.specs.Running.{item_of_step}
use Rattle.sched_progs.specs.Watching.{IsWithin}
use Rattle.sched_progs.proofs.SeenLemmas.{item_is, none_seen, one_refused}
use Rattle.sched_progs.proofs.calling.make_call.Goals as goal

pub saw-requires-clause-within : goal.saw-requires-clause-within
saw-requires-clause-within g c =
    subst (IsWithin (g.W.Watch.top c.args.watch.now)) (sym (item_is _ c.args.who.now c.args.call.now c.in_ok-outcome.outcome _ c.in_ok-outcome.ensures.played)) c.requires.within

pub returns-in_err-outcome-clause-saw : goal.returns-in_err-outcome-clause-saw
returns-in_err-outcome-clause-saw g c = none_seen c.from_residual.result _ _ _ _ c.requires.going c.from_residual.ensures.1

pub returns-in_err-saw-clause-saw : goal.returns-in_err-saw-clause-saw
returns-in_err-saw-clause-saw g c =
    let told = c.in_err-saw.ensures.saw.err in
    one_refused c.from_residual-in_err-saw.result _ (item_of_step (g.C.Calls.state c.args.kernel.now) c.args.who.now c.args.call.now) _ _ _
    (told.0, told.1 ∙ ap (λ i. i ∷ []) (item_is _ c.args.who.now c.args.call.now c.in_ok-outcome.outcome _ c.in_ok-outcome.ensures.played))
    c.from_residual-in_err-saw.ensures.1
