use Rattle.std.specs.Prelude.{◌++◌, option_copied}
use Rattle.std.proofs.Common.{ap, sym, subst, ◌∙◌}
use Rattle.std.proofs.lemmas.List.{append-nil}
use Rattle.sched_progs.specs.Watching.{SawCalls}
use Rattle.sched_progs.proofs.ScheduleLemmas.{call_at, may_call, no_items, on_both, one_item, place_at, running_with, running_without, state_with, state_without, step_within}
use Rattle.sched_progs.proofs.SeenLemmas.{all_seen, none_seen}
use Rattle.sched_progs.proofs.schedule.Schedule.turn_of.Goals as goal

pub make_call-requires-clause-call : goal.make_call-requires-clause-call
make_call-requires-clause-call g c =
    let some = call_at c.args.programs.now c.args.standing _ _ c.move_from-place.ensures.call c.steps_at-steps.ensures ∙ ap option_copied c.in-Some.is in
    may_call c.args.programs.now (g.C.Calls.state c.args.kernel.now) c.args.self.now.standings c.args.self.now.last_turns _ c.requires.running c.args.who.now c.args.standing c.requires.there c.in-Some.call.now some

pub make_call-requires-clause-within : goal.make_call-requires-clause-within
make_call-requires-clause-within g c =
    let some = call_at c.args.programs.now c.args.standing _ _ c.move_from-place.ensures.call c.steps_at-steps.ensures ∙ ap option_copied c.in-Some.is in
    step_within c.args.programs.now (g.C.Calls.state c.args.kernel.now) c.args.self.now.standings c.args.self.now.last_turns _ c.requires.running c.args.who.now c.args.standing c.requires.there c.in-Some.call.now some

pub returns-in_err-set-in-None-clause-saw : goal.returns-in_err-set-in-None-clause-saw
returns-in_err-set-in-None-clause-saw g c = none_seen c.from_residual.result _ _ _ _ c.requires.going c.from_residual.ensures.1

pub returns-in-Some-clause-saw : goal.returns-in-Some-clause-saw
returns-in-Some-clause-saw g c =
    let at = place_at c.args.programs.now c.args.standing _ _ c.move_from-place.ensures.place c.steps_at-steps.ensures in
    let some = call_at c.args.programs.now c.args.standing _ _ c.move_from-place.ensures.call c.steps_at-steps.ensures ∙ ap option_copied c.in-Some.is in
    let items = one_item c.args.programs.now (g.C.Calls.state c.args.kernel.now) c.args.self.now.standings c.args.self.now.last_turns _ c.requires.running c.args.who.now c.args.standing c.requires.there
    c.move_from-place.result.0 at c.in-Some.call.now some in
    subst (λ items. SawCalls c.make_call.result items (g.W.Watch.seen c.args.watch.now) (g.W.Watch.seen c.make_call.new.watch) (g.W.Watch.refused c.make_call.new.watch)) (sym items) c.make_call.ensures.saw

pub returns-in-Some-clause-state : goal.returns-in-Some-clause-state
returns-in-Some-clause-state g c =
    let at = place_at c.args.programs.now c.args.standing _ _ c.move_from-place.ensures.place c.steps_at-steps.ensures in
    let some = call_at c.args.programs.now c.args.standing _ _ c.move_from-place.ensures.call c.steps_at-steps.ensures ∙ ap option_copied c.in-Some.is in
    on_both c.make_call.result
    (state_with c.args.programs.now (g.C.Calls.state c.args.kernel.now) c.args.self.now.standings c.args.self.now.last_turns _ c.requires.running c.args.who.now c.args.standing c.requires.there
    c.move_from-place.result.0 at c.in-Some.call.now some (g.C.Calls.state c.make_call.new.kernel) c.make_call.new.standings)
    c.make_call.ensures.state c.make_call.ensures.standings

pub returns-in-Some-clause-running : goal.returns-in-Some-clause-running
returns-in-Some-clause-running g c =
    let at = place_at c.args.programs.now c.args.standing _ _ c.move_from-place.ensures.place c.steps_at-steps.ensures in
    let some = call_at c.args.programs.now c.args.standing _ _ c.move_from-place.ensures.call c.steps_at-steps.ensures ∙ ap option_copied c.in-Some.is in
    on_both c.make_call.result
    (running_with c.args.programs.now (g.C.Calls.state c.args.kernel.now) c.args.self.now.standings c.args.self.now.last_turns _ c.requires.running c.args.who.now c.args.standing c.requires.there
    c.move_from-place.result.0 at c.in-Some.call.now some c.make_call.ensures.names (g.W.Watch.top c.make_call.new.watch) c.make_call.ensures.top (g.C.Calls.state c.make_call.new.kernel) c.make_call.new.standings)
    c.make_call.ensures.state c.make_call.ensures.standings

pub returns-in_ok-set-in-None-clause-saw : goal.returns-in_ok-set-in-None-clause-saw
returns-in_ok-set-in-None-clause-saw g c =
    let at = place_at c.args.programs.now c.args.standing _ _ c.move_from-place.ensures.place c.steps_at-steps.ensures in
    let none = call_at c.args.programs.now c.args.standing _ _ c.move_from-place.ensures.call c.steps_at-steps.ensures ∙ ap option_copied c.in-None.is in
    let items = no_items c.args.programs.now (g.C.Calls.state c.args.kernel.now) c.args.self.now.standings c.args.self.now.last_turns _ c.requires.running c.args.who.now c.args.standing c.requires.there
    c.move_from-place.result.0 at none in
    all_seen tt _ (g.W.Watch.seen c.args.watch.now) _ _ (sym (append-nil _) ∙ ap (λ items. g.W.Watch.seen c.args.watch.now ++ items) (sym items), c.requires.going)

pub returns-in_ok-set-in-None-clause-state : goal.returns-in_ok-set-in-None-clause-state
returns-in_ok-set-in-None-clause-state g c =
    let at = place_at c.args.programs.now c.args.standing _ _ c.move_from-place.ensures.place c.steps_at-steps.ensures in
    let none = call_at c.args.programs.now c.args.standing _ _ c.move_from-place.ensures.call c.steps_at-steps.ensures ∙ ap option_copied c.in-None.is in
    state_without c.args.programs.now (g.C.Calls.state c.args.kernel.now) c.args.self.now.standings c.args.self.now.last_turns _ c.requires.running c.args.who.now c.args.standing c.requires.there
    c.move_from-place.result.0 at none c.set.new.self c.in_ok-set-in-None.ensures

pub returns-in_ok-set-in-None-clause-running : goal.returns-in_ok-set-in-None-clause-running
returns-in_ok-set-in-None-clause-running g c =
    let at = place_at c.args.programs.now c.args.standing _ _ c.move_from-place.ensures.place c.steps_at-steps.ensures in
    let none = call_at c.args.programs.now c.args.standing _ _ c.move_from-place.ensures.call c.steps_at-steps.ensures ∙ ap option_copied c.in-None.is in
    running_without c.args.programs.now (g.C.Calls.state c.args.kernel.now) c.args.self.now.standings c.args.self.now.last_turns _ c.requires.running c.args.who.now c.args.standing c.requires.there
    c.move_from-place.result.0 at none c.set.new.self c.in_ok-set-in-None.ensures
