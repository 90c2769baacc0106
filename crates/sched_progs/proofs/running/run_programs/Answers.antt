use Rattle.std.specs.Prelude.{◌≡◌, OnOk}
use Rattle.std.proofs.Common.{subst}
use Rattle.sched_progs.specs.Loop.{items_of_turns, state_after_turns}
use Rattle.sched_progs.specs.Watching.{SawCalls}
use Rattle.sched_progs.proofs.SeenLemmas.{none_seen}
use Rattle.sched_progs.proofs.StartingLemmas.{start_running, start_state}
use Rattle.sched_progs.proofs.running.run_programs.Goals as goal

pub returns-in_err-standings-clause-saw : goal.returns-in_err-standings-clause-saw
returns-in_err-standings-clause-saw g c = none_seen c.from_residual.result _ _ _ _ c.requires.going c.from_residual.ensures.1

pub rounds-requires-clause-running : goal.rounds-requires-clause-running
rounds-requires-clause-running g c =
    start_running c.args.programs.now (g.C.Calls.state c.args.kernel.now) c.args.living.now c.in_ok-standings.standings c.requires.living c.items-2.result.now c.items.result.now
    c.in_ok-standings.ensures c.items-2.ensures c.items.ensures c.items-3.result.now c.items-3.ensures c.requires.valid c.requires.programs (g.W.Watch.top c.args.watch.now) c.requires.top

pub returns-clause-saw : goal.returns-clause-saw
returns-clause-saw g c =
    let items = start_state c.args.programs.now (g.C.Calls.state c.args.kernel.now) c.args.living.now c.in_ok-standings.standings c.requires.living c.items-2.result.now c.items.result.now
    c.in_ok-standings.ensures c.items-2.ensures c.items.ensures c.items-3.result.now c.items-3.ensures items_of_turns c.new.result c.new.ensures c.args.rounds c.args.slices.now c.items-4.result.now c.items-4.ensures in
    subst (λ items. SawCalls c.rounds.result items (g.W.Watch.seen c.args.watch.now) (g.W.Watch.seen c.rounds.new.watch) (g.W.Watch.refused c.rounds.new.watch)) items c.rounds.ensures.saw

pub returns-clause-state : goal.returns-clause-state
returns-clause-state g c =
    let state = start_state c.args.programs.now (g.C.Calls.state c.args.kernel.now) c.args.living.now c.in_ok-standings.standings c.requires.living c.items-2.result.now c.items.result.now
    c.in_ok-standings.ensures c.items-2.ensures c.items.ensures c.items-3.result.now c.items-3.ensures (λ x ls. (state_after_turns x ls).kernel) c.new.result c.new.ensures c.args.rounds c.args.slices.now c.items-4.result.now c.items-4.ensures in
    subst (λ s. OnOk c.rounds.result (g.C.Calls.state c.rounds.new.kernel ≡ s)) state c.rounds.ensures.state
