use Rattle.std.proofs.Common.{◌≡◌, ◌≤◌, [], drop}
use Rattle.sched_progs.specs.Loop.{items_of_turns, state_after_turns}
use Rattle.sched_progs.specs.Running.{IsRunning}
use Rattle.sched_progs.specs.Standings.{loop_state}
use Rattle.sched_progs.proofs.SeenLemmas.{Underway}
use Rattle.sched_progs.proofs.schedule.Schedule.turns.Given as goal

abbrev pub invariant-loop-label : goal.invariant-loop-label
invariant-loop-label g l =
    let left = drop l.label-index l.slices in
    let state = g.C.Calls.state l.kernel in
    let at = loop_state state l.programs l.self.standings l.self.last_turns in
    let first = loop_state (g.C.Calls.state l.initial.kernel) l.programs l.initial.self.standings l.initial.self.last_turns in
    record {
      underway : Underway (items_of_turns first l.slices) (items_of_turns at left) (g.W.Watch.seen l.initial.watch) (g.W.Watch.seen l.watch);
      going : g.W.Watch.refused l.watch ≡ [];
      after : state_after_turns at left ≡ state_after_turns first l.slices;
      running : IsRunning state l.programs l.self.standings (g.W.Watch.top l.watch);
      top : g.W.Watch.top l.watch ≡ g.W.Watch.top l.initial.watch;
      rest : g.W.Watch.same_rest l.initial.watch l.watch;
      later : g.W.Watch.faults l.initial.watch ≤ g.W.Watch.faults l.watch;
    }
