use Rattle.std.specs.Prelude.{option_to_list, refl}
use Rattle.std.proofs.Common.{arith, ◌+◌, drop, ◌∙◌}
use Rattle.sched_progs.specs.Loop.{items_of_turns}
use Rattle.sched_progs.specs.Standings.{loop_state}
use Rattle.sched_progs.specs.Turns.{turn}
use Rattle.sched_progs.proofs.RoundLemmas.{items_next, state_next}
use Rattle.sched_progs.proofs.SeenLemmas.{more_seen, part_seen}
use Rattle.sched_progs.proofs.schedule.Schedule.turns.Goals as goal

pub returns-in_err-turn-clause-saw : goal.returns-in_err-turn-clause-saw
returns-in_err-turn-clause-saw g c =
    let at = loop_state (g.C.Calls.state c.loop-label.kernel) c.args.programs.now c.loop-label.self.standings c.loop-label.self.last_turns in
    part_seen c.from_residual.result _ _ _ _ (items_of_turns (turn at c.label-item.result).state (drop (c.loop-label.label-index + 1) c.args.slices.now)) _ _ _ _ c.loop-label.invariant.underway
    (items_next at c.args.slices.now c.loop-label.label-index c.label-item.result c.loop-label-test.true c.label-item.is (turn at c.label-item.result).state refl)
    c.in_err-turn.ensures.saw.part c.from_residual.ensures.1

pub loop-label-preserved : goal.loop-label-preserved
loop-label-preserved g c =
    let at = loop_state (g.C.Calls.state c.loop-label.kernel) c.args.programs.now c.loop-label.self.standings c.loop-label.self.last_turns in
    let after = loop_state (g.C.Calls.state c.turn.new.kernel) c.args.programs.now c.turn.new.self.standings c.turn.new.self.last_turns in
    let invariant = c.loop-label.invariant in
    record {
      underway = more_seen _ _ (option_to_list (turn at c.label-item.result).item) (items_of_turns after (drop (c.loop-label.label-index + 1) c.args.slices.now)) _ _ _ invariant.underway
          (items_next at c.args.slices.now c.loop-label.label-index c.label-item.result c.loop-label-test.true c.label-item.is after c.in_ok-turn.ensures.state)
          c.in_ok-turn.ensures.saw.whole.0;
      going = c.in_ok-turn.ensures.saw.whole.1;
      after = state_next at c.args.slices.now c.loop-label.label-index c.label-item.result c.loop-label-test.true c.label-item.is after c.in_ok-turn.ensures.state ∙ invariant.after;
      running = c.in_ok-turn.ensures.running;
      top = c.turn.ensures.top ∙ invariant.top;
      rest = g.met.W.Watch.rest_trans _ _ _ invariant.rest c.turn.ensures.rest;
      later = omega (arith, invariant.later, c.turn.ensures.later);
    }
