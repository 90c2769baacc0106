use Rattle.std.specs.Prelude.{refl}
use Rattle.std.specs.List.{repeat}
use Rattle.std.proofs.Common.{arith, ◌+◌, ◌-◌, ◌∙◌}
use Rattle.sched_progs.specs.Loop.{items_of_turns, state_after_turns}
use Rattle.sched_progs.specs.Standings.{loop_state}
use Rattle.sched_progs.proofs.RoundLemmas.{items_round, state_round}
use Rattle.sched_progs.proofs.SeenLemmas.{more_seen, part_seen}
use Rattle.sched_progs.proofs.schedule.Schedule.rounds.Goals as goal

pub returns-in_err-turns-clause-saw : goal.returns-in_err-turns-clause-saw
returns-in_err-turns-clause-saw g c =
    let at = loop_state (g.C.Calls.state c.loop.kernel) c.args.programs.now c.loop.self.standings c.loop.self.last_turns in
    let after = state_after_turns at c.args.slices.now in
    part_seen c.from_residual.result _ _ _ _ (items_of_turns after (repeat (c.args.rounds - (c.loop.counter + 1)) c.args.slices.now)) _ _ _ _ c.loop.invariant.underway
    (items_round at c.args.slices.now c.args.rounds c.loop.counter c.loop-test.true after refl)
    c.in_err-turns.ensures.saw.part c.from_residual.ensures.1

pub loop-preserved : goal.loop-preserved
loop-preserved g c =
    let at = loop_state (g.C.Calls.state c.loop.kernel) c.args.programs.now c.loop.self.standings c.loop.self.last_turns in
    let after = loop_state (g.C.Calls.state c.turns.new.kernel) c.args.programs.now c.turns.new.self.standings c.turns.new.self.last_turns in
    let invariant = c.loop.invariant in
    record {
      underway = more_seen _ _ (items_of_turns at c.args.slices.now) (items_of_turns after (repeat (c.args.rounds - (c.loop.counter + 1)) c.args.slices.now)) _ _ _ invariant.underway
          (items_round at c.args.slices.now c.args.rounds c.loop.counter c.loop-test.true after c.in_ok-turns.ensures.state)
          c.in_ok-turns.ensures.saw.whole.0;
      going = c.in_ok-turns.ensures.saw.whole.1;
      after = state_round at c.args.slices.now c.args.rounds c.loop.counter c.loop-test.true after c.in_ok-turns.ensures.state ∙ invariant.after;
      running = c.in_ok-turns.ensures.running;
      top = c.turns.ensures.top ∙ invariant.top;
      rest = g.met.W.Watch.rest_trans _ _ _ invariant.rest c.turns.ensures.rest;
      later = omega (arith, invariant.later, c.turns.ensures.later);
    }
