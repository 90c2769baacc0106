use Rattle.sched_engine.proofs.ProgramLemmas.{step_added, step_refused}
use Rattle.sched_engine.proofs.programs.ProgramsSoFar.with_step.Goals as goal

pub returns-then-items-ge-MAX_STEPS : goal.returns-then-items-ge-MAX_STEPS
returns-then-items-ge-MAX_STEPS c = step_refused _ _ _ c.in-Some.who c.in-Some.program.steps _ c.in-Some.is c.self.view_is _ c.items.ensures c.if-items-ge-MAX_STEPS.true

pub returns : goal.returns
returns c = step_added _ _ _ c.in-Some.who c.in-Some.program.steps _ c.in-Some.is c.self.view_is _ _ c.in_ok-push.ensures.ok c.items.ensures c.if-items-ge-MAX_STEPS.false
