use Rattle.sched_progs.proofs.Laws.{closed_loop_prefix, closed_loop_whole, closed_loop_end, loop_of_world, two_loops_agree}
use Rattle.sched_progs.proofs.closed_loop.Goals as goal

pub returns-clause-prefix : goal.returns-clause-prefix
returns-clause-prefix c = closed_loop_prefix

pub returns-clause-whole : goal.returns-clause-whole
returns-clause-whole c = closed_loop_whole

pub returns-clause-end : goal.returns-clause-end
returns-clause-end c = closed_loop_end

pub returns-clause-start : goal.returns-clause-start
returns-clause-start c = loop_of_world

pub returns-clause-two : goal.returns-clause-two
returns-clause-two c = two_loops_agree
