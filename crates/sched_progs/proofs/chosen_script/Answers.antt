use Rattle.sched_progs.proofs.ChosenLaws.{loop_is_run}
use Rattle.sched_progs.proofs.chosen_script.Goals as goal

pub returns : goal.returns
returns c = loop_is_run
