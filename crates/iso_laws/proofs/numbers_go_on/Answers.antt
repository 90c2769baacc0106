use Rattle.iso_laws.proofs.Laws.{drawn_step, numbers_step, numbers_run, gone_run}
use Rattle.iso_laws.proofs.numbers_go_on.Goals as goal

pub returns-clause-drawn : goal.returns-clause-drawn
returns-clause-drawn c = drawn_step

pub returns-clause-step : goal.returns-clause-step
returns-clause-step c = numbers_step

pub returns-clause-run : goal.returns-clause-run
returns-clause-run c = numbers_run

pub returns-clause-gone : goal.returns-clause-gone
returns-clause-gone c = gone_run
