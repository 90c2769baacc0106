use Rattle.lab_engine.proofs.OpenLemmas.{memory_counts_none, opening_fails, opens_end, opens_nothing, opens_world}
use Rattle.lab_engine.proofs.opening.open_input.Goals as goal

pub returns-in_err-lines-clause-opens : goal.returns-in_err-lines-clause-opens
returns-in_err-lines-clause-opens g c = opens_nothing _ _ _ c.from_residual.ensures.1

pub returns-in_err-lines-clause-counts : goal.returns-in_err-lines-clause-counts
returns-in_err-lines-clause-counts g c = λ o t. memory_counts_none _ c.from_residual.ensures.1 _

pub returns-in_err-read-clause-opens : goal.returns-in_err-read-clause-opens
returns-in_err-read-clause-opens g c = opening_fails _ _ c.in_ok-lines.ensures _ _ _ _ _ c.from_residual-in_err-read.ensures.1 c.in_err-read.ensures.reads

pub returns-in-World-clause-opens : goal.returns-in-World-clause-opens
returns-in-World-clause-opens g c = opens_world _ _ c.in_ok-lines.ensures _ _ _ _ c.in_ok-read.ensures.reads c.in-World.read c.in-World.is

pub returns-in-Ended-clause-opens : goal.returns-in-Ended-clause-opens
returns-in-Ended-clause-opens g c = opens_end _ _ c.in_ok-lines.ensures _ _ _ _ c.in_ok-read.ensures.reads c.in-Ended.ending c.in-Ended.is
