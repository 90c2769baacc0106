use Rattle.ever_caps.proofs.Absent.{absent_step, absent_unnamed}
use Rattle.ever_caps.proofs.absent_step.Goals as goal

pub returns-clause-state : goal.returns-clause-state
returns-clause-state c = absent_step

pub returns-clause-recs : goal.returns-clause-recs
returns-clause-recs c = absent_unnamed
