use Rattle.iso_laws.proofs.Laws.{low_step_reply, low_step_records, low_step_state}
use Rattle.iso_laws.proofs.low_step.Goals as goal

pub returns-clause-reply : goal.returns-clause-reply
returns-clause-reply c = low_step_reply

pub returns-clause-recs : goal.returns-clause-recs
returns-clause-recs c = low_step_records

pub returns-clause-state : goal.returns-clause-state
returns-clause-state c = low_step_state
