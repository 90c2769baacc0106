use Rattle.iso_laws.proofs.Laws.{caller_below, call_below, reply_below, records_below}
use Rattle.iso_laws.proofs.step_below.Goals as goal

pub returns-clause-caller : goal.returns-clause-caller
returns-clause-caller c = caller_below

pub returns-clause-call : goal.returns-clause-call
returns-clause-call c = call_below

pub returns-clause-reply : goal.returns-clause-reply
returns-clause-reply c = reply_below

pub returns-clause-recs : goal.returns-clause-recs
returns-clause-recs c = records_below
