use Rattle.lab_engine.proofs.Sending.{answered, answer_stops}
use Rattle.lab_engine.proofs.reporter.answer.Goals as goal

pub returns-in-Ok : goal.returns-in-Ok
returns-in-Ok g c = answered _ _ _ c.in-Ok.ensures.ok c.in-Ok.ensures.counts.still

pub returns-in-Err : goal.returns-in-Err
returns-in-Err g c = answer_stops _ _ _ c.in-Err.ensures.err c.in-Err.ensures.counts.once
