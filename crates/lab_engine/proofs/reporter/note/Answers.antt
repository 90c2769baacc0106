use Rattle.lab_engine.proofs.Sending.{noted, note_stops}
use Rattle.lab_engine.proofs.reporter.note.Goals as goal

pub returns-in-Ok : goal.returns-in-Ok
returns-in-Ok g c = noted _ _ _ c.in-Ok.ensures.ok c.in-Ok.ensures.counts.still

pub returns-in-Err : goal.returns-in-Err
returns-in-Err g c = note_stops _ _ _ c.in-Err.ensures.err c.in-Err.ensures.counts.once
