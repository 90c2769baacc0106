use Rattle.lab_engine.proofs.Sending.{stops_at_once}
use Rattle.labsys.proofs.drilling.drill.Goals as goal

pub returns-in-Err : goal.returns-in-Err
returns-in-Err g c = λ source trail. stops_at_once _ _
