use Rattle.std.proofs.Common.{ap}
use Rattle.lab_engine.specs.Reporter.{calls_seen}
use Rattle.lab_engine.proofs.HeldReports.{held_new}
use Rattle.lab_engine.proofs.reporter.Reporter.new.Goals as goal

pub invariant_of-result : goal.invariant_of-result
invariant_of-result g c = record { kept = held_new g.K.Sink.view g.T.Sink.view _ _ _ _ _ _ _ _ c.with-start.ensures c.new.ensures (ap calls_seen c.new-2.ensures) (ap calls_seen c.new-3.ensures) }
