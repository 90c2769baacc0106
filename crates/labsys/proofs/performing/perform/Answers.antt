use Rattle.std.proofs.Common.{refl}
use Rattle.std.specs.Prelude.{None}
use Rattle.io_ends.specs.Ends.{sink_view}
use Rattle.labsys.proofs.PerformLemmas.{alone_fails, alone_written, drills, generates, no_read_beside, no_trail_beside, no_trail_fault}
use Rattle.labsys.proofs.performing.perform.Goals as goal

pub returns-in_err-generate-in-Gen-clause-did : goal.returns-in_err-generate-in-Gen-clause-did
returns-in_err-generate-in-Gen-clause-did g c = alone_fails _ _ (generates _ _ c.in-Gen.is) _ _ _ _ _ (c.in_err-generate-in-Gen.ensures _ _) c.from_residual.ensures.1

pub returns-in_ok-generate-in-Gen-clause-did : goal.returns-in_ok-generate-in-Gen-clause-did
returns-in_ok-generate-in-Gen-clause-did g c = alone_written _ _ (generates _ _ c.in-Gen.is) _ _ _ _ refl (c.in_ok-generate-in-Gen.ensures _ _)

pub returns-in_err-drill-in-Drill-clause-did : goal.returns-in_err-drill-in-Drill-clause-did
returns-in_err-drill-in-Drill-clause-did g c = alone_fails _ _ (drills _ _ c.in-Drill.is) _ _ _ _ _ (c.in_err-drill-in-Drill.ensures _ _) c.from_residual-in_err-drill-in-Drill.ensures.1

pub returns-in_ok-drill-in-Drill-clause-did : goal.returns-in_ok-drill-in-Drill-clause-did
returns-in_ok-drill-in-Drill-clause-did g c = alone_written _ _ (drills _ _ c.in-Drill.is) _ _ _ _ refl (c.in_ok-drill-in-Drill.ensures _ _)

pub returns-in-Select-clause-trail_fault : goal.returns-in-Select-clause-trail_fault
returns-in-Select-clause-trail_fault g c = λ is. absurd (no_trail_fault c.select.result _ _ _ _ _ (c.select.ensures (sink_view None 0)).writes is)

pub returns-in-Lineage-clause-trail_fault : goal.returns-in-Lineage-clause-trail_fault
returns-in-Lineage-clause-trail_fault g c = λ is. absurd (no_trail_fault c.lineage.result _ _ _ _ _ (c.lineage.ensures (sink_view None 0)).writes is)

pub returns-in_err-generate-in-Gen-clause-read_fault : goal.returns-in_err-generate-in-Gen-clause-read_fault
returns-in_err-generate-in-Gen-clause-read_fault g c = λ is. absurd (no_read_beside _ _ _ _ _ c.in_err-generate-in-Gen.ensures c.from_residual.ensures.1 is)

pub returns-in_err-generate-in-Gen-clause-trail_fault : goal.returns-in_err-generate-in-Gen-clause-trail_fault
returns-in_err-generate-in-Gen-clause-trail_fault g c = λ is. absurd (no_trail_beside _ _ _ _ _ c.in_err-generate-in-Gen.ensures c.from_residual.ensures.1 is)

pub returns-in_err-drill-in-Drill-clause-read_fault : goal.returns-in_err-drill-in-Drill-clause-read_fault
returns-in_err-drill-in-Drill-clause-read_fault g c = λ is. absurd (no_read_beside _ _ _ _ _ c.in_err-drill-in-Drill.ensures c.from_residual-in_err-drill-in-Drill.ensures.1 is)

pub returns-in_err-drill-in-Drill-clause-trail_fault : goal.returns-in_err-drill-in-Drill-clause-trail_fault
returns-in_err-drill-in-Drill-clause-trail_fault g c = λ is. absurd (no_trail_beside _ _ _ _ _ c.in_err-drill-in-Drill.ensures c.from_residual-in_err-drill-in-Drill.ensures.1 is)
