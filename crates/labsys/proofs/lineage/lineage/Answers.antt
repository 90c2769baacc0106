use Rattle.std.proofs.Common.{refl, sym, ◌∙◌}
use Rattle.lab_engine.proofs.Sending.{passes_on}
use Rattle.labsys.specs.Commands.{due_of_lineage}
use Rattle.labsys.proofs.TrailLemmas.{few_records, lineage_is_not_play, trail_ended, trail_fails, trail_read}
use Rattle.labsys.proofs.lineage.lineage.Goals as goal
use Rattle.labsys.proofs.InputLemmas.{failed_ending}

pub returns-in_err-trail : goal.returns-in_err-trail
returns-in_err-trail g c = λ t. trail_fails _ lineage_is_not_play (λ text r e e'. tt) c.from_residual.result _ _ _ _ _ _ t c.in_err-trail.ensures.reads (c.in_err-trail.ensures.counts _ _) c.from_residual.ensures.1

pub write_lineage-requires : goal.write_lineage-requires
write_lineage-requires g c = record { few = few_records _ c.in-Trail.trail (sym c.in_ok-trail.ensures.reads.shows ∙ c.in-Trail.is) }

pub returns-in_err-write_lineage-in-Trail : goal.returns-in_err-write_lineage-in-Trail
returns-in_err-write_lineage-in-Trail g c = λ t.
    trail_read _ lineage_is_not_play (λ text r e e'. tt) c.from_residual-in_err-write_lineage-in-Trail.result _ _ _ _ due_of_lineage (λ text. refl) _ c.in_ok-trail.ensures.reads c.in_ok-trail.ensures.counts _ t _ c.in-Trail.trail c.in-Trail.is
    (passes_on _ _ _ _ _ (c.in_err-write_lineage-in-Trail.ensures _ t) c.from_residual-in_err-write_lineage-in-Trail.ensures.1) (failed_ending _ _ c.from_residual-in_err-write_lineage-in-Trail.ensures.1 _)

pub returns-in_ok-write_lineage-in-Trail : goal.returns-in_ok-write_lineage-in-Trail
returns-in_ok-write_lineage-in-Trail g c = λ t.
    trail_read _ lineage_is_not_play (λ text r e e'. tt) _ _ _ _ _ due_of_lineage (λ text. refl) _ c.in_ok-trail.ensures.reads c.in_ok-trail.ensures.counts _ t _ c.in-Trail.trail c.in-Trail.is (c.in_ok-write_lineage-in-Trail.ensures _ t) refl

pub returns-in-Ended : goal.returns-in-Ended
returns-in-Ended g c = λ t.
    trail_ended _ lineage_is_not_play (λ text r e e'. tt) c.end_without_world.result _ _ _ _ due_of_lineage (λ text. refl) _ c.in_ok-trail.ensures.reads c.in_ok-trail.ensures.counts _ t _ c.in-Ended.ending c.in-Ended.is
    (c.end_without_world.ensures.writes _ t) c.end_without_world.ensures.ending refl
