use Rattle.std.proofs.Common.{refl, ap}
use Rattle.std.proofs.lemmas.Result.{IfOk-weaker}
use Rattle.labsys.specs.Commands.{due_of_select, ends_with}
use Rattle.labsys.proofs.TrailLemmas.{select_is_not_play, trail_ended, trail_fails, trail_read}
use Rattle.labsys.proofs.selecting.select.Goals as goal

pub returns-in_err-trail : goal.returns-in_err-trail
returns-in_err-trail g c = λ t. trail_fails _ (select_is_not_play _) (λ text r e e'. tt) c.from_residual.result _ _ _ _ _ _ t c.in_err-trail.ensures.reads (c.in_err-trail.ensures.counts _ _) c.from_residual.ensures.1

pub returns-in-Trail : goal.returns-in-Trail
returns-in-Trail g c = λ t.
    trail_read _ (select_is_not_play _) (λ text r e e'. tt) c.select_from.result _ _ _ _ (due_of_select c.args.word) (λ text. refl) _ c.in_ok-trail.ensures.reads c.in_ok-trail.ensures.counts _ t _ c.in-Trail.trail c.in-Trail.is
    (c.select_from.ensures.writes _ t) (IfOk-weaker c.select_from.result _ _ (λ e is. ap ends_with is) c.select_from.ensures.ending)

pub returns-in-Ended : goal.returns-in-Ended
returns-in-Ended g c = λ t.
    trail_ended _ (select_is_not_play _) (λ text r e e'. tt) c.end_without_world.result _ _ _ _ (due_of_select c.args.word) (λ text. refl) _ c.in_ok-trail.ensures.reads c.in_ok-trail.ensures.counts _ t _ c.in-Ended.ending c.in-Ended.is
    (c.end_without_world.ensures.writes _ t) c.end_without_world.ensures.ending refl
