use Rattle.std.proofs.Common.{refl}
use Rattle.labsys.proofs.UpgradedLemmas.{all_written, last_fails, script_fails, world_fails}
use Rattle.labsys.proofs.upgrading.upgrade.Goals as goal

pub returns-in_err-write_world : goal.returns-in_err-write_world
returns-in_err-write_world g c = λ trail. world_fails c.args.opened.read _ _ _ _ _ _ (c.in_err-write_world.ensures.writes _ trail) c.from_residual.ensures.1

pub returns-in_err-ending : goal.returns-in_err-ending
returns-in_err-ending g c = λ trail.
    script_fails c.args.opened.read _ _ _ _ _ (c.in_ok-write_world.ensures.writes _ trail) _ _ _ _ (c.in_err-ending.ensures trail) c.from_residual-in_err-ending.ensures.1

pub returns-in_err-report_unless_whole : goal.returns-in_err-report_unless_whole
returns-in_err-report_unless_whole g c = λ trail.
    last_fails c.args.opened.read _ _ _ _ _ (c.in_ok-write_world.ensures.writes _ trail) _ _ _ _ (c.in_ok-ending.ensures trail) _ _ (c.in_err-report_unless_whole.ensures _ trail) c.from_residual-in_err-report_unless_whole.ensures.1

pub returns : goal.returns
returns g c = λ trail.
    all_written c.args.opened.read _ _ _ _ _ (c.in_ok-write_world.ensures.writes _ trail) _ _ _ _ (c.in_ok-ending.ensures trail) _ refl c.in_ok-write_world.ensures.back (c.in_ok-report_unless_whole.ensures _ trail)
