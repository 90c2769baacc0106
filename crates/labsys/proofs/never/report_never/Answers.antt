use Rattle.std.proofs.Common.{◌∙◌, sym, ap}
use Rattle.std.specs.FinMap as map
use Rattle.kern_model.specs.Boot.{boot}
use Rattle.ever_caps.specs.Uncrossed.{is_uncrossed}
use Rattle.lab_lattice.specs.Label.{Label}
use Rattle.lab_text.specs.Policy.{PolicyNames}
use Rattle.lab_engine.specs.Order.{to_out}
use Rattle.lab_engine.proofs.Sending.{in_order}
use Rattle.labsys.specs.Never.{lines_by, said_text}
use Rattle.labsys.proofs.never.report_never.Goals as goal

pub returns-in-Whole : goal.returns-in-Whole
returns-in-Whole g c = λ source trail.
    let w = c.args.read.now.world in
    in_order c.report_world.result _ _ _ _
    (ap (λ (policy : PolicyNames). to_out (lines_by (λ (l : Label). is_uncrossed l w) policy w (map.keys (boot w).procs))) c.requires.policy
    ∙ ap (λ e. to_out (said_text c.args.read.now e)) (sym c.in-Whole.is))
    (c.report_world.ensures source trail)
