use Rattle.std.specs.FinMap as map
use Rattle.std.proofs.Common.{ap, ◌∙◌}
use Rattle.kern_model.specs.State.{Process}
use Rattle.proc_table.specs.Procs.{change_process_at, without_parent}
use Rattle.proc_table.specs.contracts.process.Proc.{the_view}
use Rattle.num_table.proofs.Outcomes.{at_some}
use Rattle.proc_table.proofs.living.Living.orphan.Goals as goal

pub returns-in-Some : goal.returns-in-Some
returns-in-Some c =
    let procs = c.args.self.now in
    let who = c.args.who.now in
    at_some c.in-Some.is (c.get_mut.follows.holds (without_parent (the_view c.process.inside))) ∙ ap (λ (p : Process). map.insert procs who (without_parent p)) c.process.view_is ∙ ap (change_process_at procs who without_parent) c.in-Some.ensures.value

pub returns-in_default : goal.returns-in_default
returns-in_default c = c.get_mut.follows.holds-at-none ∙ ap (change_process_at c.args.self.now c.args.who.now without_parent) c.in_default.ensures.value
