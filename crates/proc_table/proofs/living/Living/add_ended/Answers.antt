use Rattle.std.specs.Prelude.{List, Some}
use Rattle.std.specs.FinMap as map
use Rattle.std.proofs.Common.{ap, sym, ◌∙◌}
use Rattle.kern_model.specs.declared.calls.Ending.{Ending}
use Rattle.kern_model.specs.declared.numbers.Pid.{Pid}
use Rattle.kern_model.specs.State.{Process}
use Rattle.proc_table.specs.Procs.{change_process_at, with_ended}
use Rattle.proc_table.specs.contracts.process.Proc.{the_view}
use Rattle.num_table.proofs.Outcomes.{at_some}
use Rattle.proc_table.proofs.living.Living.add_ended.Goals as goal

pub add-requires : goal.add-requires
add-requires c = c.requires (the_view c.process.inside) (sym c.in-Some.ensures.value ∙ ap Some (sym c.process.view_is))

pub returns-in-Some : goal.returns-in-Some
returns-in-Some c =
    let procs = c.args.self.now in
    let who = c.args.who.now in
    let told : Process → Process = with_ended c.args.child.now c.args.ending in
    at_some c.in-Some.is (c.get_mut.follows.holds (record (the_view c.process.inside) { ended = c.add.new.self }))
    ∙ ap (λ (l : List (Pid × Ending)). map.insert procs who (record (the_view c.process.inside) { ended = l })) c.add.ensures
    ∙ ap (λ (p : Process). map.insert procs who (told p)) c.process.view_is ∙ ap (change_process_at procs who told) c.in-Some.ensures.value

pub returns-in_default : goal.returns-in_default
returns-in_default c = c.get_mut.follows.holds-at-none ∙ ap (change_process_at c.args.self.now c.args.who.now (with_ended c.args.child.now c.args.ending)) c.in_default.ensures.value
