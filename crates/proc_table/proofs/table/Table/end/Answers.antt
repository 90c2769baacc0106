use Rattle.std.specs.Prelude.{None, Some}
use Rattle.std.specs.FinMap as map
use Rattle.std.specs.FinMap.{FinMap}
use Rattle.std.proofs.Common.{ap, sym, ◌∙◌, subst}
use Rattle.kern_model.specs.Keys.{pid_cmp}
use Rattle.kern_model.specs.State.{Process}
use Rattle.proc_table.specs.Children.{IsKept}
use Rattle.proc_table.specs.Procs.{change_process, with_ended}
use Rattle.proc_table.specs.contracts.process.Proc.{the_view}
use Rattle.proc_table.proofs.FinishLemmas.{kept_ended, may_grow}
use Rattle.proc_table.proofs.table.Table.end.Goals as goal

pub add_ended-requires : goal.add_ended-requires
add_ended-requires c = λ x there.
    let t = c.args.self.now in
    let is = sym c.in-Some.ensures.removed ∙ ap Some (sym c.process.view_is) in
    may_grow t.living t.children t.made c.requires.kept c.args.who.now (the_view c.process.inside) is c.in-Some-parent.parent x
    (ap (λ (m : FinMap pid_cmp Process). map.get m c.in-Some-parent.parent) (sym c.remove.ensures.left) ∙ there)

pub returns-in-Some-parent-clause-kept : goal.returns-in-Some-parent-clause-kept
returns-in-Some-parent-clause-kept c =
    let t = c.args.self.now in
    let who = c.args.who.now in
    let is = sym c.in-Some.ensures.removed ∙ ap Some (sym c.process.view_is) in
    subst (λ (living : FinMap pid_cmp Process). IsKept living c.remove-2.new.self t.made)
    (sym (c.add_ended.ensures ∙ ap (λ (m : FinMap pid_cmp Process). change_process m c.in-Some-parent.parent (with_ended who c.args.ending)) c.remove.ensures.left))
    (kept_ended t.living t.children t.made c.requires.kept who (the_view c.process.inside) is c.args.ending c.remove-2.new.self c.remove-2.ensures.left (Some c.in-Some-parent.parent))

pub returns-clause-kept : goal.returns-clause-kept
returns-clause-kept c =
    let t = c.args.self.now in
    let who = c.args.who.now in
    let is = sym c.in-Some.ensures.removed ∙ ap Some (sym c.process.view_is) in
    subst (λ (living : FinMap pid_cmp Process). IsKept living c.remove-2.new.self t.made) (sym c.remove.ensures.left)
    (kept_ended t.living t.children t.made c.requires.kept who (the_view c.process.inside) is c.args.ending c.remove-2.new.self c.remove-2.ensures.left None)
