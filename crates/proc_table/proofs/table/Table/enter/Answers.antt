use Rattle.std.specs.Prelude.{◌≡◌, ℕ, ◌+◌, ◌<◌, not, ◌&&◌}
use Rattle.std.specs.FinMap.{FinMap}
use Rattle.std.proofs.Common.{ap, arith, sym, ◌∙◌, subst}
use Rattle.kern_model.specs.Keys.{pid_cmp, same_pid}
use Rattle.kern_model.specs.State.{Process}
use Rattle.proc_table.specs.declared.table.TheConstants.{MAX_MADE}
use Rattle.proc_table.specs.Children.{IsKept, ChildIndex, is_child}
use Rattle.proc_table.proofs.KeptLemmas.{is_new, kept_made, kept_undone}
use Rattle.proc_table.proofs.table.Table.enter.Goals as goal

pub add-requires : goal.add-requires
add-requires c = is_new c.args.self.now.living c.args.self.now.children c.args.self.now.made c.requires.kept c.args.who.now c.requires.absent c.parent-parent.result

pub returns-in-Err-clause-kept : goal.returns-in-Err-clause-kept
returns-in-Err-clause-kept c =
    let parent = c.parent-parent.result in
    let who = c.args.who.now in
    subst (λ (made : ℕ). IsKept c.draw.new.self.living c.remove.new.self made) (sym c.draw.ensures.made)
    (subst (λ (living : FinMap pid_cmp Process). IsKept living c.remove.new.self c.args.self.now.made) (sym c.in-Err.ensures.err.0)
    (kept_undone c.args.self.now.living c.args.self.now.children c.args.self.now.made c.requires.kept who c.requires.absent parent c.add.new.self c.in_ok-add.ensures.ok c.remove.new.self
    (λ q d. c.remove.ensures.left q d ∙ ap (λ (kept : ChildIndex). not (same_pid d who) && is_child kept q d) c.draw.ensures.children)))

pub returns-clause-kept : goal.returns-clause-kept
returns-clause-kept c =
    let its : c.args.process.parent ≡ c.parent-parent.result = cc (c.parent-parent.ensures, ap (λ (p : Process). p.parent) c.process.view_is) in
    let more : c.args.self.now.made < MAX_MADE = omega (arith, c.if-self-ge-MAX_MADE.false) in
    subst (λ (made : ℕ). IsKept c.draw.new.self.living c.draw.new.self.children (made + 1)) (sym c.draw.ensures.made)
    (subst (λ (kept : ChildIndex). IsKept c.draw.new.self.living kept (c.args.self.now.made + 1)) (sym c.draw.ensures.children)
    (subst (λ (living : FinMap pid_cmp Process). IsKept living c.add.new.self (c.args.self.now.made + 1)) (sym c.in_default.ensures.living)
    (kept_made c.args.self.now.living c.args.self.now.children c.args.self.now.made c.requires.kept c.args.who.now c.requires.absent c.parent-parent.result c.args.process its c.requires.childless more c.add.new.self c.in_ok-add.ensures.ok)))
