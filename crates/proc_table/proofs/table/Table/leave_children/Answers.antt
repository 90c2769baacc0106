use Rattle.std.specs.Prelude.{◌≡◌, ◌+◌}
use Rattle.std.specs.FinMap.{FinMap}
use Rattle.std.proofs.Common.{ap, sym, ◌∙◌, subst, arith, refl}
use Rattle.kern_model.specs.Keys.{pid_cmp}
use Rattle.kern_model.specs.State.{Process}
use Rattle.num_table.proofs.Outcomes.{none_match, some_match}
use Rattle.proc_table.specs.Children.{IsKept, child_count}
use Rattle.proc_table.specs.Procs.{all_without_parent}
use Rattle.proc_table.proofs.FinishLemmas.{kept_orphaned, none_parted, parted_orphaned}
use Rattle.proc_table.proofs.table.Table.leave_children.Goals as goal

pub loop-child-init : goal.loop-child-init
loop-child-init c = record { kept = c.requires; parted = refl; numbers = refl }

pub loop-child-preserved : goal.loop-child-preserved
loop-child-preserved c =
    let t = c.loop-child.self in
    let inv = c.loop-child.invariant in
    let who = c.args.who.now in
    let child = c.in-Some.child in
    let is = some_match _ _ c.first.result child c.in-Some.is c.first.ensures in
    record {
      kept = subst (λ (living : FinMap pid_cmp Process). IsKept living c.remove.new.self t.made) (sym c.orphan.ensures)
          (kept_orphaned t.living t.children t.made inv.kept who child is c.remove.new.self c.remove.ensures.left);
      parted = ap (all_without_parent who) c.orphan.ensures ∙ parted_orphaned t.living t.children t.made inv.kept who child is ∙ inv.parted;
      numbers = inv.numbers;
    }

pub loop-child-smaller : goal.loop-child-smaller
loop-child-smaller c =
    let t = c.loop-child.self in
    let is = some_match _ _ c.first.result c.in-Some.child c.in-Some.is c.first.ensures in
    let who = c.args.who.now in
    let fewer : child_count c.remove.new.self who + 1 ≡ child_count t.children who = c.remove.ensures.count who is in
    omega (arith, fewer)

pub returns-clause-living : goal.returns-clause-living
returns-clause-living c =
    let t = c.loop-child.self in
    let inv = c.loop-child.invariant in
    let none = none_match _ _ c.first.result c.in_default.is c.first.ensures in
    sym (none_parted t.living t.children t.made inv.kept c.args.who.now none) ∙ inv.parted
