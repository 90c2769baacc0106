use Rattle.std.specs.Prelude.{◌&&◌, not, IsSome}
use Rattle.std.specs.FinMap as map
use Rattle.std.specs.FinMap.{FinMap}
use Rattle.std.proofs.Common.{ap, sym, ◌∙◌, subst}
use Rattle.std.proofs.lemmas.Bool.{true≢false}
use Rattle.std.proofs.lemmas.Option.{slice_get_within}
use Rattle.kern_model.specs.Keys.{pid_cmp, same_pid}
use Rattle.kern_model.proofs.KeyLaws.{pid_cmp_total, pid_cmp_exact}
use Rattle.kern_model.proofs.MapLemmas.{remove-absent}
use Rattle.kern_model.specs.ByNumber.{by_pid}
use Rattle.proc_table.specs.declared.positions.Position.{Position}
use Rattle.proc_table.specs.Children.{AreInPlace, ChildIndex, child_count, is_child, list_at}
use Rattle.proc_table.proofs.PositionLemmas.{can_change, gone_child, last_gone, moved_child, moved_there, no_parent, one_less}
use Rattle.proc_table.proofs.children.Children.remove.Goals as goal

pub swap_remove-requires : goal.swap_remove-requires
swap_remove-requires c =
    let position = c.in-Some.position in
    slice_get_within (list_at c.self.inside.lists position.parent) position.place c.args.child.now (c.self.invariant.there c.args.child.now position (sym c.in-Some.ensures.removed))

pub change-requires : goal.change-requires
change-requires c =
    let moved = c.in-Some-swap_remove.moved in
    subst (λ (positions : FinMap pid_cmp Position). IsSome (map.get positions moved)) (sym c.remove_at.ensures.left)
    (can_change c.self.inside.lists (by_pid c.self.inside.positions) c.self.invariant c.args.child.now c.in-Some.position (sym c.in-Some.ensures.removed) c.swap_remove.new.self c.swap_remove.ensures.removed moved (sym c.in-Some-swap_remove.ensures.moved))

pub invariant_of-self : goal.invariant_of-self
invariant_of-self c =
    let moved = c.in-Some-swap_remove.moved in
    let position = c.in-Some.position in
    subst (λ (positions : FinMap pid_cmp Position). AreInPlace (record { lists = c.swap_remove.new.self; positions = positions })) (sym (c.change.ensures ∙ ap (λ (positions : FinMap pid_cmp Position). map.insert positions moved position) c.remove_at.ensures.left))
    (moved_there c.self.inside.lists (by_pid c.self.inside.positions) c.self.invariant c.args.child.now position (sym c.in-Some.ensures.removed) c.swap_remove.new.self c.swap_remove.ensures.removed moved (sym c.in-Some-swap_remove.ensures.moved))

pub invariant_of-self-in_default-swap_remove : goal.invariant_of-self-in_default-swap_remove
invariant_of-self-in_default-swap_remove c =
    subst (λ (positions : FinMap pid_cmp Position). AreInPlace (record { lists = c.swap_remove.new.self; positions = positions })) (sym c.remove_at.ensures.left)
    (last_gone c.self.inside.lists (by_pid c.self.inside.positions) c.self.invariant c.args.child.now c.in-Some.position (sym c.in-Some.ensures.removed) c.swap_remove.new.self c.swap_remove.ensures.removed (sym c.in_default-swap_remove.ensures.moved))

pub invariant_of-self-in_default : goal.invariant_of-self-in_default
invariant_of-self-in_default c =
    subst (λ (positions : FinMap pid_cmp Position). AreInPlace (record { lists = c.self.inside.lists; positions = positions }))
    (sym (c.remove_at.ensures.left ∙ remove-absent pid_cmp_total pid_cmp_exact (by_pid c.self.inside.positions) c.args.child.now (sym c.in_default.ensures.removed))) c.self.invariant

pub returns-in-Some-swap_remove-clause-left : goal.returns-in-Some-swap_remove-clause-left
returns-in-Some-swap_remove-clause-left c = λ q d.
    let moved = c.in-Some-swap_remove.moved in
    let position = c.in-Some.position in
    ap (λ (positions : FinMap pid_cmp Position). is_child (record { lists = c.swap_remove.new.self; positions = positions }) q d) (c.change.ensures ∙ ap (λ (positions : FinMap pid_cmp Position). map.insert positions moved position) c.remove_at.ensures.left)
    ∙ moved_child c.self.inside.lists (by_pid c.self.inside.positions) c.self.invariant c.args.child.now position (sym c.in-Some.ensures.removed) c.swap_remove.new.self c.swap_remove.ensures.removed moved (sym c.in-Some-swap_remove.ensures.moved) q d
    ∙ gone_child c.self.inside.lists (by_pid c.self.inside.positions) c.args.child.now c.swap_remove.new.self q d ∙ ap (λ (k : ChildIndex). not (same_pid d c.args.child.now) && is_child k q d) c.self.view_is

pub returns-in-Some-swap_remove-clause-count : goal.returns-in-Some-swap_remove-clause-count
returns-in-Some-swap_remove-clause-count c = λ q t.
    one_less c.self.inside.lists (by_pid c.self.inside.positions) c.self.invariant c.args.child.now c.in-Some.position (sym c.in-Some.ensures.removed) c.swap_remove.new.self c.swap_remove.ensures.removed q (ap (λ (k : ChildIndex). is_child k q c.args.child.now) c.self.view_is ∙ t)
    ∙ ap (λ (k : ChildIndex). child_count k q) c.self.view_is

pub returns-in_default-swap_remove-clause-left : goal.returns-in_default-swap_remove-clause-left
returns-in_default-swap_remove-clause-left c = λ q d.
    ap (λ (positions : FinMap pid_cmp Position). is_child (record { lists = c.swap_remove.new.self; positions = positions }) q d) c.remove_at.ensures.left
    ∙ gone_child c.self.inside.lists (by_pid c.self.inside.positions) c.args.child.now c.swap_remove.new.self q d ∙ ap (λ (k : ChildIndex). not (same_pid d c.args.child.now) && is_child k q d) c.self.view_is

pub returns-in_default-swap_remove-clause-count : goal.returns-in_default-swap_remove-clause-count
returns-in_default-swap_remove-clause-count c = λ q t.
    one_less c.self.inside.lists (by_pid c.self.inside.positions) c.self.invariant c.args.child.now c.in-Some.position (sym c.in-Some.ensures.removed) c.swap_remove.new.self c.swap_remove.ensures.removed q (ap (λ (k : ChildIndex). is_child k q c.args.child.now) c.self.view_is ∙ t)
    ∙ ap (λ (k : ChildIndex). child_count k q) c.self.view_is

pub returns-in_default-clause-left : goal.returns-in_default-clause-left
returns-in_default-clause-left c = λ q d.
    ap (λ (positions : FinMap pid_cmp Position). is_child (record { lists = c.self.inside.lists; positions = positions }) q d) c.remove_at.ensures.left
    ∙ gone_child c.self.inside.lists (by_pid c.self.inside.positions) c.args.child.now c.self.inside.lists q d ∙ ap (λ (k : ChildIndex). not (same_pid d c.args.child.now) && is_child k q d) c.self.view_is

pub returns-in_default-clause-count : goal.returns-in_default-clause-count
returns-in_default-clause-count c = λ q t.
    absurd (true≢false (sym t ∙ sym (ap (λ (k : ChildIndex). is_child k q c.args.child.now) c.self.view_is)
    ∙ no_parent c.self.inside.lists (by_pid c.self.inside.positions) c.args.child.now (sym c.in_default.ensures.removed) q))
