use Rattle.std.specs.Prelude.{◌≡◌, ◌<◌, List, length, slice_get}
use Rattle.std.proofs.Common.{ap, arith, sym, ◌∙◌, subst}
use Rattle.std.proofs.lemmas.Bool.Decides.{nat_tests}
use Rattle.kern_model.specs.declared.numbers.Pid.{Pid}
use Rattle.kern_model.specs.ByNumber.{by_pid}
use Rattle.num_table.proofs.Outcomes.{at_some}
use Rattle.proc_table.proofs.PositionLemmas.{dropped_list, list_absent, list_found, set_list, swap_remove_dropped, swap_remove_set}
use Rattle.proc_table.proofs.child_lists.ChildLists.swap_remove.Goals as goal

pub unreachable-requires : goal.unreachable-requires
unreachable-requires c =
    let low : c.args.place < 0 = subst (λ (l : List Pid). c.args.place < length l) (list_absent (by_pid c.self.inside.by_parent) c.args.self.now c.self.view_is c.args.parent.now c.in_default.ensures.value) c.requires in
    omega (arith, low)

pub swap_remove-moved-requires : goal.swap_remove-moved-requires
swap_remove-moved-requires c = subst (λ (l : List Pid). c.args.place < length l) (list_found (by_pid c.self.inside.by_parent) c.args.self.now c.self.view_is c.args.parent.now c.in-Some.list.now c.in-Some.ensures.value) c.requires

pub returns-then-len-eq0-clause-removed : goal.returns-then-len-eq0-clause-removed
returns-then-len-eq0-clause-removed c =
    let empty : length c.swap_remove-moved.new.self ≡ 0 = sym c.len.ensures ∙ grind (arith, nat_tests, c.if-len-eq0.true) in
    swap_remove_dropped (by_pid c.self.inside.by_parent) c.args.self.now c.self.view_is c.args.parent.now c.args.place c.in-Some.list.now c.swap_remove-moved.new.self c.in-Some.ensures.value c.swap_remove-moved.ensures.removed
    _ (at_some c.in-Some.is (c.get_mut_at.follows.holds c.swap_remove-moved.new.self))
    empty (by_pid c.remove_at.new.self) c.remove_at.ensures.left

pub returns-then-len-eq0-clause-moved : goal.returns-then-len-eq0-clause-moved
returns-then-len-eq0-clause-moved c =
    let empty : length c.swap_remove-moved.new.self ≡ 0 = sym c.len.ensures ∙ grind (arith, nat_tests, c.if-len-eq0.true) in
    c.swap_remove-moved.ensures.moved ∙ ap (λ (l : List Pid). slice_get l c.args.place) (sym (dropped_list (by_pid c.self.inside.by_parent) c.args.self.now c.self.view_is c.args.parent.now c.args.place c.in-Some.list.now c.swap_remove-moved.new.self c.in-Some.ensures.value c.swap_remove-moved.ensures.removed
    _ (at_some c.in-Some.is (c.get_mut_at.follows.holds c.swap_remove-moved.new.self))
    empty (by_pid c.remove_at.new.self) c.remove_at.ensures.left))

pub returns-else-len-eq0-clause-removed : goal.returns-else-len-eq0-clause-removed
returns-else-len-eq0-clause-removed c = swap_remove_set (by_pid c.self.inside.by_parent) c.args.self.now c.self.view_is c.args.parent.now c.args.place c.in-Some.list.now c.swap_remove-moved.new.self c.in-Some.ensures.value c.swap_remove-moved.ensures.removed
    _ (at_some c.in-Some.is (c.get_mut_at.follows.holds c.swap_remove-moved.new.self))

pub returns-else-len-eq0-clause-moved : goal.returns-else-len-eq0-clause-moved
returns-else-len-eq0-clause-moved c = c.swap_remove-moved.ensures.moved ∙ ap (λ (l : List Pid). slice_get l c.args.place) (sym (set_list (by_pid c.self.inside.by_parent) c.args.self.now c.self.view_is c.args.parent.now c.args.place c.in-Some.list.now c.swap_remove-moved.new.self c.in-Some.ensures.value c.swap_remove-moved.ensures.removed
    _ (at_some c.in-Some.is (c.get_mut_at.follows.holds c.swap_remove-moved.new.self))))
