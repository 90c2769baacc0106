use Rattle.std.specs.Prelude.{false, ◌&&◌, ◌||◌, List}
use Rattle.std.specs.FinMap as map
use Rattle.std.specs.FinMap.{FinMap}
use Rattle.std.proofs.Common.{◌≡◌, ap, sym, ◌∙◌, subst}
use Rattle.kern_model.specs.declared.numbers.Pid.{Pid}
use Rattle.kern_model.specs.Keys.{pid_cmp, same_pid}
use Rattle.kern_model.proofs.KeyLaws.{pid_cmp_total, pid_cmp_exact}
use Rattle.kern_model.proofs.MapLemmas.{remove-insert}
use Rattle.kern_model.specs.ByNumber.{by_pid}
use Rattle.proc_table.specs.declared.positions.Position.{Position}
use Rattle.proc_table.specs.Children.{AreInPlace, ChildIndex, is_child}
use Rattle.proc_table.proofs.PositionLemmas.{absent_position, added, added_child, as_added}
use Rattle.proc_table.proofs.children.Children.add_to.Goals as goal

pub invariant_of-self-in-Err : goal.invariant_of-self-in-Err
invariant_of-self-in-Err c =
    let lists = c.self.inside.lists in
    let positions = by_pid c.self.inside.positions in
    let child = c.args.child.now in
    let absent = absent_position lists positions child (subst (λ (k : ChildIndex). (q : Pid) → is_child k q child ≡ false) (sym c.self.view_is) c.requires) in
    subst (λ (lists : FinMap pid_cmp (List Pid)). AreInPlace (record { lists = lists; positions = by_pid c.remove_at.new.self })) (sym c.in-Err.ensures.err)
    (subst (λ (positions : FinMap pid_cmp Position). AreInPlace (record { lists = lists; positions = positions }))
    (sym (c.remove_at.ensures.left ∙ ap (λ (m : FinMap pid_cmp Position). map.remove m child) c.in_ok-set_at.ensures.ok ∙ remove-insert pid_cmp_total pid_cmp_exact positions child _ absent)) c.self.invariant)

pub returns-in-Err-clause-err : goal.returns-in-Err-clause-err
returns-in-Err-clause-err c =
    let lists = c.self.inside.lists in
    let positions = by_pid c.self.inside.positions in
    let child = c.args.child.now in
    let absent = absent_position lists positions child (subst (λ (k : ChildIndex). (q : Pid) → is_child k q child ≡ false) (sym c.self.view_is) c.requires) in
    let same = c.remove_at.ensures.left ∙ ap (λ (m : FinMap pid_cmp Position). map.remove m child) c.in_ok-set_at.ensures.ok ∙ remove-insert pid_cmp_total pid_cmp_exact positions child _ absent in
    ap (λ (lists : FinMap pid_cmp (List Pid)). record { lists = lists; positions = by_pid c.remove_at.new.self }) c.in-Err.ensures.err
    ∙ ap (λ (positions : FinMap pid_cmp Position). record { lists = lists; positions = positions }) same ∙ c.self.view_is

pub invariant_of-self-in_default : goal.invariant_of-self-in_default
invariant_of-self-in_default c =
    let lists = c.self.inside.lists in
    let positions = by_pid c.self.inside.positions in
    let parent = c.args.parent.now in
    let child = c.args.child.now in
    let absent = absent_position lists positions child (subst (λ (k : ChildIndex). (q : Pid) → is_child k q child ≡ false) (sym c.self.view_is) c.requires) in
    subst AreInPlace (as_added lists positions c.self.invariant parent child absent c.count-place.result c.count-place.ensures _ _ c.in_default.ensures.ok c.in_ok-set_at.ensures.ok) (added lists positions c.self.invariant parent child absent)

pub returns-clause-ok : goal.returns-clause-ok
returns-clause-ok c =
    let lists = c.self.inside.lists in
    let positions = by_pid c.self.inside.positions in
    let parent = c.args.parent.now in
    let child = c.args.child.now in
    let absent = absent_position lists positions child (subst (λ (k : ChildIndex). (q : Pid) → is_child k q child ≡ false) (sym c.self.view_is) c.requires) in
    λ q d.
    ap (λ (k : ChildIndex). is_child k q d) (sym (as_added lists positions c.self.invariant parent child absent c.count-place.result c.count-place.ensures _ _ c.in_default.ensures.ok c.in_ok-set_at.ensures.ok))
    ∙ added_child lists positions c.self.invariant parent child absent q d ∙ ap (λ (k : ChildIndex). same_pid q parent && same_pid d child || is_child k q d) c.self.view_is
