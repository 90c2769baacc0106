use Rattle.std.specs.Prelude.{false, List}
use Rattle.std.specs.FinMap as map
use Rattle.std.specs.FinMap.{FinMap}
use Rattle.std.proofs.Common.{◌≡◌, ap, sym, ◌∙◌, subst}
use Rattle.kern_model.specs.declared.numbers.Pid.{Pid}
use Rattle.kern_model.specs.Keys.{pid_cmp}
use Rattle.kern_model.proofs.KeyLaws.{pid_cmp_total, pid_cmp_exact}
use Rattle.kern_model.specs.ByNumber.{by_pid}
use Rattle.kern_model.specs.Numbers.{num_cmp}
use Rattle.kern_model.proofs.ByNumber.{by_number-empty, pids}
use Rattle.proc_table.specs.declared.positions.Position.{Position}
use Rattle.proc_table.specs.Children.{AreInPlace, is_child}
use Rattle.proc_table.proofs.PositionLemmas.{no_children, none_placed}
use Rattle.proc_table.proofs.children.Children.new.Goals as goal

none : (positions : FinMap num_cmp Position) → positions ≡ map.empty → by_pid positions ≡ map.empty
none positions is = ap (by_pid {X = Position}) is ∙ by_number-empty pid_cmp_total pid_cmp_exact pids

pub invariant_of-result : goal.invariant_of-result
invariant_of-result c =
    subst (λ (lists : FinMap pid_cmp (List Pid)). AreInPlace (record { lists = lists; positions = by_pid c.new-2.result })) (sym c.new.ensures)
    (subst (λ (positions : FinMap pid_cmp Position). AreInPlace (record { lists = map.empty; positions = positions })) (sym (none c.new-2.result c.new-2.ensures)) none_placed)

pub returns : goal.returns
returns c =
    subst (λ (lists : FinMap pid_cmp (List Pid)). (q d : Pid) → is_child (record { lists = lists; positions = by_pid c.new-2.result }) q d ≡ false) (sym c.new.ensures)
    (subst (λ (positions : FinMap pid_cmp Position). (q d : Pid) → is_child (record { lists = map.empty; positions = positions }) q d ≡ false) (sym (none c.new-2.result c.new-2.ensures)) no_children)
