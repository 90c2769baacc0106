use Rattle.std.specs.Prelude.{true, false, MatchOption}
use Rattle.std.proofs.Common.{◌≡◌, subst}
use Rattle.kern_model.specs.declared.numbers.Pid.{Pid}
use Rattle.kern_model.specs.ByNumber.{by_pid}
use Rattle.proc_table.specs.Children.{ChildIndex, is_child}
use Rattle.proc_table.proofs.PositionLemmas.{first_is}
use Rattle.proc_table.proofs.children.Children.first.Goals as goal

pub returns : goal.returns
returns c =
    let q = c.args.parent.now in
    subst (λ (k : ChildIndex). MatchOption c.last.result ((d : Pid) → is_child k q d ≡ false) (λ d. is_child k q d ≡ true)) c.self.view_is
    (first_is c.self.inside.lists (by_pid c.self.inside.positions) c.self.invariant q c.last.result c.last.ensures)
