use Rattle.std.specs.Prelude.{◌≡◌, List, map as map_list}
use Rattle.std.specs.Vec.Iter.{into_iter_items}
use Rattle.std.specs.FinMap as map
use Rattle.std.specs.FinMap.{FinMap}
use Rattle.std.proofs.Common.{ap, sym, ◌∙◌, ◌++◌}
use Rattle.kern_model.specs.Keys.{pid_cmp}
use Rattle.kern_model.specs.State.{Process}
use Rattle.kern_model.proofs.KeyLaws.{pid_cmp_total, pid_cmp_exact}
use Rattle.kern_model.specs.ByNumber.{pid_at}
use Rattle.kern_model.specs.Numbers.{Num}
use Rattle.kern_model.proofs.ByNumber.{keys-by_number, pids}
use Rattle.proc_table.proofs.living.Living.numbers.Goals as goal

pub loop-label-init : goal.loop-label-init
loop-label-init c =
    let given : into_iter_items c.into_iter-label-iterator.result ≡ c.in_ok-items.items.items = c.into_iter-label-iterator.ensures.into_iter_gives.0 in
    ap (λ numbers. numbers ++ map_list pid_at (into_iter_items c.into_iter-label-iterator.result)) c.new-numbers.ensures
    ∙ ap (λ (numbers : List Num). map_list pid_at numbers) (given ∙ c.in_ok-items.ensures)
    ∙ sym (keys-by_number pid_cmp_total pid_cmp_exact pids c.self.inside.by_number) ∙ ap (λ (m : FinMap pid_cmp Process). map.keys m) c.self.view_is
