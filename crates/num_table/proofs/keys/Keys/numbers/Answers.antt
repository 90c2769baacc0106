use Rattle.std.specs.Prelude.{ℕ, List, None, Some}
use Rattle.std.specs.Option.{option_copied}
use Rattle.std.specs.FinMap as map
use Rattle.std.specs.FinMap.{FinMap}
use Rattle.std.proofs.Common.{ap, sym, ◌∙◌, ◌++◌, Global, Vec}
use Rattle.std.proofs.lemmas.List.{append-nil}
use Rattle.lab_lattice.specs.Label.{Label}
use Rattle.kern_model.specs.Numbers.{Num, num_cmp}
use Rattle.num_table.proofs.InOrder.{keys-items_in, left, no_more, one_more}
use Rattle.num_table.proofs.keys.Keys.numbers.Goals as goal
use Rattle.num_table.proofs.keys.Keys.numbers.Goals.{in-Some+in_ok-add_numbers, in_default}

pub loop-label-init : goal.loop-label-init
loop-label-init c =
    ap (λ ns. ns ++ left c.self.inside.by_label c.deref-label-items.result.now 0) c.new-numbers.ensures.items
    ∙ ap (λ (labels : List Label). left c.self.inside.by_label labels 0) (c.deref-label-items.ensures.value ∙ c.in_ok-labels.ensures)
    ∙ sym (keys-items_in c.self.inside.by_label) ∙ ap (λ (m : FinMap num_cmp ℕ). map.keys m) c.self.view_is

pub loop-label-preserved : goal.loop-label-preserved
loop-label-preserved c =
    let before = c.loop-label.numbers.items in
    let new = λ (v : Vec Num Global). v.items in
    elim c.match-get.branch [
      | in-Some+in_ok-add_numbers w ↦
          one_more c.self.inside.by_label c.deref-label-items.result.now c.loop-label.label-index before (map.keys c.args.self.now) c.loop-label.invariant
          c.label-item.result c.loop-label-test.true c.label-item.is (Some w.in-Some.list.now) (sym (ap option_copied w.in-Some.is) ∙ c.get.ensures)
          c.match-get.numbers.items (ap new w.numbers-is ∙ w.in_ok-add_numbers.ensures)
      | in_default w ↦
          one_more c.self.inside.by_label c.deref-label-items.result.now c.loop-label.label-index before (map.keys c.args.self.now) c.loop-label.invariant
          c.label-item.result c.loop-label-test.true c.label-item.is None (sym (ap option_copied w.in_default.is) ∙ c.get.ensures)
          c.match-get.numbers.items (ap new w.numbers-is ∙ sym (append-nil before))
    ]

pub returns : goal.returns
returns c = no_more c.self.inside.by_label c.deref-label-items.result.now c.loop-label.label-index c.loop-label.numbers.items (map.keys c.args.self.now) c.loop-label.invariant c.loop-label-test.false
