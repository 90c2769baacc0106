use Rattle.std.specs.Prelude.{ℕ, count_by, is_some}
use Rattle.std.specs.FinMap.{FinMap}
use Rattle.std.proofs.Common.{ap, sym, ◌∙◌, subst}
use Rattle.kern_model.specs.Keys.{oid_cmp}
use Rattle.fs_nodes.specs.Nodes.{IsPlaced, objects_in}
use Rattle.fs_nodes.proofs.Places.{none_placed, none_there}
use Rattle.fs_nodes.proofs.nodes.Nodes.new.Goals as goal

pub invariant_of-result : goal.invariant_of-result
invariant_of-result c = subst (λ (keys : FinMap oid_cmp ℕ). IsPlaced c.new.result keys c.new-2.result.numbers) (sym c.new-2.ensures.keys) (none_placed c.new.result c.new-2.result.numbers (ap (count_by is_some) c.new.ensures.empty))

pub returns : goal.returns
returns c =
    let objects = ap (objects_in c.new.result) c.new-2.ensures.keys ∙ none_there c.new.result in
    λ i. record { objects = objects i; numbers = c.new-2.ensures.numbers i }
