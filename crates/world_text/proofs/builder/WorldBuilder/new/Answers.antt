use Rattle.std.proofs.Common.{subst, sym}
use Rattle.world_text.specs.declared.builder.Kept.{Kept}
use Rattle.world_text.specs.Indexed.{IsIndexed}
use Rattle.world_text.proofs.BuilderLemmas.{empty_indexed}
use Rattle.world_text.proofs.builder.WorldBuilder.new.Goals as goal

pub invariant_of-result : goal.invariant_of-result
invariant_of-result c = subst (λ (k : Kept). IsIndexed k) (sym c.in_ok-kept.ensures.ok) (empty_indexed c.new.result c.new.ensures)
