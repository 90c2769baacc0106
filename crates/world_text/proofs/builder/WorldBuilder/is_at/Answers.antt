use Rattle.std.proofs.Common.{ap, sym, ◌∙◌}
use Rattle.world_text.specs.Tree.{Tree}
use Rattle.world_text.specs.declared.builder.Kept.{Kept}
use Rattle.world_text.proofs.BuilderLemmas.{found_here}
use Rattle.world_text.proofs.builder.WorldBuilder.is_at.Goals as goal

pub returns-then-place-objects-clause-found : goal.returns-then-place-objects-clause-found
returns-then-place-objects-clause-found c = λ same.
    found_here c.self.inside.kept.value.objects c.items-objects.result.now c.args.self.now.objects c.args.names.now c.args.place c.index-objects-place.result (c.items-objects.ensures ∙ ap (λ (k : Kept). k.objects) c.deref.ensures) (ap (λ (t : Tree). t.objects) c.self.view_is)
    c.self.invariant.apart c.if-place-objects.true c.index-objects-place.is (sym c.has_path.ensures ∙ same)
