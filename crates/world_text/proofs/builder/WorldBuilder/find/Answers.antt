use Rattle.std.proofs.Common.{◌≡◌, ℕ, ◌+◌, ◌<◌, ◌≤◌, length, map, ap, sym, arith, ◌∙◌}
use Rattle.kern_model.specs.declared.world.WorldObject.{WorldObject}
use Rattle.world_text.specs.Tree.{Tree}
use Rattle.world_text.specs.declared.builder.Kept.{Kept}
use Rattle.world_text.proofs.BuilderLemmas.{at_place, found_here, hash_of, passed, unseen}
use Rattle.world_text.proofs.builder.WorldBuilder.find.Goals as goal

place_inside : (place count n m : ℕ) → place + 1 ≤ count → count ≤ n → m ≡ n → place < m
place_inside place count n m h k e = omega arith

pub returns-then-has_path-clause-found : goal.returns-then-has_path-clause-found
returns-then-has_path-clause-found c =
    let view = ap (λ (t : Tree). t.objects) c.self.view_is in
    let inside = place_inside c.in-Some.place c.loop-place.count _ _ c.in-Some.ensures.within c.loop-place.invariant.within (ap (length {A = WorldObject}) (c.items-objects.ensures ∙ ap (λ (k : Kept). k.objects) c.deref.ensures ∙ view)) in
    found_here c.self.inside.kept.value.objects c.items-objects.result.now c.args.self.now.objects c.args.names.now c.in-Some.place c.index-objects-place.result (c.items-objects.ensures ∙ ap (λ (k : Kept). k.objects) c.deref.ensures) view
    c.self.invariant.apart inside c.index-objects-place.is (sym c.has_path.ensures ∙ c.if-has_path.true)

pub loop-place-preserved : goal.loop-place-preserved
loop-place-preserved c =
    let view = ap (λ (t : Tree). t.objects) c.self.view_is in
    let inside = place_inside c.in-Some.place c.loop-place.count _ _ c.in-Some.ensures.within c.loop-place.invariant.within (ap (length {A = WorldObject}) (c.items-objects.ensures ∙ ap (λ (k : Kept). k.objects) c.deref.ensures ∙ view)) in
    let at = at_place c.items-objects.result.now c.args.self.now.objects c.in-Some.place c.index-objects-place.result (c.items-objects.ensures ∙ ap (λ (k : Kept). k.objects) c.deref.ensures ∙ view) inside c.index-objects-place.is in
    let are = ap (λ (k : Kept). k.chains) c.deref-in-loop-place.ensures ∙ c.self.invariant.hashes_are ∙ ap (map hash_of) view in
    let others = passed c.args.self.now.objects c.args.names.now c.deref-in-loop-place.result.now.chains c.args.hash c.loop-place.count c.in-Some.place c.index-objects-place.result are c.requires c.in-Some.ensures at
    (sym c.has_path.ensures ∙ c.if-has_path.false) in
    record {
      within = (let w = c.in-Some.ensures.within in let v = c.loop-place.invariant.within in omega arith);
      same = sym others ∙ c.loop-place.invariant.same;
    }

pub returns-clause-found : goal.returns-clause-found
returns-clause-found c =
    let are = ap (λ (k : Kept). k.chains) c.deref-in-loop-place.ensures ∙ c.self.invariant.hashes_are ∙ ap (λ (t : Tree). map hash_of t.objects) c.self.view_is in
    sym (unseen c.args.self.now.objects c.args.names.now c.deref-in-loop-place.result.now.chains c.args.hash c.loop-place.count are c.requires c.in_default.ensures) ∙ c.loop-place.invariant.same
