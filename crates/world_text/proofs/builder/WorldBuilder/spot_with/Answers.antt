use Rattle.std.proofs.Common.{FoldHasher, List, ap, ◌∙◌}
use Rattle.std.specs.Hash.FoldHasher as folding
use Rattle.fs_path.specs.Name.{Name}
use Rattle.world_text.specs.Indexed.{hash_in, hasher_of}
use Rattle.world_text.specs.Placing.{directory_of}
use Rattle.world_text.proofs.BuilderLemmas.{directory_stands, hasher_more}
use Rattle.world_text.proofs.builder.WorldBuilder.spot_with.Goals as goal

pub returns-in-Some : goal.returns-in-Some
returns-in-Some c =
    let names = c.components-names.result.now in
    let above = c.in-Some.above.now in
    let name = c.in-Some.name.now in
    let is = c.in-Some.ensures.cases.0 in
    let named = c.components-names.ensures.names in
    record {
      hash_is = c.hash_in-hash.ensures ∙ ap (λ (h : FoldHasher). hash_in h) (c.write.ensures ∙ (λ i. folding.write (c.hasher_of-hasher.ensures i) (c.bytes.ensures.bytes i)) ∙ hasher_more names above name is ∙ ap (λ (ns : List Name). hasher_of ns) named);
      within = c.place_of-directory.ensures.within;
      directory_is = c.place_of-directory.ensures.found ∙ directory_stands c.args.self.now.objects names above name is ∙ ap (λ (ns : List Name). directory_of c.args.self.now.objects ns) named;
      count_is = c.requires;
    }
