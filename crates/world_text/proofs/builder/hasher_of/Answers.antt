use Rattle.std.proofs.Common.{◌≡◌, ◌∙◌, List, [], drop, sym, ap}
use Rattle.std.proofs.lemmas.List.{drop_all}
use Rattle.std.specs.Hash.FoldHasher as folding
use Rattle.std.specs.List.{fold}
use Rattle.fs_path.specs.Name.{Name}
use Rattle.world_text.specs.Indexed.{hasher_of}
use Rattle.world_text.proofs.builder.hasher_of.Goals as goal

pub returns : goal.returns
unfolding hasher_of
returns c =
    let none : drop c.loop-name.name-index c.args.names.now ≡ [] = drop_all c.loop-name.name-index c.args.names.now c.loop-name-test.false in
    sym (ap (λ (names : List Name). fold folding.write c.loop-name.hasher names) none) ∙ c.loop-name.invariant
