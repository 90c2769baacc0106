use Rattle.std.proofs.Common.{◌≡◌, drop}
use Rattle.std.specs.Hash.FoldHasher as folding
use Rattle.std.specs.List.{fold}
use Rattle.world_text.proofs.builder.hasher_of.Given as goal

-- what is left gives what all give
abbrev pub invariant-loop-name : goal.invariant-loop-name
invariant-loop-name l = fold folding.write l.hasher (drop l.name-index l.names) ≡ fold folding.write folding.initial l.names
