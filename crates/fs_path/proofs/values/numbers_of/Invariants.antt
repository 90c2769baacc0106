use Rattle.std.proofs.Common.{◌≡◌, ◌++◌, List, ℕ, Bor, map, drop}
use Rattle.std.specs.Option.{option_map}
use Rattle.fs_path.specs.Values.{numbers_of}
use Rattle.fs_path.proofs.values.numbers_of.Given as goal

abbrev pub invariant-loop-word : goal.invariant-loop-word
invariant-loop-word l = numbers_of (map (λ (w : Bor (List ℕ)). w.now) l.words) ≡ option_map (λ (ns : List ℕ). l.numbers ++ ns) (numbers_of (map (λ (w : Bor (List ℕ)). w.now) (drop l.word-index l.words)))
