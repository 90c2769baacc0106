-- A piece that is written in parts, and bytes that are read in parts.
use Rattle.std.proofs.Common.{◌≡◌, ℕ, ◌-◌, ◌≤◌, List, ◌++◌, length, take, drop, sym, ◌∙◌, ap, append_assoc}
use Rattle.std.proofs.lemmas.List.{take_rest, take-append-drop}
use Rattle.std.specs.declared.option.Option.{Option}
use Rattle.std.specs.Io.KnownBytes.{Appends, Consumes}
use Rattle.std.proofs.KnownBytes.{Appends-trans}

-- a piece was written but for the rest, and no fault was counted
pub record Underway (piece rest : List ℕ) (old new : Option (List ℕ)) (before now : ℕ) : Type 0 where
  pub part : List ℕ
  pub piece_is : piece ≡ part ++ rest
  pub wrote : Appends old new part
  pub still : now ≡ before

-- one more write, of at most n bytes of the rest
pub underway_more : (piece rest : List ℕ) (a b c : Option (List ℕ)) (f f' f'' n : ℕ)
    → Underway piece rest a b f f' → Appends b c (take n rest) → f'' ≡ f' → Underway piece (take (length rest - n) (drop n rest)) a c f f''
underway_more piece rest a b c f f' f'' n u w l = record {
  part = u.part ++ take n rest;
  piece_is = u.piece_is ∙ ap (λ (r : List ℕ). u.part ++ r) (sym (take-append-drop n rest)) ∙ sym (append_assoc u.part (take n rest) (drop n rest))
      ∙ ap (λ (r : List ℕ). (u.part ++ take n rest) ++ r) (sym (take_rest rest n));
  wrote = Appends-trans a b c _ _ u.wrote w;
  still = l ∙ u.still;
}

-- the bytes that were read are those taken from the source, at most `most` of them, and no fault was counted
pub record Reading (bytes : List ℕ) (most : ℕ) (old new : Option (List ℕ)) (before now : ℕ) : Type 0 where
  pub took : Consumes old new bytes
  pub small : length bytes ≤ most
  pub still : now ≡ before
