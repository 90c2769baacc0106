-- The length of a name.
use Rattle.std.specs.Prelude.{◌≡◌, ℕ, ◌≤◌, List, length, true}
use Rattle.std.proofs.lemmas.Bool.{and_parts, leb-true}
use Rattle.fs_path.specs.Name.{is_name}

pub short_name : (bytes : List ℕ) → is_name bytes ≡ true → length bytes ≤ 63
unfolding is_name
short_name bytes e = leb-true (length bytes) 63 (and_parts _ _ (and_parts _ _ (and_parts _ _ e).0).0).1
