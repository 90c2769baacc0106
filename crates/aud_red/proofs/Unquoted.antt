-- A quoted text without its quotes.
use Rattle.std.specs.Prelude.{◌≡◌, ℕ, ◌+◌, ◌-◌, ◌≤◌, List, [], ◌∷◌, length, take, drop}
use Rattle.std.specs.List.{flat_map}
use Rattle.std.proofs.Common.{ap, ◌∙◌, arith}
use Rattle.std.proofs.Math.Seq.{take-append_seam}
use Rattle.std.proofs.lemmas.List.{length-append}
use Rattle.fs_path.specs.Words.{item_text, quoted_text}

quoted_len : (bytes : List ℕ) → length (quoted_text bytes) ≡ length (flat_map item_text bytes) + 2
unfolding quoted_text
quoted_len bytes = let size = length-append (flat_map item_text bytes) (34 ∷ []) in omega (arith, size)

-- a quoted text has its two quotes
pub quoted_long : (text bytes : List ℕ) → text ≡ quoted_text bytes → 2 ≤ length text
quoted_long text bytes is = let size = ap length is ∙ quoted_len bytes in omega (arith, size)

-- what stands between them
pub unquoted_items : (text bytes : List ℕ) → text ≡ quoted_text bytes → take (length text - 1 - 1) (drop 1 text) ≡ flat_map item_text bytes
unfolding quoted_text
unquoted_items text bytes is =
    let items = flat_map item_text bytes in
    let size = ap length is ∙ quoted_len bytes in
    let inside : length text - 1 - 1 ≡ length items = omega (arith, size) in
    ap (λ n. take n (drop 1 text)) inside ∙ ap (λ (t : List ℕ). take (length items) (drop 1 t)) is ∙ take-append_seam items (34 ∷ [])
