-- Capability states are quoted as they stand.
use Rattle.std.specs.Prelude.{◌≡◌, ℕ, ◌==◌, ◌||◌, ◌&&◌, not, nat_le, nat_lt, Bool, true, false, List, [], ◌∷◌, ◌++◌, refl}
use Rattle.std.proofs.Common.{ap, sym, ◌∙◌, append_assoc, arith}
use Rattle.std.proofs.lemmas.Bool.{and_parts, and_from, cond-false, cond-true}
use Rattle.std.proofs.lemmas.Bool.Decides.{nat_tests}
use Rattle.std.specs.List.{flat_map, list_all}
use Rattle.cap_bits.specs.declared.state.CapState.{CapState}
use Rattle.cap_clause.specs.Written.{caps_text}
use Rattle.cap_clause.proofs.WrittenRoundTrip.{caps_text_plain}
use Rattle.fs_path.specs.Words.{is_plain, item_text, quoted_text}
use Rattle.line_text.specs.Ranges.{are_bytes}
use Rattle.line_text.specs.Words.{caps_word}

-- a plain byte stands for itself between quotes
plain_item : (b : ℕ) → is_plain b ≡ true → item_text b ≡ b ∷ []
plain_item b plain = cond-false (b == 34 || b == 92) _ _ (no_escape (nat_le 32 b && nat_le b 126) (b == 34) (b == 92) plain) ∙ cond-true (is_plain b) _ _ plain
  where
    no_escape : (printed quote slash : Bool) → (printed && not quote && not slash) ≡ true → (quote || slash) ≡ false
    no_escape true false false e = refl
    no_escape true false true e = cc
    no_escape true true slash e = cc
    no_escape false quote slash e = cc

plain_items : (bytes : List ℕ) → list_all is_plain bytes ≡ true → flat_map item_text bytes ≡ bytes
plain_items [] plain = refl
plain_items (b ∷ bs) plain =
    let parts = and_parts (is_plain b) (list_all is_plain bs) plain in
    ap (λ (t : List ℕ). t ++ flat_map item_text bs) (plain_item b parts.0) ∙ ap (λ (t : List ℕ). b ∷ t) (plain_items bs parts.1)

-- bytes that need no escape are quoted as they stand
plain_quoted : (bytes : List ℕ) → list_all is_plain bytes ≡ true → quoted_text bytes ≡ 34 ∷ (bytes ++ 34 ∷ [])
unfolding quoted_text
plain_quoted bytes plain = ap (λ (t : List ℕ). 34 ∷ (t ++ 34 ∷ [])) (plain_items bytes plain)

plain_byte : (b : ℕ) → is_plain b ≡ true → nat_lt b 256 ≡ true
plain_byte b plain = grind (arith, nat_tests)

plain_bytes : (bytes : List ℕ) → list_all is_plain bytes ≡ true → are_bytes bytes ≡ true
plain_bytes [] plain = refl
plain_bytes (b ∷ bs) plain = let parts = and_parts (is_plain b) (list_all is_plain bs) plain in and_from (nat_lt b 256) (are_bytes bs) (plain_byte b parts.0) (plain_bytes bs parts.1)

-- the text of a state is bytes
pub caps_text_bytes : (s : CapState) → are_bytes (caps_text s) ≡ true
caps_text_bytes s = plain_bytes (caps_text s) (caps_text_plain s)

-- a space, a quote, the text of a state and a quote are a space and its word
pub caps_written : (text : List ℕ) (s : CapState) → ((text ++ 32 ∷ 34 ∷ []) ++ caps_text s) ++ 34 ∷ [] ≡ text ++ 32 ∷ caps_word s
caps_written text s =
    append_assoc (text ++ 32 ∷ 34 ∷ []) (caps_text s) (34 ∷ []) ∙ append_assoc text (32 ∷ 34 ∷ []) (caps_text s ++ 34 ∷ [])
    ∙ ap (λ (t : List ℕ). text ++ 32 ∷ t) (sym (plain_quoted (caps_text s) (caps_text_plain s)))
