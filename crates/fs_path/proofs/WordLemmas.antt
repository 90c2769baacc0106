-- Loops over the items of a quoted word and over the words of a line.
use Rattle.std.specs.Prelude.{◌==◌, true, false, cond}
use Rattle.std.specs.List.{list_all}
use Rattle.std.proofs.lemmas.Bool.{cases_Bool, and_parts, eqb-false, ne_eqb, cond-true, cond-false}
use Rattle.std.proofs.Common.{inl, inr, subst, ◌≡◌, ℕ, List, [], ◌∷◌, ◌++◌, get_or, refl, sym, ◌∙◌, ap, append_assoc, Option, Some, None}
use Rattle.std.specs.Option.{option_map}
use Rattle.fs_path.specs.declared.words.LineWord.{LineWord}
use Rattle.fs_path.specs.Split.{onto_piece, split_once}
use Rattle.fs_path.specs.Words.{escape_value, first_item, is_plain, items_of, first_word, trim_spaces, words_by, words_of}
use Rattle.fs_path.proofs.WordSteps.{items_next, words_are, words_first}

-- the bytes that were read, followed by those of the rest
abbrev pub after_bytes : List ℕ → Option (List ℕ × List ℕ) → Option (List ℕ × List ℕ)
after_bytes bytes None = None
after_bytes bytes (Some p) = Some (bytes ++ p.0, p.1)

one_more : (bytes : List ℕ) (x : ℕ) (o : Option (List ℕ × List ℕ)) → after_bytes bytes (onto_piece x o) ≡ after_bytes (bytes ++ x ∷ []) o
one_more bytes x None = refl
one_more bytes x (Some p) = ap (λ (r : List ℕ). Some (r, p.1)) (sym (append_assoc bytes (x ∷ []) p.0))

pub items_step : (left more bytes new : List ℕ) (x : ℕ) → (get_or left 0 0 ≡ 34 → ⊥) → first_item left ≡ Some (x, more) → new ≡ bytes ++ x ∷ [] → after_bytes bytes (items_of left) ≡ after_bytes new (items_of more)
items_step left more bytes new x no_quote first is = ap (after_bytes bytes) (items_next left more x no_quote first) ∙ one_more bytes x (items_of more) ∙ ap (λ r. after_bytes r (items_of more)) (sym is)

abbrev first_part : Option (List ℕ × List ℕ) → List ℕ
first_part None = []
first_part (Some p) = p.0

-- of a text, the bytes before the first quote are the items, where they stand for themselves
abbrev AreItems : List ℕ → Type 0
AreItems text = (p : List ℕ × List ℕ) → split_once 34 text ≡ Some p → list_all is_plain p.0 ≡ true → items_of text ≡ Some p

-- bytes that stand for themselves, up to the first quote, are what is between the quotes
pub plain_items : (text bytes rest : List ℕ) → split_once 34 text ≡ Some (bytes, rest) → list_all is_plain bytes ≡ true → items_of text ≡ Some (bytes, rest)
unfolding split_once
plain_items [] bytes rest is plain = absurd (cc)
plain_items (x ∷ xs) bytes rest is plain = elim (cases_Bool (x == 34)) [ inl e ↦ at_quote e | inr e ↦ before_quote e (λ p some all. plain_items xs p.0 p.1 some all) (split_once 34 xs) refl ]
  where
    at_quote : (x == 34) ≡ true → items_of (x ∷ xs) ≡ Some (bytes, rest)
    at_quote e = cond-true (x == 34) (Some ([], xs)) _ e ∙ sym (cond-true (x == 34) (Some ([], xs)) (onto_piece x (split_once 34 xs)) e) ∙ is

    more : (x == 34) ≡ false → AreItems xs → (p : List ℕ × List ℕ) → split_once 34 xs ≡ Some p → list_all is_plain (x ∷ p.0) ≡ true → items_of (x ∷ xs) ≡ Some (x ∷ p.0, p.1)
    more e for_rest p some all =
        let parts = and_parts (is_plain x) (list_all is_plain p.0) all in
        let no_escape : (x == 92) ≡ false = ne_eqb x 92 (λ same. let no : false ≡ true = subst (λ n. is_plain n ≡ true) same parts.0 in cc) in
        let first : first_item (x ∷ xs) ≡ Some (x, xs) = cond-false (x == 92) (escape_value xs) (cond (is_plain x) (Some (x, xs)) None) no_escape ∙ cond-true (is_plain x) (Some (x, xs)) None parts.0 in
        items_next (x ∷ xs) xs x (eqb-false x 34 e) first ∙ ap (onto_piece x) (for_rest p some parts.1)

    before_quote : (x == 34) ≡ false → AreItems xs → (o : Option (List ℕ × List ℕ)) → split_once 34 xs ≡ o → items_of (x ∷ xs) ≡ Some (bytes, rest)
    before_quote e for_rest None none = let no : ◌≡◌ {A = Option (List ℕ × List ℕ)} None (Some (bytes, rest)) = sym (cond-false (x == 34) (Some ([], xs)) (onto_piece x (split_once 34 xs)) e ∙ ap (onto_piece x) none) ∙ is in absurd (cc)
    before_quote e for_rest (Some p) some =
        let same : Some (x ∷ p.0, p.1) ≡ Some (bytes, rest) = sym (cond-false (x == 34) (Some ([], xs)) (onto_piece x (split_once 34 xs)) e ∙ ap (onto_piece x) some) ∙ is in
        more e for_rest p some (ap (λ (o : Option (List ℕ × List ℕ)). list_all is_plain (first_part o)) same ∙ plain) ∙ same

-- the words that were read, followed by those of the rest
abbrev pub after_words : List LineWord → Option (List LineWord) → Option (List LineWord)
after_words words o = option_map (λ ws. words ++ ws) o

word_more : (words : List LineWord) (w : LineWord) (o : Option (List LineWord)) → after_words words (option_map (λ ws. w ∷ ws) o) ≡ after_words (words ++ w ∷ []) o
word_more words w None = refl
word_more words w (Some ws) = ap Some (sym (append_assoc words (w ∷ []) ws))

none_before : (o : Option (List LineWord)) → o ≡ after_words [] o
none_before None = refl
none_before (Some ws) = refl

pub words_init : (line left : List ℕ) (words : List LineWord) → words ≡ [] → left ≡ trim_spaces line → words_of line ≡ after_words words (words_by words_of left)
words_init line left words none is =
    words_are line ∙ none_before (words_by words_of (trim_spaces line)) ∙ ap (λ ws. after_words ws (words_by words_of (trim_spaces line))) (sym none)
    ∙ ap (λ l. after_words words (words_by words_of l)) (sym is)

pub words_step : (left rest next : List ℕ) (w : LineWord) (words new : List LineWord) → first_word left ≡ Some (w, rest) → new ≡ words ++ w ∷ [] → next ≡ trim_spaces rest
    → after_words words (words_by words_of left) ≡ after_words new (words_by words_of next)
words_step left rest next w words new first is past =
    ap (after_words words) (words_first left rest w first) ∙ ap (λ o. after_words words (option_map (λ ws. w ∷ ws) o)) (words_are rest)
    ∙ word_more words w (words_by words_of (trim_spaces rest))
    ∙ ap (λ l. after_words (words ++ w ∷ []) (words_by words_of l)) (sym past) ∙ ap (λ ws. after_words ws (words_by words_of next)) (sym is)
