-- How a line is read, item by item and word by word.
use Rattle.std.specs.Prelude.{◌≡◌, ℕ, zero, suc, ◌+◌, ◌*◌, ◌≤◌, ◌<◌, true, false, cond, ◌==◌, ◌||◌, List, [], ◌∷◌, length, drop, Option, Some, None, refl}
use Rattle.std.proofs.Common.{get_or, ◌∙◌, ap, subst, arith}
use Rattle.std.specs.List.{prefix_len, take_while}
use Rattle.std.specs.Option.{option_and_then, option_map}
use Rattle.std.proofs.lemmas.Bool.{cond_both, ne_eqb}
use Rattle.std.proofs.lemmas.List.{length-drop, length-take}
use Rattle.fs_path.specs.declared.words.LineWord.{LineWord}
use Rattle.fs_path.specs.Split.{onto_piece}
use Rattle.fs_path.specs.Words.{is_space, is_plain, is_bare, hex_value, hex_pair, escape_value, first_item, items_within, items_of, quoted_word, leading_word, apart, is_apart, first_word, trim_spaces, words_by, words_within, words_of}

-- ---- items between quotes

-- at most n bytes are left after what was read
abbrev pub AtMost : ℕ → Option (ℕ × List ℕ) → Type 0
AtMost n None = Unit {0}
AtMost n (Some p) = length p.1 ≤ n

pair_shorter : (text : List ℕ) → AtMost (length text) (hex_pair text)
pair_shorter [] = tt
pair_shorter (h ∷ []) = tt
pair_shorter (h ∷ l ∷ rest) = by_values (hex_value h) (hex_value l)
  where
    by_values : (high low : Option ℕ) → AtMost (length (h ∷ l ∷ rest)) (option_and_then (λ high. option_map (λ low. (16 * high + low, rest)) low) high)
    by_values None low = tt
    by_values (Some high) None = tt
    by_values (Some high) (Some low) = omega arith

escape_shorter : (text : List ℕ) → AtMost (length text) (escape_value text)
escape_shorter [] = tt
escape_shorter (b ∷ bs) =
    let fewer : length bs ≤ length (b ∷ bs) = omega arith in
    cond_both (b == 34 || b == 92) (Some (b, bs)) (cond (b == 120) (hex_pair bs) None) (AtMost (length (b ∷ bs))) (λ _. fewer)
    (λ _. cond_both (b == 120) (hex_pair bs) None (AtMost (length (b ∷ bs))) (λ _. weaker (hex_pair bs) (pair_shorter bs)) (λ _. tt))
  where
    weaker : (o : Option (ℕ × List ℕ)) → AtMost (length bs) o → AtMost (length (b ∷ bs)) o
    weaker None h = tt
    weaker (Some p) h = omega arith

-- an item has at least one byte
pub item_shorter : (b : ℕ) (bs : List ℕ) → AtMost (length bs) (first_item (b ∷ bs))
item_shorter b bs =
    let same : length bs ≤ length bs = omega arith in
    cond_both (b == 92) (escape_value bs) (cond (is_plain b) (Some (b, bs)) None) (AtMost (length bs)) (λ _. escape_shorter bs)
    (λ _. cond_both (is_plain b) (Some (b, bs)) None (AtMost (length bs)) (λ _. same) (λ _. tt))

-- a limit on the number of items has no effect where it is at least the length of the text
items_same : (n m : ℕ) (text : List ℕ) → length text ≤ n → length text ≤ m → items_within n text ≡ items_within m text
items_same zero zero text h k = refl
items_same zero (suc m) [] h k = refl
items_same zero (suc m) (b ∷ bs) h k = absurd (omega arith)
items_same (suc n) zero [] h k = refl
items_same (suc n) zero (b ∷ bs) h k = absurd (omega arith)
items_same (suc n) (suc m) [] h k = refl
items_same (suc n) (suc m) (b ∷ bs) h k = ap (cond (b == 34) (Some ([], bs))) (by_item (λ t h k. items_same n m t h k) (first_item (b ∷ bs)) (item_shorter b bs))
  where
    by_item : ((t : List ℕ) → length t ≤ n → length t ≤ m → items_within n t ≡ items_within m t) → (o : Option (ℕ × List ℕ)) → AtMost (length bs) o
        → option_and_then (λ (p : ℕ × List ℕ). onto_piece p.0 (items_within n p.1)) o ≡ option_and_then (λ (p : ℕ × List ℕ). onto_piece p.0 (items_within m p.1)) o
    by_item same None short = refl
    by_item same (Some p) short = ap (onto_piece p.0) (same p.1 (omega arith) (omega arith))

-- the items of a text are its first, which is no quote, and those after it
items_cons : (b x : ℕ) (bs more : List ℕ) → (b == 34) ≡ false → first_item (b ∷ bs) ≡ Some (x, more) → items_of (b ∷ bs) ≡ onto_piece x (items_of more)
items_cons b x bs more no_quote first =
    let short : length more ≤ length bs = subst (AtMost (length bs)) first (item_shorter b bs) in
    ap (λ v. cond v (Some ([], bs)) (option_and_then (λ (p : ℕ × List ℕ). onto_piece p.0 (items_within (length bs) p.1)) (first_item (b ∷ bs)))) no_quote
    ∙ ap (λ (o : Option (ℕ × List ℕ)). option_and_then (λ (p : ℕ × List ℕ). onto_piece p.0 (items_within (length bs) p.1)) o) first
    ∙ ap (onto_piece x) (items_same (length bs) (length more) more short (omega arith))

pub items_next : (text more : List ℕ) (x : ℕ) → (get_or text 0 0 ≡ 34 → ⊥) → first_item text ≡ Some (x, more) → items_of text ≡ onto_piece x (items_of more)
items_next [] more x no_quote first = absurd (cc)
items_next (b ∷ bs) more x no_quote first = items_cons b x bs more (ne_eqb b 34 no_quote) first

-- ---- words

-- the bytes that were read between quotes, and the text after them, have fewer than n bytes together
abbrev ItemsFit : ℕ → Option (List ℕ × List ℕ) → Type 0
ItemsFit n None = Unit {0}
ItemsFit n (Some p) = length p.0 + length p.1 < n

items_fit : (n : ℕ) (text : List ℕ) → ItemsFit (length text) (items_within n text)
items_fit zero text = tt
items_fit (suc n) [] = tt
items_fit (suc n) (b ∷ bs) =
    let fewer : 0 + length bs < length (b ∷ bs) = omega arith in
    cond_both (b == 34) (Some ([], bs)) (option_and_then (λ (p : ℕ × List ℕ). onto_piece p.0 (items_within n p.1)) (first_item (b ∷ bs))) (ItemsFit (length (b ∷ bs))) (λ _. fewer)
    (λ _. by_item (λ t. items_fit n t) (first_item (b ∷ bs)) (item_shorter b bs))
  where
    onto : (x k : ℕ) (o : Option (List ℕ × List ℕ)) → ItemsFit k o → k ≤ length bs → ItemsFit (length (b ∷ bs)) (onto_piece x o)
    onto x k None fit le = tt
    onto x k (Some p) fit le = omega arith

    by_item : ((t : List ℕ) → ItemsFit (length t) (items_within n t)) → (o : Option (ℕ × List ℕ)) → AtMost (length bs) o → ItemsFit (length (b ∷ bs)) (option_and_then (λ (p : ℕ × List ℕ). onto_piece p.0 (items_within n p.1)) o)
    by_item fit None short = tt
    by_item fit (Some p) short = onto p.0 (length p.1) (items_within n p.1) (fit p.1) short

-- a word has at most n bytes, and the text after it has fewer
abbrev pub WordFits : ℕ → Option (LineWord × List ℕ) → Type 0
WordFits n None = Unit {0}
WordFits n (Some p) = (length p.0.bytes ≤ n) × (length p.1 < n)

leading_fits : (text : List ℕ) → WordFits (length text) (leading_word text)
leading_fits [] = tt
leading_fits (b ∷ bs) =
    cond_both (b == 34) (option_map quoted_word (items_of bs)) (cond (is_bare b) (Some bare) None) (WordFits (length (b ∷ bs))) (λ _. by_items (items_of bs) (items_fit (length bs) bs))
    (λ _. cond_both (is_bare b) (Some bare) None (WordFits (length (b ∷ bs))) (λ some. by_count some) (λ _. tt))
  where
    bare : LineWord × List ℕ
    bare = (record { quoted = false; bytes = take_while is_bare (b ∷ bs) }, drop (prefix_len is_bare (b ∷ bs)) (b ∷ bs))

    by_items : (o : Option (List ℕ × List ℕ)) → ItemsFit (length bs) o → WordFits (length (b ∷ bs)) (option_map quoted_word o)
    by_items None fit = tt
    by_items (Some p) fit = (omega arith, omega arith)

    by_count : is_bare b ≡ true → WordFits (length (b ∷ bs)) (Some bare)
    by_count some =
        let count = ap (λ v. cond v (1 + prefix_len is_bare bs) 0) some in
        (omega (arith, length-take (prefix_len is_bare (b ∷ bs)) (b ∷ bs)), omega (arith, count, length-drop (prefix_len is_bare (b ∷ bs)) (b ∷ bs)))

pub first_fits : (text : List ℕ) → WordFits (length text) (first_word text)
first_fits text = by_word (leading_word text) (leading_fits text)
  where
    by_word : (o : Option (LineWord × List ℕ)) → WordFits (length text) o → WordFits (length text) (option_and_then apart o)
    by_word None fits = tt
    by_word (Some p) fits = cond_both (is_apart p.1) (Some p) None (WordFits (length text)) (λ _. fits) (λ _. tt)

-- a word has at least one byte
pub word_shorter : (text rest : List ℕ) (w : LineWord) → first_word text ≡ Some (w, rest) → length rest < length text
word_shorter text rest w is = (subst (WordFits (length text)) is (first_fits text)).1

pub past_shorter : (text : List ℕ) → length (trim_spaces text) ≤ length text
past_shorter text = omega (arith, length-drop (prefix_len is_space text) text)

by_same : (f g : List ℕ → Option (List LineWord)) (text : List ℕ) → ((rest : List ℕ) → length rest < length text → f rest ≡ g rest) → words_by f text ≡ words_by g text
by_same f g [] same = refl
by_same f g (b ∷ bs) same = by_word (first_word (b ∷ bs)) (first_fits (b ∷ bs))
  where
    by_word : (o : Option (LineWord × List ℕ)) → WordFits (length (b ∷ bs)) o
        → option_and_then (λ (p : LineWord × List ℕ). option_map (λ ws. p.0 ∷ ws) (f p.1)) o ≡ option_and_then (λ (p : LineWord × List ℕ). option_map (λ ws. p.0 ∷ ws) (g p.1)) o
    by_word None fits = refl
    by_word (Some p) fits = ap (option_map (λ ws. p.0 ∷ ws)) (same p.1 fits.1)

-- a limit on the number of words has no effect where it is at least the length of the text
words_same : (n m : ℕ) (text : List ℕ) → length text ≤ n → length text ≤ m → words_within n text ≡ words_within m text
words_same zero zero text h k = refl
words_same zero (suc m) [] h k = refl
words_same zero (suc m) (b ∷ bs) h k = absurd (omega arith)
words_same (suc n) zero [] h k = refl
words_same (suc n) zero (b ∷ bs) h k = absurd (omega arith)
words_same (suc n) (suc m) text h k =
    let past = past_shorter text in
    by_same (words_within n) (words_within m) (trim_spaces text) (λ rest short. words_same n m rest (omega arith) (omega arith))

-- the words of a line are its first word after spaces, and the words of the text after that
pub words_are : (text : List ℕ) → words_of text ≡ words_by words_of (trim_spaces text)
unfolding words_of
words_are [] = refl
words_are (b ∷ bs) =
    let past = past_shorter (b ∷ bs) in
    by_same (words_within (length bs)) (λ rest. words_within (length rest) rest) (trim_spaces (b ∷ bs)) (λ rest short. words_same (length bs) (length rest) rest (omega arith) (omega arith))

pub words_first : (text rest : List ℕ) (w : LineWord) → first_word text ≡ Some (w, rest) → words_by words_of text ≡ option_map (λ ws. w ∷ ws) (words_of rest)
words_first [] rest w first = absurd (cc)
words_first (b ∷ bs) rest w first = ap (λ (o : Option (LineWord × List ℕ)). option_and_then (λ (p : LineWord × List ℕ). option_map (λ ws. p.0 ∷ ws) (words_of p.1)) o) first
