-- A line has some words exactly where these are read from it.
use Rattle.std.specs.Prelude.{◌≡◌, ◌↔◌, ℕ, zero, suc, ◌+◌, ◌*◌, ◌<◌, ◌==◌, ◌||◌, nat_lt, Bool, true, false, cond, List, [], ◌∷◌, ◌++◌, length, drop, Option, None, Some, refl}
use Rattle.std.proofs.Common.{sym, ◌∙◌, ap, subst, arith, append_assoc, take, get_or, inl, inr}
use Rattle.std.specs.List.{list_all, prefix_len}
use Rattle.std.specs.Option.{option_and_then, option_map}
use Rattle.std.proofs.lemmas.Bool.{and_parts, and_from, or_cases, eqb-true, eqb-false, ne_eqb, cond-true, cond-false, cond_both, lt-ltb}
use Rattle.std.proofs.lemmas.List.{append-nil, take_at, drop_at, take-append-drop}
use Rattle.std.proofs.lemmas.List.Folds.{length-prefix_len}
use Rattle.std.proofs.lemmas.Option.{cond_some, option_and_then_some, same_Some}
use Rattle.fs_path.specs.declared.words.LineWord.{LineWord}
use Rattle.fs_path.specs.Split.{onto_piece}
use Rattle.fs_path.specs.Words.{is_space, is_plain, is_bare, is_bare_text, hex_value, hex_pair, escape_value, first_item, items_within, items_of, quoted_word, leading_word, apart, is_apart, first_word, trim_spaces, words_by, words_within, words_of}
use Rattle.fs_path.specs.LineForm.{IsItem, Plain, Quote, Backslash, Coded, AreItems, NoItem, ItemMore, IsSpelling, Bare, Quoted, HasWords, NoWord, WordMore}
use Rattle.fs_path.proofs.WordSteps.{items_next, words_are, words_first}

-- ---- what has the form is read

-- before further text, `text` denotes the byte b, and it begins with no quote
abbrev pub Begins : ℕ → List ℕ → List ℕ → Type 0
Begins b more text = (first_item (text ++ more) ≡ Some (b, more)) × (get_or (text ++ more) 0 0 ≡ 34 → ⊥)

plain_is_not : (b n : ℕ) → is_plain n ≡ false → is_plain b ≡ true → (b == n) ≡ false
plain_is_not b n other plain = ne_eqb b n (λ same. let no : false ≡ true = sym other ∙ subst (λ m. is_plain m ≡ true) same plain in cc)

-- an item is read as its byte
pub item_begins : (b : ℕ) (item more : List ℕ) → IsItem b item → Begins b more item
item_begins b item more (Plain x plain) = (
  cond-false (x == 92) (escape_value more) (cond (is_plain x) (Some (x, more)) None) (plain_is_not x 92 refl plain) ∙ cond-true (is_plain x) (Some (x, more)) None plain,
  eqb-false x 34 (plain_is_not x 34 refl plain),
)
item_begins b item more Quote = (refl, λ q. absurd (omega arith))
item_begins b item more Backslash = (refl, λ q. absurd (omega arith))
item_begins b item more (Coded h l high low h_is l_is) = (
  ap (λ (o : Option ℕ). option_and_then (λ high. option_map (λ low. (16 * high + low, more)) (hex_value l)) o) h_is ∙ ap (λ (o : Option ℕ). option_map (λ low. (16 * high + low, more)) o) l_is,
  λ q. absurd (omega arith),
)

-- items and a quote are read as their bytes
pub items_read : (bytes items rest : List ℕ) → AreItems bytes items → items_of (items ++ 34 ∷ rest) ≡ Some (bytes, rest)
items_read bytes items rest NoItem = refl
items_read bytes items rest (ItemMore b bs item more is are) =
    let after = more ++ 34 ∷ rest in
    let begins = item_begins b item after is in
    ap items_of (append_assoc item more (34 ∷ rest)) ∙ items_next (item ++ after) after b begins.1 begins.0 ∙ ap (onto_piece b) (items_read bs more rest are)

bare_len : (bytes rest : List ℕ) → list_all is_bare bytes ≡ true → is_apart rest ≡ true → prefix_len is_bare (bytes ++ rest) ≡ length bytes
bare_len [] [] bare ends = refl
bare_len [] (r ∷ rs) bare ends = let is = eqb-true r 32 ends in ap (λ b. cond (is_bare b) (1 + prefix_len is_bare rs) 0) is
bare_len (b ∷ bs) rest bare ends =
    let parts = and_parts (is_bare b) (list_all is_bare bs) bare in
    let more = bare_len bs rest parts.1 ends in
    let first = cond-true (is_bare b) (1 + prefix_len is_bare (bs ++ rest)) 0 parts.0 in
    omega (arith, more, first)

pub no_quote : (b : ℕ) → is_bare b ≡ true → (b == 34) ≡ false
no_quote b bare = ne_eqb b 34 (λ is. let no : false ≡ true = subst (λ n. is_bare n ≡ true) is bare in cc)

no_space : (b : ℕ) → is_bare b ≡ true → is_space b ≡ false
no_space b bare = ne_eqb b 32 (λ is. let no : false ≡ true = subst (λ n. is_bare n ≡ true) is bare in cc)

bare_read : (bytes rest : List ℕ) → is_bare_text bytes ≡ true → is_apart rest ≡ true → first_word (bytes ++ rest) ≡ Some (record { quoted = false; bytes = bytes }, rest)
bare_read [] rest bare ends = absurd (cc)
bare_read (b ∷ bs) rest bare ends =
    let all = (and_parts (nat_lt 0 (length (b ∷ bs))) (list_all is_bare (b ∷ bs)) bare).1 in
    let first = (and_parts (is_bare b) (list_all is_bare bs) all).0 in
    let len = bare_len (b ∷ bs) rest all ends in
    let text = (b ∷ bs) ++ rest in
    let word : ℕ → LineWord × List ℕ = λ n. (record { quoted = false; bytes = take n text }, drop n text) in
    let begun : leading_word text ≡ Some (word (prefix_len is_bare text)) = cond-false _ _ _ (no_quote b first) ∙ cond-true _ _ _ first in
    let is : leading_word text ≡ Some (record { quoted = false; bytes = b ∷ bs }, rest) =
    begun ∙ ap (λ n. Some (word n)) len ∙ ap (λ (t : List ℕ). Some (record { quoted = false; bytes = t }, drop (length (b ∷ bs)) text)) (take_at (b ∷ bs) rest (length (b ∷ bs)) refl)
    ∙ ap (λ (t : List ℕ). Some (record { quoted = false; bytes = b ∷ bs }, t)) (drop_at (b ∷ bs) rest (length (b ∷ bs)) refl) in
    ap (option_and_then apart) is ∙ cond-true (is_apart rest) _ None ends

-- a spelling is read as its word
pub spelling_read : (w : LineWord) (text rest : List ℕ) → IsSpelling w text → is_apart rest ≡ true → first_word (text ++ rest) ≡ Some (w, rest)
spelling_read w text rest (Bare bytes bare) ends = bare_read bytes rest bare ends
spelling_read w text rest (Quoted bytes items are) ends =
    let read = ap items_of (append_assoc items (34 ∷ []) rest) ∙ items_read bytes items rest are in
    ap (λ (o : Option (List ℕ × List ℕ)). option_and_then apart (option_map quoted_word o)) read ∙ cond-true (is_apart rest) _ None ends

trim_one : (b : ℕ) (text : List ℕ) → is_space b ≡ true → trim_spaces (b ∷ text) ≡ trim_spaces text
trim_one b text space = ap (λ v. drop (cond v (1 + prefix_len is_space text) 0) (b ∷ text)) space ∙ ap (λ n. drop n (b ∷ text)) (one_add (prefix_len is_space text))
  where
    one_add : (n : ℕ) → 1 + n ≡ suc n
    one_add n = omega arith

trim_all : (spaces text : List ℕ) → list_all is_space spaces ≡ true → trim_spaces (spaces ++ text) ≡ trim_spaces text
trim_all [] text all = refl
trim_all (b ∷ bs) text all = let parts = and_parts (is_space b) (list_all is_space bs) all in trim_one b (bs ++ text) parts.0 ∙ trim_all bs text parts.1

-- a text that begins with no space
pub trim_none : (b : ℕ) (bs : List ℕ) → is_space b ≡ false → trim_spaces (b ∷ bs) ≡ b ∷ bs
trim_none b bs other = ap (λ v. drop (cond v (1 + prefix_len is_space bs) 0) (b ∷ bs)) other

spelling_trim : (w : LineWord) (text rest : List ℕ) → IsSpelling w text → trim_spaces (text ++ rest) ≡ text ++ rest
spelling_trim w text rest (Bare [] bare) = absurd (cc)
spelling_trim w text rest (Bare (b ∷ bs) bare) = trim_none b (bs ++ rest) (no_space b (and_parts (is_bare b) (list_all is_bare bs) (and_parts (nat_lt 0 (length (b ∷ bs))) (list_all is_bare (b ∷ bs)) bare).1).0)
spelling_trim w text rest (Quoted bytes items are) = refl

-- a line's words are read from it
pub words_read : (line : List ℕ) (words : List LineWord) → HasWords line words → words_of line ≡ Some words
words_read line words (NoWord spaces all) = words_are spaces ∙ ap (λ t. words_by words_of (trim_spaces t)) (sym (append-nil spaces)) ∙ ap (words_by words_of) (trim_all spaces [] all)
words_read line words (WordMore spaces text rest w ws all is ends has) =
    words_are (spaces ++ (text ++ rest)) ∙ ap (words_by words_of) (trim_all spaces (text ++ rest) all ∙ spelling_trim w text rest is)
    ∙ words_first (text ++ rest) rest w (spelling_read w text rest is ends) ∙ ap (option_map (λ vs. w ∷ vs)) (words_read rest ws has)

-- ---- what is read has the form

-- a text begins with one that has a property, and `more` is left
abbrev Leaves : (List ℕ → Type 0) → List ℕ → List ℕ → Type 0
Leaves P text more = (first : List ℕ) × (P first × (text ≡ first ++ more))

pair_form : (text more : List ℕ) (b : ℕ) → hex_pair text ≡ Some (b, more) → Leaves (IsItem b) (92 ∷ 120 ∷ text) more
pair_form [] more b is = absurd (cc)
pair_form (h ∷ []) more b is = absurd (cc)
pair_form (h ∷ l ∷ rest) more b is = by_values (hex_value h) refl (hex_value l) refl is
  where
    by_values : (u : Option ℕ) → hex_value h ≡ u → (v : Option ℕ) → hex_value l ≡ v → option_and_then {U = ℕ × List ℕ} (λ high. option_map (λ low. (16 * high + low, rest)) v) u ≡ Some (b, more)
        → Leaves (IsItem b) (92 ∷ 120 ∷ h ∷ l ∷ rest) more
    by_values None e v k is = absurd (cc)
    by_values (Some high) e None k is = absurd (cc)
    by_values (Some high) e (Some low) k is =
        subst (λ (p : ℕ × List ℕ). Leaves (IsItem p.0) (92 ∷ 120 ∷ h ∷ l ∷ rest) p.1) (same_Some (16 * high + low, rest) (b, more) is) (92 ∷ 120 ∷ h ∷ l ∷ [], (Coded h l high low e k, refl))

escape_form : (text more : List ℕ) (b : ℕ) → escape_value text ≡ Some (b, more) → Leaves (IsItem b) (92 ∷ text) more
escape_form [] more b is = absurd (cc)
escape_form (x ∷ xs) more b is =
    cond_both (x == 34 || x == 92) (Some (x, xs)) (cond (x == 120) (hex_pair xs) None) Fits
    (λ mark is. subst (λ (p : ℕ × List ℕ). Leaves (IsItem p.0) (92 ∷ x ∷ xs) p.1) (same_Some (x, xs) (b, more) is) (92 ∷ x ∷ [], (itself mark, refl)))
    (λ _. cond_both (x == 120) (hex_pair xs) None Fits (λ coded is. subst (λ n. Leaves (IsItem b) (92 ∷ n ∷ xs) more) (sym (eqb-true x 120 coded)) (pair_form xs more b is)) (λ _ is. absurd (cc))) is
  where
    Fits : Option (ℕ × List ℕ) → Type 0
    Fits o = o ≡ Some (b, more) → Leaves (IsItem b) (92 ∷ x ∷ xs) more

    itself : (x == 34 || x == 92) ≡ true → IsItem x (92 ∷ x ∷ [])
    itself mark =
        elim (or_cases (x == 34) (x == 92) mark) [
          | inl quote ↦ subst (λ n. IsItem n (92 ∷ n ∷ [])) (sym (eqb-true x 34 quote)) Quote
          | inr slash ↦ subst (λ n. IsItem n (92 ∷ n ∷ [])) (sym (eqb-true x 92 slash)) Backslash
        ]

item_form : (text more : List ℕ) (b : ℕ) → first_item text ≡ Some (b, more) → Leaves (IsItem b) text more
item_form [] more b is = absurd (cc)
item_form (x ∷ xs) more b is =
    cond_both (x == 92) (escape_value xs) (cond (is_plain x) (Some (x, xs)) None) Fits (λ slash is. subst (λ n. Leaves (IsItem b) (n ∷ xs) more) (sym (eqb-true x 92 slash)) (escape_form xs more b is))
    (λ _. cond_both (is_plain x) (Some (x, xs)) None Fits (λ plain is. subst (λ (p : ℕ × List ℕ). Leaves (IsItem p.0) (x ∷ xs) p.1) (same_Some (x, xs) (b, more) is) (x ∷ [], (Plain x plain, refl))) (λ _ is. absurd (cc))) is
  where
    Fits : Option (ℕ × List ℕ) → Type 0
    Fits o = o ≡ Some (b, more) → Leaves (IsItem b) (x ∷ xs) more

-- a text is items that denote some bytes, a quote, and `rest`
abbrev ItemsLeave : List ℕ → List ℕ → List ℕ → Type 0
ItemsLeave bytes text rest = (items : List ℕ) × (AreItems bytes items × (text ≡ items ++ 34 ∷ rest))

items_form : (n : ℕ) (text bytes rest : List ℕ) → items_within n text ≡ Some (bytes, rest) → ItemsLeave bytes text rest
items_form zero text bytes rest is = absurd (cc)
items_form (suc n) [] bytes rest is = absurd (cc)
items_form (suc n) (b ∷ bs) bytes rest is =
    cond_both (b == 34) (Some ([], bs)) (option_and_then then (first_item (b ∷ bs))) (λ o. o ≡ Some (bytes, rest) → ItemsLeave bytes (b ∷ bs) rest)
    (λ quote is. subst (λ (p : List ℕ × List ℕ). ItemsLeave p.0 (b ∷ bs) p.1) (same_Some ([], bs) (bytes, rest) is) ([], (NoItem, ap (λ n. n ∷ bs) (eqb-true b 34 quote))))
    (λ _ is. option_and_then_some then (first_item (b ∷ bs)) (bytes, rest) is (λ p first next. by_rest p (item_form (b ∷ bs) p.1 p.0 first) (items_within n p.1) (λ q e. items_form n p.1 q.0 q.1 e) next)) is
  where
    then : ℕ × List ℕ → Option (List ℕ × List ℕ)
    then p = onto_piece p.0 (items_within n p.1)

    by_rest : (p : ℕ × List ℕ) → Leaves (IsItem p.0) (b ∷ bs) p.1 → (o : Option (List ℕ × List ℕ)) → ((q : List ℕ × List ℕ) → o ≡ Some q → ItemsLeave q.0 p.1 q.1) → onto_piece p.0 o ≡ Some (bytes, rest) → ItemsLeave bytes (b ∷ bs) rest
    by_rest p item None more next = absurd (cc)
    by_rest p item (Some q) more next =
        let left = more q refl in
        let is = item.1.1 ∙ ap (λ (t : List ℕ). item.0 ++ t) left.1.1 ∙ sym (append_assoc item.0 left.0 (34 ∷ q.1)) in
        subst (λ (r : List ℕ × List ℕ). ItemsLeave r.0 (b ∷ bs) r.1) (same_Some (p.0 ∷ q.0, q.1) (bytes, rest) next) (item.0 ++ left.0, (ItemMore p.0 q.0 item.0 left.0 item.1.0 left.1.0, is))

-- the first bytes that pass do
passes : (p : ℕ → Bool) (xs : List ℕ) → list_all p (take (prefix_len p xs) xs) ≡ true
passes p [] = refl
passes p (x ∷ xs) = by_head (p x) refl (passes p xs)
  where
    one_add : (n : ℕ) → 1 + n ≡ suc n
    one_add n = omega arith

    by_head : (v : Bool) → p x ≡ v → list_all p (take (prefix_len p xs) xs) ≡ true → list_all p (take (cond v (1 + prefix_len p xs) 0) (x ∷ xs)) ≡ true
    by_head true e rest = ap (λ n. list_all p (take n (x ∷ xs))) (one_add (prefix_len p xs)) ∙ and_from (p x) (list_all p (take (prefix_len p xs) xs)) e rest
    by_head false e rest = refl

leading_form : (text rest : List ℕ) (w : LineWord) → leading_word text ≡ Some (w, rest) → Leaves (IsSpelling w) text rest
leading_form [] rest w is = absurd (cc)
leading_form (b ∷ bs) rest w is =
    cond_both (b == 34) (option_map quoted_word (items_of bs)) (cond (is_bare b) (Some (begun (prefix_len is_bare (b ∷ bs)))) None) Fits (λ quote is. by_items quote (items_of bs) (λ p e. items_form (length bs) bs p.0 p.1 e) is)
    (λ _. cond_both (is_bare b) (Some (begun (prefix_len is_bare (b ∷ bs)))) None Fits (λ bare is. by_count (prefix_len is_bare (b ∷ bs)) (passes is_bare (b ∷ bs)) (some bare) is) (λ _ is. absurd (cc))) is
  where
    begun : ℕ → LineWord × List ℕ
    begun n = (record { quoted = false; bytes = take n (b ∷ bs) }, drop n (b ∷ bs))

    Fits : Option (LineWord × List ℕ) → Type 0
    Fits o = o ≡ Some (w, rest) → Leaves (IsSpelling w) (b ∷ bs) rest

    by_items : (b == 34) ≡ true → (o : Option (List ℕ × List ℕ)) → ((p : List ℕ × List ℕ) → o ≡ Some p → ItemsLeave p.0 bs p.1) → Fits (option_map quoted_word o)
    by_items quote None more is = absurd (cc)
    by_items quote (Some p) more is =
        let left = more p refl in
        let same = ap (λ n. n ∷ bs) (eqb-true b 34 quote) ∙ ap (λ (t : List ℕ). 34 ∷ t) (left.1.1 ∙ sym (append_assoc left.0 (34 ∷ []) p.1)) in
        subst (λ (q : LineWord × List ℕ). Leaves (IsSpelling q.0) (b ∷ bs) q.1) (same_Some (quoted_word p) (w, rest) is) (34 ∷ left.0 ++ 34 ∷ [], (Quoted p.0 left.0 left.1.0, same))

    some : is_bare b ≡ true → 0 < length (take (prefix_len is_bare (b ∷ bs)) (b ∷ bs))
    some bare = omega (arith, length-prefix_len is_bare (b ∷ bs), cond-true (is_bare b) (1 + prefix_len is_bare bs) 0 bare)

    by_count : (n : ℕ) → list_all is_bare (take n (b ∷ bs)) ≡ true → 0 < length (take n (b ∷ bs)) → Fits (Some (begun n))
    by_count n all some is =
        subst (λ (q : LineWord × List ℕ). Leaves (IsSpelling q.0) (b ∷ bs) q.1) (same_Some (begun n) (w, rest) is)
        (take n (b ∷ bs), (Bare (take n (b ∷ bs)) (and_from _ _ (lt-ltb 0 (length (take n (b ∷ bs))) some) all), sym (take-append-drop n (b ∷ bs))))

first_form : (text rest : List ℕ) (w : LineWord) → first_word text ≡ Some (w, rest) → Leaves (IsSpelling w) text rest × (is_apart rest ≡ true)
first_form text rest w is =
    option_and_then_some apart (leading_word text) (w, rest) is (λ p lead last.
    let kept = cond_some (is_apart p.1) p (w, rest) last in
    subst (λ (q : LineWord × List ℕ). Leaves (IsSpelling q.0) text q.1 × (is_apart q.1 ≡ true)) kept.1 (leading_form text p.1 p.0 lead, kept.0))

-- what is read after spaces has the form, where what is read of each rest has it
after_form : (more : List ℕ → Option (List LineWord)) (spaces text : List ℕ) (words : List LineWord) → list_all is_space spaces ≡ true → ((rest : List ℕ) (ws : List LineWord) → more rest ≡ Some ws → HasWords rest ws)
    → words_by more text ≡ Some words → HasWords (spaces ++ text) words
after_form more spaces [] words all form is = subst (HasWords (spaces ++ [])) (same_Some [] words is) (subst (λ t. HasWords t []) (sym (append-nil spaces)) (NoWord spaces all))
after_form more spaces (b ∷ bs) words all form is = option_and_then_some then (first_word (b ∷ bs)) words is (λ p first next. by_rest p (first_form (b ∷ bs) p.1 p.0 first) (more p.1) (λ ws e. form p.1 ws e) next)
  where
    then : LineWord × List ℕ → Option (List LineWord)
    then p = option_map (λ ws. p.0 ∷ ws) (more p.1)

    by_rest : (p : LineWord × List ℕ) → Leaves (IsSpelling p.0) (b ∷ bs) p.1 × (is_apart p.1 ≡ true) → (o : Option (List LineWord)) → ((ws : List LineWord) → o ≡ Some ws → HasWords p.1 ws) → option_map (λ ws. p.0 ∷ ws) o ≡ Some words → HasWords (spaces ++ b ∷ bs) words
    by_rest p begun None rest next = absurd (cc)
    by_rest p begun (Some ws) rest next =
        let first = begun.0 in
        subst (HasWords (spaces ++ b ∷ bs)) (same_Some (p.0 ∷ ws) words next)
        (subst (λ t. HasWords (spaces ++ t) (p.0 ∷ ws)) (sym first.1.1) (WordMore spaces first.0 p.1 p.0 ws all first.1.0 begun.1 (rest ws refl)))

trimmed_form : (more : List ℕ → Option (List LineWord)) (line : List ℕ) (words : List LineWord) → ((rest : List ℕ) (ws : List LineWord) → more rest ≡ Some ws → HasWords rest ws) → words_by more (trim_spaces line) ≡ Some words → HasWords line words
trimmed_form more line words form is =
    let n = prefix_len is_space line in
    subst (λ t. HasWords t words) (take-append-drop n line) (after_form more (take n line) (drop n line) words (passes is_space line) form is)

words_form : (n : ℕ) (line : List ℕ) (words : List LineWord) → words_within n line ≡ Some words → HasWords line words
words_form zero line words is = trimmed_form (λ _. None) line words (λ rest ws none. absurd (cc)) is
words_form (suc n) line words is = trimmed_form (words_within n) line words (λ rest ws e. words_form n rest ws e) is

line_form : (line : List ℕ) (words : List LineWord) → words_of line ≡ Some words → HasWords line words
unfolding words_of
line_form line words is = words_form (length line) line words is

-- the words that are read are those that the line has
pub words_exact : (line : List ℕ) (words : List LineWord) → (words_of line ≡ Some words) ↔ HasWords line words
words_exact line words = (line_form line words, words_read line words)
