-- The labels that texts denote; a label's text denotes that label.
use Rattle.std.specs.Prelude.{◌≡◌, ℕ, ◌+◌, ◌-◌, ◌≤◌, ◌<◌, Bool, true, false, not, ◌&&◌, ◌||◌, ◌==◌, nat_eq, nat_le, nat_lt, min, cond, List, [], ◌∷◌, ◌++◌, length, drop, get_or, Option, None, Some, option_and_then, is_some, refl, zero, suc}
use Rattle.std.specs.FinSet as set
use Rattle.std.specs.List.{list_all, list_any, before_first, slice_split, range_with_len, All}
use Rattle.std.specs.Option.{option_map, option_or, option_to_list}
use Rattle.std.proofs.Common.{ap, sym, ◌∙◌, arith, inl, inr}
use Rattle.std.proofs.lemmas.Bool.{ltb-true, lt-ltb, le-ltb, leb-true, le-leb, and_parts, and_from, and_right, or_cases, or_from, eqb-true, ne_eqb, true≢false, true_from_ne_false, both_ways}
use Rattle.std.proofs.lemmas.Bool.Decides.{nat_tests}
use Rattle.std.proofs.lemmas.List.{append-nil}
use Rattle.std.proofs.lemmas.List.Folds.{list_all_at, list_all-append}
use Rattle.std.proofs.lemmas.List.Elements.{All-nil, All-cons}
use Rattle.std.proofs.lemmas.List.Splits.{slice_split_none, slice_split_at}
use Rattle.std.proofs.lemmas.Option.{same_Some}
use Rattle.fs_path.specs.Split.{pieces_of_rest, after_first_of}
use Rattle.fs_path.proofs.SplitLemmas.{position_found}
use Rattle.lab_lattice.specs.Number.{number_covers}
use Rattle.lab_lattice.specs.Cats.{CatSet, has_cat, no_cats, cats_cover}
use Rattle.lab_lattice.specs.Grade.{Grade, same_grades, highest_grade, grade_covers}
use Rattle.lab_lattice.specs.Dual.{dual_covers}
use Rattle.lab_lattice.specs.Label.{Label, secrecy_covers}
use Rattle.lab_lattice.specs.Laws.{has-cover, cover-has, same_cats, pair_parts, covers_first, covers_second}
use Rattle.lab_text.specs.Names.{Names, same_bytes, is_label_name, is_name_part, are_distinct, place_of}
use Rattle.lab_text.specs.declared.lists.NameList.TheVariants.{Levels, Categories, Grades}
use Rattle.lab_text.specs.Policy.{PolicyNames, MakePolicy, grade_at, lowest_grade, label_with, top_of, is_valid}
use Rattle.lab_text.specs.Text.{is_colon, LabelWords, before_slash, parts_of, are_names, label_words, is_label_text, places_of, grade_named, label_of_parts, label_of, parse_label, first_unknown, unknown_in, SaysNone, names_in, past_mark, grade_name, written_grade, past_slash, label_text}
use Rattle.lab_text.specs.declared.text.LabelError.{LabelError}
use Rattle.lab_text.specs.declared.text.LabelError.TheVariants as error
use Rattle.lab_text.proofs.PolicyFacts.{policy_facts, some_level, unlisted_unplaced, place_of_own}
use Rattle.lab_text.proofs.PartLemmas.{is_comma, before_past, after_past, no_slash, no_colon, no_comma, name_parts, parts_all, marked_all}

-- ---- words

-- the words of a text that has a label's form
pub words_of : (text : List ℕ) → is_label_text text ≡ true → label_words text ≡ Some (parts_of text)
unfolding label_words
words_of text h = by_form (are_names (parts_of text)) h
  where
    by_form : (v : Bool) → is_some (cond v (Some (parts_of text)) None) ≡ true → cond v (Some (parts_of text)) None ≡ Some (parts_of text)
    by_form true h = refl
    by_form false h = absurd (cc)

no_words : (text : List ℕ) → is_label_text text ≡ false → label_words text ≡ None
no_words text h = by_words (label_words text) h
  where
    by_words : (o : Option LabelWords) → is_some o ≡ false → o ≡ None
    by_words None h = refl
    by_words (Some w) h = absurd (cc)

pub unplaced : (known : Names) (at a : ℕ) (ws : Names) → first_unknown known at ws ≡ Some a → places_of known ws ≡ None
unplaced known at a [] h = absurd (cc)
unplaced known at a (w ∷ ws) h = by_first (list_any (same_bytes w) known) refl (λ k. unplaced known (at + length w + 1) a ws k) h
  where
    no_more : (o : Option ℕ) → option_and_then (λ i. option_map (λ is. i ∷ is) None) o ≡ None
    no_more None = refl
    no_more (Some i) = refl

    by_first : (v : Bool) → list_any (same_bytes w) known ≡ v → (first_unknown known (at + length w + 1) ws ≡ Some a → places_of known ws ≡ None)
        → cond v (first_unknown known (at + length w + 1) ws) (Some at) ≡ Some a → places_of known (w ∷ ws) ≡ None
    by_first true e rest h = ap (λ o. option_and_then (λ i. option_map (λ is. i ∷ is) o) (place_of known w)) (rest h) ∙ no_more (place_of known w)
    by_first false e rest h = ap (option_and_then (λ i. option_map (λ is. i ∷ is) (places_of known ws))) (unlisted_unplaced known w e)

pub unplaced_one : (known : Names) (at a : ℕ) (w : List ℕ) → first_unknown known at (w ∷ []) ≡ Some a → place_of known w ≡ None
unplaced_one known at a w h = by_listed (list_any (same_bytes w) known) refl h
  where
    by_listed : (v : Bool) → list_any (same_bytes w) known ≡ v → cond v None (Some at) ≡ Some a → place_of known w ≡ None
    by_listed true e h = absurd (cc)
    by_listed false e h = unlisted_unplaced known w e

grade_unplaced : (known : Names) (at a : ℕ) (g : Option (List ℕ)) → first_unknown known at (option_to_list g) ≡ Some a → grade_named known g ≡ None
grade_unplaced known at a None h = absurd (cc)
grade_unplaced known at a (Some w) h = ap (option_map (grade_at known)) (unplaced_one known at a w h)

not_parsed : (p : PolicyNames) (text : List ℕ) (w : LabelWords) (e : LabelError) → unknown_in p text w ≡ Some e → label_of p w ≡ None
not_parsed p text w e h = by_unknown (first_unknown p.levels 0 (w.level ∷ [])) (first_unknown p.cats (length w.level + 1) w.cats) (first_unknown p.grades (length (before_slash text) + 1) (option_to_list w.grade)) refl refl refl h
  where
    no_cats : (o : Option ℕ) (g : Option Grade) → label_of_parts o None g ≡ None
    no_cats None g = refl
    no_cats (Some i) g = refl

    no_grade : (o : Option ℕ) (r : Option (List ℕ)) → label_of_parts o r None ≡ None
    no_grade None r = refl
    no_grade (Some i) None = refl
    no_grade (Some i) (Some is) = refl

    by_unknown : (a b c : Option ℕ) → first_unknown p.levels 0 (w.level ∷ []) ≡ a → first_unknown p.cats (length w.level + 1) w.cats ≡ b → first_unknown p.grades (length (before_slash text) + 1) (option_to_list w.grade) ≡ c
        → option_or (option_map error.UnknownLevel a) (option_or (option_map error.UnknownCategory b) (option_map error.UnknownGrade c)) ≡ Some e → label_of p w ≡ None
    by_unknown (Some a) b c f g k h = ap (λ o. label_of_parts o (places_of p.cats w.cats) (grade_named p.grades w.grade)) (unplaced_one p.levels 0 a w.level f)
    by_unknown None (Some b) c f g k h = ap (λ o. label_of_parts (place_of p.levels w.level) o (grade_named p.grades w.grade)) (unplaced p.cats (length w.level + 1) b w.cats g) ∙ no_cats (place_of p.levels w.level) (grade_named p.grades w.grade)
    by_unknown None None (Some c) f g k h = ap (label_of_parts (place_of p.levels w.level) (places_of p.cats w.cats)) (grade_unplaced p.grades (length (before_slash text) + 1) c w.grade k) ∙ no_grade (place_of p.levels w.level) (places_of p.cats w.cats)
    by_unknown None None None f g k h = absurd (cc)

none_parsed : (p : PolicyNames) (text : List ℕ) (o : Option LabelWords) (e : LabelError) → option_and_then (unknown_in p text) o ≡ Some e → option_and_then (label_of p) o ≡ None
none_parsed p text None e h = refl
none_parsed p text (Some w) e h = not_parsed p text w e h

-- a text that is refused denotes no label
pub says_none : (p : PolicyNames) (text : List ℕ) (e : LabelError) → SaysNone p text e → parse_label p text ≡ None
unfolding parse_label
says_none p text (error.Syntax at) h = ap (option_and_then (label_of p)) (no_words text h.is_none)
says_none p text (error.UnknownLevel at) h = none_parsed p text (label_words text) (error.UnknownLevel at) h
says_none p text (error.UnknownCategory at) h = none_parsed p text (label_words text) (error.UnknownCategory at) h
says_none p text (error.UnknownGrade at) h = none_parsed p text (label_words text) (error.UnknownGrade at) h

-- ---- valid labels

listed_range : (a n q : ℕ) → list_any (λ y. nat_eq y q) (range_with_len a n) ≡ (nat_le a q && nat_lt q (a + n))
listed_range a zero q = grind (arith, nat_tests)
listed_range a (suc n) q = ap (λ b. nat_eq a q || b) (listed_range (a + 1) n q) ∙ grind (arith, nat_tests)

-- a category is in the set of the first n exactly where it is below n
pub has-first_cats : (n q : ℕ) → has_cat (set.from_list (range_with_len 0 n)) q ≡ nat_lt q n
has-first_cats n q = set.contains-from_list_nat (range_with_len 0 n) q ∙ listed_range 0 n q ∙ from_zero n q
  where
    from_zero : (n q : ℕ) → (nat_le 0 q && nat_lt q (0 + n)) ≡ nat_lt q n
    from_zero n q = grind (arith, nat_tests)

-- the parts of a valid label are the policy's
pub valid_secrecy : (p : PolicyNames) (label : Label) → is_valid p label ≡ true → secrecy_covers (top_of p).first label.first ≡ true
valid_secrecy p label h = covers_first secrecy_covers (dual_covers grade_covers) (top_of p) label h

pub valid_level : (p : PolicyNames) (label : Label) → is_valid p label ≡ true → label.first.first ≤ length p.levels - 1
unfolding top_of
valid_level p label h = leb-true label.first.first (length p.levels - 1) (covers_first number_covers cats_cover (top_of p).first label.first (valid_secrecy p label h))

pub valid_cats : (p : PolicyNames) (label : Label) → is_valid p label ≡ true → (q : ℕ) → has_cat label.first.second q ≡ true → q < length p.cats
unfolding top_of
valid_cats p label h q has =
    ltb-true q (length p.cats)
    (sym (has-first_cats (length p.cats) q) ∙ cover-has (top_of p).first.second label.first.second (covers_second number_covers cats_cover (top_of p).first label.first (valid_secrecy p label h)) q has)

pub valid_grade : (p : PolicyNames) (label : Label) → is_valid p label ≡ true → (lowest_grade p.grades).number ≤ label.second.inner.number
unfolding top_of
valid_grade p label h = leb-true (lowest_grade p.grades).number label.second.inner.number (covers_second secrecy_covers (dual_covers grade_covers) (top_of p) label h)

pub valid_from : (p : PolicyNames) (label : Label) → label.first.first ≤ length p.levels - 1 → ((q : ℕ) → has_cat label.first.second q ≡ true → q < length p.cats)
    → (lowest_grade p.grades).number ≤ label.second.inner.number → is_valid p label ≡ true
unfolding top_of
valid_from p label level cats grade =
    pair_parts secrecy_covers (dual_covers grade_covers) (top_of p) label
    (pair_parts number_covers cats_cover (top_of p).first label.first (le-leb label.first.first (length p.levels - 1) level)
    (has-cover (top_of p).first.second label.first.second (λ q has. has-first_cats (length p.cats) q ∙ lt-ltb q (length p.cats) (cats q has))))
    (le-leb (lowest_grade p.grades).number label.second.inner.number grade)

-- the parts of a label that are known
record HasParts (level : Option ℕ) (cats : Option (List ℕ)) (grade : Option Grade) (label : Label) : Type 0 where
  pub place : ℕ
  pub places : List ℕ
  pub inner : Grade
  pub level_is : level ≡ Some place
  pub cats_are : cats ≡ Some places
  pub grade_is : grade ≡ Some inner
  pub label_is : label_with place places inner ≡ label

label_parts : (level : Option ℕ) (cats : Option (List ℕ)) (grade : Option Grade) (label : Label) → label_of_parts level cats grade ≡ Some label → HasParts level cats grade label
label_parts None cats grade label h = absurd (cc)
label_parts (Some i) None grade label h = absurd (cc)
label_parts (Some i) (Some is) None label h = absurd (cc)
label_parts (Some i) (Some is) (Some g) label h = record {
  place = i;
  places = is;
  inner = g;
  level_is = refl;
  cats_are = refl;
  grade_is = refl;
  label_is = same_Some (label_with i is g) label h;
}

places_within : (known ws : Names) (is : List ℕ) (q : ℕ) → places_of known ws ≡ Some is → list_any (λ y. nat_eq y q) is ≡ true → q < length known
places_within known [] is q h has = let e : [] ≡ is = same_Some [] is h in absurd (both_ways (list_any (λ y. nat_eq y q) is) (ap (list_any (λ y. nat_eq y q)) (sym e)) has)
places_within known (w ∷ ws) is q h has = by_parts (place_of known w) (places_of known ws) refl (λ js e t. places_within known ws js q e t) refl h
  where
    by_parts : (o : Option ℕ) (r : Option (List ℕ)) → place_of known w ≡ o → ((js : List ℕ) → places_of known ws ≡ Some js → list_any (λ y. nat_eq y q) js ≡ true → q < length known)
        → places_of known ws ≡ r → option_and_then (λ i. option_map (λ is. i ∷ is) r) o ≡ Some is → q < length known
    by_parts None r e rest f h = absurd (cc)
    by_parts (Some i) None e rest f h = absurd (cc)
    by_parts (Some i) (Some js) e rest f h =
        elim (or_cases (nat_eq i q) (list_any (λ y. nat_eq y q) js) (ap (list_any (λ y. nat_eq y q)) (same_Some (i ∷ js) is h) ∙ has)) [
          | inl t ↦ let same = eqb-true i q t in let found = position_found (same_bytes w) known i e in omega arith
          | inr t ↦ rest js f t
        ]

-- the grade of a name, or of none, is not below the lowest
not_lowest : (names : Names) (g : Option (List ℕ)) (grade : Grade) → grade_named names g ≡ Some grade → (lowest_grade names).number ≤ grade.number
not_lowest names None grade h =
    let same : grade.number ≡ 15 = ap (λ (g : Grade). g.number) (sym (same_Some highest_grade grade h)) in
    omega arith
not_lowest names (Some w) grade h = by_place (place_of names w) h
  where
    by_place : (o : Option ℕ) → option_map (grade_at names) o ≡ Some grade → (lowest_grade names).number ≤ grade.number
    by_place None h = absurd (cc)
    by_place (Some i) h =
        let same : grade.number ≡ min (16 - length names + i) 15 = ap (λ (g : Grade). g.number) (sym (same_Some (grade_at names i) grade h)) in
        omega arith

-- a label that a text denotes is valid
pub parsed_valid : (p : PolicyNames) (text : List ℕ) (label : Label) → parse_label p text ≡ Some label → is_valid p label ≡ true
unfolding parse_label
parsed_valid p text label h = by_words (label_words text) h
  where
    by_words : (o : Option LabelWords) → option_and_then (label_of p) o ≡ Some label → is_valid p label ≡ true
    by_words None h = absurd (cc)
    by_words (Some w) h =
        let parts = label_parts (place_of p.levels w.level) (places_of p.cats w.cats) (grade_named p.grades w.grade) label h in
        let found = position_found (same_bytes w.level) p.levels parts.place parts.level_is in
        let made = valid_from p (label_with parts.place parts.places parts.inner) (omega arith)
        (λ q has. places_within p.cats w.cats parts.places q parts.cats_are (sym (set.contains-from_list_nat parts.places q) ∙ has))
        (not_lowest p.grades w.grade parts.inner parts.grade_is) in
        sym (ap (is_valid p) parts.label_is) ∙ made

-- ---- the names in a label's text

without_commas : (n : List ℕ) → list_all is_name_part n ≡ true → All (λ x. is_comma x ≡ false) n
without_commas [] h = All-nil (λ x. is_comma x ≡ false)
without_commas (b ∷ bs) h =
    let both = and_parts (is_name_part b) (list_all is_name_part bs) h in
    All-cons (λ x. is_comma x ≡ false) b bs (no_comma b both.0) (without_commas bs both.1)

-- a name, and further names each after a comma, are split into these names
split_marked : (n : List ℕ) (ns : Names) → is_label_name n ≡ true → list_all is_label_name ns ≡ true → slice_split is_comma (n ++ past_mark 44 ns) ≡ n ∷ ns
split_marked n [] h all = ap (slice_split is_comma) (append-nil n) ∙ slice_split_none is_comma n (without_commas n (name_parts n h))
split_marked n (m ∷ ms) h all =
    let both = and_parts (is_label_name m) (list_all is_label_name ms) all in
    slice_split_at is_comma n 44 (m ++ past_mark 44 ms) (without_commas n (name_parts n h)) refl ∙ ap (λ ns. n ∷ ns) (split_marked m ms both.0 both.1)

-- names in the places of a level and of categories are read as these
module _ (n : List ℕ) (ns : Names) (named : is_label_name n ≡ true) (all : list_all is_label_name ns ≡ true) where
  level_read : before_first is_colon (n ++ past_mark 58 ns) ≡ n
  level_read = before_past 58 n (past_mark 58 ns) (parts_all (λ b. not (b == 58)) (λ b h. ap not (no_colon b h)) n (name_parts n named)) ∙ ap (λ r. n ++ r) (none_before ns) ∙ append-nil n
    where
      none_before : (ns : Names) → before_first is_colon (past_mark 58 ns) ≡ []
      none_before [] = refl
      none_before (m ∷ ms) = refl

  cats_read : pieces_of_rest 44 (after_first_of 58 (n ++ past_mark 58 ns)) ≡ ns
  cats_read = ap (pieces_of_rest 44) (after_past 58 n (past_mark 58 ns) (parts_all (λ b. not (b == 58)) (λ b h. ap not (no_colon b h)) n (name_parts n named))) ∙ all_after ns all
    where
      all_after : (ns : Names) → list_all is_label_name ns ≡ true → pieces_of_rest 44 (after_first_of 58 (past_mark 58 ns)) ≡ ns
      all_after [] all = refl
      all_after (m ∷ ms) all = let both = and_parts (is_label_name m) (list_all is_label_name ms) all in split_marked m ms both.0 both.1

  without_slash : list_all (λ b. not (b == 47)) (n ++ past_mark 58 ns) ≡ true
  without_slash = list_all-append (λ b. not (b == 47)) n (past_mark 58 ns)
      ∙ and_from _ _ (parts_all (λ b. not (b == 47)) (λ b h. ap not (no_slash b h)) n (name_parts n named)) (marked_all (λ b. not (b == 47)) (λ b h. ap not (no_slash b h)) 58 ns refl refl all)

  parts_read : (g : Option (List ℕ)) → parts_of ((n ++ past_mark 58 ns) ++ past_slash g) ≡ record { level = n; cats = ns; grade = g }
  parts_read g =
      let before : before_slash ((n ++ past_mark 58 ns) ++ past_slash g) ≡ n ++ past_mark 58 ns = before_past 47 (n ++ past_mark 58 ns) (past_slash g) without_slash ∙ ap (λ r. (n ++ past_mark 58 ns) ++ r) (none_before g) ∙ append-nil (n ++ past_mark 58 ns) in
      let after : after_first_of 47 ((n ++ past_mark 58 ns) ++ past_slash g) ≡ g = after_past 47 (n ++ past_mark 58 ns) (past_slash g) without_slash ∙ all_after g in
      λ i. record {
        level = (ap (before_first is_colon) before ∙ level_read) i;
        cats = (ap (λ t. pieces_of_rest 44 (after_first_of 58 t)) before ∙ cats_read) i;
        grade = after i;
      }
    where
      none_before : (g : Option (List ℕ)) → before_slash (past_slash g) ≡ []
      none_before None = refl
      none_before (Some w) = refl

      all_after : (g : Option (List ℕ)) → after_first_of 47 (past_slash g) ≡ g
      all_after None = refl
      all_after (Some w) = refl

  parse_words : (g : Option (List ℕ)) → list_all is_label_name (option_to_list g) ≡ true → label_words ((n ++ past_mark 58 ns) ++ past_slash g) ≡ Some (record { level = n; cats = ns; grade = g })
  unfolding label_words
  parse_words g graded =
      ap (λ (w : LabelWords). cond (are_names w) (Some w) None) (parts_read g)
      ∙ ap (λ v. cond v (Some (record { level = n; cats = ns; grade = g })) None) (and_from _ _ (and_from (is_label_name n) (list_all is_label_name ns) named all) graded)

-- the name of a level denotes that level, with no category and the highest grade
pub level_parsed : (p : PolicyNames) (text : List ℕ) (level : ℕ) (cats : CatSet) (grade : Grade) → place_of p.levels text ≡ Some level → is_label_name text ≡ true → cats ≡ no_cats → grade ≡ highest_grade
    → parse_label p text ≡ Some (record { first = record { first = level; second = cats }; second = record { inner = grade } })
unfolding parse_label
level_parsed p text level cats grade placed named none highest =
    ap (λ t. option_and_then (label_of p) (label_words t)) (sym (append-nil (text ++ []) ∙ append-nil text))
    ∙ ap (option_and_then (label_of p)) (parse_words text [] named refl None refl)
    ∙ ap (λ o. label_of_parts o (Some []) (Some highest_grade)) placed
    ∙ (λ i. Some (record { first = record { first = level; second = sym none i }; second = record { inner = sym highest i } }))

-- ---- the categories in a label's text

-- the numbers of names, counted from i, that are in a set
abbrev numbers_in : CatSet → ℕ → Names → List ℕ
numbers_in cats i [] = []
numbers_in cats i (n ∷ ns) = cond (has_cat cats i) (i ∷ numbers_in cats (i + 1) ns) (numbers_in cats (i + 1) ns)

names_in_names : (cats : CatSet) (i : ℕ) (ns : Names) → list_all is_label_name ns ≡ true → list_all is_label_name (names_in cats i ns) ≡ true
names_in_names cats i [] all = refl
names_in_names cats i (n ∷ ns) all =
    let both = and_parts (is_label_name n) (list_all is_label_name ns) all in
    let rest = names_in_names cats (i + 1) ns both.1 in
    elim (has_cat cats i) as (λ v. list_all is_label_name (cond v (n ∷ names_in cats (i + 1) ns) (names_in cats (i + 1) ns)) ≡ true)
    [ true ↦ and_from (is_label_name n) (list_all is_label_name (names_in cats (i + 1) ns)) both.0 rest | false ↦ rest ]

head_here : (known : Names) (i : ℕ) (n : List ℕ) (ns : Names) → n ∷ ns ≡ drop i known → (i < length known) × (get_or known i [] ≡ n) × (ns ≡ drop (i + 1) known)
head_here [] zero n ns e = absurd (cc)
head_here [] (suc i) n ns e = absurd (cc)
head_here (x ∷ xs) zero n ns e = (omega arith, cc, cc)
head_here (x ∷ xs) (suc i) n ns e =
    let rest = head_here xs i n ns e in
    let next : suc (i + 1) ≡ suc i + 1 = omega arith in
    (omega arith, rest.1, rest.2 ∙ ap (λ k. drop k (x ∷ xs)) next)

places_named : (known : Names) (cats : CatSet) (i : ℕ) (ns : Names) → are_distinct known ≡ true → ns ≡ drop i known → places_of known (names_in cats i ns) ≡ Some (numbers_in cats i ns)
places_named known cats i [] d e = refl
places_named known cats i (n ∷ ns) d e =
    let here = head_here known i n ns e in
    let place : place_of known n ≡ Some i = ap (place_of known) (sym here.1) ∙ place_of_own known i d here.0 in
    let rest = places_named known cats (i + 1) ns d here.2 in
    elim (has_cat cats i) as (λ v. places_of known (cond v (n ∷ names_in cats (i + 1) ns) (names_in cats (i + 1) ns)) ≡ Some (cond v (i ∷ numbers_in cats (i + 1) ns) (numbers_in cats (i + 1) ns)))
    [ true ↦ (λ j. option_and_then (λ k. option_map (λ ks. k ∷ ks) (rest j)) (place j)) | false ↦ rest ]

numbered : (cats : CatSet) (i : ℕ) (ns : Names) (q : ℕ) → list_any (λ y. nat_eq y q) (numbers_in cats i ns) ≡ (has_cat cats q && (nat_le i q && nat_lt q (i + length ns)))
numbered cats i [] q = sym (and_right (has_cat cats q) (nat_le i q && nat_lt q (i + 0)) (none i q))
  where
    none : (i q : ℕ) → (nat_le i q && nat_lt q (i + 0)) ≡ false
    none i q = grind (arith, nat_tests)
numbered cats i (n ∷ ns) q = by_first (has_cat cats i) refl (numbered cats (i + 1) ns q)
  where
    with_first : (h : Bool) (i q k : ℕ) → (i ≡ q → h ≡ true) → (nat_eq i q || (h && (nat_le (i + 1) q && nat_lt q (i + 1 + k)))) ≡ (h && (nat_le i q && nat_lt q (i + suc k)))
    with_first true i q k e = grind (arith, nat_tests)
    with_first false i q k e = or_from (nat_eq i q) false (ne_eqb i q (λ s. true≢false (sym (e s)))) refl

    without : (h : Bool) (i q k : ℕ) → (i ≡ q → h ≡ false) → (h && (nat_le (i + 1) q && nat_lt q (i + 1 + k))) ≡ (h && (nat_le i q && nat_lt q (i + suc k)))
    without true i q k e = let apart : i ≡ q → ⊥ = λ s. true≢false (e s) in grind (arith, nat_tests)
    without false i q k e = refl

    by_first : (v : Bool) → has_cat cats i ≡ v → list_any (λ y. nat_eq y q) (numbers_in cats (i + 1) ns) ≡ (has_cat cats q && (nat_le (i + 1) q && nat_lt q (i + 1 + length ns)))
        → list_any (λ y. nat_eq y q) (cond v (i ∷ numbers_in cats (i + 1) ns) (numbers_in cats (i + 1) ns)) ≡ (has_cat cats q && (nat_le i q && nat_lt q (i + suc (length ns))))
    by_first true e rest = ap (λ b. nat_eq i q || b) rest ∙ with_first (has_cat cats q) i q (length ns) (λ s. ap (has_cat cats) (sym s) ∙ e)
    by_first false e rest = rest ∙ without (has_cat cats q) i q (length ns) (λ s. ap (has_cat cats) (sym s) ∙ e)

-- the numbers of the names that are in a set make that set, where no others are in it
numbers_back : (cats : CatSet) (ns : Names) → ((q : ℕ) → has_cat cats q ≡ true → q < length ns) → set.from_list (numbers_in cats 0 ns) ≡ cats
numbers_back cats ns within = same_cats _ cats (λ q. set.contains-from_list_nat (numbers_in cats 0 ns) q ∙ numbered cats 0 ns q ∙ all_there (has_cat cats q) q (length ns) (within q))
  where
    all_there : (h : Bool) (q k : ℕ) → (h ≡ true → q < k) → (h && (nat_le 0 q && nat_lt q (0 + k))) ≡ h
    all_there true q k within = let below = within refl in grind (arith, nat_tests)
    all_there false q k within = refl

-- a name in a list of names is one
named_here : (names : Names) (i : ℕ) → list_all is_label_name names ≡ true → i < length names → is_label_name (get_or names i []) ≡ true
named_here names i named within = true_from_ne_false _ (λ e. both_ways (list_all is_label_name names) (list_all_at is_label_name names i [] within e) named)

-- ---- the grade in a label's text

-- a grade that is not below the lowest has the name at a place
named_at : (names : Names) (grade : Grade) → length names ≤ 16 → (lowest_grade names).number ≤ grade.number → (grade.number == 15) ≡ false → 16 ≤ grade.number + length names
named_at names grade few low other = let bound = grade.low in let apart = below_highest grade.number other in omega arith
  where
    below_highest : (n : ℕ) → (n == 15) ≡ false → n ≡ 15 → ⊥
    below_highest n e s = absurd (both_ways (n == 15) e (eq_test n s))
      where
        eq_test : (n : ℕ) → n ≡ 15 → (n == 15) ≡ true
        eq_test n s = grind (arith, nat_tests)

-- the name that is written for a grade denotes it
written_back : (names : Names) (grade : Grade) → length names ≤ 16 → are_distinct names ≡ true → (lowest_grade names).number ≤ grade.number → grade_named names (written_grade names grade) ≡ Some grade
written_back names grade few apart low = by_highest (grade.number == 15) refl
  where
    by_highest : (v : Bool) → (grade.number == 15) ≡ v → grade_named names (cond v None (Some (grade_name names grade))) ≡ Some grade
    by_highest true e = let same = eqb-true grade.number 15 e in ap Some (same_grades highest_grade grade (omega arith))
    by_highest false e =
        let here = named_at names grade few low e in
        let bound = grade.low in
        let i : ℕ = grade.number + length names - 16 in
        let name : grade_name names grade ≡ get_or names (grade.number + length names - 16) [] = ap (λ v. cond v [] (get_or names (grade.number + length names - 16) [])) (le-ltb (grade.number + length names) 16 here) in
        ap (λ w. option_map (grade_at names) (place_of names w)) name
        ∙ ap (option_map (grade_at names)) (place_of_own names (grade.number + length names - 16) apart (omega arith))
        ∙ ap Some (same_grades (grade_at names (grade.number + length names - 16)) grade (omega arith))

written_named : (names : Names) (grade : Grade) → length names ≤ 16 → list_all is_label_name names ≡ true → (lowest_grade names).number ≤ grade.number → list_all is_label_name (option_to_list (written_grade names grade)) ≡ true
written_named names grade few named low = by_highest (grade.number == 15) refl
  where
    by_highest : (v : Bool) → (grade.number == 15) ≡ v → list_all is_label_name (option_to_list (cond v None (Some (grade_name names grade)))) ≡ true
    by_highest true e = refl
    by_highest false e =
        let here = named_at names grade few low e in
        let bound = grade.low in
        let name : grade_name names grade ≡ get_or names (grade.number + length names - 16) [] = ap (λ v. cond v [] (get_or names (grade.number + length names - 16) [])) (le-ltb (grade.number + length names) 16 here) in
        and_from _ true (ap is_label_name name ∙ named_here names (grade.number + length names - 16) named (omega arith)) refl

-- a text is the name of a level, with names of categories after marks, and the name of a grade after a slash
pub record AreWritten (text : List ℕ) : Type 0 where
  pub level : List ℕ
  pub cats : Names
  pub grade : Option (List ℕ)
  pub text_is : text ≡ (level ++ past_mark 58 cats) ++ past_slash grade
  pub level_name : is_label_name level ≡ true
  pub cat_names : list_all is_label_name cats ≡ true
  pub grade_names : list_all is_label_name (option_to_list grade) ≡ true

-- the text of a valid label is made of such names
pub text_names : (p : PolicyNames) (label : Label) → MakePolicy p → is_valid p label ≡ true → AreWritten (label_text p label)
unfolding label_text
text_names p label h valid =
    let levels = policy_facts p h Levels in
    let cats = policy_facts p h Categories in
    let grades = policy_facts p h Grades in
    let some = some_level p h in
    let level = valid_level p label valid in
    record {
      level = get_or p.levels label.first.first [];
      cats = names_in label.first.second 0 p.cats;
      grade = written_grade p.grades label.second.inner;
      text_is = refl;
      level_name = named_here p.levels label.first.first levels.named (omega arith);
      cat_names = names_in_names label.first.second 0 p.cats cats.named;
      grade_names = written_named p.grades label.second.inner grades.few grades.named (valid_grade p label valid);
    }

-- a label's text denotes that label
pub parse_text : (p : PolicyNames) (label : Label) → MakePolicy p → is_valid p label ≡ true → parse_label p (label_text p label) ≡ Some label
unfolding parse_label label_text text_names
parse_text p label h valid =
    let levels = policy_facts p h Levels in
    let cats = policy_facts p h Categories in
    let grades = policy_facts p h Grades in
    let some = some_level p h in
    let level = valid_level p label valid in
    let within : label.first.first < length p.levels = omega arith in
    let names = text_names p label h valid in
    ap (option_and_then (label_of p)) (ap label_words names.text_is ∙ parse_words names.level names.cats names.level_name names.cat_names names.grade names.grade_names)
    ∙ (λ i. label_of_parts (place_of_own p.levels label.first.first levels.apart within i) (places_named p.cats label.first.second 0 p.cats cats.apart refl i) (written_back p.grades label.second.inner grades.few grades.apart (valid_grade p label valid) i))
    ∙ ap (λ (cats : CatSet). Some (record { first = record { first = label.first.first; second = cats }; second = label.second })) (numbers_back label.first.second p.cats (valid_cats p label valid))
