-- What a text denotes that is split at its slash and its colon, and how a label's text grows.
use Rattle.std.proofs.Common.{◌≡◌, ℕ, ◌+◌, ◌≤◌, Bool, true, false, cond, List, [], ◌∷◌, ◌++◌, length, drop, Option, Some, None, refl, ap, sym, subst, ◌∙◌}
use Rattle.std.specs.Prelude.{option_and_then, IfErr, OnOk, Result, Ok, Err}
use Rattle.std.specs.FinSet as set
use Rattle.std.specs.List.{before_first}
use Rattle.std.specs.Option.{option_map, option_or, option_to_list, ok_or}
use Rattle.std.proofs.lemmas.List.{append-nil, drop_all}
use Rattle.std.proofs.lemmas.Option.{same_Some}
use Rattle.lab_lattice.specs.Cats.{CatSet, cats_cover, has_cat, no_cats}
use Rattle.lab_lattice.specs.Grade.{Grade}
use Rattle.lab_lattice.specs.Laws.{cover-has}
use Rattle.lab_lattice.proofs.CatSets.{has-no_cats}
use Rattle.fs_path.specs.Split.{pieces_of_rest, after_first_of}
use Rattle.fs_path.proofs.SplitLemmas.{position_found, position_missing}
use Rattle.lab_text.specs.Names.{Names, same_bytes, place_of}
use Rattle.lab_text.specs.Policy.{PolicyNames, grade_at}
use Rattle.lab_text.specs.Text.{is_colon, before_slash, label_words, is_label_text, places_of, grade_named, label_of_parts, label_of, parse_label, first_unknown, unknown_in, SaysNone, names_in, past_mark}
use Rattle.lab_text.proofs.Parsed.{words_of, unplaced}
use Rattle.lab_text.specs.declared.text.LabelError.{LabelError}
use Rattle.lab_text.specs.declared.text.LabelError.TheVariants as error

-- ---- a text split at its slash and its colon

-- a text of a label's form is split into the text before its slash, the name of its level, the text after its colon, and that after its
-- slash
pub record IsRead (text before level : List ℕ) (list grade : Option (List ℕ)) : Type 0 where
  pub form : is_label_text text ≡ true
  pub before_is : before ≡ before_slash text
  pub level_is : level ≡ before_first is_colon before
  pub list_is : list ≡ after_first_of 58 before
  pub grade_is : grade ≡ after_first_of 47 text

module _ {text before level : List ℕ} {list grade : Option (List ℕ)} (h : IsRead text before level list grade) where
  read_words : label_words text ≡ Some (record { level = level; cats = pieces_of_rest 44 list; grade = grade })
  read_words = words_of text h.form ∙ ap Some (λ i. record {
    level = sym (h.level_is ∙ ap (before_first is_colon) h.before_is) i;
    cats = pieces_of_rest 44 (sym (h.list_is ∙ ap (after_first_of 58) h.before_is) i);
    grade = sym h.grade_is i;
  })

  module _ (p : PolicyNames) where
    pub read_parsed : (first : ℕ) (second : CatSet) (inner : Grade) → place_of p.levels level ≡ Some first
        → option_map set.from_list (places_of p.cats (pieces_of_rest 44 list)) ≡ Some second → grade_named p.grades grade ≡ Some inner
        → parse_label p text ≡ Some (record { first = record { first = first; second = second }; second = record { inner = inner } })
    unfolding parse_label
    read_parsed first second inner e f g =
        ap (option_and_then (label_of p)) read_words ∙ (λ i. label_of_parts (e i) (places_of p.cats (pieces_of_rest 44 list)) (g i)) ∙ by_cats (places_of p.cats (pieces_of_rest 44 list)) f
      where
        by_cats : (cats : Option (List ℕ)) → option_map set.from_list cats ≡ Some second
            → label_of_parts (Some first) cats (Some inner) ≡ Some (record { first = record { first = first; second = second }; second = record { inner = inner } })
        by_cats None h = absurd (cc)
        by_cats (Some is) h = ap (λ (c : CatSet). Some (record { first = record { first = first; second = c }; second = record { inner = inner } })) (same_Some (set.from_list is) second h)

    -- the text denotes no label for the first of the names that the policy does not know
    says : (a b c : Option ℕ) (e : LabelError) → first_unknown p.levels 0 (level ∷ []) ≡ a → first_unknown p.cats (length level + 1) (pieces_of_rest 44 list) ≡ b
        → first_unknown p.grades (length before + 1) (option_to_list grade) ≡ c
        → option_or (option_map error.UnknownLevel a) (option_or (option_map error.UnknownCategory b) (option_map error.UnknownGrade c)) ≡ Some e → SaysNone p text e
    says a b c e f g k is = by_error e is
      where
        cause : option_and_then (unknown_in p text) (label_words text) ≡ option_or (option_map error.UnknownLevel a) (option_or (option_map error.UnknownCategory b) (option_map error.UnknownGrade c))
        cause = ap (option_and_then (unknown_in p text)) read_words
            ∙ (λ i. option_or (option_map error.UnknownLevel (f i)) (option_or (option_map error.UnknownCategory (g i))
            (option_map error.UnknownGrade ((ap (λ t. first_unknown p.grades (length t + 1) (option_to_list grade)) (sym h.before_is) ∙ k) i))))

        no_syntax : (a b c : Option ℕ) (at : ℕ) → option_or (option_map error.UnknownLevel a) (option_or (option_map error.UnknownCategory b) (option_map error.UnknownGrade c)) ≡ Some (error.Syntax at) → ⊥
        no_syntax (Some a) b c at u = cc
        no_syntax None (Some b) c at u = cc
        no_syntax None None (Some c) at u = cc
        no_syntax None None None at u = cc

        by_error : (e : LabelError) → option_or (option_map error.UnknownLevel a) (option_or (option_map error.UnknownCategory b) (option_map error.UnknownGrade c)) ≡ Some e → SaysNone p text e
        by_error (error.Syntax at) u = absurd (no_syntax a b c at u)
        by_error (error.UnknownLevel at) u = cause ∙ u
        by_error (error.UnknownCategory at) u = cause ∙ u
        by_error (error.UnknownGrade at) u = cause ∙ u

    pub level_unknown : place_of p.levels level ≡ None → SaysNone p text (error.UnknownLevel 0)
    level_unknown e = says (Some 0) _ _ (error.UnknownLevel 0) (ap (λ v. cond v None (Some 0)) (position_missing (same_bytes level) p.levels e).1) refl refl refl

    level_known : (first : ℕ) → place_of p.levels level ≡ Some first → first_unknown p.levels 0 (level ∷ []) ≡ None
    level_known first e = ap (λ v. cond v None (Some 0)) (position_found (same_bytes level) p.levels first e).2

    pub cat_unknown : (first : ℕ) (e : LabelError) → place_of p.levels level ≡ Some first
        → option_map error.UnknownCategory (first_unknown p.cats (length level + 1) (pieces_of_rest 44 list)) ≡ Some e → SaysNone p text e
    cat_unknown first e place unknown = by_cats (first_unknown p.cats (length level + 1) (pieces_of_rest 44 list)) refl unknown
      where
        by_cats : (b : Option ℕ) → first_unknown p.cats (length level + 1) (pieces_of_rest 44 list) ≡ b → option_map error.UnknownCategory b ≡ Some e → SaysNone p text e
        by_cats None g u = absurd (cc)
        by_cats (Some at) g u = says None (Some at) _ e (level_known first place) g refl u

    pub grade_unknown : (first : ℕ) (second : CatSet) (e : LabelError) → place_of p.levels level ≡ Some first
        → option_map set.from_list (places_of p.cats (pieces_of_rest 44 list)) ≡ Some second
        → option_map error.UnknownGrade (first_unknown p.grades (length before + 1) (option_to_list grade)) ≡ Some e → SaysNone p text e
    grade_unknown first second e place cats unknown = says None None _ e (level_known first place) (all_known (first_unknown p.cats (length level + 1) (pieces_of_rest 44 list)) refl) refl unknown
      where
        all_known : (b : Option ℕ) → first_unknown p.cats (length level + 1) (pieces_of_rest 44 list) ≡ b → b ≡ None
        all_known None g = refl
        all_known (Some at) g = let none : None ≡ Some second = sym (ap (option_map set.from_list) (unplaced p.cats (length level + 1) at (pieces_of_rest 44 list) g)) ∙ cats in absurd (cc)

-- a name that is in the list of grades is not the first unknown one, and any other is
pub grade_missing : (known : Names) (at : ℕ) (w : List ℕ) (o : Option Grade) (r : Result Grade LabelError) → o ≡ option_map (grade_at known) (place_of known w) → r ≡ ok_or o (error.UnknownGrade at)
    → IfErr r (λ e. option_map error.UnknownGrade (first_unknown known at (w ∷ [])) ≡ Some e)
grade_missing known at w o r is e =
    subst (λ (r : Result Grade LabelError). IfErr r (λ e. option_map error.UnknownGrade (first_unknown known at (w ∷ [])) ≡ Some e))
    (sym (e ∙ ap (λ (o : Option Grade). ok_or o (error.UnknownGrade at)) is)) (by_place (place_of known w) refl)
  where
    by_place : (i : Option ℕ) → place_of known w ≡ i → IfErr (ok_or (option_map (grade_at known) i) (error.UnknownGrade at)) (λ e. option_map error.UnknownGrade (first_unknown known at (w ∷ [])) ≡ Some e)
    by_place None h = ap (λ v. option_map error.UnknownGrade (cond v None (Some at))) (position_missing (same_bytes w) known h).1
    by_place (Some i) h = tt

-- ---- a label's text as it is written

-- what follows from what a call ensures of its success
pub on_ok : {T E P Q : Type 0} (r : Result T E) → (P → Q) → OnOk r P → OnOk r Q
on_ok (Ok x) f h = f h
on_ok (Err e) f h = h

-- after the last category the text is complete
pub all_written : (text all : List ℕ) (mark i : ℕ) (cats : CatSet) (names : Names) → text ++ past_mark mark (names_in cats i (drop i names)) ≡ all → length names ≤ i → text ≡ all
all_written text all mark i cats names h past = sym (append-nil text) ∙ ap (λ ns. text ++ past_mark mark (names_in cats i ns)) (sym (drop_all i names past)) ∙ h

-- where the empty set covers a set, it has no category, and none is written
pub none_written : (cats : CatSet) (i : ℕ) (names : Names) → cats_cover no_cats cats ≡ true → names_in cats i names ≡ []
none_written cats i [] none = refl
none_written cats i (n ∷ ns) none = ap (λ v. cond v (n ∷ names_in cats (i + 1) ns) (names_in cats (i + 1) ns)) (lacks (has_cat cats i) refl) ∙ none_written cats (i + 1) ns none
  where
    lacks : (v : Bool) → has_cat cats i ≡ v → v ≡ false
    lacks true has = sym (cover-has no_cats cats none i has) ∙ has-no_cats i
    lacks false has = refl
