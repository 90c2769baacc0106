-- The texts before and after the first of some byte, read byte by byte, and the bytes of names.
use Rattle.std.specs.Prelude.{◌≡◌, ℕ, ◌+◌, Bool, true, false, not, ◌&&◌, ◌||◌, ◌==◌, nat_le, cond, List, [], ◌∷◌, ◌++◌, length, take, drop, None, Some, refl, suc}
use Rattle.std.specs.List.{list_all, list_any, before_first, position_or_len}
use Rattle.std.proofs.Common.{ap, ◌∙◌, arith}
use Rattle.std.proofs.lemmas.Bool.{and_parts, and_from, not-true}
use Rattle.std.proofs.lemmas.Bool.Decides.{nat_tests}
use Rattle.std.proofs.lemmas.List.Folds.{list_all-append}
use Rattle.fs_path.specs.Split.{after_first_of}
use Rattle.lab_text.specs.Names.{Names, is_letter, is_name_part, is_label_name}
use Rattle.lab_text.specs.Text.{is_slash, is_colon, past_mark}

-- ---- before and after a byte

module _ (at : ℕ) where
  abbrev place_in : List ℕ → ℕ
  place_in bs = position_or_len (λ x. x == at) bs

  abbrev before_by : Bool → ℕ → List ℕ → List ℕ
  before_by here b bs = take (cond (not here) (1 + place_in bs) 0) (b ∷ bs)

  pub before_here : (b : ℕ) (bs : List ℕ) → (b == at) ≡ true → before_first (λ x. x == at) (b ∷ bs) ≡ []
  before_here b bs e = ap (λ v. before_by v b bs) e

  pub before_more : (b : ℕ) (bs : List ℕ) → (b == at) ≡ false → before_first (λ x. x == at) (b ∷ bs) ≡ b ∷ before_first (λ x. x == at) bs
  before_more b bs e = let next : 1 + place_in bs ≡ suc (place_in bs) = omega arith in ap (λ v. before_by v b bs) e ∙ ap (λ n. take n (b ∷ bs)) next

  pub after_here : (b : ℕ) (bs : List ℕ) → (b == at) ≡ true → after_first_of at (b ∷ bs) ≡ Some bs
  after_here b bs e = ap (λ v. cond (v || list_any (λ x. x == at) bs) (Some (drop (cond (not v) (1 + place_in bs) 0 + 1) (b ∷ bs))) None) e

  pub after_more : (b : ℕ) (bs : List ℕ) → (b == at) ≡ false → after_first_of at (b ∷ bs) ≡ after_first_of at bs
  after_more b bs e =
      let next : 1 + place_in bs + 1 ≡ suc (place_in bs + 1) = omega arith in
      ap (λ v. cond (v || list_any (λ x. x == at) bs) (Some (drop (cond (not v) (1 + place_in bs) 0 + 1) (b ∷ bs))) None) e
      ∙ ap (λ n. cond (list_any (λ x. x == at) bs) (Some (drop n (b ∷ bs))) None) next

  -- bytes other than it are before it
  pub before_past : (n t : List ℕ) → list_all (λ b. not (b == at)) n ≡ true → before_first (λ x. x == at) (n ++ t) ≡ n ++ before_first (λ x. x == at) t
  before_past [] t h = refl
  before_past (b ∷ bs) t h =
      let both = and_parts (not (b == at)) (list_all (λ b. not (b == at)) bs) h in
      before_more b (bs ++ t) (not-true _ both.0) ∙ ap (λ l. b ∷ l) (before_past bs t both.1)

  pub after_past : (n t : List ℕ) → list_all (λ b. not (b == at)) n ≡ true → after_first_of at (n ++ t) ≡ after_first_of at t
  after_past [] t h = refl
  after_past (b ∷ bs) t h =
      let both = and_parts (not (b == at)) (list_all (λ b. not (b == at)) bs) h in
      after_more b (bs ++ t) (not-true _ both.0) ∙ after_past bs t both.1

-- ---- the bytes of names

letter_part : (b : ℕ) → is_letter b ≡ true → is_name_part b ≡ true
letter_part b e = grind (arith, nat_tests)

pub name_parts : (n : List ℕ) → is_label_name n ≡ true → list_all is_name_part n ≡ true
name_parts [] h = refl
name_parts (b ∷ bs) h =
    let both = and_parts (is_letter b && nat_le (length bs) 30) (list_all is_name_part bs) h in
    and_from (is_name_part b) (list_all is_name_part bs) (letter_part b (and_parts (is_letter b) (nat_le (length bs) 30) both.0).0) both.1

abbrev pub is_comma : ℕ → Bool
is_comma b = b == 44

pub no_slash : (b : ℕ) → is_name_part b ≡ true → is_slash b ≡ false
no_slash b e = grind (arith, nat_tests)

pub no_colon : (b : ℕ) → is_name_part b ≡ true → is_colon b ≡ false
no_colon b e = grind (arith, nat_tests)

pub no_comma : (b : ℕ) → is_name_part b ≡ true → is_comma b ≡ false
no_comma b e = grind (arith, nat_tests)

module _ (f : ℕ → Bool) (part : (b : ℕ) → is_name_part b ≡ true → f b ≡ true) where
  -- what holds of each name part holds of the bytes of a name
  pub parts_all : (n : List ℕ) → list_all is_name_part n ≡ true → list_all f n ≡ true
  parts_all [] h = refl
  parts_all (b ∷ bs) h =
      let both = and_parts (is_name_part b) (list_all is_name_part bs) h in
      and_from (f b) (list_all f bs) (part b both.0) (parts_all bs both.1)

  -- what holds of each name part and of the marks holds of the bytes of names after marks
  pub marked_all : (mark : ℕ) (ns : Names) → f mark ≡ true → f 44 ≡ true → list_all is_label_name ns ≡ true → list_all f (past_mark mark ns) ≡ true
  marked_all mark [] first comma h = refl
  marked_all mark (n ∷ ns) first comma h =
      let both = and_parts (is_label_name n) (list_all is_label_name ns) h in
      and_from (f mark) (list_all f (n ++ past_mark 44 ns)) first
      (list_all-append f n (past_mark 44 ns) ∙ and_from _ _ (parts_all n (name_parts n both.0)) (marked_all 44 ns comma comma both.1))
