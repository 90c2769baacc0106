-- The reading of a text, byte by byte, decides its form.
use Rattle.std.proofs.Common.{◌≡◌, ℕ, ◌+◌, ◌≤◌, ◌<◌, Bool, true, false, ◌==◌, ◌&&◌, cond, not, nat_le, nat_lt, List, [], ◌∷◌, ◌++◌, length, take, drop, get_or, suc, refl, sym, subst, ◌∙◌, ap, arith, Option, Some, None, MatchOption}
use Rattle.std.specs.Prelude.{is_some}
use Rattle.std.specs.Bool.{then_some}
use Rattle.std.specs.List.{list_all, before_first, slice_split, onto_first}
use Rattle.std.specs.Option.{option_map, option_to_list}
use Rattle.fs_path.specs.Split.{pieces_of_rest, after_first_of}
use Rattle.lab_text.specs.declared.lists.NameList.{NameList}
use Rattle.lab_text.specs.declared.lists.NameList.TheVariants.{Levels, Categories, Grades}
use Rattle.std.proofs.lemmas.Bool.{and_right}
use Rattle.std.proofs.Math.Bool.{and-true}
use Rattle.std.proofs.lemmas.List.{append-nil, append_assoc, take_all, take_more, drop_more, take-append-drop}
use Rattle.std.proofs.lemmas.Bool.Decides.{nat_tests}
use Rattle.lab_text.specs.declared.scan.Scan.{Scan}
use Rattle.lab_text.specs.Names.{Names, is_letter, is_name_part, is_label_name}
use Rattle.lab_text.specs.Text.{is_slash, is_colon, LabelWords, before_slash, parts_of, label_words, is_label_text, CanGoOn, Breaks}
use Rattle.lab_text.proofs.PartLemmas.{is_comma, before_here, before_more, after_here, after_more, no_slash, no_colon, no_comma}
use Rattle.lab_text.specs.Scan.{list_after, step}

abbrev pub scan_at : NameList → ℕ → Scan
scan_at list len = record { list = list; len = len }

abbrev holds_of : (Scan → Bool) → Option Scan → Bool
holds_of f None = false
holds_of f (Some s) = f s

-- whether a text, read on from a state of the scan, ends in a name
abbrev pub goes_on : List ℕ → Scan → Bool
goes_on [] s = not (s.len == 0)
goes_on (b ∷ bs) s = holds_of (goes_on bs) (step s b)

-- ---- one byte

-- whether a byte may continue a name that has n bytes so far
abbrev may_name : ℕ → ℕ → Bool
may_name n b = cond (n == 0) (is_letter b) (nat_lt n 31 && is_name_part b)

-- whether bytes complete a name that has n bytes so far
abbrev ends_name : ℕ → List ℕ → Bool
ends_name n bs = cond (n == 0) (is_label_name bs) (nat_le (n + length bs) 31 && list_all is_name_part bs)

abbrev step_by : NameList → ℕ → Bool → Option NameList → Option Scan
step_by list n named next = cond named (Some (scan_at list (n + 1))) (cond (n == 0) None (option_map (λ l. scan_at l 0) next))

is_zero : (n : ℕ) → (n == 0) ≡ true → n ≡ 0
is_zero n e = grind (arith, nat_tests)

-- a byte of a name ends none
no_mark : (list : NameList) (b : ℕ) → is_name_part b ≡ true → list_after list b ≡ None
no_mark Levels b e = λ i. cond (no_colon b e i) (Some Categories) (cond (no_slash b e i) (Some Grades) None)
no_mark Categories b e = λ i. cond (no_comma b e i) (Some Categories) (cond (no_slash b e i) (Some Grades) None)
no_mark Grades b e = refl

abbrev marked : NameList → ℕ → Option Scan
marked list b = option_map (λ l. scan_at l 0) (list_after list b)

step_is : (list : NameList) (n b : ℕ) → step (scan_at list n) b ≡ step_by list n (may_name n b) (list_after list b)
step_is list n b = by_zero (n == 0) refl
  where
    by_zero : (z : Bool) → (n == 0) ≡ z
        → cond z (cond (is_letter b) (Some (scan_at list 1)) None) (cond (is_name_part b) (cond (nat_lt n 31) (Some (scan_at list (n + 1))) None) (marked list b))
        ≡ cond (cond z (is_letter b) (nat_lt n 31 && is_name_part b)) (Some (scan_at list (n + 1))) (cond z None (marked list b))
    by_zero true e = ap (λ k. cond (is_letter b) (Some (scan_at list (k + 1))) None) (sym (is_zero n e))
    by_zero false e = by_part (is_name_part b) refl
      where
        by_part : (v : Bool) → is_name_part b ≡ v
            → cond v (cond (nat_lt n 31) (Some (scan_at list (n + 1))) None) (marked list b) ≡ cond (nat_lt n 31 && v) (Some (scan_at list (n + 1))) (marked list b)
        by_part true e = elim (nat_lt n 31) as (λ w. cond w (Some (scan_at list (n + 1))) None ≡ cond (w && true) (Some (scan_at list (n + 1))) (marked list b)) [
          | true ↦ refl
          | false ↦ ap (option_map (λ l. scan_at l 0)) (sym (no_mark list b e))
        ]
        by_part false e = ap (λ w. cond w (Some (scan_at list (n + 1))) (marked list b)) (sym (and_right (nat_lt n 31) false refl))

later_name : (n : ℕ) (bs : List ℕ) → ends_name (n + 1) bs ≡ (nat_le (n + 1 + length bs) 31 && list_all is_name_part bs)
later_name n bs = ap (λ z. cond z (is_label_name bs) (nat_le (n + 1 + length bs) 31 && list_all is_name_part bs)) (above_zero n)
  where
    above_zero : (n : ℕ) → (n + 1 == 0) ≡ false
    above_zero n = grind (arith, nat_tests)

regroup : (l p a : Bool) → (l && p && a) ≡ (l && (p && a))
regroup true p a = refl
regroup false p a = refl

exchange : (m q v a : Bool) → (m && q && (v && a)) ≡ (m && v && (q && a))
exchange false q v a = refl
exchange true true v a = refl
exchange true false true a = refl
exchange true false false a = refl

within : (n k : ℕ) → nat_le (n + suc k) 31 ≡ (nat_lt n 31 && nat_le (n + 1 + k) 31)
within n k = grind (arith, nat_tests)

first_short : (n k : ℕ) → n ≡ 0 → nat_le k 30 ≡ nat_le (n + 1 + k) 31
first_short n k e = grind (arith, nat_tests)

more_name : (n b : ℕ) (bs : List ℕ) → ends_name n (b ∷ bs) ≡ (may_name n b && ends_name (n + 1) bs)
more_name n b bs = by_zero (n == 0) refl ∙ ap (λ v. may_name n b && v) (sym (later_name n bs))
  where
    by_zero : (z : Bool) → (n == 0) ≡ z
        → cond z (is_label_name (b ∷ bs)) (nat_le (n + length (b ∷ bs)) 31 && list_all is_name_part (b ∷ bs))
        ≡ (cond z (is_letter b) (nat_lt n 31 && is_name_part b) && (nat_le (n + 1 + length bs) 31 && list_all is_name_part bs))
    by_zero true e =
        ap (λ v. is_letter b && v && list_all is_name_part bs) (first_short n (length bs) (is_zero n e))
        ∙ regroup (is_letter b) (nat_le (n + 1 + length bs) 31) (list_all is_name_part bs)
    by_zero false e =
        ap (λ v. v && (is_name_part b && list_all is_name_part bs)) (within n (length bs))
        ∙ exchange (nat_lt n 31) (nat_le (n + 1 + length bs) 31) (is_name_part b) (list_all is_name_part bs)

-- a name may end where it has a byte
end_name : (n : ℕ) → n ≤ 31 → ends_name n [] ≡ not (n == 0)
end_name n h = grind (arith, nat_tests)

may_part : (n b : ℕ) → may_name n b ≡ true → is_name_part b ≡ true
may_part n b e = grind (arith, nat_tests)

more_short : (n b : ℕ) → may_name n b ≡ true → n + 1 ≤ 31
more_short n b e = grind (arith, nat_tests)

after_name : (list : NameList) (n b : ℕ) (bs : List ℕ) → may_name n b ≡ true → goes_on (b ∷ bs) (scan_at list n) ≡ goes_on bs (scan_at list (n + 1))
after_name list n b bs e = ap (holds_of (goes_on bs)) (step_is list n b ∙ ap (λ v. step_by list n v (list_after list b)) e)

after_mark : (list next : NameList) (n b : ℕ) (bs : List ℕ) → may_name n b ≡ false → list_after list b ≡ Some next
    → goes_on (b ∷ bs) (scan_at list n) ≡ (not (n == 0) && goes_on bs (scan_at next 0))
after_mark list next n b bs e f =
    ap (holds_of (goes_on bs)) (step_is list n b ∙ (λ i. step_by list n (e i) (f i))) ∙ check_outcome (n == 0)
  where
    check_outcome : (z : Bool) → holds_of (goes_on bs) (cond z None (Some (scan_at next 0))) ≡ (not z && goes_on bs (scan_at next 0))
    check_outcome true = refl
    check_outcome false = refl

after_other : (list : NameList) (n b : ℕ) (bs : List ℕ) → may_name n b ≡ false → list_after list b ≡ None → goes_on (b ∷ bs) (scan_at list n) ≡ false
after_other list n b bs e f =
    ap (holds_of (goes_on bs)) (step_is list n b ∙ (λ i. step_by list n (e i) (f i))) ∙ check_outcome (n == 0)
  where
    check_outcome : (z : Bool) → holds_of (goes_on bs) (cond z None None) ≡ false
    check_outcome true = refl
    check_outcome false = refl

-- ---- after the slash

grade_form : (t : List ℕ) (n : ℕ) → n ≤ 31 → goes_on t (scan_at Grades n) ≡ ends_name n t
grade_form [] n h = sym (end_name n h)
grade_form (b ∷ bs) n h = by_name (λ k. grade_form bs (n + 1) k) (may_name n b) refl
  where
    by_name : (n + 1 ≤ 31 → goes_on bs (scan_at Grades (n + 1)) ≡ ends_name (n + 1) bs) → (v : Bool) → may_name n b ≡ v → goes_on (b ∷ bs) (scan_at Grades n) ≡ ends_name n (b ∷ bs)
    by_name rest true e = after_name Grades n b bs e ∙ rest (more_short n b e) ∙ sym (more_name n b bs ∙ ap (λ v. v && ends_name (n + 1) bs) e)
    by_name rest false e = after_other Grades n b bs e refl ∙ sym (more_name n b bs ∙ ap (λ v. v && ends_name (n + 1) bs) e)

abbrev graded : Option (List ℕ) → Bool
graded g = list_all is_label_name (option_to_list g)

-- a name that ends at a slash is followed by the name of a grade
grade_follows : (n : ℕ) (bs : List ℕ) → n ≤ 31 → (not (n == 0) && goes_on bs (scan_at Grades 0)) ≡ ((ends_name n [] && true) && graded (Some bs))
grade_follows n bs h = λ i. sym (and-true (ends_name n []) ∙ end_name n h) i && (grade_form bs 0 (omega arith) ∙ sym (and-true (is_label_name bs))) i

-- ---- after the colon

-- whether the first of these complete a name that has n bytes so far, and the others are names
abbrev ends_names : ℕ → Names → Bool
ends_names n [] = ends_name n []
ends_names n (w ∷ ws) = ends_name n w && list_all is_label_name ws

more_names : (n b : ℕ) (ws : Names) → ends_names n (onto_first b ws) ≡ (may_name n b && ends_names (n + 1) ws)
more_names n b [] = and-true (ends_name n (b ∷ [])) ∙ more_name n b []
more_names n b (w ∷ ws) = ap (λ v. v && list_all is_label_name ws) (more_name n b w) ∙ regroup (may_name n b) (ends_name (n + 1) w) (list_all is_label_name ws)

all_names : (t : List ℕ) → ends_names 0 (slice_split is_comma t) ≡ list_all is_label_name (slice_split is_comma t)
all_names [] = refl
all_names (b ∷ bs) = elim (is_comma b) as (λ v. ends_names 0 (cond v ([] ∷ slice_split is_comma bs) (onto_first b (slice_split is_comma bs))) ≡ list_all is_label_name (cond v ([] ∷ slice_split is_comma bs) (onto_first b (slice_split is_comma bs))))
    [ true ↦ refl | false ↦ first_name b (slice_split is_comma bs) ]
  where
    first_name : (b : ℕ) (ws : Names) → ends_names 0 (onto_first b ws) ≡ list_all is_label_name (onto_first b ws)
    first_name b [] = refl
    first_name b (w ∷ ws) = refl

abbrev cats_before : List ℕ → Names
cats_before t = slice_split is_comma (before_slash t)

-- whether a text completes a category's name that has n bytes so far, and further names
abbrev cats_are : ℕ → List ℕ → Bool
cats_are n t = ends_names n (cats_before t) && graded (after_first_of 47 t)

cats_more : (n b : ℕ) (bs : List ℕ) → is_slash b ≡ false → is_comma b ≡ false → cats_are n (b ∷ bs) ≡ (may_name n b && cats_are (n + 1) bs)
cats_more n b bs s c =
    (λ i. ends_names n (slice_split is_comma (before_more 47 b bs s i)) && graded (after_more 47 b bs s i))
    ∙ ap (λ v. ends_names n (cond v ([] ∷ cats_before bs) (onto_first b (cats_before bs))) && graded (after_first_of 47 bs)) c
    ∙ ap (λ v. v && graded (after_first_of 47 bs)) (more_names n b (cats_before bs))
    ∙ regroup (may_name n b) (ends_names (n + 1) (cats_before bs)) (graded (after_first_of 47 bs))

cats_slash : (n b : ℕ) (bs : List ℕ) → is_slash b ≡ true → cats_are n (b ∷ bs) ≡ ((ends_name n [] && true) && graded (Some bs))
cats_slash n b bs s = λ i. ends_names n (slice_split is_comma (before_here 47 b bs s i)) && graded (after_here 47 b bs s i)

cats_comma : (n b : ℕ) (bs : List ℕ) → is_slash b ≡ false → is_comma b ≡ true → cats_are n (b ∷ bs) ≡ ((ends_name n [] && list_all is_label_name (cats_before bs)) && graded (after_first_of 47 bs))
cats_comma n b bs s c =
    (λ i. ends_names n (slice_split is_comma (before_more 47 b bs s i)) && graded (after_more 47 b bs s i))
    ∙ ap (λ v. ends_names n (cond v ([] ∷ cats_before bs) (onto_first b (cats_before bs))) && graded (after_first_of 47 bs)) c

-- a name that ends at a colon or a comma is followed by names
names_follow : (n : ℕ) (bs : List ℕ) → n ≤ 31 → goes_on bs (scan_at Categories 0) ≡ cats_are 0 bs
    → (not (n == 0) && goes_on bs (scan_at Categories 0)) ≡ ((ends_name n [] && list_all is_label_name (cats_before bs)) && graded (after_first_of 47 bs))
names_follow n bs h rest =
    (λ i. sym (end_name n h) i && (rest ∙ ap (λ v. v && graded (after_first_of 47 bs)) (all_names (before_slash bs))) i)
    ∙ sym (regroup (ends_name n []) (list_all is_label_name (cats_before bs)) (graded (after_first_of 47 bs)))

slash_no_colon : (b : ℕ) → is_slash b ≡ true → is_colon b ≡ false
slash_no_colon b e = grind (arith, nat_tests)

slash_no_comma : (b : ℕ) → is_slash b ≡ true → is_comma b ≡ false
slash_no_comma b e = grind (arith, nat_tests)

cats_form : (t : List ℕ) (n : ℕ) → n ≤ 31 → goes_on t (scan_at Categories n) ≡ cats_are n t
cats_form [] n h = sym (and-true (ends_name n [] && true) ∙ and-true (ends_name n []) ∙ end_name n h)
cats_form (b ∷ bs) n h = by_cases (λ m k. cats_form bs m k) (may_name n b) (is_slash b) (is_comma b) refl refl refl
  where
    by_cases : ((m : ℕ) → m ≤ 31 → goes_on bs (scan_at Categories m) ≡ cats_are m bs) → (v s c : Bool) → may_name n b ≡ v → is_slash b ≡ s → is_comma b ≡ c
        → goes_on (b ∷ bs) (scan_at Categories n) ≡ cats_are n (b ∷ bs)
    by_cases rest true s c e f g =
        let part = may_part n b e in
        after_name Categories n b bs e ∙ rest (n + 1) (more_short n b e) ∙ sym (cats_more n b bs (no_slash b part) (no_comma b part) ∙ ap (λ v. v && cats_are (n + 1) bs) e)
    by_cases rest false true c e f g =
        after_mark Categories Grades n b bs e (λ i. cond (slash_no_comma b f i) (Some Categories) (cond (f i) (Some Grades) None))
        ∙ grade_follows n bs h ∙ sym (cats_slash n b bs f)
    by_cases rest false false true e f g =
        after_mark Categories Categories n b bs e (ap (λ v. cond v (Some Categories) (cond (is_slash b) (Some Grades) None)) g)
        ∙ names_follow n bs h (rest 0 (omega arith)) ∙ sym (cats_comma n b bs f g)
    by_cases rest false false false e f g =
        after_other Categories n b bs e (λ i. cond (g i) (Some Categories) (cond (f i) (Some Grades) None))
        ∙ sym (cats_more n b bs f g ∙ ap (λ v. v && cats_are (n + 1) bs) e)

-- ---- the whole text

abbrev is_form : ℕ → LabelWords → Bool
is_form n w = ends_name n w.level && list_all is_label_name w.cats && graded w.grade

parts_slash : (b : ℕ) (bs : List ℕ) → is_slash b ≡ true → parts_of (b ∷ bs) ≡ record { level = []; cats = []; grade = Some bs }
parts_slash b bs s = λ i. record {
  level = before_first is_colon (before_here 47 b bs s i);
  cats = pieces_of_rest 44 (after_first_of 58 (before_here 47 b bs s i));
  grade = after_here 47 b bs s i;
}

-- the parts where a byte other than a slash comes first
parts_on : (b : ℕ) (bs : List ℕ) → is_slash b ≡ false → parts_of (b ∷ bs)
    ≡ record { level = before_first is_colon (b ∷ before_slash bs); cats = pieces_of_rest 44 (after_first_of 58 (b ∷ before_slash bs)); grade = after_first_of 47 bs }
parts_on b bs s = λ i. record {
  level = before_first is_colon (before_more 47 b bs s i);
  cats = pieces_of_rest 44 (after_first_of 58 (before_more 47 b bs s i));
  grade = after_more 47 b bs s i;
}

parts_colon : (b : ℕ) (bs : List ℕ) → is_slash b ≡ false → is_colon b ≡ true → parts_of (b ∷ bs) ≡ record { level = []; cats = cats_before bs; grade = after_first_of 47 bs }
parts_colon b bs s c = parts_on b bs s ∙ (λ i. record {
  level = before_here 58 b (before_slash bs) c i;
  cats = pieces_of_rest 44 (after_here 58 b (before_slash bs) c i);
  grade = after_first_of 47 bs;
})

parts_more : (b : ℕ) (bs : List ℕ) → is_slash b ≡ false → is_colon b ≡ false → parts_of (b ∷ bs) ≡ record { level = b ∷ (parts_of bs).level; cats = (parts_of bs).cats; grade = (parts_of bs).grade }
parts_more b bs s c = parts_on b bs s ∙ (λ i. record {
  level = before_more 58 b (before_slash bs) c i;
  cats = pieces_of_rest 44 (after_more 58 b (before_slash bs) c i);
  grade = after_first_of 47 bs;
})

form_more : (n b : ℕ) (bs : List ℕ) → is_slash b ≡ false → is_colon b ≡ false → is_form n (parts_of (b ∷ bs)) ≡ (may_name n b && is_form (n + 1) (parts_of bs))
form_more n b bs s c =
    let w = parts_of bs in
    ap (is_form n) (parts_more b bs s c)
    ∙ ap (λ v. v && list_all is_label_name w.cats && graded w.grade) (more_name n b w.level)
    ∙ ap (λ v. v && graded w.grade) (regroup (may_name n b) (ends_name (n + 1) w.level) (list_all is_label_name w.cats))
    ∙ regroup (may_name n b) (ends_name (n + 1) w.level && list_all is_label_name w.cats) (graded w.grade)

colon_no_slash : (b : ℕ) → is_colon b ≡ true → is_slash b ≡ false
colon_no_slash b e = grind (arith, nat_tests)

text_form : (t : List ℕ) (n : ℕ) → n ≤ 31 → goes_on t (scan_at Levels n) ≡ is_form n (parts_of t)
text_form [] n h = sym (and-true (ends_name n [] && true) ∙ and-true (ends_name n []) ∙ end_name n h)
text_form (b ∷ bs) n h = by_cases (λ k. text_form bs (n + 1) k) (may_name n b) (is_colon b) (is_slash b) refl refl refl
  where
    by_cases : (n + 1 ≤ 31 → goes_on bs (scan_at Levels (n + 1)) ≡ is_form (n + 1) (parts_of bs)) → (v c s : Bool) → may_name n b ≡ v → is_colon b ≡ c → is_slash b ≡ s
        → goes_on (b ∷ bs) (scan_at Levels n) ≡ is_form n (parts_of (b ∷ bs))
    by_cases rest true c s e f g =
        let part = may_part n b e in
        after_name Levels n b bs e ∙ rest (more_short n b e) ∙ sym (form_more n b bs (no_slash b part) (no_colon b part) ∙ ap (λ v. v && is_form (n + 1) (parts_of bs)) e)
    by_cases rest false true s e f g =
        after_mark Levels Categories n b bs e (ap (λ v. cond v (Some Categories) (cond (is_slash b) (Some Grades) None)) f)
        ∙ names_follow n bs h (cats_form bs 0 (omega arith)) ∙ ap (is_form n) (sym (parts_colon b bs (colon_no_slash b f) f))
    by_cases rest false false true e f g =
        after_mark Levels Grades n b bs e (λ i. cond (f i) (Some Categories) (cond (g i) (Some Grades) None))
        ∙ grade_follows n bs h ∙ ap (is_form n) (sym (parts_slash b bs g))
    by_cases rest false false false e f g =
        after_other Levels n b bs e (λ i. cond (f i) (Some Categories) (cond (g i) (Some Grades) None))
        ∙ sym (form_more n b bs g f ∙ ap (λ v. v && is_form (n + 1) (parts_of bs)) e)

-- a text has a label's form where its reading from the start ends in a name
pub form_by_reading : (t : List ℕ) → is_label_text t ≡ goes_on t (scan_at Levels 0)
unfolding label_words
form_by_reading t = check_outcome (is_form 0 (parts_of t)) ∙ sym (text_form t 0 (omega arith))
  where
    check_outcome : (v : Bool) → is_some (cond v (Some (parts_of t)) None) ≡ v
    check_outcome true = refl
    check_outcome false = refl

-- ---- where a text breaks

-- bytes that complete the text of a label, where its last name has `len` bytes so far
abbrev completion : ℕ → List ℕ
completion len = cond (len == 0) (97 ∷ []) []

completes : (s : Scan) → goes_on (completion s.len) s ≡ true
completes s = by_zero (s.len == 0) refl
  where
    by_zero : (z : Bool) → (s.len == 0) ≡ z → goes_on (cond z (97 ∷ []) []) s ≡ true
    by_zero true e = ap (λ z. holds_of (goes_on []) (cond z (Some (scan_at s.list 1)) (cond (nat_lt s.len 31) (Some (scan_at s.list (s.len + 1))) None))) e
    by_zero false e = ap not e

-- reading a text up to `at` came to the state s of the scan
abbrev pub ReadTo : List ℕ → ℕ → Scan → Type 0
ReadTo text at s = (rest : List ℕ) → goes_on (take at text ++ rest) (scan_at Levels 0) ≡ goes_on rest s

can_go_on : (text : List ℕ) (at : ℕ) (s : Scan) → ReadTo text at s → CanGoOn (take at text)
can_go_on text at s read = record {
  rest = completion s.len;
  is_label = form_by_reading (take at text ++ completion s.len) ∙ read (completion s.len) ∙ completes s;
}

refuses : (text : List ℕ) (at : ℕ) (s : Scan) (rest : List ℕ) → ReadTo text at s → step s (get_or text at 0) ≡ None → is_label_text (take at text ++ (get_or text at 0 ∷ rest)) ≡ false
refuses text at s rest read none = form_by_reading (take at text ++ (get_or text at 0 ∷ rest)) ∙ read (get_or text at 0 ∷ rest) ∙ ap (holds_of (goes_on rest)) none

-- a text breaks at the byte at which the scan has no next state
pub breaks_at : (text : List ℕ) (at : ℕ) (s : Scan) → ReadTo text at s → at < length text → step s (get_or text at 0) ≡ None → Breaks text at
breaks_at text at s read lt none =
    let here : take at text ++ (get_or text at 0 ∷ drop (at + 1) text) ≡ text = ap (λ r. take at text ++ r) (sym (drop_more text at 0 lt)) ∙ take-append-drop at text in
    record {
      is_none = ap is_label_text (sym here) ∙ refuses text at s (drop (at + 1) text) read none;
      within = omega arith;
      so_far = can_go_on text at s read;
      no_further = λ _ rest. ap (λ t. is_label_text (t ++ rest)) (take_more text at 0 lt) ∙ ap is_label_text (append_assoc (take at text) (get_or text at 0 ∷ []) rest) ∙ refuses text at s rest read none;
    }

read_whole : (text : List ℕ) (at : ℕ) (s : Scan) → ReadTo text at s → length text ≤ at → is_label_text text ≡ not (s.len == 0)
read_whole text at s read past = form_by_reading text ∙ ap (λ t. goes_on t (scan_at Levels 0)) (sym (append-nil (take at text) ∙ take_all at text past)) ∙ read []

breaks_end : (text : List ℕ) (at : ℕ) (s : Scan) → ReadTo text at s → length text ≤ at → (s.len == 0) ≡ true → Breaks text (length text)
breaks_end text at s read past none = record {
  is_none = read_whole text at s read past ∙ ap not none;
  within = omega arith;
  so_far = subst CanGoOn (take_all at text past ∙ sym (take_all (length text) text (omega arith))) (can_go_on text at s read);
  no_further = λ lt rest. absurd (omega arith);
}

-- a text that was read to its end has a label's form where it ends in a name, and else breaks at its end
pub end_judged : (text : List ℕ) (at : ℕ) (s : Scan) (r : Option ℕ) → ReadTo text at s → length text ≤ at → r ≡ then_some (s.len == 0) (length text) → MatchOption r (is_label_text text ≡ true) (Breaks text)
end_judged text at s r read past is = subst (λ (o : Option ℕ). MatchOption o (is_label_text text ≡ true) (Breaks text)) (sym is) (by_zero (s.len == 0) refl)
  where
    by_zero : (z : Bool) → (s.len == 0) ≡ z → MatchOption (then_some z (length text)) (is_label_text text ≡ true) (Breaks text)
    by_zero true e = breaks_end text at s read past e
    by_zero false e = read_whole text at s read past ∙ ap not e
