-- A row without some capabilities: it ends as the row with them does, unless one of them was exercised.
use Rattle.std.specs.Prelude.{◌≡◌, ◌⊎◌, ◌&&◌, ◌||◌, not, Bool, true, false, List, [], ◌∷◌, ◌++◌, map, Option, None, Some, refl, cond}
use Rattle.std.specs.List.{list_any}
use Rattle.std.specs.Option.{option_map}
use Rattle.std.proofs.Common.{sym, ◌∙◌, ap, subst, inl, inr}
use Rattle.std.proofs.lemmas.Bool.{or_parts, true≢false}
use Rattle.std.proofs.lemmas.List.{map-append}
use Rattle.std.proofs.lemmas.List.Folds.{list_any-append}
use Rattle.cap_bits.specs.CapSet.{CapSet, has}
use Rattle.cap_bits.specs.declared.cap.Cap.{Cap}
use Rattle.cap_bits.proofs.CapSets.{has-minus_of}
use Rattle.kern_model.specs.declared.calls.Answer.{Answer}
use Rattle.kern_model.specs.declared.calls.Errno.{Errno}
use Rattle.kern_model.specs.declared.checks.Check.{Check}
use Rattle.kern_model.specs.declared.checks.Verdict.{Verdict}
use Rattle.kern_model.specs.declared.checks.Verdict.TheVariants.{Passed, Exercised, Denied}
use Rattle.kern_model.specs.declared.numbers.Pid.{Pid}
use Rattle.kern_model.specs.declared.records.Rec.{Rec}
use Rattle.kern_model.specs.declared.records.Rec.TheVariants as rec
use Rattle.kern_model.specs.Row.{Row, Need, Soft, Refuse, Fail, Commit, need_if, Subject, End, Stopped, Refused, Done, CheckOutcome, judge, verdict_of, is_denied, exercises_after, exercise_with, may}
use Rattle.kern_model.specs.Rules.{cap_of}
use Rattle.kern_model.specs.State.{Process, Change}
use Rattle.kern_model.specs.Step.{subject}
use Rattle.least_caps.specs.NarrowedStates.{LessFsetid, process_without, record_without}
use Rattle.least_caps.proofs.StatesWithout.{changes_without}

-- ---- records less some exercises
pub less_itself : (recs : List Rec) → LessFsetid recs recs
less_itself [] = refl
less_itself (r ∷ recs) = inl (recs, refl, less_itself recs)

pub less-append : (xs xs' ys ys' : List Rec) → LessFsetid xs xs' → LessFsetid ys ys' → LessFsetid (xs ++ ys) (xs' ++ ys')
less-append [] xs' ys ys' h g = subst (λ zs. LessFsetid ys (zs ++ ys')) (sym h) g
less-append (x ∷ xs) xs' ys ys' h g = elim h [
  | inl kept ↦ inl (kept.0 ++ ys', ap (λ zs. zs ++ ys') kept.1, less-append xs kept.0 ys ys' kept.2 g)
  | inr gone ↦ inr (gone.0, less-append xs xs' ys ys' gone.1 g)
]

-- whether a record is an exercise of one of some capabilities
abbrev pub is_exercise_of : CapSet → Rec → Bool
is_exercise_of d (rec.Exercise e) = has d e.cap
is_exercise_of d _ = false

-- no record is
abbrev pub NoneOf : CapSet → List Rec → Type 0
NoneOf d recs = list_any (is_exercise_of d) recs ≡ false

pub none_parts : (d : CapSet) (xs ys : List Rec) → NoneOf d (xs ++ ys) → NoneOf d xs × NoneOf d ys
none_parts d xs ys h = or_parts (list_any (is_exercise_of d) xs) (list_any (is_exercise_of d) ys) (sym (list_any-append (is_exercise_of d) xs ys) ∙ h)

-- what holds in each case of a test holds of the choice by that test
pub cond_holds : {X : Type 0} (P : X → Type 0) (b : Bool) (x y : X) → (b ≡ true → P x) → (b ≡ false → P y) → P (cond b x y)
cond_holds P true x y f g = f refl
cond_holds P false x y f g = g refl

module _ (d : CapSet) where
  -- an own record without the capabilities
  abbrev pub own_without : Option Rec → Option Rec
  own_without own = option_map (record_without d) own

  abbrev pub end_without : End → End
  end_without (Stopped name place) = Stopped name place
  end_without (Refused e) = Refused e
  end_without (Done changes answer own) = Done (changes_without d changes) answer (own_without own)

  -- a row that changes and records what is without the capabilities
  abbrev pub row_without : Row → Row
  row_without (Need k rest) = Need k (row_without rest)
  row_without (Soft k granted weaker) = Soft k (row_without granted) (row_without weaker)
  row_without (Refuse e holds rest) = Refuse e holds (row_without rest)
  row_without (Fail e) = Fail e
  row_without (Commit changes answer own) = Commit (changes_without d changes) answer (own_without own)

  -- records without the capabilities, less some exercises
  abbrev pub LessWithout : List Rec → List Rec → Type 0
  LessWithout recs recs' = LessFsetid (map (record_without d) recs) recs'

  pub less_more : (xs xs' ys ys' : List Rec) → LessWithout xs xs' → LessWithout ys ys' → LessWithout (xs ++ ys) (xs' ++ ys')
  less_more xs xs' ys ys' h g = subst (λ zs. LessFsetid zs (xs' ++ ys')) (sym (map-append (record_without d) xs ys)) (less-append _ xs' _ ys' h g)

  pub record OutcomeFollows (j j' : CheckOutcome) : Type 0 where
    pub used : LessWithout j.used j'.used
    pub end : j'.end ≡ end_without j.end

  -- of a caller with the capabilities, and without them
  module _ (who : Pid) (p : Process) where
    abbrev pub subject_with : Subject
    subject_with = subject who p

    abbrev pub subject_without : Subject
    subject_without = subject who (process_without d p)

    -- unless one of the capabilities is exercised, the second row ends as the first one does
    pub record Follows (r r' : Row) : Type 0 where
      pub ends : (used used' : List Rec) → LessWithout used used' → NoneOf d (judge subject_with used r).used
          → OutcomeFollows (judge subject_with used r) (judge subject_without used' r')

    noted_prefix : (k : Check) (v : Verdict) (used : List Rec) → NoneOf d (exercises_after subject_with k v used) → NoneOf d used
    noted_prefix k Passed used h = h
    noted_prefix k Exercised used h = (none_parts d used _ h).0
    noted_prefix k Denied used h = h

    -- where no exercise after a row is of one of the capabilities, none before it is
    none_before : (used : List Rec) (r : Row) → NoneOf d (judge subject_with used r).used → NoneOf d used
    unfolding judge
    none_before used (Need k r) =
        cond_holds (λ (j : CheckOutcome). NoneOf d j.used → NoneOf d used) (is_denied (verdict_of subject_with k)) _ _ (λ _ h. h)
        (λ _ h. noted_prefix k _ used (none_before (exercises_after subject_with k (verdict_of subject_with k) used) r h))
    none_before used (Soft k r w) =
        cond_holds (λ (j : CheckOutcome). NoneOf d j.used → NoneOf d used) (is_denied (verdict_of subject_with k)) _ _ (λ _ h. none_before used w h)
        (λ _ h. noted_prefix k _ used (none_before (exercises_after subject_with k (verdict_of subject_with k) used) r h))
    none_before used (Refuse e holds r) = cond_holds (λ (j : CheckOutcome). NoneOf d j.used → NoneOf d used) holds _ _ (λ _ h. h) (λ _ h. none_before used r h)
    none_before used (Fail e) = λ h. h
    none_before used (Commit changes answer own) = λ h. h

    -- a check is passed by its rule, or else by a capability
    abbrev pub passed_by : Bool → Bool → Verdict
    passed_by holds able = cond holds Passed (cond able Exercised Denied)

    -- two verdicts are the same, or the first is an exercise of one of the capabilities
    abbrev SameOrOf : Check → Option Cap → Verdict → Verdict → Type 0
    SameOrOf k w v v' = (v' ≡ v) ⊎ ((v ≡ Exercised) × (list_any (is_exercise_of d) (exercise_with subject_with k w) ≡ true))

    by_sets : (k : Check) (q : Cap) (able among : Bool) → has d q ≡ among → SameOrOf k (Some q) (passed_by false able) (passed_by false (able && not among))
    by_sets k q true true is = inr (refl, ap (λ b. b || false) is)
    by_sets k q true false is = inl refl
    by_sets k q false among is = inl refl

    verdict_by : (k : Check) (holds : Bool) (w : Option Cap)
        → SameOrOf k w (passed_by holds (may subject_with.effective w)) (passed_by holds (may subject_without.effective w))
    verdict_by k true w = inl refl
    verdict_by k false None = inl refl
    verdict_by k false (Some q) =
        subst (λ able. SameOrOf k (Some q) (passed_by false (has p.caps.e q)) (passed_by false able)) (sym (has-minus_of p.caps.e d q))
        (by_sets k q (has p.caps.e q) (has d q) refl)

    same_exercise : (k : Check) (w : Option Cap) → LessWithout (exercise_with subject_with k w) (exercise_with subject_without k w)
    same_exercise k None = refl
    same_exercise k (Some w) = less_itself (exercise_with subject_without k (Some w))

    -- what comes of a check by its verdict: what stands where it is denied, or else the rest of the row
    abbrev pub after_check : Subject → Check → Verdict → List Rec → Row → CheckOutcome → CheckOutcome
    after_check a k v used r x = cond (is_denied v) x (judge a (exercises_after a k v used) r)

    check_by : (k : Check) (v : Verdict) (used used' : List Rec) (r r' : Row) (x x' : CheckOutcome) → LessWithout used used'
        → (NoneOf d x.used → OutcomeFollows x x') → Follows r r' → NoneOf d (after_check subject_with k v used r x).used
        → OutcomeFollows (after_check subject_with k v used r x) (after_check subject_without k v used' r' x')
    check_by k Passed used used' r r' x x' less stops rest = rest.ends used used' less
    check_by k Exercised used used' r r' x x' less stops rest = rest.ends _ _ (less_more used used' _ _ less (same_exercise k (cap_of k.name)))
    check_by k Denied used used' r r' x x' less stops rest = stops

    -- an exercise of one of the capabilities is excluded
    excluded : (k : Check) (v : Verdict) (used : List Rec) (r : Row) (x : CheckOutcome) → v ≡ Exercised
        → list_any (is_exercise_of d) (exercise_with subject_with k (cap_of k.name)) ≡ true → NoneOf d (after_check subject_with k v used r x).used → ⊥
    excluded k Exercised used r x is exercised h = true≢false (sym exercised ∙ (none_parts d used _ (none_before _ r h)).1)
    excluded k Passed used r x is exercised h = absurd (cc)
    excluded k Denied used r x is exercised h = absurd (cc)

    follows_check : (k : Check) (used used' : List Rec) (r r' : Row) (x x' : CheckOutcome) → LessWithout used used'
        → (NoneOf d x.used → OutcomeFollows x x') → Follows r r' → NoneOf d (after_check subject_with k (verdict_of subject_with k) used r x).used
        → OutcomeFollows (after_check subject_with k (verdict_of subject_with k) used r x)
        (after_check subject_without k (verdict_of subject_without k) used' r' x')
    unfolding verdict_of
    follows_check k used used' r r' x x' less stops rest none = elim (verdict_by k k.holds (cap_of k.name)) [
      | inl same ↦
          let v : Verdict = verdict_of subject_with k in
          subst (λ v'. OutcomeFollows (after_check subject_with k v used r x) (after_check subject_without k v' used' r' x'))
          (sym same) (check_by k v used used' r r' x x' less stops rest none)
      | inr exercised ↦ absurd (excluded k (verdict_of subject_with k) used r x exercised.0 exercised.1 none)
    ]

    -- ---- rows by their first item
    pub follows_fail : (e : Errno) → Follows (Fail e) (Fail e)
    unfolding judge
    follows_fail e = record { ends = λ used used' less _. record { used = less; end = refl } }

    pub follows_commit : (changes changes' : List Change) (answer : Answer) (own own' : Option Rec) → changes' ≡ changes_without d changes
        → own' ≡ own_without own
        → Follows (Commit changes answer own) (Commit changes' answer own')
    unfolding judge
    follows_commit changes changes' answer own own' same same_own =
        record { ends = λ used used' less _. record { used = less; end = λ i. Done (same i) answer (same_own i) } }

    pub follows_refuse : (e : Errno) (b b' : Bool) (r r' : Row) → b' ≡ b → Follows r r' → Follows (Refuse e b r) (Refuse e b' r')
    unfolding judge
    follows_refuse e b b' r r' same rest =
        subst (λ t. Follows (Refuse e b r) (Refuse e t r')) (sym same) (elim b as (λ t. Follows (Refuse e t r) (Refuse e t r')) [
          | true ↦ record { ends = λ used used' less _. record { used = less; end = refl } }
          | false ↦ record { ends = rest.ends }
        ])

    pub follows_need : (k k' : Check) (r r' : Row) → k' ≡ k → Follows r r' → Follows (Need k r) (Need k' r')
    unfolding judge
    follows_need k k' r r' same rest = subst (λ q. Follows (Need k r) (Need q r')) (sym same) (record {
      ends = λ used used' less. follows_check k used used' r r' _ _ less (λ _. record { used = less; end = refl }) rest;
    })

    pub follows_soft : (k k' : Check) (r w r' w' : Row) → k' ≡ k → Follows r r' → Follows w w' → Follows (Soft k r w) (Soft k' r' w')
    unfolding judge
    follows_soft k k' r w r' w' same granted weaker = subst (λ q. Follows (Soft k r w) (Soft q r' w')) (sym same) (record {
      ends = λ used used' less. follows_check k used used' r r' _ _ less (weaker.ends used used' less) granted;
    })

    pub follows_cond : (b b' : Bool) (x y x' y' : Row) → b' ≡ b → Follows x x' → Follows y y' → Follows (cond b x y) (cond b' x' y')
    follows_cond b b' x y x' y' same f g =
        subst (λ c. Follows (cond b x y) (cond c x' y')) (sym same) (elim b as (λ c. Follows (cond c x y) (cond c x' y')) [ true ↦ f | false ↦ g ])

    pub follows_need_if : (b b' : Bool) (k k' : Check) (r r' : Row) → b' ≡ b → k' ≡ k → Follows r r' → Follows (need_if b k r) (need_if b' k' r')
    unfolding need_if
    follows_need_if b b' k k' r r' same equal rest = follows_cond b b' (Need k r) r (Need k' r') r' same (follows_need k k' r r' equal rest) rest

    -- a row follows itself
    pub follows_itself : (r : Row) → Follows r (row_without r)
    follows_itself (Need k r) = follows_need k k r (row_without r) refl (follows_itself r)
    follows_itself (Soft k r w) = follows_soft k k r w (row_without r) (row_without w) refl (follows_itself r) (follows_itself w)
    follows_itself (Refuse e holds r) = follows_refuse e holds holds r (row_without r) refl (follows_itself r)
    follows_itself (Fail e) = follows_fail e
    follows_itself (Commit changes answer own) = follows_commit changes _ answer own _ refl refl

    -- and a row that is equal to it without the capabilities
    pub follows_equal : (r r' : Row) → r' ≡ row_without r → Follows r r'
    follows_equal r r' same = subst (λ x. Follows r x) (sym same) (follows_itself r)
