-- Records that follow one another, from known processes and their capability sets on.
use Rattle.std.specs.Prelude.{◌≡◌, ⊤, ◌||◌, Bool, true, false, List, [], ◌∷◌, ◌++◌, Option, Some, None, refl, cond}
use Rattle.std.specs.List.{AllByRecursion}
use Rattle.std.proofs.Common.{sym, ◌∙◌, ap, subst}
use Rattle.std.proofs.lemmas.Bool.{true≢false, or_right}
use Rattle.cap_bits.specs.CapSet.{CapSet, has}
use Rattle.cap_bits.specs.declared.cap.Cap.{Cap}
use Rattle.cap_bits.specs.declared.state.CapState.{CapState}
use Rattle.cap_bits.specs.State.{no_flags}
use Rattle.kern_model.specs.declared.checks.Check.{Check}
use Rattle.kern_model.specs.declared.checks.Verdict.TheVariants.{Passed, Exercised, Denied}
use Rattle.kern_model.specs.declared.numbers.Pid.{Pid}
use Rattle.kern_model.specs.declared.records.Rec.{Rec}
use Rattle.kern_model.specs.declared.records.Rec.TheVariants as rec
use Rattle.kern_model.specs.Lineage.{caps_after_one, caps_after, caps_of}
use Rattle.kern_model.specs.Row.{Row, Need, Soft, Refuse, Fail, Commit, Subject, judge, may, verdict_of, is_denied, exercises_after, exercise_with}
use Rattle.kern_model.specs.Rules.{cap_of}
use Rattle.iso_laws.specs.Follows.{makes_known, is_known, FollowsBy, AllFollow}
use Rattle.iso_laws.proofs.AllLemmas.{all-append}
use Rattle.iso_laws.proofs.Rows.{cond_satisfies}

-- ---- what processes are known
-- which processes are known after a record, and after records
abbrev pub known_after_one : (Pid → Bool) → Rec → Pid → Bool
known_after_one known r q = makes_known q r || known q

abbrev pub known_after : (Pid → Bool) → List Rec → Pid → Bool
known_after known [] q = known q
known_after known (r ∷ rs) q = known_after (known_after_one known r) rs q

-- the first of three tests may be made before the second
swap_first : (a b c : Bool) → (b || (a || c)) ≡ ((a || b) || c)
swap_first true b c = or_right b true refl
swap_first false b c = refl

-- a process is known after records where it is known by them, or was before
known_after_is : (known : Pid → Bool) (rs : List Rec) (q : Pid) → known_after known rs q ≡ (is_known rs q || known q)
known_after_is known [] q = refl
known_after_is known (r ∷ rs) q = known_after_is (known_after_one known r) rs q ∙ swap_first (makes_known q r) (is_known rs q) (known q)

or_false : (b : Bool) → (b || false) ≡ b
or_false true = refl
or_false false = refl

-- where none is known before, those are known that the records make known
pub known_by_all : (rs : List Rec) (q : Pid) → known_after (λ _. false) rs q ≡ is_known rs q
known_by_all rs q = known_after_is (λ _. false) rs q ∙ or_false (is_known rs q)

-- what is known stays known
pub stays_known : (known : Pid → Bool) (rs : List Rec) (q : Pid) → known q ≡ true → known_after known rs q ≡ true
stays_known known [] q h = h
stays_known known (r ∷ rs) q h = stays_known (known_after_one known r) rs q (or_right (makes_known q r) (known q) h)

pub known_after-append : (known : Pid → Bool) (xs ys : List Rec) (q : Pid) → known_after known (xs ++ ys) q ≡ known_after (known_after known xs) ys q
known_after-append known [] ys q = refl
known_after-append known (x ∷ xs) ys q = known_after-append (known_after_one known x) xs ys q

-- ---- records that follow one another
-- each of these records may come after those before it
abbrev pub FollowFrom : CapSet → (Pid → Bool) → (Pid → CapState) → List Rec → Type 0
FollowFrom bound known f [] = ⊤
FollowFrom bound known f (r ∷ rs) = FollowsBy bound known f r × FollowFrom bound (known_after_one known r) (caps_after_one bound f r) rs

module _ (bound : CapSet) where
  pub follow-append : (known : Pid → Bool) (f : Pid → CapState) (xs ys : List Rec) → FollowFrom bound known f xs → FollowFrom bound (known_after known xs) (caps_after bound f xs) ys
      → FollowFrom bound known f (xs ++ ys)
  follow-append known f [] ys h g = g
  follow-append known f (x ∷ xs) ys h g = (h.0, follow-append (known_after_one known x) (caps_after_one bound f x) xs ys h.1 g)

  -- a record among them may come after those before it
  follows_between : (known : Pid → Bool) (f : Pid → CapState) (before : List Rec) (r : Rec) (after : List Rec) → FollowFrom bound known f (before ++ r ∷ after)
      → FollowsBy bound (known_after known before) (caps_after bound f before) r
  follows_between known f [] r after h = h.0
  follows_between known f (b ∷ before) r after h = follows_between (known_after_one known b) (caps_after_one bound f b) before r after h.1

-- records each of which may come after those before it follow one another, where they are all that there is
pub follow_all : (bound : CapSet) (recs : List Rec) → FollowFrom bound (λ _. false) (λ _. no_flags) recs → AllFollow bound recs
follow_all bound recs h before after r e =
    subst (λ (known : Pid → Bool). FollowsBy bound known (caps_of bound before) r) (λ i q. known_by_all before q i)
    (follows_between bound (λ _. false) (λ _. no_flags) before r after (subst (FollowFrom bound (λ _. false) (λ _. no_flags)) e h))

-- ---- exercises
-- an exercise by a process of a capability of a set
abbrev pub IsExerciseBy : Pid → CapSet → Rec → Type 0
IsExerciseBy who effective (rec.Exercise e) = (e.who ≡ who) × (has effective e.cap ≡ true)
IsExerciseBy who effective _ = ⊥

module _ (a : Subject) where
  abbrev AreExercises : List Rec → Type 0
  AreExercises recs = AllByRecursion (IsExerciseBy a.who a.effective) recs

  exercise_is : (c : Check) (with : Option Cap) → may a.effective with ≡ true → AreExercises (exercise_with a c with)
  exercise_is c None h = absurd (true≢false (sym h))
  exercise_is c (Some cap) h = ((refl, h), tt)

  -- a check leaves an exercise of a capability that is effective, or none
  noted_exercises : (c : Check) (used : List Rec) → AreExercises used → AreExercises (exercises_after a c (verdict_of a c) used)
  unfolding verdict_of
  noted_exercises c used h =
      elim c.holds as (λ b. AreExercises (exercises_after a c (cond b Passed (cond (may a.effective (cap_of c.name)) Exercised Denied)) used)) [
        | true ↦ h
        | false ↦ elim (may a.effective (cap_of c.name)) as (λ b. may a.effective (cap_of c.name) ≡ b → AreExercises (exercises_after a c (cond b Exercised Denied) used)) [
          | true ↦ λ t. all-append (IsExerciseBy a.who a.effective) used _ h (exercise_is c (cap_of c.name) t)
          | false ↦ λ _. h
        ] refl
      ]

  -- the exercises of a row are by the caller, of capabilities that are effective
  pub used_exercises : (used : List Rec) (r : Row) → AreExercises used → AreExercises (judge a used r).used
  unfolding judge
  used_exercises used (Need c r) h =
      cond_satisfies (λ j. AreExercises j.used) (is_denied (verdict_of a c)) _ _ (λ _. h) (λ _. used_exercises (exercises_after a c (verdict_of a c) used) r (noted_exercises c used h))
  used_exercises used (Soft c r w) h =
      cond_satisfies (λ j. AreExercises j.used) (is_denied (verdict_of a c)) _ _ (λ _. used_exercises used w h)
      (λ _. used_exercises (exercises_after a c (verdict_of a c) used) r (noted_exercises c used h))
  used_exercises used (Refuse e b r) h = cond_satisfies (λ j. AreExercises j.used) b _ _ (λ _. h) (λ _. used_exercises used r h)
  used_exercises used (Fail e) h = h
  used_exercises used (Commit cs answer own) h = h

-- exercises by a known process of capabilities that are effective may come before what may come without them
module _ (bound : CapSet) (known : Pid → Bool) (f : Pid → CapState) (who : Pid) (effective : CapSet) where
  exercise_follows : (r : Rec) → known who ≡ true → effective ≡ (f who).e → IsExerciseBy who effective r → (rs : List Rec) → FollowFrom bound known f rs
      → FollowFrom bound known f (r ∷ rs)
  exercise_follows (rec.Exercise e) here same h rs g =
      ((ap known h.0 ∙ here, ap (λ w. has (f w).e e.cap) h.0 ∙ ap (λ caps. has caps e.cap) (sym same) ∙ h.1), g)
  exercise_follows r here same h rs g = absurd h

  pub exercises_first : (used rs : List Rec) → known who ≡ true → effective ≡ (f who).e → AllByRecursion (IsExerciseBy who effective) used → FollowFrom bound known f rs
      → FollowFrom bound known f (used ++ rs)
  exercises_first [] rs here same h g = g
  exercises_first (r ∷ used) rs here same h g = exercise_follows r here same h.0 (used ++ rs) (exercises_first used rs here same h.1 g)

  exercise_knows : (r : Rec) → IsExerciseBy who effective r → (q : Pid) → known_after_one known r q ≡ known q
  exercise_knows (rec.Exercise e) h q = refl
  exercise_knows r h q = absurd h

  -- exercises make no process known
  pub exercises_know : (used : List Rec) → AllByRecursion (IsExerciseBy who effective) used → (q : Pid) → known_after known used q ≡ known q
  exercises_know [] h q = refl
  exercises_know (r ∷ used) h q = ap (λ (k : Pid → Bool). known_after k used q) (λ i x. exercise_knows r h.0 x i) ∙ exercises_know used h.1 q
