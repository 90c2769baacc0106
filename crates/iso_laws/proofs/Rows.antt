-- What holds of a row, from what holds of its items. A test says which exercises are excluded.
use Rattle.std.specs.Prelude.{◌≡◌, Bool, true, false, List, [], ◌∷◌, ◌++◌, Option, Some, None, refl, cond}
use Rattle.std.specs.List.{list_any}
use Rattle.std.specs.Option.{option_map}
use Rattle.std.proofs.Common.{sym, ◌∙◌, ap, subst}
use Rattle.std.proofs.lemmas.Bool.{or_parts}
use Rattle.std.proofs.lemmas.List.Folds.{list_any-append}
use Rattle.lab_lattice.specs.Label.{Label}
use Rattle.kern_model.specs.declared.numbers.Oid.{Oid}
use Rattle.kern_model.specs.declared.numbers.Pid.{Pid}
use Rattle.kern_model.specs.declared.checks.Check.{Check}
use Rattle.kern_model.specs.declared.checks.CheckName.{CheckName}
use Rattle.kern_model.specs.declared.checks.Place.{Place}
use Rattle.kern_model.specs.declared.checks.Verdict.{Verdict}
use Rattle.kern_model.specs.declared.checks.Verdict.TheVariants.{Passed, Exercised, Denied}
use Rattle.kern_model.specs.declared.calls.Errno.{Errno}
use Rattle.kern_model.specs.declared.calls.Errno.TheVariants as errno
use Rattle.kern_model.specs.declared.calls.Answer.{Answer}
use Rattle.kern_model.specs.declared.records.Rec.{Rec}
use Rattle.kern_model.specs.Isolation.{crosses}
use Rattle.kern_model.specs.State.{State, Process, Change}
use Rattle.kern_model.specs.Row.{Row, Need, Soft, Refuse, Fail, Commit, need_if, Subject, End, Stopped, Refused, Done, CheckOutcome, judge, check_outcome, verdict_of, is_denied, exercises_after, exercise_with}
use Rattle.kern_model.specs.Refusals.{is_denial}
use Rattle.kern_model.specs.Rules.{cap_of}
use Rattle.kern_model.specs.Descriptors.{Opened}
use Rattle.kern_model.specs.FileRows.{or_not_open}
use Rattle.kern_model.specs.Step.{changes_of, subject}
use Rattle.kern_model.specs.Walk.{or_missing}
use Rattle.iso_laws.proofs.Part.{part_changes}

-- what holds in each case of a test holds of the choice by that test
pub cond_satisfies : (P : CheckOutcome → Type 0) (b : Bool) (x y : CheckOutcome) → (b ≡ true → P x) → (b ≡ false → P y) → P (cond b x y)
cond_satisfies P true x y f g = f refl
cond_satisfies P false x y f g = g refl

-- what relates two pairs, in each case of a test, relates the choices by that test
pub cond_related : (P : CheckOutcome → CheckOutcome → Type 0) (b : Bool) (x y x' y' : CheckOutcome) → (b ≡ true → P x x') → (b ≡ false → P y y')
    → P (cond b x y) (cond b x' y')
cond_related P true x y x' y' f g = f refl
cond_related P false x y x' y' f g = g refl

-- the test that excludes no record
abbrev pub excludes_none : Rec → Bool
excludes_none r = false

pub none_excluded : (recs : List Rec) → list_any excludes_none recs ≡ false
none_excluded [] = refl
none_excluded (r ∷ recs) = none_excluded recs

-- the check lets the call go on, and its exercise is not excluded
pub record Passes (excluded : Rec → Bool) (a : Subject) (c : Check) : Type 0 where
  pub granted : is_denied (verdict_of a c) ≡ false
  pub inside : list_any excluded (exercises_after a c (verdict_of a c) []) ≡ false

-- the end of a row, with the part of its changes
abbrev pub part_end : Label → Label → End → End
part_end l top (Stopped name place) = Stopped name place
part_end l top (Refused e) = Refused e
part_end l top (Done cs answer own) = Done (part_changes l top cs) answer own

abbrev pub outcome_in_part : Label → Label → CheckOutcome → CheckOutcome
outcome_in_part l top j = check_outcome j.used (part_end l top j.end)

-- the second of two ends matches the first: both stop or refuse for the same reason, or give the same answer and own record with related changes
abbrev pub EndMatches : (List Change → List Change → Type 0) → End → End → Type 0
EndMatches Related (Stopped name place) e = e ≡ Stopped name place
EndMatches Related (Refused n) e = e ≡ Refused n
EndMatches Related (Done cs answer own) e = (cs' : List Change) × (e ≡ Done cs' answer own) × Related cs cs'

pub record OutcomeMatches (Related : List Change → List Change → Type 0) (j j' : CheckOutcome) : Type 0 where
  pub used : j'.used ≡ j.used
  pub end : EndMatches Related j.end j'.end

-- unless an exercise is excluded, the second row, of the second subject, ends as the first one does, with related changes
pub record Simulates (excluded : Rec → Bool) (Related : List Change → List Change → Type 0) (a a' : Subject) (r r' : Row) : Type 0 where
  pub ends : (used : List Rec) → list_any excluded (judge a used r).used ≡ false → OutcomeMatches Related (judge a used r) (judge a' used r')

-- unless an exercise is excluded, the second check goes as the first one
pub record CheckSimulates (excluded : Rec → Bool) (a a' : Subject) (c c' : Check) : Type 0 where
  pub name : c'.name ≡ c.name
  pub place : c'.place ≡ c.place
  pub denied : is_denied (verdict_of a c) ≡ true → is_denied (verdict_of a' c') ≡ true
  pub goes : Passes excluded a c
      → (is_denied (verdict_of a' c') ≡ false) × ((used : List Rec) → exercises_after a' c' (verdict_of a' c') used ≡ exercises_after a c (verdict_of a c) used)

-- the changes are the part of those that are given
abbrev pub ArePartChanges : Label → Label → List Change → List Change → Type 0
ArePartChanges l top cs cs' = cs' ≡ part_changes l top cs

-- unless something crosses, the row of a process in the part ends as the one in the state does, with the part of its changes
abbrev pub SameInPart : Label → State → Pid → Process → Row → Row → Type 0
SameInPart l s who p r r' = Simulates (crosses l) (ArePartChanges l s.top) (subject who p) (subject who p) r r'

-- unless an exercise is excluded, the changes of a row satisfy a property
pub record ChangesSatisfy (excluded : Rec → Bool) (a : Subject) (P : List Change → Type 0) (r : Row) : Type 0 where
  pub ends : (used : List Rec) → list_any excluded (judge a used r).used ≡ false → P (changes_of (judge a used r).end)

-- where no record of two lists is excluded, none of the first list is
pub none_before : (excluded : Rec → Bool) (xs ys : List Rec) → list_any excluded (xs ++ ys) ≡ false → list_any excluded xs ≡ false
none_before excluded xs ys h = (or_parts (list_any excluded xs) _ (sym (list_any-append excluded xs ys) ∙ h)).0

-- and none of the second list is
none_after : (excluded : Rec → Bool) (xs ys : List Rec) → list_any excluded (xs ++ ys) ≡ false → list_any excluded ys ≡ false
none_after excluded xs ys h = (or_parts (list_any excluded xs) _ (sym (list_any-append excluded xs ys) ∙ h)).1

module _ (excluded : Rec → Bool) (a : Subject) where
  noted_prefix : (c : Check) (v : Verdict) (used : List Rec) → list_any excluded (exercises_after a c v used) ≡ false → list_any excluded used ≡ false
  noted_prefix c Passed used h = h
  noted_prefix c Exercised used h = none_before excluded used _ h
  noted_prefix c Denied used h = h

  noted_suffix : (c : Check) (v : Verdict) (used : List Rec) → list_any excluded (exercises_after a c v used) ≡ false → list_any excluded (exercises_after a c v []) ≡ false
  noted_suffix c Passed used h = refl
  noted_suffix c Exercised used h = none_after excluded used _ h
  noted_suffix c Denied used h = refl

  -- where no exercise after a row is excluded, none before it is
  used_before : (used : List Rec) (r : Row) → list_any excluded (judge a used r).used ≡ false → list_any excluded used ≡ false
  unfolding judge
  used_before used (Need c r) =
      cond_satisfies (λ j. list_any excluded j.used ≡ false → list_any excluded used ≡ false) (is_denied (verdict_of a c)) _ _ (λ _ h. h)
      (λ _ h. noted_prefix c _ used (used_before (exercises_after a c (verdict_of a c) used) r h))
  used_before used (Soft c r w) =
      cond_satisfies (λ j. list_any excluded j.used ≡ false → list_any excluded used ≡ false) (is_denied (verdict_of a c)) _ _ (λ _ h. used_before used w h)
      (λ _ h. noted_prefix c _ used (used_before (exercises_after a c (verdict_of a c) used) r h))
  used_before used (Refuse e b r) =
      cond_satisfies (λ j. list_any excluded j.used ≡ false → list_any excluded used ≡ false) b _ _ (λ _ h. h) (λ _ h. used_before used r h)
  used_before used (Fail e) = λ h. h
  used_before used (Commit cs answer own) = λ h. h

  -- a check after which a row goes on passes, where no exercise at the end is excluded
  pub check_passes : (c : Check) (used : List Rec) (r : Row) → is_denied (verdict_of a c) ≡ false
      → list_any excluded (judge a (exercises_after a c (verdict_of a c) used) r).used ≡ false → Passes excluded a c
  check_passes c used r granted h = record { granted = granted; inside = noted_suffix c _ used (used_before _ r h) }

-- ---- rows whose checks do not matter
-- each refusal of a row is no denial, and changes and own record at each of its ends satisfy a property
abbrev pub EachCommit : (List Change → Option Rec → Type 0) → Row → Type 0
EachCommit P (Need c rest) = EachCommit P rest
EachCommit P (Soft c granted weaker) = EachCommit P granted × EachCommit P weaker
EachCommit P (Refuse e b rest) = (is_denial e ≡ false) × EachCommit P rest
EachCommit P (Fail e) = is_denial e ≡ false
EachCommit P (Commit cs answer own) = P cs own

module _ (P : List Change → Option Rec → Type 0) where
  pub each_commit_cond : (b : Bool) (x y : Row) → EachCommit P x → EachCommit P y → EachCommit P (cond b x y)
  each_commit_cond true x y f g = f
  each_commit_cond false x y f g = g

  pub each_commit_need_if : (b : Bool) (c : Check) (r : Row) → EachCommit P r → EachCommit P (need_if b c r)
  unfolding need_if
  each_commit_need_if b c r h = each_commit_cond b (Need c r) r h h

  -- a row whose ends satisfy a property satisfies a weaker one
  each_commit_weaker : (Q : List Change → Option Rec → Type 0) → ((cs : List Change) (own : Option Rec) → P cs own → Q cs own) → (r : Row) → EachCommit P r → EachCommit Q r
  each_commit_weaker Q weaker (Need c r) h = each_commit_weaker Q weaker r h
  each_commit_weaker Q weaker (Soft c r w) h = (each_commit_weaker Q weaker r h.0, each_commit_weaker Q weaker w h.1)
  each_commit_weaker Q weaker (Refuse e b r) h = (h.0, each_commit_weaker Q weaker r h.1)
  each_commit_weaker Q weaker (Fail e) h = h
  each_commit_weaker Q weaker (Commit cs answer own) h = weaker cs own h

-- ---- two rows of which the second simulates the first
module _ (excluded : Rec → Bool) (Related : List Change → List Change → Type 0) (a a' : Subject) where
  abbrev RowSimulates : Row → Row → Type 0
  RowSimulates r r' = Simulates excluded Related a a' r r'

  pub simulates_fail : (e : Errno) → RowSimulates (Fail e) (Fail e)
  unfolding judge
  simulates_fail e = record { ends = λ used h. record { used = refl; end = refl } }

  pub simulates_commit : (cs cs' : List Change) (answer : Answer) (own : Option Rec) → Related cs cs' → RowSimulates (Commit cs answer own) (Commit cs' answer own)
  unfolding judge
  simulates_commit cs cs' answer own related = record { ends = λ used h. record { used = refl; end = (cs', refl, related) } }

  pub simulates_refuse : (e : Errno) (b b' : Bool) (r r' : Row) → b' ≡ b → (b ≡ false → RowSimulates r r') → RowSimulates (Refuse e b r) (Refuse e b' r')
  unfolding judge
  simulates_refuse e b b' r r' same rest = record {
    ends = λ used h.
        subst
        (λ t. OutcomeMatches Related (cond b (check_outcome used (Refused e)) (judge a used r)) (cond t (check_outcome used (Refused e)) (judge a' used r')))
        (sym same)
        (cond_related (λ j j'. list_any excluded j.used ≡ false → OutcomeMatches Related j j') b _ _ _ _ (λ _ _. record { used = refl; end = refl })
        (λ f h. (rest f).ends used h) h);
  }

  -- a check, and what follows where it is denied
  simulates_check : (c c' : Check) (used : List Rec) (r r' : Row) (x x' : CheckOutcome) → CheckSimulates excluded a a' c c'
      → (list_any excluded x.used ≡ false → OutcomeMatches Related x x') → (Passes excluded a c → RowSimulates r r')
      → list_any excluded (cond (is_denied (verdict_of a c)) x (judge a (exercises_after a c (verdict_of a c) used) r)).used ≡ false
      → OutcomeMatches Related (cond (is_denied (verdict_of a c)) x (judge a (exercises_after a c (verdict_of a c) used) r))
      (cond (is_denied (verdict_of a' c')) x' (judge a' (exercises_after a' c' (verdict_of a' c') used) r'))
  simulates_check c c' used r r' x x' check stops rest =
      let y : CheckOutcome = judge a (exercises_after a c (verdict_of a c) used) r in
      let y' : CheckOutcome = judge a' (exercises_after a' c' (verdict_of a' c') used) r' in
      cond_satisfies (λ j. list_any excluded j.used ≡ false → OutcomeMatches Related j (cond (is_denied (verdict_of a' c')) x' y')) (is_denied (verdict_of a c)) x y
      (λ t h. subst (λ b. OutcomeMatches Related x (cond b x' y')) (sym (check.denied t)) (stops h))
      (λ f h.
      let passes = check_passes excluded a c used r f h in
      let goes = check.goes passes in
      subst (λ b. OutcomeMatches Related y (cond b x' y')) (sym goes.0)
      (subst (λ us. OutcomeMatches Related y (judge a' us r')) (sym (goes.1 used)) ((rest passes).ends _ h)))

  pub simulates_need : (c c' : Check) (r r' : Row) → CheckSimulates excluded a a' c c' → (Passes excluded a c → RowSimulates r r') → RowSimulates (Need c r) (Need c' r')
  unfolding judge
  simulates_need c c' r r' check rest = record {
    ends = λ used h. simulates_check c c' used r r' _ _ check (λ _. record { used = refl; end = λ i. Stopped (check.name i) (check.place i) }) rest h;
  }

  pub simulates_soft : (c c' : Check) (r w r' w' : Row) → CheckSimulates excluded a a' c c' → (Passes excluded a c → RowSimulates r r') → RowSimulates w w' → RowSimulates (Soft c r w) (Soft c' r' w')
  unfolding judge
  simulates_soft c c' r w r' w' check granted weaker = record { ends = λ used h. simulates_check c c' used r r' _ _ check (weaker.ends used) granted h }

  pub simulates_missing : (o : Option Oid) (k k' : Oid → Row) (g : Oid → Oid) → ((id : Oid) → o ≡ Some id → RowSimulates (k id) (k' (g id)))
      → RowSimulates (or_missing o k) (or_missing (option_map g o) k')
  simulates_missing None k k' g h = simulates_fail errno.ENOENT
  simulates_missing (Some id) k k' g h = h id refl

  pub simulates_open : (o : Option Opened) (k k' : Opened → Row) → ((f : Opened) → o ≡ Some f → RowSimulates (k f) (k' f)) → RowSimulates (or_not_open o k) (or_not_open o k')
  simulates_open None k k' h = simulates_fail errno.EBADF
  simulates_open (Some f) k k' h = h f refl

  pub simulates_cond : (b b' : Bool) (x y x' y' : Row) → b' ≡ b → (b ≡ true → RowSimulates x x') → (b ≡ false → RowSimulates y y') → RowSimulates (cond b x y) (cond b' x' y')
  simulates_cond b b' x y x' y' same f g =
      subst (λ c. RowSimulates (cond b x y) (cond c x' y')) (sym same)
      (elim b as (λ c. b ≡ c → RowSimulates (cond c x y) (cond c x' y')) [ true ↦ f | false ↦ g ] refl)

  -- a row simulates itself, where each check does and where the changes at each of its ends are related to themselves
  pub simulates_itself : ((c : Check) → CheckSimulates excluded a a' c c) → (r : Row) → EachCommit (λ cs own. Related cs cs) r → RowSimulates r r
  simulates_itself checks (Need c r) h = simulates_need c c r r (checks c) (λ _. simulates_itself checks r h)
  simulates_itself checks (Soft c r w) h = simulates_soft c c r w r w (checks c) (λ _. simulates_itself checks r h.0) (simulates_itself checks w h.1)
  simulates_itself checks (Refuse e b r) h = simulates_refuse e b b r r refl (λ _. simulates_itself checks r h.1)
  simulates_itself checks (Fail e) h = simulates_fail e
  simulates_itself checks (Commit cs answer own) h = simulates_commit cs cs answer own h

-- equal checks of one subject
pub equal_check_simulates : (excluded : Rec → Bool) (a : Subject) (c c' : Check) → c' ≡ c → CheckSimulates excluded a a c c'
equal_check_simulates excluded a c c' e =
    subst (λ d. CheckSimulates excluded a a c d) (sym e) (record { name = refl; place = refl; denied = λ t. t; goes = λ passes. (passes.granted, λ used. refl) })

-- checks that only an excluded exercise passes
pub hidden_check_simulates : (excluded : Rec → Bool) (a : Subject) (c c' : Check) → c'.name ≡ c.name → c'.place ≡ c.place → verdict_of a c' ≡ verdict_of a c
    → (Passes excluded a c → ⊥) → CheckSimulates excluded a a c c'
hidden_check_simulates excluded a c c' name place verdict hidden =
    record { name = name; place = place; denied = λ t. ap is_denied verdict ∙ t; goes = λ passes. absurd (hidden passes) }

-- ---- a row in a state and in its part
-- what relates the outcomes is an equation
pub outcome_is_part : (l top : Label) (j j' : CheckOutcome) → OutcomeMatches (ArePartChanges l top) j j' → j' ≡ outcome_in_part l top j
outcome_is_part l top j j' h =
    let end : j'.end ≡ part_end l top j.end =
    elim j.end as (λ e. EndMatches (ArePartChanges l top) e j'.end → j'.end ≡ part_end l top e) [
      | Stopped name place ↦ λ same. same
      | Refused e ↦ λ same. same
      | Done cs answer own ↦ λ x. x.1 ∙ ap (λ ys. Done ys answer own) x.2
    ] h.end in
    λ i. check_outcome (h.used i) (end i)

module _ (l : Label) (s : State) (who : Pid) (p : Process) where
  abbrev a : Subject
  a = subject who p

  pub in_part_fail : (e : Errno) → SameInPart l s who p (Fail e) (Fail e)
  in_part_fail e = simulates_fail (crosses l) (ArePartChanges l s.top) a a e

  pub in_part_commit : (cs cs' : List Change) (answer : Answer) (own : Option Rec) → cs' ≡ part_changes l s.top cs
      → SameInPart l s who p (Commit cs answer own) (Commit cs' answer own)
  in_part_commit cs cs' answer own e = simulates_commit (crosses l) (ArePartChanges l s.top) a a cs cs' answer own e

  pub in_part_refuse : (e : Errno) (b b' : Bool) (r r' : Row) → b' ≡ b → (b ≡ false → SameInPart l s who p r r') → SameInPart l s who p (Refuse e b r) (Refuse e b' r')
  in_part_refuse e b b' r r' same rest = simulates_refuse (crosses l) (ArePartChanges l s.top) a a e b b' r r' same rest

  -- equal checks, where the rows after them are the same
  pub in_part_check : (c c' : Check) (r r' : Row) → c' ≡ c → (Passes (crosses l) a c → SameInPart l s who p r r') → SameInPart l s who p (Need c r) (Need c' r')
  in_part_check c c' r r' e rest = simulates_need (crosses l) (ArePartChanges l s.top) a a c c' r r' (equal_check_simulates (crosses l) a c c' e) rest

  pub in_part_need : (c : Check) (r r' : Row) → (Passes (crosses l) a c → SameInPart l s who p r r') → SameInPart l s who p (Need c r) (Need c r')
  in_part_need c r r' rest = in_part_check c c r r' refl rest

  -- equal soft checks, where the rows after them are the same
  pub in_part_soft : (c : Check) (r w r' w' : Row) → (Passes (crosses l) a c → SameInPart l s who p r r') → SameInPart l s who p w w' → SameInPart l s who p (Soft c r w) (Soft c r' w')
  in_part_soft c r w r' w' granted weaker = simulates_soft (crosses l) (ArePartChanges l s.top) a a c c r w r' w' (equal_check_simulates (crosses l) a c c refl) granted weaker

  -- checks that only a crossing passes, whatever the rows after them
  pub in_part_hidden : (c c' : Check) (r r' : Row) → c'.name ≡ c.name → c'.place ≡ c.place → verdict_of a c' ≡ verdict_of a c → (Passes (crosses l) a c → ⊥)
      → SameInPart l s who p (Need c r) (Need c' r')
  in_part_hidden c c' r r' name place verdict hidden =
      simulates_need (crosses l) (ArePartChanges l s.top) a a c c' r r' (hidden_check_simulates (crosses l) a c c' name place verdict hidden) (λ passes. absurd (hidden passes))

  pub in_part_missing : (o : Option Oid) (k k' : Oid → Row) (g : Oid → Oid) → ((id : Oid) → o ≡ Some id → SameInPart l s who p (k id) (k' (g id)))
      → SameInPart l s who p (or_missing o k) (or_missing (option_map g o) k')
  in_part_missing o k k' g h = simulates_missing (crosses l) (ArePartChanges l s.top) a a o k k' g h

  -- rows that go on from an open descriptor, where they are the same for what it refers to
  pub in_part_open : (o : Option Opened) (k k' : Opened → Row) → ((f : Opened) → o ≡ Some f → SameInPart l s who p (k f) (k' f)) → SameInPart l s who p (or_not_open o k) (or_not_open o k')
  in_part_open o k k' h = simulates_open (crosses l) (ArePartChanges l s.top) a a o k k' h

  pub in_part_cond : (b b' : Bool) (x y x' y' : Row) → b' ≡ b → (b ≡ true → SameInPart l s who p x x') → (b ≡ false → SameInPart l s who p y y') → SameInPart l s who p (cond b x y) (cond b' x' y')
  in_part_cond b b' x y x' y' same f g = simulates_cond (crosses l) (ArePartChanges l s.top) a a b b' x y x' y' same f g

  -- equal checks that are made where they are asked for, where the rows after them are the same
  pub in_part_need_if : (b b' : Bool) (c c' : Check) (r r' : Row) → b' ≡ b → c' ≡ c → SameInPart l s who p r r' → SameInPart l s who p (need_if b c r) (need_if b' c' r')
  unfolding need_if
  in_part_need_if b b' c c' r r' same e rest = in_part_cond b b' (Need c r) r (Need c' r') r' same (λ _. in_part_check c c' r r' e (λ _. rest)) (λ _. rest)

  -- a row whose changes the part sees as they are ends in the part as in the state
  pub in_part_itself : (r : Row) → EachCommit (λ cs own. part_changes l s.top cs ≡ cs) r → SameInPart l s who p r r
  in_part_itself r h =
      simulates_itself (crosses l) (ArePartChanges l s.top) a a (λ c. equal_check_simulates (crosses l) a c c refl) r (each_commit_weaker _ _ (λ cs own same. sym same) r h)

-- a property of exercises that each exercise keeps holds after one more check
noted_preserves : (P : List Rec → Type 0) (a : Subject) → ((c : Check) (used : List Rec) → P used → P (used ++ exercise_with a c (cap_of c.name)))
    → (c : Check) (v : Verdict) (used : List Rec) → P used → P (exercises_after a c v used)
noted_preserves P a keeps c Passed used h = h
noted_preserves P a keeps c Exercised used h = keeps c used h
noted_preserves P a keeps c Denied used h = h

-- a property of exercises that each exercise keeps holds of all exercises of a row
pub used_preserves : (P : List Rec → Type 0) (a : Subject) → ((c : Check) (used : List Rec) → P used → P (used ++ exercise_with a c (cap_of c.name)))
    → (used : List Rec) (r : Row) → P used → P (judge a used r).used
unfolding judge
used_preserves P a keeps used (Need c r) h =
    cond_satisfies (λ j. P j.used) (is_denied (verdict_of a c)) _ _ (λ _. h)
    (λ _. used_preserves P a keeps (exercises_after a c (verdict_of a c) used) r (noted_preserves P a keeps c (verdict_of a c) used h))
used_preserves P a keeps used (Soft c r w) h =
    cond_satisfies (λ j. P j.used) (is_denied (verdict_of a c)) _ _ (λ _. used_preserves P a keeps used w h)
    (λ _. used_preserves P a keeps (exercises_after a c (verdict_of a c) used) r (noted_preserves P a keeps c (verdict_of a c) used h))
used_preserves P a keeps used (Refuse e b r) h = cond_satisfies (λ j. P j.used) b _ _ (λ _. h) (λ _. used_preserves P a keeps used r h)
used_preserves P a keeps used (Fail e) h = h
used_preserves P a keeps used (Commit cs answer own) h = h

-- a property of ends holds of a row's end where it holds of stops, of refusals that are no denials, and of each commit of the row
pub end_satisfies : (P : End → Type 0) (Q : List Change → Option Rec → Type 0) → ((name : CheckName) (place : Place) → P (Stopped name place))
    → ((e : Errno) → is_denial e ≡ false → P (Refused e))
    → ((cs : List Change) (answer : Answer) (own : Option Rec) → Q cs own → P (Done cs answer own)) → (a : Subject) (used : List Rec) (r : Row) → EachCommit Q r
    → P (judge a used r).end
unfolding judge
end_satisfies P Q stopped refused done a used (Need c r) h =
    cond_satisfies (λ j. P j.end) (is_denied (verdict_of a c)) _ _ (λ _. stopped c.name c.place)
    (λ _. end_satisfies P Q stopped refused done a (exercises_after a c (verdict_of a c) used) r h)
end_satisfies P Q stopped refused done a used (Soft c r w) h =
    cond_satisfies (λ j. P j.end) (is_denied (verdict_of a c)) _ _ (λ _. end_satisfies P Q stopped refused done a used w h.1)
    (λ _. end_satisfies P Q stopped refused done a (exercises_after a c (verdict_of a c) used) r h.0)
end_satisfies P Q stopped refused done a used (Refuse e b r) h = cond_satisfies (λ j. P j.end) b _ _ (λ _. refused e h.0) (λ _. end_satisfies P Q stopped refused done a used r h.1)
end_satisfies P Q stopped refused done a used (Fail e) h = refused e h
end_satisfies P Q stopped refused done a used (Commit cs answer own) h = done cs answer own h
