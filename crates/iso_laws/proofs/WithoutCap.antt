-- A capability that is taken from the effective sets of some processes: in a state, in changes and in a row.
use Rattle.std.specs.Prelude.{◌≡◌, ◌⊎◌, ◌&&◌, ◌||◌, not, Bool, true, false, List, [], ◌∷◌, ◌++◌, Option, Some, None, refl, cond}
use Rattle.std.specs.List.{list_any}
use Rattle.std.specs.Option.{option_map}
use Rattle.std.specs.declared.cmp.Ordering.{Ordering}
use Rattle.std.specs.Ordering.{eq_by_cmp}
use Rattle.std.specs.FinMap as map
use Rattle.std.specs.FinMap.{FinMap, IsAntisymmetric, same_map, get-remove}
use Rattle.std.specs.Cmp.{IsTotalOrder}
use Rattle.std.proofs.Common.{sym, ◌∙◌, ap, inl, inr}
use Rattle.std.proofs.lemmas.Bool.{true≢false}
use Rattle.cap_bits.specs.CapSet.{CapSet, has, same_cap, without_cap}
use Rattle.cap_bits.specs.Laws.{same_caps}
use Rattle.cap_bits.proofs.CapSets.{has-without_cap}
use Rattle.cap_bits.specs.declared.cap.Cap.{Cap}
use Rattle.kern_model.specs.declared.checks.Check.{Check}
use Rattle.kern_model.specs.declared.checks.Verdict.{Verdict}
use Rattle.kern_model.specs.declared.checks.Verdict.TheVariants.{Passed, Exercised, Denied}
use Rattle.kern_model.specs.declared.numbers.Pid.{Pid}
use Rattle.kern_model.specs.declared.records.Rec.{Rec}
use Rattle.kern_model.specs.Maps.{select}
use Rattle.kern_model.specs.Row.{Row, Need, Soft, Refuse, Fail, Commit, Subject, End, Stopped, Refused, Done, CheckOutcome, judge, check_outcome, verdict_of, is_denied, exercises_after, exercise_with, may}
use Rattle.kern_model.specs.Rules.{cap_of}
use Rattle.kern_model.specs.State.{State, Process, Change, SetProcess, DropProcess, apply_change, apply_changes}
use Rattle.kern_model.specs.Step.{subject}
use Rattle.kern_model.proofs.KeyLaws.{pid_cmp_total, pid_cmp_exact}
use Rattle.kern_model.proofs.Selections.{get-select_each, select-insert_each}
use Rattle.iso_laws.specs.Unnamed.{is_exercise_of, process_without, state_without, is_caller}
use Rattle.iso_laws.proofs.Rows.{Simulates, CheckSimulates, EndMatches, cond_related, simulates_fail, simulates_commit, simulates_need, simulates_refuse, simulates_soft}
use Rattle.std.proofs.lemmas.Cmp.{eq_by_cmp_equiv}

-- taking a capability from a process twice is taking it once
pub process_without_twice : (c : Cap) (p : Process) → process_without c (process_without c p) ≡ process_without c p
process_without_twice c p =
    ap (λ (e : CapSet). record p { caps = record p.caps { e = e } })
    (same_caps _ _ (λ q.
    has-without_cap (without_cap p.caps.e c) c q
    ∙ ap (λ b. not (same_cap q c) && b) (has-without_cap p.caps.e c q)
    ∙ elim (same_cap q c) as (λ b. (not b && (not b && has p.caps.e q)) ≡ (not b && has p.caps.e q)) [ true ↦ refl | false ↦ refl ]
    ∙ sym (has-without_cap p.caps.e c q)))

-- a selection that keeps each entry, with another value, of a map from which an entry is removed
select-remove_each : {K X Y : Type 0} {R : K → K → Ordering} → IsTotalOrder R → IsAntisymmetric R → (g : K → X → Y) (m : FinMap R X) (k : K) → select (λ q x. Some (g q x)) (map.remove m k) ≡ map.remove (select (λ q x. Some (g q x)) m) k
select-remove_each {R = R} o exact g m k = same_map o exact _ _ (λ q.
    get-select_each o exact g (map.remove m k) q ∙ ap (option_map (g q)) (get-remove o m k q)
    ∙ elim (eq_by_cmp R q k) as (λ b. option_map (g q) (cond b None (map.get m q)) ≡ cond b None (option_map (g q) (map.get m q))) [ true ↦ refl | false ↦ refl ]
    ∙ ap (λ w. cond (eq_by_cmp R q k) None w) (sym (get-select_each o exact g m q))
    ∙ sym (get-remove o (select (λ q x. Some (g q x)) m) k q))

-- ---- from the processes that a test picks
module _ (c : Cap) (picks : Pid → Bool) where
  -- a process after the capability was taken, if it is picked
  abbrev pub process_if_picked : Pid → Process → Process
  process_if_picked q p = cond (picks q) (process_without c p) p

  -- a change that sets no picked process with the capability
  abbrev pub change_without : Change → Change
  change_without (SetProcess q p) = SetProcess q (process_if_picked q p)
  change_without change = change

  abbrev pub changes_without : List Change → List Change
  changes_without [] = []
  changes_without (change ∷ changes) = change_without change ∷ changes_without changes

  abbrev pub end_without : End → End
  end_without (Stopped name place) = Stopped name place
  end_without (Refused e) = Refused e
  end_without (Done changes answer own) = Done (changes_without changes) answer own

  abbrev pub outcome_without : CheckOutcome → CheckOutcome
  outcome_without j = check_outcome j.used (end_without j.end)

  -- a row that sets no picked process with the capability
  abbrev pub row_without : Row → Row
  row_without (Need check rest) = Need check (row_without rest)
  row_without (Soft check granted weaker) = Soft check (row_without granted) (row_without weaker)
  row_without (Refuse e holds rest) = Refuse e holds (row_without rest)
  row_without (Fail e) = Fail e
  row_without (Commit changes answer own) = Commit (changes_without changes) answer own

  -- ---- a state after changes
  state_without-apply_change : (s : State) (change : Change) → state_without c picks (apply_change s change) ≡ apply_change (state_without c picks s) (change_without change)
  state_without-apply_change s (SetProcess q p) = ap (λ procs. record s { procs = procs }) (select-insert_each pid_cmp_total pid_cmp_exact process_if_picked s.procs q p)
  state_without-apply_change s (DropProcess q) = ap (λ procs. record s { procs = procs }) (select-remove_each pid_cmp_total pid_cmp_exact process_if_picked s.procs q)
  state_without-apply_change s change = refl

  pub state_without-apply_changes : (changes : List Change) (s : State) → state_without c picks (apply_changes s changes) ≡ apply_changes (state_without c picks s) (changes_without changes)
  state_without-apply_changes [] s = refl
  state_without-apply_changes (change ∷ changes) s = state_without-apply_changes changes (apply_change s change) ∙ ap (λ t. apply_changes t (changes_without changes)) (state_without-apply_change s change)

  -- ---- a picked process that is set, with the capability or without it
  pub set_without : (q : Pid) (p : Process) → picks q ≡ true → change_without (SetProcess q (process_without c p)) ≡ change_without (SetProcess q p)
  set_without q p picked = ap (SetProcess q) (ap (λ b. cond b (process_without c (process_without c p)) (process_without c p)) picked ∙ process_without_twice c p ∙ ap (λ b. cond b (process_without c p) p) (sym picked))

  -- ---- what a row answers does not depend on it
  abbrev EqualsWithout : CheckOutcome → CheckOutcome → Type 0
  EqualsWithout j j' = j ≡ outcome_without j'

  judge_without : (a : Subject) (used : List Rec) (r : Row) → judge a used (row_without r) ≡ outcome_without (judge a used r)
  unfolding judge
  judge_without a used (Need k r) = cond_related EqualsWithout (is_denied (verdict_of a k)) _ _ _ _ (λ _. refl) (λ _. judge_without a (exercises_after a k (verdict_of a k) used) r)
  judge_without a used (Soft k r w) = cond_related EqualsWithout (is_denied (verdict_of a k)) _ _ _ _ (λ _. judge_without a used w) (λ _. judge_without a (exercises_after a k (verdict_of a k) used) r)
  judge_without a used (Refuse e holds r) = cond_related EqualsWithout holds _ _ _ _ (λ _. refl) (λ _. judge_without a used r)
  judge_without a used (Fail e) = refl
  judge_without a used (Commit changes answer own) = refl

  -- changes that are the same once the capability is taken
  abbrev pub SameWithout : List Change → List Change → Type 0
  SameWithout changes changes' = changes_without changes' ≡ changes_without changes

  end_matches : (e e' : End) → end_without e' ≡ end_without e → EndMatches SameWithout e e'
  end_matches (Stopped name place) (Stopped name' place') h = h
  end_matches (Stopped name place) (Refused e') h = absurd (cc)
  end_matches (Stopped name place) (Done changes' answer' own') h = absurd (cc)
  end_matches (Refused e) (Stopped name' place') h = absurd (cc)
  end_matches (Refused e) (Refused e') h = h
  end_matches (Refused e) (Done changes' answer' own') h = absurd (cc)
  end_matches (Done changes answer own) (Stopped name' place') h = absurd (cc)
  end_matches (Done changes answer own) (Refused e') h = absurd (cc)
  end_matches (Done changes answer own) (Done changes' answer' own') h =
      let same_answer : answer' ≡ answer = cc in
      let same_own : own' ≡ own = cc in
      let same_changes : changes_without changes' ≡ changes_without changes = cc in
      (changes', (λ i. Done changes' (same_answer i) (same_own i)), same_changes)

-- two outcomes of which one follows the other with equal changes are equal
end_equal : (e e' : End) → EndMatches (λ changes changes'. changes' ≡ changes) e e' → e' ≡ e
end_equal (Stopped name place) e' h = h
end_equal (Refused e) e' h = h
end_equal (Done changes answer own) e' h = h.1 ∙ ap (λ x. Done x answer own) h.2

-- ---- a caller that has one capability less
module _ (c : Cap) (who : Pid) (p : Process) where
  abbrev subject_with : Subject
  subject_with = subject who p

  abbrev subject_without : Subject
  subject_without = subject who (process_without c p)

  -- the verdict is the same, or the capability was exercised
  verdict_by : (k : Check) (holds : Bool) (w : Option Cap)
      → (cond holds Passed (cond (may subject_without.effective w) Exercised Denied) ≡ cond holds Passed (cond (may subject_with.effective w) Exercised Denied))
      ⊎ ((cond holds Passed (cond (may subject_with.effective w) Exercised Denied) ≡ Exercised) × (list_any (is_exercise_of c) (exercise_with subject_with k w) ≡ true))
  verdict_by k true w = inl refl
  verdict_by k false None = inl refl
  verdict_by k false (Some q) =
      let left : (t : Bool) → same_cap q c ≡ t → has (without_cap p.caps.e c) q ≡ (not t && has p.caps.e q) = λ t e. has-without_cap p.caps.e c q ∙ ap (λ x. not x && has p.caps.e q) e in
      elim (same_cap q c) as (λ t. same_cap q c ≡ t → (cond (has (without_cap p.caps.e c) q) Exercised Denied ≡ cond (has p.caps.e q) Exercised Denied) ⊎ ((cond (has p.caps.e q) Exercised Denied ≡ Exercised) × ((same_cap q c || false) ≡ true))) [
        | false ↦ λ t. inl (ap (λ b. cond b Exercised Denied) (left false t))
        | true ↦ λ t.
            elim (has p.caps.e q) as (λ h. has p.caps.e q ≡ h → (cond (has (without_cap p.caps.e c) q) Exercised Denied ≡ cond h Exercised Denied) ⊎ ((cond h Exercised Denied ≡ Exercised) × ((same_cap q c || false) ≡ true))) [
              | true ↦ λ _. inr (refl, ap (λ x. x || false) t)
              | false ↦ λ _. inl (ap (λ b. cond b Exercised Denied) (left true t))
            ] refl
      ] refl

  same_exercise : (k : Check) (w : Option Cap) → exercise_with subject_without k w ≡ exercise_with subject_with k w
  same_exercise k None = refl
  same_exercise k (Some w) = refl

  same_noted : (k : Check) (v : Verdict) (used : List Rec) → exercises_after subject_without k v used ≡ exercises_after subject_with k v used
  same_noted k Passed used = refl
  same_noted k Exercised used = ap (λ es. used ++ es) (same_exercise k (cap_of k.name))
  same_noted k Denied used = refl

  -- unless a check exercises the capability, it goes the same without it
  check_without : (k : Check) → CheckSimulates (is_exercise_of c) subject_with subject_without k k
  unfolding verdict_of
  check_without k = elim (verdict_by k k.holds (cap_of k.name)) as (λ _. CheckSimulates (is_exercise_of c) subject_with subject_without k k) [
    | inl e ↦ record {
      name = refl;
      place = refl;
      denied = λ t. ap is_denied e ∙ t;
      goes = λ passes. (ap is_denied e ∙ passes.granted, λ used. ap (λ v. exercises_after subject_without k v used) e ∙ same_noted k _ used);
    }
    | inr x ↦ record {
      name = refl;
      place = refl;
      denied = λ t. absurd (true≢false (sym t ∙ ap is_denied x.0));
      goes = λ passes. absurd (true≢false (sym x.1 ∙ (ap (λ v. list_any (is_exercise_of c) (exercises_after subject_with k v [])) (sym x.0) ∙ passes.inside)));
    }
  ]

  abbrev EqualChanges : List Change → List Change → Type 0
  EqualChanges changes changes' = changes' ≡ changes

  -- a row follows itself without the capability
  itself_simulates : (r : Row) → Simulates (is_exercise_of c) EqualChanges subject_with subject_without r r
  itself_simulates (Need k r) = simulates_need (is_exercise_of c) EqualChanges subject_with subject_without k k r r (check_without k) (λ _. itself_simulates r)
  itself_simulates (Soft k r w) = simulates_soft (is_exercise_of c) EqualChanges subject_with subject_without k k r w r w (check_without k) (λ _. itself_simulates r) (itself_simulates w)
  itself_simulates (Refuse e holds r) = simulates_refuse (is_exercise_of c) EqualChanges subject_with subject_without e holds holds r r refl (λ _. itself_simulates r)
  itself_simulates (Fail e) = simulates_fail (is_exercise_of c) EqualChanges subject_with subject_without e
  itself_simulates (Commit changes answer own) = simulates_commit (is_exercise_of c) EqualChanges subject_with subject_without changes changes answer own refl

  -- and so does a row that is the same once the capability is taken in its changes
  pub row_simulates : (picks : Pid → Bool) (r r' : Row) → row_without c picks r' ≡ row_without c picks r → Simulates (is_exercise_of c) (SameWithout c picks) subject_with subject_without r r'
  row_simulates picks r r' same = record {
    ends = λ used inside.
        let itself = (itself_simulates r).ends used inside in
        let before : CheckOutcome = judge subject_with used r in
        let after : CheckOutcome = judge subject_without used r' in
        let equal : outcome_without c picks after ≡ outcome_without c picks before =
        sym (judge_without c picks subject_without used r') ∙ ap (judge subject_without used) same ∙ judge_without c picks subject_without used r
        ∙ (λ i. check_outcome (itself.used i) (end_without c picks (end_equal before.end (judge subject_without used r).end itself.end i))) in
        record { used = ap (λ (j : CheckOutcome). j.used) equal; end = end_matches c picks before.end after.end (ap (λ (j : CheckOutcome). j.end) equal) };
  }

-- ---- the caller before, and others too after
module _ (c : Cap) (s : State) (who : Pid) (picks : Pid → Bool) (covers : (q : Pid) → is_caller who q ≡ true → picks q ≡ true) where
  -- the state in which the caller has not the capability
  abbrev pub caller_without : State
  caller_without = state_without c (is_caller who) s

  pub picks_caller : picks who ≡ true
  picks_caller = covers who ((eq_by_cmp_equiv pid_cmp_total).refl who)

  pub there_without : (p : Process) → map.get s.procs who ≡ Some p → map.get caller_without.procs who ≡ Some (process_without c p)
  there_without p is =
      get-select_each pid_cmp_total pid_cmp_exact (process_if_picked c (is_caller who)) s.procs who ∙ ap (option_map (process_if_picked c (is_caller who) who)) is ∙ ap (λ b. Some (cond b (process_without c p) p)) ((eq_by_cmp_equiv pid_cmp_total).refl who)

  pub absent_without : map.get s.procs who ≡ None → map.get caller_without.procs who ≡ None
  absent_without none = get-select_each pid_cmp_total pid_cmp_exact (process_if_picked c (is_caller who)) s.procs who ∙ ap (option_map (process_if_picked c (is_caller who) who)) none

  process_without_again : (q : Pid) (p : Process) → process_if_picked c picks q (process_if_picked c (is_caller who) q p) ≡ process_if_picked c picks q p
  process_without_again q p = elim (is_caller who q) as (λ b. is_caller who q ≡ b → process_if_picked c picks q (cond b (process_without c p) p) ≡ process_if_picked c picks q p) [
    | true ↦ λ h. ap (λ b. cond b (process_without c (process_without c p)) (process_without c p)) (covers q h) ∙ process_without_twice c p ∙ ap (λ b. cond b (process_without c p) p) (sym (covers q h))
    | false ↦ λ _. refl
  ] refl

  state_without_twice : state_without c picks caller_without ≡ state_without c picks s
  state_without_twice = ap (λ procs. record s { procs = procs }) (same_map pid_cmp_total pid_cmp_exact _ _ (λ q.
      get-select_each pid_cmp_total pid_cmp_exact (process_if_picked c picks) caller_without.procs q
      ∙ ap (option_map (process_if_picked c picks q)) (get-select_each pid_cmp_total pid_cmp_exact (process_if_picked c (is_caller who)) s.procs q)
      ∙ elim (map.get s.procs q) as (λ w. option_map (process_if_picked c picks q) (option_map (process_if_picked c (is_caller who) q) w) ≡ option_map (process_if_picked c picks q) w) [ None ↦ refl | Some p ↦ ap (λ (x : Process). Some x) (process_without_again q p) ]
      ∙ sym (get-select_each pid_cmp_total pid_cmp_exact (process_if_picked c picks) s.procs q)))

  -- changes that are the same once the capability is taken lead to states that are
  pub state_without_after : (changes changes' : List Change) → SameWithout c picks changes changes' → state_without c picks (apply_changes caller_without changes') ≡ state_without c picks (apply_changes s changes)
  state_without_after changes changes' same = state_without-apply_changes c picks changes' caller_without ∙ (λ i. apply_changes (state_without_twice i) (same i)) ∙ sym (state_without-apply_changes c picks changes s)
