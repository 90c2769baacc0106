-- The answer of a trail's records, and the map of the processes that are known.
use Rattle.std.specs.Prelude.{◌≡◌, ℕ, ◌+◌, ◌&&◌, ◌||◌, not, Bool, true, false, cond, List, [], ◌∷◌, ◌++◌, Option, None, Some, length, is_some, unwrap_or, Result, Ok, Err, IfOk, ◌↔◌, refl}
use Rattle.std.specs.BTreeMap.{BTreeMap, get, is_at}
use Rattle.std.specs.Cmp.{eq_by_cmp_equiv}
use Rattle.std.specs.Option.{option_or}
use Rattle.std.proofs.Common.{sym, ◌∙◌, ap, subst, arith}
use Rattle.std.proofs.lemmas.Bool.{true≢false, and_parts}
use Rattle.cap_bits.specs.CapSet.{CapSet, same_sets}
use Rattle.cap_bits.specs.Laws.{same_sets-decides}
use Rattle.cap_bits.specs.declared.state.CapState.{CapState}
use Rattle.cap_bits.specs.State.{no_flags}
use Rattle.kern_model.specs.declared.numbers.Pid.{Pid}
use Rattle.kern_model.specs.declared.records.Rec.{Rec}
use Rattle.kern_model.specs.declared.records.Rec.TheVariants as rec
use Rattle.kern_model.specs.Exec.{exec_caps}
use Rattle.kern_model.specs.Keys.{pid_cmp, same_pid}
use Rattle.kern_model.specs.Lineage.{caps_after_one, caps_after, caps_of}
use Rattle.kern_model.proofs.KeyLaws.{pid_cmp_total, pid_cmp_exact}
use Rattle.kern_model.proofs.MapLemmas.{same_key}
use Rattle.iso_laws.specs.Follows.{is_known, ProcessesFollow, SetsFollow, FollowsBy, AllFollow}
use Rattle.iso_laws.proofs.Trails.{known_after, known_by_all, FollowFrom, follow_all}
use Rattle.aud_red.specs.Lineage.{unless, same_states, process_fault, sets_fault, why_not, answer_at, known_with, lineage_from, lineage_of, IsReason, FailsAt, IfNo, is_in, caps_in, entry_of, Adds}
use Rattle.aud_red.specs.declared.lineage.Lineage.{Lineage}
use Rattle.aud_red.specs.declared.lineage.Lineage.TheVariants as lineage
use Rattle.aud_red.specs.declared.lineage.Why.{Why}
use Rattle.aud_red.specs.declared.lineage.Why.TheVariants as why

-- ---- where there is no reason, a record follows

unless_none : (b : Bool) (y : Why) → unless b y ≡ None → b ≡ true
unless_none true y h = refl
unless_none false y h = absurd (cc)

not_true : (b : Bool) → not b ≡ true → b ≡ false
not_true false h = refl
not_true true h = absurd (true≢false (sym h))

not_false : (b : Bool) → not b ≡ false → b ≡ true
not_false true h = refl
not_false false h = absurd (true≢false h)

or_none : (a b : Option Why) → option_or a b ≡ None → (a ≡ None) × (b ≡ None)
or_none None b h = (refl, h)
or_none (Some x) b h = absurd (cc)

-- two states with the same sets are one
states_same : (a b : CapState) → same_states a b ≡ true → a ≡ b
states_same a b h =
    let outer = and_parts (same_sets a.e b.e && same_sets a.i b.i) (same_sets a.p b.p) h in
    let inner = and_parts (same_sets a.e b.e) (same_sets a.i b.i) outer.0 in
    λ i. record { e = (same_sets-decides a.e b.e).0 inner.0 i; i = (same_sets-decides a.i b.i).0 inner.1 i; p = (same_sets-decides a.p b.p).0 outer.1 i }

states_itself : (a : CapState) → same_states a a ≡ true
states_itself a = λ i. (same_sets-decides a.e a.e).1 refl i && (same_sets-decides a.i a.i).1 refl i && (same_sets-decides a.p a.p).1 refl i

processes_follow : (known : Pid → Bool) (r : Rec) → process_fault known r ≡ None → ProcessesFollow known r
processes_follow known (rec.Boot who label caps) h = not_true (known who) (unless_none (not (known who)) why.Number h)
processes_follow known (rec.Fork who child) h =
    let both = or_none (unless (known who) why.Unknown) (unless (not (known child)) why.Number) h in
    (unless_none (known who) why.Unknown both.0, not_true (known child) (unless_none (not (known child)) why.Number both.1))
processes_follow known r h = unless_none _ why.Unknown h

sets_follow : (bound : CapSet) (caps : Pid → CapState) (r : Rec) → sets_fault bound caps r ≡ None → SetsFollow bound caps r
sets_follow bound caps (rec.Exec who id file new) h = states_same new (exec_caps (caps who) file bound) (unless_none _ why.Exec h)
sets_follow bound caps (rec.CapSetProc who new) h = unless_none _ why.Grow h
sets_follow bound caps (rec.Exercise exercise) h = unless_none _ why.Exercise h
sets_follow bound caps r h = tt

module _ (bound : CapSet) (known : Pid → Bool) (caps : Pid → CapState) where
  follows_by : (r : Rec) → why_not bound known caps r ≡ None → FollowsBy bound known caps r
  follows_by r h =
      let both = or_none (process_fault known r) (sets_fault bound caps r) h in
      (processes_follow known r both.0, sets_follow bound caps r both.1)

-- ---- what a reason says is so, and the record does not follow

-- a test that failed, for this reason
unless_some : (b : Bool) (y z : Why) → unless b y ≡ Some z → (b ≡ false) × (y ≡ z)
unless_some true y z h = absurd (cc)
unless_some false y z h = (refl, cc)

-- the reason of the first of two, or of the second where the first has none
module _ (P : Why → Type 0) where
  first_or : (a b : Option Why) (y : Why) → option_or a b ≡ Some y → (a ≡ Some y → P y) → (a ≡ None → b ≡ Some y → P y) → P y
  first_or None b y h first second = second refl h
  first_or (Some x) b y h first second = first h

  by_test : (b : Bool) (x y : Why) → unless b x ≡ Some y → (b ≡ false → P x) → P y
  by_test b x y h holds = let failed = unless_some b x y h in subst P failed.1 (holds failed.0)

module _ (bound : CapSet) (known : Pid → Bool) (caps : Pid → CapState) where
  process_reason : (r : Rec) (y : Why) → process_fault known r ≡ Some y → IsReason bound known caps r y
  process_reason (rec.Boot who label new) y h =
      by_test (IsReason bound known caps (rec.Boot who label new)) (not (known who)) why.Number y h (λ e. not_false (known who) e)
  process_reason (rec.Fork who child) y h =
      let reason = IsReason bound known caps (rec.Fork who child) in
      first_or reason (unless (known who) why.Unknown) (unless (not (known child)) why.Number) y h
      (λ first. by_test reason (known who) why.Unknown y first (λ e. e))
      (λ none second. by_test reason (not (known child)) why.Number y second (λ e. (unless_none (known who) why.Unknown none, not_false (known child) e)))
  process_reason r y h = by_test (IsReason bound known caps r) _ why.Unknown y h (λ e. e)

  sets_reason : (r : Rec) (y : Why) → ProcessesFollow known r → sets_fault bound caps r ≡ Some y → IsReason bound known caps r y
  sets_reason (rec.Exec who id file new) y here h =
      by_test (IsReason bound known caps (rec.Exec who id file new)) _ why.Exec y h
      (λ e. (here, λ same. true≢false (sym (states_itself new) ∙ ap (same_states new) same ∙ e)))
  sets_reason (rec.CapSetProc who new) y here h = by_test (IsReason bound known caps (rec.CapSetProc who new)) _ why.Grow y h (λ e. (here, e))
  sets_reason (rec.Exercise exercise) y here h = by_test (IsReason bound known caps (rec.Exercise exercise)) _ why.Exercise y h (λ e. (here, e))
  sets_reason r y here h = absurd (cc)

  -- what a reason says is so
  reason_is : (r : Rec) (y : Why) → why_not bound known caps r ≡ Some y → IsReason bound known caps r y
  reason_is r y h =
      first_or (IsReason bound known caps r) (process_fault known r) (sets_fault bound caps r) y h (process_reason r y)
      (λ none second. sets_reason r y (processes_follow known r none) second)

  either : (b : Bool) → b ≡ true → b ≡ false → ⊥
  either b holds fails = true≢false (sym holds ∙ fails)

  unknown_fails : (r : Rec) → IsReason bound known caps r why.Unknown → FollowsBy bound known caps r → ⊥
  unknown_fails (rec.Boot who label new) h f = h
  unknown_fails (rec.Fork who child) h f = either (known who) f.0.0 h
  unknown_fails r h f = either _ f.0 h

  number_fails : (r : Rec) → IsReason bound known caps r why.Number → FollowsBy bound known caps r → ⊥
  number_fails (rec.Boot who label new) h f = either (known who) h f.0
  number_fails (rec.Fork who child) h f = either (known child) h.1 f.0.1
  number_fails r h f = h

  exec_fails : (r : Rec) → IsReason bound known caps r why.Exec → FollowsBy bound known caps r → ⊥
  exec_fails (rec.Exec who id file new) h f = h.1 f.1
  exec_fails r h f = h

  grow_fails : (r : Rec) → IsReason bound known caps r why.Grow → FollowsBy bound known caps r → ⊥
  grow_fails (rec.CapSetProc who new) h f = either _ f.1 h.1
  grow_fails r h f = h

  exercise_fails : (r : Rec) → IsReason bound known caps r why.Exercise → FollowsBy bound known caps r → ⊥
  exercise_fails (rec.Exercise exercise) h f = either _ f.1 h.1
  exercise_fails r h f = h

  -- a record for which there is a reason does not follow
  reason_fails : (y : Why) (r : Rec) → IsReason bound known caps r y → FollowsBy bound known caps r → ⊥
  reason_fails why.Unknown r h f = unknown_fails r h f
  reason_fails why.Number r h f = number_fails r h f
  reason_fails why.Exec r h f = exec_fails r h f
  reason_fails why.Grow r h f = grow_fails r h f
  reason_fails why.Exercise r h f = exercise_fails r h f

  none_where : (r : Rec) (w : Option Why) → why_not bound known caps r ≡ w → FollowsBy bound known caps r → w ≡ None
  none_where r None e f = refl
  none_where r (Some y) e f = absurd (reason_fails y r (reason_is r y e) f)

  -- there is no reason exactly where the record follows
  pub why_not_exactly : (r : Rec) → (why_not bound known caps r ≡ None) ↔ FollowsBy bound known caps r
  why_not_exactly r = (follows_by bound known caps r, none_where r (why_not bound known caps r) refl)

-- ---- the answer Yes

module _ (bound : CapSet) where
  yes_by : (known : Pid → Bool) (caps : Pid → CapState) (at : ℕ) (r : Rec) (rest : Lineage) (w : Option Why) → why_not bound known caps r ≡ w → answer_at at w rest ≡ lineage.Yes
      → FollowsBy bound known caps r × (rest ≡ lineage.Yes)
  yes_by known caps at r rest None e h = (follows_by bound known caps r e, h)
  yes_by known caps at r rest (Some y) e h = absurd (cc)

  yes_from : (known : Pid → Bool) (caps : Pid → CapState) (at : ℕ) (rs : List Rec) → lineage_from bound known caps at rs ≡ lineage.Yes → FollowFrom bound known caps rs
  yes_from known caps at [] h = tt
  yes_from known caps at (r ∷ rs) h =
      let both = yes_by known caps at r (lineage_from bound (known_with known r) (caps_after_one bound caps r) (at + 1) rs) (why_not bound known caps r) refl h in
      (both.0, yes_from (known_with known r) (caps_after_one bound caps r) (at + 1) rs both.1)

-- ---- the answer No

-- `FailsAt`, from known processes and their capability sets on
record FailsFrom (bound : CapSet) (known : Pid → Bool) (caps : Pid → CapState) (at : ℕ) (recs : List Rec) (n : ℕ) (y : Why) : Type 0 where
  before : List Rec
  after : List Rec
  r : Rec
  split : recs ≡ before ++ r ∷ after
  place : at + length before ≡ n
  follow : FollowFrom bound known caps before
  reason : IsReason bound (known_after known before) (caps_after bound caps before) r y

module _ (bound : CapSet) where
  no_by : (known : Pid → Bool) (caps : Pid → CapState) (at : ℕ) (r : Rec) (rs : List Rec) (n : ℕ) (y : Why) (rest : Lineage)
      → (rest ≡ lineage.No n y → FailsFrom bound (known_with known r) (caps_after_one bound caps r) (at + 1) rs n y)
      → (w : Option Why) → why_not bound known caps r ≡ w → answer_at at w rest ≡ lineage.No n y → FailsFrom bound known caps at (r ∷ rs) n y
  no_by known caps at r rs n y rest more None e h =
      let fails = more h in
      let place : at + 1 + length fails.before ≡ n = fails.place in
      record {
        before = r ∷ fails.before;
        after = fails.after;
        r = fails.r;
        split = ap (λ (l : List Rec). r ∷ l) fails.split;
        place = omega arith;
        follow = (follows_by bound known caps r e, fails.follow);
        reason = fails.reason;
      }
  no_by known caps at r rs n y rest more (Some x) e h =
      let at_is : at ≡ n = cc in
      let why_is : x ≡ y = cc in
      record {
        before = [];
        after = rs;
        r = r;
        split = refl;
        place = omega arith;
        follow = tt;
        reason = reason_is bound known caps r y (e ∙ ap (λ (z : Why). Some z) why_is);
      }

  no_from : (known : Pid → Bool) (caps : Pid → CapState) (at : ℕ) (rs : List Rec) (n : ℕ) (y : Why) → lineage_from bound known caps at rs ≡ lineage.No n y
      → FailsFrom bound known caps at rs n y
  no_from known caps at [] n y h = absurd (cc)
  no_from known caps at (r ∷ rs) n y h =
      no_by known caps at r rs n y (lineage_from bound (known_with known r) (caps_after_one bound caps r) (at + 1) rs)
      (no_from (known_with known r) (caps_after_one bound caps r) (at + 1) rs n y) (why_not bound known caps r) refl h

  -- where the answer is No, the records fail there
  fails_at : (recs : List Rec) (n : ℕ) (y : Why) → lineage_of bound recs ≡ lineage.No n y → FailsAt bound recs n y
  fails_at recs n y h =
      let fails = no_from (λ _. false) (λ _. no_flags) 0 recs n y h in
      let reason : IsReason bound (is_known fails.before) (caps_of bound fails.before) fails.r y =
      subst (λ (known : Pid → Bool). IsReason bound known (caps_of bound fails.before) fails.r y) (λ i q. known_by_all fails.before q i) fails.reason in
      record {
        before = fails.before;
        after = fails.after;
        r = fails.r;
        split = fails.split;
        place = (let place : 0 + length fails.before ≡ n = fails.place in omega arith);
        follow = follow_all bound fails.before fails.follow;
        fails = reason_fails bound (is_known fails.before) (caps_of bound fails.before) y fails.r reason;
        reason = reason;
      }

  -- the answer is Yes where each record follows the ones before it
  yes_exactly : (recs : List Rec) → (lineage_of bound recs ≡ lineage.Yes) ↔ AllFollow bound recs
  yes_exactly recs = (λ h. follow_all bound recs (yes_from bound (λ _. false) (λ _. no_flags) 0 recs h), yes_where (lineage_of bound recs) refl)
    where
      yes_where : (l : Lineage) → lineage_of bound recs ≡ l → AllFollow bound recs → l ≡ lineage.Yes
      yes_where lineage.Yes e all = refl
      yes_where (lineage.No n y) e all = let fails = fails_at recs n y e in absurd (fails.fails (all fails.before fails.after fails.r fails.split))

  -- of an answer that was found
  module _ (recs : List Rec) where
    pub yes_found : {E : Type 0} (r : Result Lineage E) → IfOk r (λ l. l ≡ lineage_of bound recs) → IfOk r (λ l. (l ≡ lineage.Yes) ↔ AllFollow bound recs)
    yes_found (Ok l) e = subst (λ (x : Lineage). (x ≡ lineage.Yes) ↔ AllFollow bound recs) (sym e) (yes_exactly recs)
    yes_found (Err e) h = tt

    pub no_found : {E : Type 0} (r : Result Lineage E) → IfOk r (λ l. l ≡ lineage_of bound recs) → IfOk r (λ l. IfNo l (FailsAt bound recs))
    no_found (Ok lineage.Yes) e = tt
    no_found (Ok (lineage.No at y)) e = fails_at recs at y (sym e)
    no_found (Err e) h = tt

-- ---- the map

-- the processes that are known, and their sets, with what a record gives
abbrev known_by : Option (Pid × CapState) → (Pid → Bool) → Pid → Bool
known_by None known q = known q
known_by (Some x) known q = same_pid q x.0 || known q

abbrev caps_by : Option (Pid × CapState) → (Pid → CapState) → Pid → CapState
caps_by None caps q = caps q
caps_by (Some x) caps q = cond (same_pid q x.0) x.1 (caps q)

-- a known process is known with itself
known_already : (known : Pid → Bool) (who q : Pid) → known who ≡ true → (same_pid q who || known q) ≡ known q
known_already known who q here = elim (same_pid q who) as (λ b. same_pid q who ≡ b → (b || known q) ≡ known q) [
  | true ↦ λ t. sym here ∙ ap known (sym (same_key pid_cmp_exact q who t))
  | false ↦ λ _. refl
] refl

module _ (bound : CapSet) (known : Pid → Bool) (caps : Pid → CapState) where
  entry_knows : (r : Rec) → FollowsBy bound known caps r → (q : Pid) → known_by (entry_of caps r) known q ≡ known_with known r q
  entry_knows (rec.Exec who id file new) f q = known_already known who q f.0
  entry_knows (rec.CapSetProc who new) f q = known_already known who q f.0
  entry_knows r f q = refl

  entry_caps : (r : Rec) → FollowsBy bound known caps r → (q : Pid) → caps_by (entry_of caps r) caps q ≡ caps_after_one bound caps r q
  entry_caps (rec.Exec who id file new) f q =
      elim (same_pid q who) as (λ b. same_pid q who ≡ b → cond b new (caps q) ≡ cond b (exec_caps (caps q) file bound) (caps q)) [
        | true ↦ λ t. f.1 ∙ ap (λ p. exec_caps (caps p) file bound) (sym (same_key pid_cmp_exact q who t))
        | false ↦ λ _. refl
      ] refl
  entry_caps r f q = refl

-- one entry of a map is written
abbrev IsWritten : BTreeMap Pid CapState → Pid → CapState → BTreeMap Pid CapState → Type 0
IsWritten old who caps new = (q : Pid) → get pid_cmp new q ≡ cond (is_at (pid_cmp who) q) (Some caps) (get pid_cmp old q)

some_by : (b : Bool) (x : CapState) (w : Option CapState) → is_some (cond b (Some x) w) ≡ (b || is_some w)
some_by true x w = refl
some_by false x w = refl

sets_by : (b : Bool) (x : CapState) (w : Option CapState) → unwrap_or (cond b (Some x) w) no_flags ≡ cond b x (unwrap_or w no_flags)
sets_by true x w = refl
sets_by false x w = refl

-- the map after a record that gives an entry
pub entry_added : (old new : BTreeMap Pid CapState) (r : Rec) (x : Pid × CapState) → entry_of (caps_in old) r ≡ Some x → IsWritten old x.0 x.1 new → Adds old r new
entry_added old new r x e h = λ bound none.
    let follows = follows_by bound (is_in old) (caps_in old) r none in
    record {
      known = λ q. ap is_some (written q) ∙ some_by (same_pid q x.0) x.1 (get pid_cmp old q) ∙ ap (λ w. known_by w (is_in old) q) (sym e) ∙ entry_knows bound (is_in old) (caps_in old) r follows q;
      caps = λ q. ap (λ w. unwrap_or w no_flags) (written q) ∙ sets_by (same_pid q x.0) x.1 (get pid_cmp old q) ∙ ap (λ w. caps_by w (caps_in old) q) (sym e) ∙ entry_caps bound (is_in old) (caps_in old) r follows q;
    }
  where
    written : (q : Pid) → get pid_cmp new q ≡ cond (same_pid q x.0) (Some x.1) (get pid_cmp old q)
    written q = h q ∙ ap (λ b. cond b (Some x.1) (get pid_cmp old q)) ((eq_by_cmp_equiv pid_cmp_total).symm x.0 q)
