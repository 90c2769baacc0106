-- What a process exercises crosses no label where it may only read, and move objects up, by a label strictly above, and lacks the other capabilities over labels.
use Rattle.std.specs.Prelude.{◌≡◌, ◌||◌, not, true, false, List, [], ◌∷◌, Option, Some, None, refl}
use Rattle.std.specs.List.{AllByRecursion}
use Rattle.std.proofs.Common.{sym, ◌∙◌, ap, inl, inr}
use Rattle.std.proofs.lemmas.Bool.{and_from, and_left, and_parts, and_right, false_from_ne_true, not-true, not_from_false, or_cases, or_from, true≢false}
use Rattle.cap_bits.specs.CapSet.{has, no_caps, same_cap, with_cap}
use Rattle.cap_bits.specs.declared.cap.Cap.{Cap}
use Rattle.cap_bits.specs.declared.cap.Cap.TheVariants as cap
use Rattle.cap_bits.proofs.CapSets.{has-no_caps, has-with_cap, same_cap-decides, same_cap-number}
use Rattle.lab_lattice.specs.Label.{Label, dominates}
use Rattle.lab_lattice.proofs.Labels.{dominates_both, dominates_through}
use Rattle.kern_model.specs.declared.checks.Check.{Check}
use Rattle.kern_model.specs.declared.checks.CheckName.{CheckName}
use Rattle.kern_model.specs.declared.checks.CheckName.TheVariants as check
use Rattle.kern_model.specs.declared.numbers.Pid.{Pid}
use Rattle.kern_model.specs.declared.records.Rec.{Rec}
use Rattle.kern_model.specs.declared.records.Rec.TheVariants as rec
use Rattle.kern_model.specs.Isolation.{any_crosses, crosses, differ, differs_from, is_mac, low}
use Rattle.kern_model.specs.Rules.{cap_of, same_label}
use Rattle.kern_model.specs.State.{Process}
use Rattle.kern_model.specs.Step.{subject}
use Rattle.ever_caps.specs.Uncrossed.{is_above, upward_caps}
use Rattle.ever_caps.proofs.Meets.{exercise_of}
use Rattle.ever_caps.proofs.Rows.{AsksByLabel, AsksByName, GoesUp}
use Rattle.ever_caps.proofs.States.{IsLeft}

-- ---- labels
pub same_labels : (a b : Label) → same_label a b ≡ true → a ≡ b
same_labels a b same = let parts = and_parts (dominates a b) (dominates b a) same in dominates_both a b parts.0 parts.1

-- what dominates a label that is strictly above is strictly above
pub above_up : (a b l : Label) → dominates a b ≡ true → is_above b l ≡ true → is_above a l ≡ true
above_up a b l up above =
    let parts = and_parts (dominates b l) (not (dominates l b)) above in
    and_from (dominates a l) (not (dominates l a)) (dominates_through a b l up parts.0)
    (not_from_false (dominates l a) (false_from_ne_true _ (λ down. true≢false (sym (dominates_through l a b down up) ∙ not-true (dominates l b) parts.1))))

-- a label that is strictly above is not Low
above_not_low : (a l : Label) → is_above a l ≡ true → low l a ≡ false
above_not_low a l above = not-true (dominates l a) (and_parts (dominates a l) (not (dominates l a)) above).1

-- ---- the five capabilities but two
abbrev pub IsOther : Cap → Type 0
IsOther c = (is_mac c ≡ true) × (has upward_caps c ≡ false)

not_upward : (c : Cap) → same_cap c cap.MacRead ≡ false → same_cap c cap.MacUpgrade ≡ false → has upward_caps c ≡ false
not_upward c no_read no_upgrade =
    has-with_cap (with_cap no_caps cap.MacRead) cap.MacUpgrade c
    ∙ or_from (same_cap c cap.MacUpgrade) (has (with_cap no_caps cap.MacRead) c) no_upgrade
    (has-with_cap no_caps cap.MacRead c ∙ or_from (same_cap c cap.MacRead) (has no_caps c) no_read (has-no_caps c))

pub downgrade_is_other : IsOther cap.MacDowngrade
downgrade_is_other = (refl, not_upward cap.MacDowngrade (same_cap-number cap.MacDowngrade cap.MacRead) (same_cap-number cap.MacDowngrade cap.MacUpgrade))

pub relabel_is_other : IsOther cap.MacRelabelSubj
relabel_is_other = (refl, not_upward cap.MacRelabelSubj (same_cap-number cap.MacRelabelSubj cap.MacRead) (same_cap-number cap.MacRelabelSubj cap.MacUpgrade))

pub write_is_other : IsOther cap.MacWrite
write_is_other = (refl, not_upward cap.MacWrite (same_cap-number cap.MacWrite cap.MacRead) (same_cap-number cap.MacWrite cap.MacUpgrade))

-- ---- checks
-- the check that a capability over labels overrides is the one that is named after it
is_read : (p : Process) (k : Check) (name : CheckName) → cap_of name ≡ Some cap.MacRead → AsksByName p k name
    → (k.holds ≡ dominates p.label k.thing_label) × (k.new_label ≡ None)
is_read p k check.MacRead is h = h
is_read p k check.MacUpgrade is h = absurd (cc)
is_read p k _ is h = absurd (cc)

is_upgrade : (p : Process) (k : Check) (name : CheckName) → cap_of name ≡ Some cap.MacUpgrade → AsksByName p k name
    → ((same_label p.label k.thing_label || has p.caps.e cap.MacWrite) ≡ true) × GoesUp k.thing_label k.new_label
is_upgrade p k check.MacUpgrade is h = h
is_upgrade p k check.MacRead is h = absurd (cc)
is_upgrade p k _ is h = absurd (cc)

-- ---- exercises
module _ (l : Label) where
  -- a process without the other capabilities, and without these two where its label is not strictly above
  pub record IsCaller (p : Process) : Type 0 where
    pub below : is_above p.label l ≡ false → (has p.caps.e cap.MacRead ≡ false) × (has p.caps.e cap.MacUpgrade ≡ false)
    pub others : (c : Cap) → IsOther c → has p.caps.e c ≡ false

  module _ (who : Pid) (p : Process) (caller : IsCaller p) where
    -- who has one of the two has a label strictly above
    caller_above : (c : Cap) → has p.caps.e c ≡ true → (is_above p.label l ≡ false → has p.caps.e c ≡ false) → is_above p.label l ≡ true
    caller_above c effective lacks =
        elim (is_above p.label l) as (λ b. is_above p.label l ≡ b → b ≡ true) [
          | true ↦ λ _. refl
          | false ↦ λ other. absurd (true≢false (sym effective ∙ lacks other))
        ] refl

    -- where labels of a caller that is strictly above are not Low, nothing crosses
    none_low : (k : Check) (c : Cap) → is_above p.label l ≡ true → low l k.thing_label ≡ false → differs_from l false k.new_label ≡ false
        → crosses l (exercise_of (subject who p) k c) ≡ false
    none_low k c above thing_high new_high =
        let high : low l p.label ≡ false = above_not_low p.label l above in
        and_right (is_mac c) _
        (or_from (differ (low l p.label) (low l k.thing_label)) (differs_from l (low l p.label) k.new_label) (λ i. differ (high i) (thing_high i))
        (ap (λ b. differs_from l b k.new_label) high ∙ new_high))

    read_inside : (k : Check) → AsksByLabel p k → k.holds ≡ false → cap_of k.name ≡ Some cap.MacRead → has p.caps.e cap.MacRead ≡ true
        → crosses l (exercise_of (subject who p) k cap.MacRead) ≡ false
    read_inside k asks fails is effective =
        let above = caller_above cap.MacRead effective (λ other. (caller.below other).0) in
        let read = is_read p k k.name is asks in
        none_low k cap.MacRead above
        (false_from_ne_true _ (λ down.
        true≢false (sym (dominates_through p.label l k.thing_label (and_parts (dominates p.label l) _ above).0 down) ∙ sym read.0 ∙ fails)))
        (ap (differs_from l false) read.1)

    -- what is strictly above stays so where it goes up
    new_high : (old : Label) (new : Option Label) → is_above old l ≡ true → GoesUp old new → differs_from l false new ≡ false
    new_high old None above up = absurd up
    new_high old (Some new) above up = above_not_low new l (above_up new old l up above)

    upgrade_inside : (k : Check) → AsksByLabel p k → cap_of k.name ≡ Some cap.MacUpgrade → has p.caps.e cap.MacUpgrade ≡ true
        → crosses l (exercise_of (subject who p) k cap.MacUpgrade) ≡ false
    upgrade_inside k asks is effective =
        let above = caller_above cap.MacUpgrade effective (λ other. (caller.below other).1) in
        let upgrade = is_upgrade p k k.name is asks in
        let same : p.label ≡ k.thing_label =
        elim (or_cases (same_label p.label k.thing_label) (has p.caps.e cap.MacWrite) upgrade.0) as (λ _. p.label ≡ k.thing_label) [
          | inl equal ↦ same_labels p.label k.thing_label equal
          | inr over ↦ absurd (true≢false (sym over ∙ caller.others cap.MacWrite write_is_other))
        ] in
        let thing_above : is_above k.thing_label l ≡ true = ap (λ m. is_above m l) (sym same) ∙ above in
        none_low k cap.MacUpgrade above (above_not_low k.thing_label l thing_above) (new_high k.thing_label k.new_label thing_above upgrade.1)

    use_inside : (k : Check) (c : Cap) → AsksByLabel p k → k.holds ≡ false → cap_of k.name ≡ Some c → has p.caps.e c ≡ true
        → crosses l (exercise_of (subject who p) k c) ≡ false
    use_inside k c asks fails is effective =
        elim (same_cap c cap.MacRead) as (λ b. same_cap c cap.MacRead ≡ b → crosses l (exercise_of (subject who p) k c) ≡ false) [
          | true ↦ λ same.
              let read : c ≡ cap.MacRead = (same_cap-decides c cap.MacRead).0 same in
              ap (λ x. crosses l (exercise_of (subject who p) k x)) read
              ∙ read_inside k asks fails (is ∙ ap (λ x. Some x) read) (ap (has p.caps.e) (sym read) ∙ effective)
          | false ↦ λ no_read.
              elim (same_cap c cap.MacUpgrade) as (λ b. same_cap c cap.MacUpgrade ≡ b → crosses l (exercise_of (subject who p) k c) ≡ false) [
                | true ↦ λ same.
                    let upgrade : c ≡ cap.MacUpgrade = (same_cap-decides c cap.MacUpgrade).0 same in
                    ap (λ x. crosses l (exercise_of (subject who p) k x)) upgrade
                    ∙ upgrade_inside k asks (is ∙ ap (λ x. Some x) upgrade) (ap (has p.caps.e) (sym upgrade) ∙ effective)
                | false ↦ λ no_upgrade.
                    and_left (is_mac c) _ (false_from_ne_true (is_mac c) (λ mac. true≢false (sym effective ∙ caller.others c (mac, not_upward c no_read no_upgrade))))
              ] refl
        ] refl

    left_inside : (r : Rec) → IsLeft who p r → crosses l r ≡ false
    left_inside r (inl used) = ap (crosses l) used.is ∙ use_inside used.check used.cap used.of_check used.fails used.cap_is used.effective
    left_inside (rec.Exercise e) (inr none) = absurd none
    left_inside r (inr none) = refl

    -- no record that it leaves crosses
    pub all_left_inside : (recs : List Rec) → AllByRecursion (IsLeft who p) recs → any_crosses l recs ≡ false
    all_left_inside [] h = refl
    all_left_inside (r ∷ recs) h = or_from (crosses l r) (any_crosses l recs) (left_inside r h.0) (all_left_inside recs h.1)
