-- A capability that is absent stays absent.
use Rattle.std.specs.Prelude.{◌≡◌, ⊤, ◌&&◌, Bool, true, false, List, [], ◌∷◌, Some, refl}
use Rattle.std.specs.List.{AllByRecursion, list_any}
use Rattle.std.specs.FinMap as map
use Rattle.std.proofs.Common.{sym, ◌∙◌, ap, inl, inr}
use Rattle.std.proofs.lemmas.Bool.{and_parts, false_from_ne_true, or_from, or_parts, true≢false, and_from}
use Rattle.cap_bits.specs.CapSet.{CapSet, has, same_cap}
use Rattle.cap_bits.specs.declared.cap.Cap.{Cap}
use Rattle.cap_bits.specs.declared.file_caps.FileCaps.{FileCaps}
use Rattle.cap_bits.specs.declared.state.CapState.{CapState}
use Rattle.cap_bits.proofs.CapSets.{has-meet_of, has-union_of, same_cap-decides}
use Rattle.lab_lattice.specs.Label.{Label}
use Rattle.kern_model.specs.declared.numbers.Oid.{Oid}
use Rattle.kern_model.specs.declared.numbers.Pid.{Pid}
use Rattle.kern_model.specs.declared.objects.Object.{Object}
use Rattle.kern_model.specs.declared.records.Rec.{Rec}
use Rattle.kern_model.specs.declared.records.Rec.TheVariants as rec
use Rattle.kern_model.specs.State.{State, Process}
use Rattle.iso_laws.specs.Unnamed.{IsUnnamed, is_exercise_of}
use Rattle.iso_laws.proofs.Part.{bound-apply_change}
use Rattle.iso_laws.proofs.Steps.{fixed_after, step_cases}
use Rattle.ever_caps.specs.Absent.{IsAbsent}
use Rattle.ever_caps.specs.Laws.{AbsentStep, AbsentUnnamed}
use Rattle.ever_caps.proofs.Kept.{IsFair, OfFile, OfProcess, is_kept}
use Rattle.ever_caps.proofs.Rows.{IsKept}
use Rattle.ever_caps.proofs.States.{AllSets, IsLeft, step_left, step_sets}

-- no label's processes may have it
abbrev no_label : Label → Bool
no_label l = false

-- ---- a state from which it is absent, where some process may inherit it, or some file may let it be inherited, and not both
module _ (c : Cap) (bound : CapSet) (Inherits LetsInherit : Type 0) (never : LetsInherit → Inherits → ⊥) where
  abbrev pub Processes : Label → CapState → Type 0
  Processes = OfProcess c bound no_label (λ _. ⊤) (λ _. Inherits) (λ _. ⊥) (λ _. LetsInherit)

  abbrev pub Files : Label → FileCaps → Type 0
  Files = OfFile c bound no_label (λ _. ⊤) (λ _. Inherits) (λ _. ⊥) (λ _. LetsInherit)

  -- every state is fair
  fair : (s : State) → s.bound ≡ bound → (who : Pid) (p : Process) → IsFair c bound no_label (λ _. ⊤) (λ _. Inherits) (λ _. ⊥) (λ _. LetsInherit) s who p
  fair s same who p = record {
    same_bound = same;
    reads = λ id place other was granted. (refl, λ none. none, never);
    writes = λ id place granted other. refl;
    own_label = λ new allowed caps h _. let was = h refl in record { lives = tt; effective = was.effective; permitted = was.permitted; inherits = was.inherits };
    file_label = λ id new place written granted f h _. let was = h refl in record { permits = was.permits; lets_inherit = was.lets_inherit };
  }

  pub kept : (s : State) → AllSets Processes Files s → s.bound ≡ bound → (who : Pid) (p : Process) → map.get s.procs who ≡ Some p → IsKept Processes Files s who p
  kept s all same who p is = is_kept c bound no_label (λ _. ⊤) (λ _. Inherits) (λ _. ⊥) (λ _. LetsInherit) s all who p is (fair s same who p)

  -- a capability is absent where the sets of all are so
  pub absent_from : (s : State) → AllSets Processes Files s → s.bound ≡ bound → IsAbsent c s
  absent_from s all same = record {
    unheld = λ who p is.
        let was = all.processes who p is refl in
        has-union_of p.caps.e p.caps.p c ∙ or_from (has p.caps.e c) (has p.caps.p c) was.effective was.permitted;
    unpermitted = λ id o is.
        has-meet_of o.attr.caps.p s.bound c
        ∙ false_from_ne_true _ (λ h. (all.files id o is refl).permits (ap (λ b. has o.attr.caps.p c && has b c) (sym same) ∙ h));
    uninherited = λ who p id o is there.
        has-meet_of o.attr.caps.i p.caps.i c
        ∙ false_from_ne_true _ (λ h.
        let parts = and_parts (has o.attr.caps.i c) (has p.caps.i c) h in
        never ((all.files id o there refl).lets_inherit parts.0) ((all.processes who p is refl).inherits parts.1));
  }

-- ---- a step
-- a process of a state may inherit a capability
record SomeInherits (c : Cap) (s : State) : Type 0 where
  who : Pid
  p : Process
  is : map.get s.procs who ≡ Some p
  inherits : has p.caps.i c ≡ true

-- a file of a state lets it be inherited
record SomeLetsInherit (c : Cap) (s : State) : Type 0 where
  id : Oid
  o : Object
  is : map.get s.objects id ≡ Some o
  lets_inherit : has o.attr.caps.i c ≡ true

module _ (c : Cap) (s : State) (absent : IsAbsent c s) where
  never : SomeLetsInherit c s → SomeInherits c s → ⊥
  never file process =
      true≢false
      (sym (and_from (has file.o.attr.caps.i c) (has process.p.caps.i c) file.lets_inherit process.inherits)
      ∙ sym (has-meet_of file.o.attr.caps.i process.p.caps.i c) ∙ absent.uninherited process.who process.p file.id file.o process.is file.is)

  sets_without : AllSets (Processes c s.bound (SomeInherits c s) (SomeLetsInherit c s) never) (Files c s.bound (SomeInherits c s) (SomeLetsInherit c s) never) s
  sets_without = record {
    processes = λ who p is _.
        let parts = or_parts (has p.caps.e c) (has p.caps.p c) (sym (has-union_of p.caps.e p.caps.p c) ∙ absent.unheld who p is) in
        record { lives = tt; effective = parts.0; permitted = parts.1; inherits = λ h. record { who = who; p = p; is = is; inherits = h } };
    files = λ id o is _. record {
      permits = λ h. true≢false (sym h ∙ sym (has-meet_of o.attr.caps.p s.bound c) ∙ absent.unpermitted id o is);
      lets_inherit = λ h. record { id = id; o = o; is = is; lets_inherit = h };
    };
  }

  caller_kept : (who : Pid) (p : Process) → map.get s.procs who ≡ Some p
      → IsKept (Processes c s.bound (SomeInherits c s) (SomeLetsInherit c s) never) (Files c s.bound (SomeInherits c s) (SomeLetsInherit c s) never) s who p
  caller_kept who p is = kept c s.bound (SomeInherits c s) (SomeLetsInherit c s) never s sets_without refl who p is

pub absent_step : AbsentStep
absent_step c s who called absent =
    let bound = fixed_after s who called (λ t. t.bound) bound-apply_change in
    step_cases s who called (λ o. o.state.bound ≡ s.bound → IsAbsent c o.state) (λ _ _. absent)
    (λ p is same.
    absent_from c s.bound (SomeInherits c s) (SomeLetsInherit c s) (never c s absent) _
    (step_sets _ _ s (sets_without c s absent) who p (caller_kept c s absent who p is) called) same)
    bound

-- a record that a process leaves is no exercise of what it has not effective
left_unnamed : (c : Cap) (who : Pid) (p : Process) → has p.caps.e c ≡ false → (r : Rec) → IsLeft who p r → is_exercise_of c r ≡ false
left_unnamed c who p lacks r (inl used) =
    ap (is_exercise_of c) used.is
    ∙ false_from_ne_true (same_cap used.cap c) (λ same. true≢false (sym used.effective ∙ ap (has p.caps.e) ((same_cap-decides used.cap c).0 same) ∙ lacks))
left_unnamed c who p lacks (rec.Exercise e) (inr none) = absurd none
left_unnamed c who p lacks r (inr none) = refl

all_unnamed : (c : Cap) (who : Pid) (p : Process) → has p.caps.e c ≡ false → (recs : List Rec) → AllByRecursion (IsLeft who p) recs → IsUnnamed c recs
all_unnamed c who p lacks [] h = refl
all_unnamed c who p lacks (r ∷ recs) h =
    or_from (is_exercise_of c r) (list_any (is_exercise_of c) recs) (left_unnamed c who p lacks r h.0) (all_unnamed c who p lacks recs h.1)

pub absent_unnamed : AbsentUnnamed
absent_unnamed c s who called absent =
    step_cases s who called (λ o. IsUnnamed c o.recs) (λ _. refl)
    (λ p is.
    all_unnamed c who p (or_parts (has p.caps.e c) (has p.caps.p c) (sym (has-union_of p.caps.e p.caps.p c) ∙ absent.unheld who p is)).0 _
    (step_left _ _ s (sets_without c s absent) who p (caller_kept c s absent who p is) called))
