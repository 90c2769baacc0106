-- What rows share of whose checks and own record each label is below the state's top.
use Rattle.std.specs.Prelude.{◌≡◌, ⊤, true, List, [], ◌∷◌, Option, Some, None, refl}
use Rattle.std.specs.List.{AllByRecursion}
use Rattle.std.proofs.Common.{arith, sym, subst}
use Rattle.std.specs.FinMap as map
use Rattle.lab_lattice.specs.Label.{Label, dominates}
use Rattle.lab_lattice.proofs.Labels.{dominates_itself}
use Rattle.kern_model.specs.declared.calls.CallName.{CallName}
use Rattle.kern_model.specs.declared.checks.Check.{Check}
use Rattle.kern_model.specs.declared.checks.Verdict.{Verdict}
use Rattle.kern_model.specs.declared.checks.Verdict.TheVariants.{Passed, Exercised, Denied}
use Rattle.kern_model.specs.declared.numbers.Oid.{Oid}
use Rattle.kern_model.specs.declared.numbers.Pid.{Pid}
use Rattle.cap_bits.specs.declared.cap.Cap.{Cap}
use Rattle.kern_model.specs.declared.objects.Object.{Object}
use Rattle.kern_model.specs.declared.records.Rec.{Rec}
use Rattle.kern_model.specs.Row.{Row, Need, Soft, Refuse, Fail, Commit, End, Stopped, Refused, Done, judge, verdict_of, is_denied, exercises_after, exercise_with}
use Rattle.kern_model.specs.Rules.{cap_of}
use Rattle.kern_model.specs.State.{State, Process, object_at, stub_object}
use Rattle.kern_model.specs.Step.{subject, step_result, own_of}
use Rattle.kern_model.specs.Valid.{IsThere, IsValid}
use Rattle.kern_model.proofs.MapLemmas.{get_or-found, get_or-absent}
use Rattle.kern_model.specs.Records.{label_of, label_if}
use Rattle.iso_laws.specs.Labels.{AreBelow, HasLabelsBelow}
use Rattle.iso_laws.proofs.AllLemmas.{all-append, all_if}
use Rattle.iso_laws.proofs.DrawingLemmas.{LeadsTo, leads_where}
use Rattle.iso_laws.proofs.Rows.{cond_satisfies}

-- ---- rows
-- the labels of a check: those of what it is on, and the new one
abbrev pub CheckBelow : Label → Check → Type 0
CheckBelow top c = AreBelow top (label_of c.thing ∷ c.thing_label ∷ label_if c.new_label)

-- the labels of an own record, if there is one
abbrev pub OwnBelow : Label → Option Rec → Type 0
OwnBelow top None = ⊤
OwnBelow top (Some r) = HasLabelsBelow top r

-- the labels of each check of a row, and of the own record at each of its ends
abbrev pub RowBelow : Label → Row → Type 0
RowBelow top (Need c rest) = CheckBelow top c × RowBelow top rest
RowBelow top (Soft c granted weaker) = CheckBelow top c × (RowBelow top granted × RowBelow top weaker)
RowBelow top (Refuse e b rest) = RowBelow top rest
RowBelow top (Fail e) = ⊤
RowBelow top (Commit cs answer own) = OwnBelow top own

abbrev EndBelow : Label → End → Type 0
EndBelow top (Stopped name place) = ⊤
EndBelow top (Refused e) = ⊤
EndBelow top (Done cs answer own) = OwnBelow top own

abbrev pub AllBelow : Label → List Rec → Type 0
AllBelow top recs = AllByRecursion (HasLabelsBelow top) recs

-- a caller whose labels are below
module _ (top : Label) (who : Pid) (p : Process) (number : dominates top who.label ≡ true) (label : dominates top p.label ≡ true) where
  exercise_below : (c : Check) (with : Option Cap) → CheckBelow top c → AllBelow top (exercise_with (subject who p) c with)
  exercise_below c None h = tt
  exercise_below c (Some with) h = ((number, (label, h)), tt)

  noted_below : (c : Check) (v : Verdict) (used : List Rec) → CheckBelow top c → AllBelow top used → AllBelow top (exercises_after (subject who p) c v used)
  noted_below c Passed used h all = all
  noted_below c Exercised used h all = all-append (HasLabelsBelow top) used _ all (exercise_below c (cap_of c.name) h)
  noted_below c Denied used h all = all

  used_below : (used : List Rec) (r : Row) → RowBelow top r → AllBelow top used → AllBelow top (judge (subject who p) used r).used
  unfolding judge
  used_below used (Need c r) h all =
      cond_satisfies (λ j. AllBelow top j.used) (is_denied (verdict_of (subject who p) c)) _ _ (λ _. all)
      (λ _. used_below (exercises_after (subject who p) c (verdict_of (subject who p) c) used) r h.1 (noted_below c _ used h.0 all))
  used_below used (Soft c r w) h all =
      cond_satisfies (λ j. AllBelow top j.used) (is_denied (verdict_of (subject who p) c)) _ _
      (λ _. used_below used w h.1.1 all) (λ _. used_below (exercises_after (subject who p) c (verdict_of (subject who p) c) used) r h.1.0 (noted_below c _ used h.0 all))
  used_below used (Refuse e b r) h all = cond_satisfies (λ j. AllBelow top j.used) b _ _ (λ _. all) (λ _. used_below used r h all)
  used_below used (Fail e) h all = all
  used_below used (Commit cs answer own) h all = all

  end_below : (used : List Rec) (r : Row) → RowBelow top r → EndBelow top (judge (subject who p) used r).end
  unfolding judge
  end_below used (Need c r) h =
      cond_satisfies (λ j. EndBelow top j.end) (is_denied (verdict_of (subject who p) c)) _ _ (λ _. tt)
      (λ _. end_below (exercises_after (subject who p) c (verdict_of (subject who p) c) used) r h.1)
  end_below used (Soft c r w) h =
      cond_satisfies (λ j. EndBelow top j.end) (is_denied (verdict_of (subject who p) c)) _ _ (λ _. end_below used w h.1.1)
      (λ _. end_below (exercises_after (subject who p) c (verdict_of (subject who p) c) used) r h.1.0)
  end_below used (Refuse e b r) h = cond_satisfies (λ j. EndBelow top j.end) b _ _ (λ _. tt) (λ _. end_below used r h)
  end_below used (Fail e) h = tt
  end_below used (Commit cs answer own) h = h

  own_below : (name : CallName) (e : End) → EndBelow top e → AllBelow top (own_of who p name e)
  own_below name (Stopped check place) h = all_if (HasLabelsBelow top) p.audited _ ((number, tt), tt)
  own_below name (Refused e) h = tt
  own_below name (Done cs answer None) h = tt
  own_below name (Done cs answer (Some r)) h = (h, tt)

  -- the records that a row leaves
  pub row_leaves : (s : State) (name : CallName) (r : Row) → RowBelow top r → AllBelow top (step_result s who p name (judge (subject who p) [] r)).recs
  row_leaves s name r h =
      all-append (HasLabelsBelow top) (judge (subject who p) [] r).used _ (used_below [] r h tt)
      (own_below name (judge (subject who p) [] r).end (end_below [] r h))

-- ---- a valid state
module _ (s : State) (valid : IsValid s) where
  -- the label of an object's number
  abbrev pub NumberBelow : Oid → Type 0
  NumberBelow id = dominates s.top id.label ≡ true

  number_below : (id : Oid) → IsThere s.objects id → NumberBelow id
  number_below id there = let own = (valid.objects id there.value there.is).drawn_already in valid.object_numbers.below id.label (omega (arith, own.0, own.1))

  -- what leads to objects leads to such numbers
  pub leads_below : LeadsTo NumberBelow s
  leads_below = leads_where NumberBelow s valid number_below

  -- the label of an object, and of what is read in place of one
  pub object_below : (id : Oid) → dominates s.top (object_at s id).label ≡ true
  object_below id =
      elim (map.get s.objects id) as (λ found. map.get s.objects id ≡ found → dominates s.top (object_at s id).label ≡ true) [
        | None ↦ λ none.
            subst (λ (o : Object). dominates s.top o.label ≡ true) (sym (get_or-absent s.objects id (stub_object s.top) none)) (dominates_itself s.top)
        | Some o ↦ λ is.
            subst (λ (o : Object). dominates s.top o.label ≡ true) (sym (get_or-found s.objects id (stub_object s.top) o is)) (valid.objects id o is).below
      ] refl

  pub process_below : (who : Pid) (p : Process) → map.get s.procs who ≡ Some p → dominates s.top who.label ≡ true
  process_below who p is = let own = (valid.procs who p is).drawn_already in valid.process_numbers.below who.label (omega (arith, own.0, own.1))
