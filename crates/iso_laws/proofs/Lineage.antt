-- The capability sets of processes are those that the records give.
use Rattle.std.specs.Prelude.{◌≡◌, Bool, true, false, List, [], ◌∷◌, ◌++◌, Option, Some, None, refl, cond}
use Rattle.std.specs.List.{flat_map}
use Rattle.std.proofs.Common.{sym, ◌∙◌, ap}
use Rattle.std.specs.FinMap as map
use Rattle.cap_bits.specs.CapSet.{CapSet}
use Rattle.cap_bits.specs.declared.cap.Cap.{Cap}
use Rattle.cap_bits.specs.declared.state.CapState.{CapState}
use Rattle.cap_bits.specs.State.{no_flags}
use Rattle.kern_model.specs.declared.numbers.Pid.{Pid}
use Rattle.kern_model.specs.declared.checks.Check.{Check}
use Rattle.kern_model.specs.declared.checks.CheckName.{CheckName}
use Rattle.kern_model.specs.declared.checks.Place.{Place}
use Rattle.kern_model.specs.declared.calls.Call.{Call}
use Rattle.kern_model.specs.declared.calls.CallName.{CallName}
use Rattle.kern_model.specs.declared.records.Rec.{Rec}
use Rattle.kern_model.specs.declared.records.Rec.TheVariants as rec
use Rattle.kern_model.specs.declared.world.ScriptItem.{ScriptItem}
use Rattle.kern_model.specs.Boot.{boot, boot_recs}
use Rattle.kern_model.specs.Lineage.{caps_after, caps_of, all_recs}
use Rattle.kern_model.specs.Names.{name_of}
use Rattle.kern_model.specs.Row.{Row, Subject, CheckOutcome, judge, exercise_with}
use Rattle.kern_model.specs.Rules.{cap_of, denial_of}
use Rattle.kern_model.specs.Run.{CallRecord, run, state_after_run}
use Rattle.kern_model.specs.State.{State, Process}
use Rattle.kern_model.specs.Step.{step, step_by, step_result, subject, state_after, own_of}
use Rattle.kern_model.specs.Table.{row}
use Rattle.iso_laws.specs.Laws.{CapsByRecords}
use Rattle.iso_laws.proofs.Part.{bound-apply_change}
use Rattle.iso_laws.proofs.Rows.{EachCommit, used_preserves, end_satisfies}
use Rattle.iso_laws.proofs.Steps.{fixed_after}
use Rattle.iso_laws.proofs.Booting.{fixed_booted}
use Rattle.iso_laws.proofs.CapsLemmas.{HaveCaps, caps_after-append, have_same, have_booted}
use Rattle.iso_laws.proofs.Along.{NothingKnown, along_each_commit}
use Rattle.iso_laws.proofs.EffectLaws.{MatchesRecord, reports_effect}
use Rattle.iso_laws.proofs.Effects.{PremiseHolds}
use Rattle.iso_laws.proofs.RowKinds.{row_kinds}

-- ---- a step
exercise_leaves : (a : Subject) (bound : CapSet) (f : Pid → CapState) (q : Pid) (c : Check) (with : Option Cap)
    → caps_after bound f (exercise_with a c with) q ≡ f q
exercise_leaves a bound f q c None = refl
exercise_leaves a bound f q c (Some cap) = refl

-- exercises leave the capability sets that records give
pub used_leave : (a : Subject) (bound : CapSet) (f : Pid → CapState) (q : Pid) (r : Row) → caps_after bound f (judge a [] r).used q ≡ f q
used_leave a bound f q r =
    used_preserves (λ used. caps_after bound f used q ≡ f q) a
    (λ c used h.
    caps_after-append bound f used (exercise_with a c (cap_of c.name)) q ∙ exercise_leaves a bound (caps_after bound f used) q c (cap_of c.name) ∙ h)
    [] r refl

-- a deny record leaves the capability sets that records give
pub denial_leaves : (bound : CapSet) (f : Pid → CapState) (b : Bool) (who : Pid) (name : CallName) (check : CheckName) (place : Place) (q : Pid)
    → caps_after bound f (cond b (rec.Deny who name (denial_of check) check place ∷ []) []) q ≡ f q
denial_leaves bound f true who name check place q = refl
denial_leaves bound f false who name check place q = refl

-- the own record of each row gives the sets after its changes
row_reports : (s : State) (f : Pid → CapState) → HaveCaps s f → (who : Pid) (p : Process) → map.get s.procs who ≡ Some p → (c : Call)
    → EachCommit (MatchesRecord s f) (row s who p c)
row_reports s f has who p is c =
    along_each_commit _ _ _ (reports_effect s f has who p is NothingKnown NothingKnown (PremiseHolds s c)) (row s who p c)
    (row_kinds NothingKnown NothingKnown (PremiseHolds s c) s who p is c (λ x h. h))

-- the records that an end leaves after the exercises give the sets in the state after it
end_reports : (s : State) (who : Pid) (p : Process) (name : CallName) (f : Pid → CapState) → HaveCaps s f → (a : Subject) (r : Row)
    → EachCommit (MatchesRecord s f) r
    → HaveCaps (state_after s (judge a [] r).end) (caps_after s.bound f (own_of who p name (judge a [] r).end))
end_reports s who p name f has a r h =
    end_satisfies (λ e. HaveCaps (state_after s e) (caps_after s.bound f (own_of who p name e))) (MatchesRecord s f)
    (λ check place. have_same s f _ (λ q. sym (denial_leaves s.bound f p.audited who name check place q)) has) (λ e _. has) (λ cs answer own h. h) a [] r h

module _ (s : State) (who : Pid) (c : Call) (f : Pid → CapState) (has : HaveCaps s f) where
  settled_reports : (p : Process) → map.get s.procs who ≡ Some p
      → HaveCaps (step_result s who p (name_of c) (judge (subject who p) [] (row s who p c))).state
      (caps_after s.bound f (step_result s who p (name_of c) (judge (subject who p) [] (row s who p c))).recs)
  settled_reports p is =
      let j : CheckOutcome = judge (subject who p) [] (row s who p c) in
      let own : List Rec = own_of who p (name_of c) j.end in
      let before : Pid → CapState = caps_after s.bound f j.used in
      let has' : HaveCaps s before = have_same s f before (λ q. sym (used_leave (subject who p) s.bound f q (row s who p c))) has in
      have_same (state_after s j.end) (caps_after s.bound before own) (caps_after s.bound f (j.used ++ own))
      (λ q. sym (caps_after-append s.bound f j.used own q))
      (end_reports s who p (name_of c) before has' (subject who p) (row s who p c) (row_reports s before has' who p is c))

  -- the records of a step give the sets after it
  pub have_after_step : HaveCaps (step s who c).state (caps_after s.bound f (step s who c).recs)
  unfolding step
  have_after_step =
      elim (map.get s.procs who) as (λ o. map.get s.procs who ≡ o → HaveCaps (step_by s who c o).state (caps_after s.bound f (step_by s who c o).recs)) [
        | None ↦ λ _. has
        | Some p ↦ settled_reports p
      ] refl

-- ---- a run
-- the records of a run give the sets after it
have_after_run : (items : List ScriptItem) (s : State) (bound : CapSet) (f : Pid → CapState) → s.bound ≡ bound → HaveCaps s f
    → HaveCaps (state_after_run s items) (caps_after bound f (flat_map (λ (p : CallRecord). p.recs) (run s items)))
have_after_run [] s bound f is has = has
have_after_run (i ∷ is) s bound f same has =
    let next : State = (step s i.who i.call).state in
    let recs : List Rec = (step s i.who i.call).recs in
    let later : List Rec = flat_map (λ (p : CallRecord). p.recs) (run next is) in
    have_same (state_after_run next is) (caps_after bound (caps_after bound f recs) later) (caps_after bound f (recs ++ later))
    (λ q. sym (caps_after-append bound f recs later q))
    (have_after_run is next bound (caps_after bound f recs) (fixed_after s i.who i.call (λ t. t.bound) bound-apply_change ∙ same)
    (have_same next (caps_after s.bound f recs) (caps_after bound f recs) (λ q. ap (λ b. caps_after b f recs q) same) (have_after_step s i.who i.call f has)))

pub caps_by_records : CapsByRecords
caps_by_records w items =
    let later : List Rec = flat_map (λ (p : CallRecord). p.recs) (run (boot w) items) in
    have_same (state_after_run (boot w) items) (caps_after w.bound (caps_of w.bound (boot_recs w)) later) (caps_of w.bound (all_recs w items))
    (λ q. sym (caps_after-append w.bound (λ _. no_flags) (boot_recs w) later q))
    (have_after_run items (boot w) w.bound (caps_of w.bound (boot_recs w)) (fixed_booted (λ s. s.bound) bound-apply_change w) (have_booted w))
