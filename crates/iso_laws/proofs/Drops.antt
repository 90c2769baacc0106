-- What `cap_set_proc` makes permitted was permitted, by the records before its own.
use Rattle.std.specs.Prelude.{◌≡◌, ⊤, Bool, true, false, List, [], ◌∷◌, ◌++◌, Option, Some, None, refl, cond}
use Rattle.std.specs.List.{flat_map}
use Rattle.std.specs.Option.{option_to_list}
use Rattle.std.proofs.Common.{sym, ◌∙◌, ap, subst}
use Rattle.std.proofs.lemmas.Bool.{and_parts}
use Rattle.std.specs.FinMap as map
use Rattle.cap_bits.specs.CapSet.{CapSet, is_within}
use Rattle.cap_bits.specs.declared.cap.Cap.{Cap}
use Rattle.cap_bits.specs.declared.state.CapState.{CapState}
use Rattle.cap_bits.specs.State.{no_flags}
use Rattle.kern_model.specs.declared.numbers.Pid.{Pid}
use Rattle.kern_model.specs.declared.checks.Check.{Check}
use Rattle.kern_model.specs.declared.checks.CheckName.{CheckName}
use Rattle.kern_model.specs.declared.checks.Place.{Place}
use Rattle.kern_model.specs.declared.calls.Call.{Call}
use Rattle.kern_model.specs.declared.calls.CallName.{CallName}
use Rattle.kern_model.specs.declared.records.Rec.{Rec}
use Rattle.kern_model.specs.declared.records.Rec.TheVariants as rec
use Rattle.kern_model.specs.declared.world.World.{World}
use Rattle.kern_model.specs.declared.world.WorldProc.{WorldProc}
use Rattle.kern_model.specs.declared.world.ScriptItem.{ScriptItem}
use Rattle.kern_model.specs.Boot.{boot, boot_recs, boot_process, boot_recs_from, objects_loaded}
use Rattle.kern_model.specs.Lineage.{caps_after_one, caps_after, caps_of, all_recs}
use Rattle.kern_model.specs.Names.{name_of}
use Rattle.kern_model.specs.Row.{Row, Subject, judge, exercise_with}
use Rattle.kern_model.specs.Rules.{cap_of, denial_of, cap_grow}
use Rattle.kern_model.specs.Run.{CallRecord, run}
use Rattle.kern_model.specs.State.{State, Process, Change}
use Rattle.kern_model.specs.Step.{step, step_by, step_result, subject, own_of}
use Rattle.kern_model.specs.Table.{row}
use Rattle.iso_laws.specs.Laws.{DropsByRecords}
use Rattle.iso_laws.proofs.Part.{bound-apply_change}
use Rattle.iso_laws.proofs.Rows.{Passes, excludes_none, none_excluded, used_preserves}
use Rattle.iso_laws.proofs.Steps.{fixed_after}
use Rattle.iso_laws.proofs.Booting.{fixed_booted}
use Rattle.iso_laws.proofs.CapsLemmas.{HaveCaps, have_same, have_booted}
use Rattle.iso_laws.proofs.Lineage.{used_leave, have_after_step}
use Rattle.iso_laws.proofs.Along.{along_end}
use Rattle.iso_laws.proofs.Effects.{Premise, PremiseHolds, Effect, Note, SetSwitch, SetCaps, Execute, SetLabel, SetFileCaps, KeepLabel, Relabel, MakeChild, EndProcess}
use Rattle.iso_laws.proofs.RowKinds.{row_kinds}
use Rattle.iso_laws.proofs.PartReads.{rule_holds}

-- ---- records
-- what a record of `cap_set_proc` makes permitted was permitted
abbrev pub Drops : (Pid → CapState) → Rec → Type 0
Drops f (rec.CapSetProc who caps) = is_within caps.p (f who).p ≡ true
Drops f _ = ⊤

-- each of these records satisfies `Drops`, from the sets that those before it give
abbrev pub AllDrop : CapSet → (Pid → CapState) → List Rec → Type 0
AllDrop bound f [] = ⊤
AllDrop bound f (r ∷ rs) = Drops f r × AllDrop bound (caps_after_one bound f r) rs

module _ (bound : CapSet) where
  drop-append : (f : Pid → CapState) (xs ys : List Rec) → AllDrop bound f xs → AllDrop bound (caps_after bound f xs) ys → AllDrop bound f (xs ++ ys)
  drop-append f [] ys h g = g
  drop-append f (x ∷ xs) ys h g = (h.0, drop-append (caps_after_one bound f x) xs ys h.1 g)

  drop_between : (f : Pid → CapState) (before : List Rec) (r : Rec) (after : List Rec) → AllDrop bound f (before ++ r ∷ after)
      → Drops (caps_after bound f before) r
  drop_between f [] r after h = h.0
  drop_between f (b ∷ before) r after h = drop_between (caps_after_one bound f b) before r after h.1

  -- exercises and a deny record are none of `cap_set_proc`
  exercise_drops : (a : Subject) (f : Pid → CapState) (c : Check) (with : Option Cap) → AllDrop bound f (exercise_with a c with)
  exercise_drops a f c None = tt
  exercise_drops a f c (Some cap) = (tt, tt)

  used_drops : (a : Subject) (f : Pid → CapState) (r : Row) → AllDrop bound f (judge a [] r).used
  used_drops a f r = used_preserves (AllDrop bound f) a (λ c used h. drop-append f used _ h (exercise_drops a (caps_after bound f used) c (cap_of c.name))) [] r tt

  denied_drops : (f : Pid → CapState) (b : Bool) (who : Pid) (name : CallName) (check : CheckName) (place : Place)
      → AllDrop bound f (cond b (rec.Deny who name (denial_of check) check place ∷ []) [])
  denied_drops f true who name check place = (tt, tt)
  denied_drops f false who name check place = tt

-- ---- a step
module _ (s : State) (f : Pid → CapState) (has : HaveCaps s f) (who : Pid) (p : Process) (is : map.get s.procs who ≡ Some p) (a : Subject) where
  -- the own record of each kind of effect satisfies `Drops`, where checks pass
  drops_effect : (Given : Premise → Type 0) (cs : List Change) (own : Option Rec) → Effect (Passes excludes_none a) (λ b. b ≡ false) Given s who p cs own
      → AllDrop s.bound f (option_to_list own)
  drops_effect Given cs own (SetCaps caps passes) =
      let grow = rule_holds excludes_none a (cap_grow who p caps) refl passes in
      (ap (λ (c : CapState). is_within caps.p c.p) (sym (has who p is)) ∙ (and_parts _ _ (and_parts _ _ grow).0).0, tt)
  drops_effect Given cs own (Note bytes) = (tt, tt)
  drops_effect Given cs own (SetSwitch on) = (tt, tt)
  drops_effect Given cs own (Execute id walked) = (tt, tt)
  drops_effect Given cs own (SetLabel new allowed args) = (tt, tt)
  drops_effect Given cs own (SetFileCaps id caps place reaches written file) = (tt, tt)
  drops_effect Given cs own (KeepLabel id new place reaches written equal args) = (tt, tt)
  drops_effect Given cs own (Relabel id new place reaches written relabel args) = (tt, tt)
  drops_effect Given cs own (MakeChild left) = (tt, tt)
  drops_effect Given cs own (EndProcess q x how at may) = (tt, tt)
  drops_effect Given cs own e = tt

  -- and so do the records that the end of a row leaves after the exercises
  own_drops : (c : Call) → AllDrop s.bound f (own_of who p (name_of c) (judge a [] (row s who p c)).end)
  own_drops c =
      along_end excludes_none a _ _ (λ e. AllDrop s.bound f (own_of who p (name_of c) e)) (denied_drops s.bound f p.audited who (name_of c)) (λ e _. tt)
      (λ cs answer own. drops_effect (PremiseHolds s c) cs own) [] (row s who p c)
      (row_kinds (Passes excludes_none a) (λ b. b ≡ false) (PremiseHolds s c) s who p is c (λ x h. h)) (none_excluded (judge a [] (row s who p c)).used)

module _ (s : State) (who : Pid) (c : Call) (f : Pid → CapState) (has : HaveCaps s f) where
  settled_drops : (p : Process) → map.get s.procs who ≡ Some p → AllDrop s.bound f (step_result s who p (name_of c) (judge (subject who p) [] (row s who p c))).recs
  settled_drops p is =
      let used : List Rec = (judge (subject who p) [] (row s who p c)).used in
      let has' : HaveCaps s (caps_after s.bound f used) =
      have_same s f (caps_after s.bound f used) (λ q. sym (used_leave (subject who p) s.bound f q (row s who p c))) has in
      drop-append s.bound f used _ (used_drops s.bound (subject who p) f (row s who p c))
      (own_drops s (caps_after s.bound f used) has' who p is (subject who p) c)

  step_drops : AllDrop s.bound f (step s who c).recs
  unfolding step
  step_drops =
      elim (map.get s.procs who) as (λ o. map.get s.procs who ≡ o → AllDrop s.bound f (step_by s who c o).recs) [
        | None ↦ λ _. tt
        | Some p ↦ settled_drops p
      ] refl

-- ---- a run
run_drops : (items : List ScriptItem) (s : State) (bound : CapSet) (f : Pid → CapState) → s.bound ≡ bound → HaveCaps s f
    → AllDrop bound f (flat_map (λ (p : CallRecord). p.recs) (run s items))
run_drops [] s bound f same has = tt
run_drops (i ∷ is) s bound f same has =
    let next : State = (step s i.who i.call).state in
    let recs : List Rec = (step s i.who i.call).recs in
    let has' : HaveCaps next (caps_after bound f recs) =
    have_same next (caps_after s.bound f recs) (caps_after bound f recs) (λ q. ap (λ b. caps_after b f recs q) same) (have_after_step s i.who i.call f has) in
    drop-append bound f recs _ (subst (λ b. AllDrop b f recs) same (step_drops s i.who i.call f has))
    (run_drops is next bound (caps_after bound f recs) (fixed_after s i.who i.call (λ t. t.bound) bound-apply_change ∙ same) has')

-- no record of a start is one of `cap_set_proc`
start_drops : (bound : CapSet) (ws : List WorldProc) (s : State) (f : Pid → CapState) → AllDrop bound f (boot_recs_from s ws)
start_drops bound [] s f = tt
start_drops bound (w ∷ ws) s f = (tt, start_drops bound ws (boot_process s w) _)

-- each record of `cap_set_proc` in a run makes permitted only what was permitted
pub all_drop : (w : World) (items : List ScriptItem) → AllDrop w.bound (λ _. no_flags) (all_recs w items)
all_drop w items =
    drop-append w.bound (λ _. no_flags) (boot_recs w) _ (start_drops w.bound w.procs (objects_loaded w) (λ _. no_flags))
    (run_drops items (boot w) w.bound (caps_of w.bound (boot_recs w)) (fixed_booted (λ s. s.bound) bound-apply_change w) (have_booted w))

pub drops_by_records : DropsByRecords
drops_by_records w items before after who caps e =
    drop_between w.bound (λ _. no_flags) before (rec.CapSetProc who caps) after (subst (AllDrop w.bound (λ _. no_flags)) e (all_drop w items))
