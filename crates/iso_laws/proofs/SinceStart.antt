-- Each process that is permitted something descends, by the records, from one that started.
use Rattle.std.specs.Prelude.{◌≡◌, ◌⊎◌, ◌+◌, Bool, true, false, List, [], ◌∷◌, ◌++◌, Option, Some, None, refl, cond, unwrap_or}
use Rattle.std.specs.List.{flat_map}
use Rattle.std.specs.Option.{option_to_list}
use Rattle.std.proofs.Common.{sym, ◌∙◌, ap, subst, inl, inr, append_assoc}
use Rattle.std.proofs.lemmas.Bool.{true≢false}
use Rattle.std.proofs.lemmas.Cmp.{eq_by_cmp_equiv}
use Rattle.std.specs.FinMap as map
use Rattle.std.specs.FinMap.{get-empty}
use Rattle.cap_bits.specs.CapSet.{CapSet, has}
use Rattle.cap_bits.proofs.CapSets.{has-no_caps}
use Rattle.cap_bits.specs.declared.cap.Cap.{Cap}
use Rattle.cap_bits.specs.declared.state.CapState.{CapState}
use Rattle.cap_bits.specs.State.{no_flags}
use Rattle.fs_path.specs.Name.{Name}
use Rattle.kern_model.specs.declared.calls.Call.{Call}
use Rattle.kern_model.specs.declared.calls.CallName.{CallName}
use Rattle.kern_model.specs.declared.checks.Check.{Check}
use Rattle.kern_model.specs.declared.checks.CheckName.{CheckName}
use Rattle.kern_model.specs.declared.checks.Place.{Place}
use Rattle.kern_model.specs.declared.numbers.Oid.{Oid}
use Rattle.kern_model.specs.declared.numbers.Pid.{Pid}
use Rattle.kern_model.specs.declared.records.Rec.{Rec}
use Rattle.kern_model.specs.declared.records.Rec.TheVariants as rec
use Rattle.kern_model.specs.declared.world.World.{World}
use Rattle.kern_model.specs.declared.world.ScriptItem.{ScriptItem}
use Rattle.kern_model.specs.declared.world.WorldObject.{WorldObject}
use Rattle.kern_model.specs.declared.world.WorldProc.{WorldProc}
use Rattle.kern_model.specs.Boot.{object_of, process_of, entry_for, boot_object, boot_process, boot_objects, boot_processes, nothing, objects_loaded, boot, boot_recs_from, boot_recs}
use Rattle.kern_model.specs.Exec.{exec_caps}
use Rattle.kern_model.specs.Keys.{pid_cmp, same_pid}
use Rattle.kern_model.proofs.KeyLaws.{pid_cmp_total, pid_cmp_exact}
use Rattle.kern_model.specs.Lineage.{caps_after_one, caps_after, caps_of, all_recs, ancestor, StartedWith, HasStarted}
use Rattle.kern_model.specs.Names.{name_of}
use Rattle.kern_model.specs.Row.{Row, Subject, End, Stopped, Refused, Done, judge, exercise_with}
use Rattle.kern_model.specs.Rules.{cap_of, denial_of}
use Rattle.kern_model.specs.Run.{CallRecord, run}
use Rattle.kern_model.specs.State.{State, Process, SetObject, DrawObject, apply_change, apply_changes, last_drawn, look, next_object, next_process, root}
use Rattle.kern_model.specs.Step.{step, step_result, subject, state_after, own_of}
use Rattle.kern_model.specs.Table.{row}
use Rattle.kern_model.specs.Valid.{IsThere}
use Rattle.kern_model.proofs.MapLemmas.{each-insert, same_key, never_some}
use Rattle.iso_laws.proofs.Part.{bound-apply_change}
use Rattle.iso_laws.proofs.Rows.{used_preserves}
use Rattle.iso_laws.proofs.Steps.{step_cases, row_outcome, fixed_after}
use Rattle.iso_laws.proofs.Booting.{fixed_booted}
use Rattle.iso_laws.proofs.CapsLemmas.{caps_after-append}
use Rattle.iso_laws.proofs.Lineage.{used_leave, denial_leaves}
use Rattle.iso_laws.proofs.DrawingLemmas.{born_all, AllObjects, leads_to_all}
use Rattle.iso_laws.proofs.EffectLaws.{ReportsOwn, NumberedByCaller}
use Rattle.iso_laws.proofs.GoingOn.{EndSatisfies, row_ends}
use Rattle.iso_laws.proofs.StartLemmas.{ancestor-append}

-- ---- over further records
-- where the ancestor of a process before further records has started, the process has started by these too
started_before : (seen rs : List Rec) (q : Pid) → HasStarted seen (ancestor rs q) → HasStarted (seen ++ rs) q
started_before seen rs q h =
    let s : StartedWith seen (ancestor rs q) h.caps = h.started in
    let who : ancestor s.after (ancestor rs q) ≡ ancestor (s.after ++ rs) q = sym (ancestor-append s.after rs q) in
    record {
      caps = h.caps;
      started = record {
        before = s.before;
        after = s.after ++ rs;
        label = s.label;
        split = ap (λ xs. xs ++ rs) s.split
            ∙ append_assoc s.before (rec.Boot (ancestor s.after (ancestor rs q)) s.label h.caps ∷ s.after) rs
            ∙ ap (λ w. s.before ++ rec.Boot w s.label h.caps ∷ (s.after ++ rs)) who;
      };
    }

-- each living process has started, and so has each process to which the records permit something
pub record AllStarted (s : State) (f : Pid → CapState) (seen : List Rec) : Type 0 where
  pub living : (q : Pid) → IsThere s.procs q → HasStarted seen q
  pub permitted : (q : Pid) (cap : Cap) → has (f q).p cap ≡ true → HasStarted seen q

-- ---- a step
exercise_origin : (a : Subject) (c : Check) (with : Option Cap) (q : Pid) → ancestor (exercise_with a c with) q ≡ q
exercise_origin a c None q = refl
exercise_origin a c (Some cap) q = refl

used_origin : (a : Subject) (r : Row) (q : Pid) → ancestor (judge a [] r).used q ≡ q
used_origin a r q =
    used_preserves (λ used. ancestor used q ≡ q) a
    (λ c used h. ancestor-append used (exercise_with a c (cap_of c.name)) q ∙ ap (ancestor used) (exercise_origin a c (cap_of c.name) q) ∙ h) [] r refl

denied_origin : (b : Bool) (who : Pid) (name : CallName) (check : CheckName) (place : Place) (q : Pid) → ancestor (cond b (rec.Deny who name (denial_of check) check place ∷ []) []) q ≡ q
denied_origin true who name check place q = refl
denied_origin false who name check place q = refl

-- what holds in both cases of a test holds
by_test : (Q : Bool → Type 0) (b : Bool) → (b ≡ true → Q true) → (b ≡ false → Q false) → Q b
by_test Q true f g = f refl
by_test Q false f g = g refl

module _ (s : State) (who : Pid) (me : IsThere s.procs who) where
  there_too : (w : Pid) → w ≡ who → IsThere s.procs w
  there_too w same = subst (IsThere s.procs) (sym same) me

  no_child : (w child q : Pid) → Some (rec.Fork w child) ≡ Some (rec.Fork who q) → same_pid q child ≡ false → ⊥
  no_child w child q e other =
      let same : child ≡ q = cc in
      true≢false (sym (ap (same_pid q) same ∙ (eq_by_cmp_equiv pid_cmp_total).refl q) ∙ other)

  -- a process that lives after a call is, or descends from, one that lived before it
  lived : (own : Option Rec) → ReportsOwn who own → (q : Pid) → IsThere s.procs q ⊎ (own ≡ Some (rec.Fork who q)) → IsThere s.procs (ancestor (option_to_list own) q)
  lived None reports q (inl there) = there
  lived None reports q (inr born) = absurd (cc)
  lived (Some (rec.Fork w child)) reports q (inl there) = by_test (λ b. IsThere s.procs (cond b w q)) (same_pid q child) (λ _. there_too w reports) (λ _. there)
  lived (Some (rec.Fork w child)) reports q (inr born) = by_test (λ b. IsThere s.procs (cond b w q)) (same_pid q child) (λ _. there_too w reports) (λ other. absurd (no_child w child q born other))
  lived (Some r) reports q (inl there) = there
  lived (Some r) reports q (inr born) = absurd (cc)

  module _ (bound : CapSet) (f : Pid → CapState) (seen : List Rec) (started : HasStarted seen who) (permitted : (q : Pid) (cap : Cap) → has (f q).p cap ≡ true → HasStarted seen q) where
    caller : (q : Pid) → q ≡ who → HasStarted seen q
    caller q same = subst (HasStarted seen) (sym same) started

    -- where the own record gives sets of a process, it is the caller
    of_caller : (q w : Pid) (cap : Cap) (new : CapState) → w ≡ who → has (cond (same_pid q w) new (f q)).p cap ≡ true → HasStarted seen q
    of_caller q w cap new reports = by_test (λ b. has (cond b new (f q)).p cap ≡ true → HasStarted seen q) (same_pid q w) (λ t _. caller q (same_key pid_cmp_exact q w t ∙ reports)) (λ _. permitted q cap)

    -- a process that is permitted something after a call is, or descends from, one that has started
    permitted_own : (own : Option Rec) → ReportsOwn who own → (q : Pid) (cap : Cap) → has (caps_after bound f (option_to_list own) q).p cap ≡ true → HasStarted seen (ancestor (option_to_list own) q)
    permitted_own None reports q cap h = permitted q cap h
    permitted_own (Some (rec.Boot w label caps)) reports q cap h = absurd reports
    permitted_own (Some (rec.Fork w child)) reports q cap h =
        by_test (λ b. has (cond b (f w) (f q)).p cap ≡ true → HasStarted seen (cond b w q)) (same_pid q child) (λ _ _. caller w reports) (λ _. permitted q cap) h
    permitted_own (Some (rec.Exec w id file new)) reports q cap h = of_caller q w cap (exec_caps (f q) file bound) reports h
    permitted_own (Some (rec.CapSetProc w caps)) reports q cap h = of_caller q w cap caps reports h
    permitted_own (Some r) reports q cap h = permitted q cap h

    permitted_end : (p : Process) (name : CallName) (e : End) → EndSatisfies (NumberedByCaller AllObjects s who) e → (q : Pid) (cap : Cap) → has (caps_after bound f (own_of who p name e) q).p cap ≡ true → HasStarted seen (ancestor (own_of who p name e) q)
    permitted_end p name (Stopped check place) fair q cap h =
        subst (HasStarted seen) (sym (denied_origin p.audited who name check place q)) (permitted q cap (ap (λ (c : CapState). has c.p cap) (sym (denial_leaves bound f p.audited who name check place q)) ∙ h))
    permitted_end p name (Refused e) fair q cap h = permitted q cap h
    permitted_end p name (Done cs answer own) fair q cap h = permitted_own own fair.1 q cap h

  lived_end : (p : Process) (name : CallName) (e : End) → EndSatisfies (NumberedByCaller AllObjects s who) e → (q : Pid) → IsThere (state_after s e).procs q → IsThere s.procs (ancestor (own_of who p name e) q)
  lived_end p name (Stopped check place) fair q there = subst (IsThere s.procs) (sym (denied_origin p.audited who name check place q)) there
  lived_end p name (Refused e) fair q there = there
  lived_end p name (Done cs answer own) fair q there = lived own fair.1 q (born_all AllObjects _ s cs s fair.0 (λ k was. inl was) q there)

module _ (s : State) (f : Pid → CapState) (seen : List Rec) (all : AllStarted s f seen) (who : Pid) (c : Call) where
  settled_started : (p : Process) → map.get s.procs who ≡ Some p → AllStarted (step_result s who p (name_of c) (row_outcome s who c p)).state (caps_after s.bound f (step_result s who p (name_of c) (row_outcome s who c p)).recs) (seen ++ (step_result s who p (name_of c) (row_outcome s who c p)).recs)
  settled_started p is =
      let me : IsThere s.procs who = record { value = p; is = is } in
      let used : List Rec = (row_outcome s who c p).used in
      let own : List Rec = own_of who p (name_of c) (row_outcome s who c p).end in
      let fair : EndSatisfies (NumberedByCaller AllObjects s who) (row_outcome s who c p).end = row_ends AllObjects s (leads_to_all s) who p is c in
      let origin_is : (q : Pid) → ancestor own q ≡ ancestor (used ++ own) q = λ q. sym (ancestor-append used own q ∙ used_origin (subject who p) (row s who p c) (ancestor own q)) in
      let permitted : (q : Pid) (cap : Cap) → has (caps_after s.bound f used q).p cap ≡ true → HasStarted seen q = λ q cap h. all.permitted q cap (ap (λ (x : CapState). has x.p cap) (sym (used_leave (subject who p) s.bound f q (row s who p c))) ∙ h) in
      record {
        living = λ q there.
            started_before seen (used ++ own) q (subst (HasStarted seen) (origin_is q) (all.living (ancestor own q) (lived_end s who me p (name_of c) (row_outcome s who c p).end fair q there)));
        permitted = λ q cap h.
            started_before seen (used ++ own) q (subst (HasStarted seen) (origin_is q)
            (permitted_end s who me s.bound (caps_after s.bound f used) seen (all.living who me) permitted p (name_of c) (row_outcome s who c p).end fair q cap
            (ap (λ (x : CapState). has x.p cap) (sym (caps_after-append s.bound f used own q)) ∙ h)));
      }

  nothing_more : AllStarted s f (seen ++ [])
  nothing_more = record { living = λ q there. started_before seen [] q (all.living q there); permitted = λ q cap h. started_before seen [] q (all.permitted q cap h) }

  step_started : AllStarted (step s who c).state (caps_after s.bound f (step s who c).recs) (seen ++ (step s who c).recs)
  step_started = step_cases s who c (λ o. AllStarted o.state (caps_after s.bound f o.recs) (seen ++ o.recs)) (λ _. nothing_more) settled_started

-- ---- a run
run_started : (items : List ScriptItem) (s : State) (bound : CapSet) (f : Pid → CapState) (seen : List Rec) → s.bound ≡ bound → AllStarted s f seen
    → (q : Pid) (cap : Cap) → has (caps_after bound f (flat_map (λ (p : CallRecord). p.recs) (run s items)) q).p cap ≡ true → HasStarted (seen ++ flat_map (λ (p : CallRecord). p.recs) (run s items)) q
run_started [] s bound f seen same all q cap h = started_before seen [] q (all.permitted q cap h)
run_started (i ∷ is) s bound f seen same all q cap h =
    let next : State = (step s i.who i.call).state in
    let recs : List Rec = (step s i.who i.call).recs in
    let later : List Rec = flat_map (λ (p : CallRecord). p.recs) (run next is) in
    let all' : AllStarted next (caps_after bound f recs) (seen ++ recs) = subst (λ b. AllStarted next (caps_after b f recs) (seen ++ recs)) same (step_started s f seen all i.who i.call) in
    subst (λ xs. HasStarted xs q) (append_assoc seen recs later)
    (run_started is next bound (caps_after bound f recs) (seen ++ recs) (fixed_after s i.who i.call (λ t. t.bound) bound-apply_change ∙ same) all' q cap
    (ap (λ (x : CapState). has x.p cap) (sym (caps_after-append bound f recs later q)) ∙ h))

-- ---- the start
-- the entries of an object make no process
entries_procs : (s t : State) (dir : Oid) (names : List Name) (id : Oid) → (apply_changes t (entry_for s dir names id)).procs ≡ t.procs
entries_procs s t dir [] id = refl
entries_procs s t dir (name ∷ []) id = refl
entries_procs s t dir (name ∷ next ∷ names) id = entries_procs s t (unwrap_or (look s dir name) dir) (next ∷ names) id

objects_procs : (os : List WorldObject) (s : State) → (boot_objects s os).procs ≡ s.procs
unfolding boot_object
objects_procs [] s = refl
objects_procs (o ∷ os) s =
    objects_procs os (boot_object s o)
    ∙ entries_procs s (apply_change (apply_change s (DrawObject o.label (last_drawn s.object_numbers o.label + 1))) (SetObject (next_object s o.label) (object_of o))) root o.path.names (next_object s o.label)

processes_started : (bound : CapSet) (ws : List WorldProc) (s : State) (f : Pid → CapState) (seen : List Rec) → AllStarted s f seen → AllStarted (boot_processes s ws) (caps_after bound f (boot_recs_from s ws)) (seen ++ boot_recs_from s ws)
unfolding boot_process
processes_started bound [] s f seen all = record { living = λ q there. started_before seen [] q (all.living q there); permitted = λ q cap h. started_before seen [] q (all.permitted q cap h) }
processes_started bound (w ∷ ws) s f seen all =
    let who : Pid = next_process s w.label in
    let r : Rec = rec.Boot who w.label w.caps in
    let new : HasStarted (seen ++ r ∷ []) who = record { caps = w.caps; started = record { before = seen; after = []; label = w.label; split = refl } } in
    let one : AllStarted (boot_process s w) (caps_after_one bound f r) (seen ++ r ∷ []) =
    record {
      living = λ q there.
          each-insert pid_cmp_total pid_cmp_exact (λ (k : Pid) (x : Process). HasStarted (seen ++ r ∷ []) k) s.procs (λ k x e. started_before seen (r ∷ []) k (all.living k (record { value = x; is = e }))) who (process_of w) new q there.value there.is;
      permitted = λ q cap.
          by_test (λ b. has (cond b w.caps (f q)).p cap ≡ true → HasStarted (seen ++ r ∷ []) q) (same_pid q who)
          (λ t _. subst (HasStarted (seen ++ r ∷ [])) (sym (same_key pid_cmp_exact q who t)) new) (λ _ h. started_before seen (r ∷ []) q (all.permitted q cap h));
    } in
    subst (AllStarted (boot_processes (boot_process s w) ws) (caps_after bound (caps_after_one bound f r) (boot_recs_from (boot_process s w) ws))) (append_assoc seen (r ∷ []) (boot_recs_from (boot_process s w) ws))
    (processes_started bound ws (boot_process s w) (caps_after_one bound f r) (seen ++ r ∷ []) one)

-- no process is there before the processes of a world
pub no_process : (w : World) (q : Pid) → IsThere (objects_loaded w).procs q → ⊥
no_process w q there = never_some _ there.value (get-empty pid_cmp q) (ap (λ m. map.get m q) (sym (objects_procs w.objects (nothing w.bound w.top))) ∙ there.is)

booted_started : (w : World) → AllStarted (boot w) (caps_of w.bound (boot_recs w)) (boot_recs w)
booted_started w =
    processes_started w.bound w.procs (objects_loaded w) (λ _. no_flags) [] (record { living = λ q there. absurd (no_process w q there); permitted = λ q cap h. absurd (true≢false (sym h ∙ has-no_caps cap)) })

-- each process that is permitted something descends from one that started
pub all_started : (w : World) (items : List ScriptItem) (q : Pid) (cap : Cap) → has (caps_of w.bound (all_recs w items) q).p cap ≡ true → HasStarted (all_recs w items) q
all_started w items q cap h =
    let later : List Rec = flat_map (λ (p : CallRecord). p.recs) (run (boot w) items) in
    run_started items (boot w) w.bound (caps_of w.bound (boot_recs w)) (boot_recs w) (fixed_booted (λ s. s.bound) bound-apply_change w) (booted_started w) q cap
    (ap (λ (x : CapState). has x.p cap) (sym (caps_after-append w.bound (λ _. no_flags) (boot_recs w) later q)) ∙ h)
