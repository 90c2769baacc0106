-- A run in a state without some capabilities that it never needs.
use Rattle.std.specs.Prelude.{◌≡◌, ◌&&◌, ◌||◌, not, Bool, true, false, cond, List, [], ◌∷◌, map, None, Some, refl}
use Rattle.std.specs.FinMap as table
use Rattle.std.specs.Option.{option_map}
use Rattle.std.specs.List.{flat_map, list_any}
use Rattle.std.proofs.Common.{sym, ◌∙◌, ap, inl, inr, subst}
use Rattle.std.proofs.lemmas.Bool.{and_parts, or_parts, true≢false}
use Rattle.cap_bits.specs.CapSet.{CapSet, has, minus_of, no_caps}
use Rattle.cap_bits.specs.declared.cap.Cap.{Cap}
use Rattle.cap_bits.specs.Laws.{cap_cmp_total, same_caps}
use Rattle.cap_bits.proofs.CapSets.{has-meet_of, has-minus_of, has-no_caps, has-union_of, has-with_cap}
use Rattle.kern_model.specs.declared.records.Rec.{Rec}
use Rattle.kern_model.specs.declared.records.Rec.TheVariants as rec
use Rattle.kern_model.specs.declared.world.ScriptItem.{ScriptItem}
use Rattle.kern_model.specs.declared.world.World.{World}
use Rattle.kern_model.specs.declared.world.WorldProc.{WorldProc}
use Rattle.kern_model.specs.Arguments.{has_names, is_call, is_item, is_number, is_script}
use Rattle.kern_model.specs.Boot.{boot, boot_process, boot_recs, boot_recs_from, objects_loaded}
use Rattle.kern_model.specs.Lineage.{all_recs}
use Rattle.kern_model.specs.Run.{CallRecord, run, state_after_run}
use Rattle.kern_model.specs.State.{State, Process}
use Rattle.kern_model.specs.Step.{StepResult, step}
use Rattle.kern_model.specs.Valid.{IsValid}
use Rattle.iso_laws.proofs.Laws.{top_boot, top_step, valid_boot, valid_step}
use Rattle.least_caps.specs.Asks.{asks}
use Rattle.least_caps.specs.Laws.{NamesNone, NarrowedEnd, NarrowedExercises, NarrowedRecords, NarrowedReplies, NarrowedSets, NeverNeeds, exercises, is_exercise, replies, script_asks, sets_of}
use Rattle.least_caps.specs.Named.{exercised, named}
use Rattle.least_caps.specs.Narrowed.{caps_narrowed, narrowed}
use Rattle.least_caps.specs.NarrowedStates.{LessFsetid, process_without, record_without, state_without}
use Rattle.least_caps.proofs.BootWithout.{boot-without, boot_recs-without}
use Rattle.least_caps.proofs.RowsWithout.{LessWithout, NoneOf, is_exercise_of, less_itself, less_more, none_parts}
use Rattle.least_caps.proofs.StepsWithout.{StepFollows, step_follows}
use Rattle.least_caps.proofs.StatesWithout.{process-without}
use Rattle.least_caps.proofs.Unions.{named-append}
use Rattle.std.proofs.lemmas.Cmp.{eq_by_cmp_equiv}

-- ---- what records name
-- an exercise of one of some capabilities names one of them
record NamesOne (d : CapSet) (r : Rec) : Type 0 where
  pub cap : Cap
  pub among : has d cap ≡ true
  pub named : has (exercised r) cap ≡ true

names_one : (d : CapSet) (r : Rec) → is_exercise_of d r ≡ true → NamesOne d r
names_one d (rec.Exercise e) h = record {
  cap = e.cap;
  among = h;
  named = has-with_cap no_caps e.cap e.cap ∙ ap (λ b. b || has no_caps e.cap) ((eq_by_cmp_equiv cap_cmp_total).refl e.cap);
}
names_one d r h = absurd (true≢false (sym h))

-- records that name none of some capabilities have no exercise of one of them
none_named : (d : CapSet) (recs : List Rec) → ((c : Cap) → has d c ≡ true → has (named recs) c ≡ false) → NoneOf d recs
none_named d [] h = refl
none_named d (r ∷ recs) h =
    let parts : (c : Cap) → has d c ≡ true → (has (exercised r) c ≡ false) × (has (named recs) c ≡ false) =
    λ c among. or_parts (has (exercised r) c) (has (named recs) c) (sym (has-union_of (exercised r) (named recs) c) ∙ h c among) in
    let rest : NoneOf d recs = none_named d recs (λ c among. (parts c among).1) in
    elim (is_exercise_of d r) as (λ b. is_exercise_of d r ≡ b → (b || list_any (is_exercise_of d) recs) ≡ false) [
      | true ↦ λ t. let one = names_one d r t in absurd (true≢false (sym one.named ∙ (parts one.cap one.among).0))
      | false ↦ λ _. rest
    ] refl

none_by_names : (d : CapSet) (recs : List Rec) → NamesNone d recs → NoneOf d recs
none_by_names d recs h = none_named d recs (λ c among.
    let both : (has d c && has (named recs) c) ≡ false = sym (has-meet_of d (named recs) c) ∙ ap (λ s. has s c) h ∙ has-no_caps c in
    sym (ap (λ b. b && has (named recs) c) among) ∙ both)

-- ---- runs
-- the records of the calls of a run
abbrev pub run_recs : State → List ScriptItem → List Rec
run_recs s items = flat_map (λ (c : CallRecord). c.recs) (run s items)

module _ (d : CapSet) where
  -- the same replies, the same records but for some exercises, and the same last state, without the capabilities
  record RunFollows (s : State) (items : List ScriptItem) : Type 0 where
    pub same_replies : replies (state_without d s) items ≡ replies s items
    pub recs : LessWithout d (run_recs s items) (run_recs (state_without d s) items)
    pub end : state_after_run (state_without d s) items ≡ state_without d (state_after_run s items)

  run_follows : (items : List ScriptItem) (s : State) → IsValid s → is_script s.top items ≡ true → script_asks items ≡ false → NoneOf d (run_recs s items)
      → RunFollows s items
  run_follows [] s valid script other none = record { same_replies = refl; recs = refl; end = refl }
  run_follows (i ∷ items) s valid script other none =
      let s' : State = state_without d s in
      let o : StepResult = step s i.who i.call in
      let o' : StepResult = step s' i.who i.call in
      let scripts = and_parts (is_item s.top i) (is_script s.top items) script in
      let names = and_parts (is_number s.top i.who && is_call s.top i.call) (has_names i.call) scripts.0 in
      let calls = and_parts (is_number s.top i.who) (is_call s.top i.call) names.0 in
      let others = or_parts (asks i.call) (script_asks items) other in
      let nones = none_parts d o.recs (run_recs o.state items) none in
      let one : StepFollows d o o' = step_follows d s i.who i.call valid others.0 nones.0 in
      let rest : RunFollows o.state items = run_follows items o.state (valid_step s i.who i.call calls.1 names.1 valid)
      (ap (λ top. is_script top items) (top_step s i.who i.call) ∙ scripts.1) others.1 nones.1 in
      record {
        same_replies = λ j. (i.who, i.head, one.reply j) ∷ (ap (λ t. replies t items) one.state ∙ rest.same_replies) j;
        recs = less_more d o.recs o'.recs (run_recs o.state items) (run_recs o'.state items) one.recs
            (subst (λ t. LessWithout d (run_recs o.state items) (run_recs t items)) (sym one.state) rest.recs);
        end = ap (λ t. state_after_run t items) one.state ∙ rest.end;
      }

  from_boot : (w : World) (items : List ScriptItem) → NeverNeeds d w items → RunFollows (boot w) items
  from_boot w items h =
      run_follows items (boot w) (valid_boot w h.world) (ap (λ top. is_script top items) (top_boot w) ∙ h.script) h.asks_none
      (none_parts d (boot_recs w) (run_recs (boot w) items) (none_by_names d (all_recs w items) h.unnamed)).1

pub narrowed_replies : NarrowedReplies
narrowed_replies d w items h = ap (λ s. replies s items) (boot-without d w) ∙ (from_boot d w items h).same_replies

pub narrowed_records : NarrowedRecords
narrowed_records d w items h =
    less_more d (boot_recs w) (boot_recs (narrowed d w)) (run_recs (boot w) items) (run_recs (boot (narrowed d w)) items)
    (subst (λ recs. LessWithout d (boot_recs w) recs) (sym (boot_recs-without d w)) (less_itself (map (record_without d) (boot_recs w))))
    (subst (λ s. LessWithout d (run_recs (boot w) items) (run_recs s items)) (sym (boot-without d w)) (from_boot d w items h).recs)

pub narrowed_end : NarrowedEnd
narrowed_end d w items h = ap (λ s. state_after_run s items) (boot-without d w) ∙ (from_boot d w items h).end

-- ---- exercises among records
module _ (d : CapSet) where
  exercises-without : (recs : List Rec) → exercises (map (record_without d) recs) ≡ exercises recs
  exercises-without [] = refl
  exercises-without (rec.Boot who label caps ∷ recs) = exercises-without recs
  exercises-without (rec.Fork who child ∷ recs) = exercises-without recs
  exercises-without (rec.Exec who file file_caps caps ∷ recs) = exercises-without recs
  exercises-without (rec.Exit who ending ∷ recs) = exercises-without recs
  exercises-without (rec.CapSetProc who caps ∷ recs) = exercises-without recs
  exercises-without (rec.CapSetFile who file caps ∷ recs) = exercises-without recs
  exercises-without (rec.MacSetProc who old new ∷ recs) = exercises-without recs
  exercises-without (rec.MacSetFile who object old new ∷ recs) = exercises-without recs
  exercises-without (rec.Exercise e ∷ recs) = ap (λ rs. rec.Exercise e ∷ rs) (exercises-without recs)
  exercises-without (rec.Deny who called errno check place ∷ recs) = exercises-without recs
  exercises-without (rec.Switch who on ∷ recs) = exercises-without recs
  exercises-without (rec.Note who bytes ∷ recs) = exercises-without recs

-- records less some exercises have the exercises less those
less-exercises : (recs less : List Rec) → LessFsetid recs less → LessFsetid (exercises recs) (exercises less)
less-exercises [] less h = ap exercises h
less-exercises (r ∷ recs) less h = elim h [
  | inl kept ↦
      subst (λ rs. LessFsetid (exercises (r ∷ recs)) (exercises rs)) (sym kept.1)
      (elim (is_exercise r) as (λ b. LessFsetid (cond b (r ∷ exercises recs) (exercises recs)) (cond b (r ∷ exercises kept.0) (exercises kept.0))) [
        | true ↦ inl (exercises kept.0, refl, less-exercises recs kept.0 kept.2)
        | false ↦ less-exercises recs kept.0 kept.2
      ])
  | inr gone ↦
      elim (is_exercise r) as (λ b. LessFsetid (cond b (r ∷ exercises recs) (exercises recs)) (exercises less)) [
        | true ↦ inr (gone.0, less-exercises recs less gone.1)
        | false ↦ less-exercises recs less gone.1
      ]
]

pub narrowed_exercises : NarrowedExercises
narrowed_exercises d w items h =
    subst (λ recs. LessFsetid recs (exercises (all_recs (narrowed d w) items))) (exercises-without d (all_recs w items))
    (less-exercises (map (record_without d) (all_recs w items)) (all_recs (narrowed d w) items) (narrowed_records d w items h))

-- ---- the capability sets of a process
pub narrowed_sets : NarrowedSets
narrowed_sets d w items who h =
    let s : State = state_after_run (boot w) items in
    ap (λ t. sets_of t who) (narrowed_end d w items h) ∙ ap (option_map (λ (p : Process). p.caps)) (process-without d s who)
    ∙ elim (table.get s.procs who) as
    (λ p. option_map (λ (p : Process). p.caps) (option_map (process_without d) p) ≡ option_map (caps_narrowed d) (option_map (λ (p : Process). p.caps) p)) [
      | None ↦ refl
      | Some p ↦ refl
    ]

-- ---- what a run never names
against : (a b : Bool) → ((a && not b) && b) ≡ false
against true true = refl
against true false = refl
against false b = refl

-- capabilities less those that records name are named by none of these records
pub less_named : (caps : CapSet) (recs : List Rec) → NamesNone (minus_of caps (named recs)) recs
less_named caps recs = same_caps _ _ (λ c.
    has-meet_of (minus_of caps (named recs)) (named recs) c ∙ ap (λ b. b && has (named recs) c) (has-minus_of caps (named recs) c)
    ∙ against (has caps c) (has (named recs) c) ∙ sym (has-no_caps c))

-- the records of a start name none
named-boot_recs : (s : State) (ws : List WorldProc) → named (boot_recs_from s ws) ≡ no_caps
named-boot_recs s [] = refl
named-boot_recs s (w ∷ ws) = same_caps _ no_caps (λ c. has-union_of no_caps (named (boot_recs_from (boot_process s w) ws)) c
    ∙ (λ i. has-no_caps c i || has (named-boot_recs (boot_process s w) ws i) c))

-- all records of a run name what those of its calls name
pub named_by_calls : (w : World) (items : List ScriptItem) → named (all_recs w items) ≡ named (run_recs (boot w) items)
named_by_calls w items =
    named-append (boot_recs w) (run_recs (boot w) items) ∙ same_caps _ _ (λ c.
    has-union_of (named (boot_recs w)) (named (run_recs (boot w) items)) c
    ∙ ap (λ s. has s c || has (named (run_recs (boot w) items)) c) (named-boot_recs (objects_loaded w) w.procs)
    ∙ ap (λ b. b || has (named (run_recs (boot w) items)) c) (has-no_caps c))
