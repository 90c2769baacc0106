-- Worlds in which only processes with labels strictly above one may come to have cap_mac_read and cap_mac_upgrade, and none another of the five capabilities over labels.
use Rattle.std.specs.Prelude.{◌≡◌, ◌&&◌, ◌||◌, not, Bool, true, false, Some, refl, cond}
use Rattle.std.specs.List.{AllByRecursion, list_any}
use Rattle.std.specs.FinMap as map
use Rattle.std.proofs.Common.{sym, ◌∙◌, ap, subst, inl, inr}
use Rattle.std.proofs.lemmas.Bool.{and_from, and_parts, false_from_ne_true, not-true, or_cases, or_parts, true≢false}
use Rattle.cap_bits.specs.CapSet.{has, is_within, union_of}
use Rattle.cap_bits.specs.FileCaps.{shown}
use Rattle.cap_bits.specs.declared.cap.Cap.{Cap}
use Rattle.cap_bits.specs.declared.cap.Cap.TheVariants as cap
use Rattle.cap_bits.specs.declared.file_caps.FileCaps.{FileCaps}
use Rattle.cap_bits.specs.declared.state.CapState.{CapState}
use Rattle.cap_bits.proofs.CapSets.{has-union_of}
use Rattle.lab_lattice.specs.Label.{Label, dominates}
use Rattle.kern_model.specs.declared.calls.Call.{Call}
use Rattle.kern_model.specs.declared.checks.Place.{Place}
use Rattle.kern_model.specs.declared.numbers.Oid.{Oid}
use Rattle.kern_model.specs.declared.numbers.Pid.{Pid}
use Rattle.kern_model.specs.declared.world.World.{World}
use Rattle.kern_model.specs.declared.world.WorldObject.{WorldObject}
use Rattle.kern_model.specs.declared.world.WorldProc.{WorldProc}
use Rattle.kern_model.specs.Boot.{boot}
use Rattle.kern_model.specs.Exec.{exec_permitted}
use Rattle.kern_model.specs.Isolation.{any_crosses, crosses}
use Rattle.kern_model.specs.Rules.{mac_downgrade_of, mac_read, mac_subject, mac_upgrade_of, mac_write, same_label}
use Rattle.kern_model.specs.State.{State, Process, object_at}
use Rattle.kern_model.specs.Step.{step, subject}
use Rattle.iso_laws.proofs.Booting.{fixed_booted}
use Rattle.iso_laws.proofs.Laws.{isolated_whole, two_worlds_same}
use Rattle.iso_laws.proofs.Part.{bound-apply_change}
use Rattle.iso_laws.proofs.Steps.{fixed_after, step_cases}
use Rattle.ever_caps.specs.Absent.{IsAbsent}
use Rattle.ever_caps.specs.Ever.{mac_ever}
use Rattle.ever_caps.specs.Laws.{UncrossedAlone, UncrossedInside, UncrossedWorlds}
use Rattle.ever_caps.specs.Uncrossed.{gives_below, is_above, may_have, only_above, upward_caps}
use Rattle.ever_caps.proofs.Absent.{absent_step}
use Rattle.ever_caps.proofs.Among.{IsAmong, all_at, each_among, none_at}
use Rattle.ever_caps.proofs.Callers.{IsCaller, IsOther, above_up, all_left_inside, downgrade_is_other, relabel_is_other, same_labels, write_is_other}
use Rattle.ever_caps.proofs.Crossings.{mac_never, run_inside}
use Rattle.ever_caps.proofs.EverRuns.{never_boot}
use Rattle.ever_caps.proofs.Kept.{IsFair, OfFile, OfProcess, has-exec_permitted, is_kept, rule_holds_without}
use Rattle.ever_caps.proofs.Meets.{IsGranted}
use Rattle.ever_caps.proofs.Recorded.{none_recorded}
use Rattle.ever_caps.proofs.Rows.{IsKept}
use Rattle.ever_caps.proofs.States.{AllSets, boot_sets, step_left, step_sets}

-- what a caller without cap_mac_write writes has its label
written_label : {l : Label} (s : State) (who : Pid) (p : Process) → IsCaller l p → (id : Oid) (place : Place) → IsGranted (subject who p) (mac_write s p id place)
    → p.label ≡ (object_at s id).label
written_label s who p caller id place granted =
    same_labels p.label (object_at s id).label
    (rule_holds_without (subject who p) (mac_write s p id place) cap.MacWrite refl (caller.others cap.MacWrite write_is_other) granted)

module _ (l : Label) (w : World) where
  abbrev above : Label → Bool
  above m = is_above m l

  -- ---- one of the two capabilities
  module _ (c : Cap) where
    -- a process of the world with a label
    record SomeProcess (m : Label) : Type 0 where
      p : WorldProc
      among : IsAmong w.procs p
      label : p.label ≡ m

    -- one that may inherit it
    record SomeInherits (m : Label) : Type 0 where
      p : WorldProc
      among : IsAmong w.procs p
      label : p.label ≡ m
      inherits : has p.caps.i c ≡ true

    -- a file of the world with a label that permits it within the bound
    record SomePermits (m : Label) : Type 0 where
      o : WorldObject
      among : IsAmong w.objects o
      label : o.label ≡ m
      permits : (has o.attr.caps.p c && has w.bound c) ≡ true

    -- one that lets it be inherited
    record SomeLetsInherit (m : Label) : Type 0 where
      o : WorldObject
      among : IsAmong w.objects o
      label : o.label ≡ m
      lets_inherit : has o.attr.caps.i c ≡ true

    abbrev Processes : Label → CapState → Type 0
    Processes = OfProcess c w.bound above SomeProcess SomeInherits SomePermits SomeLetsInherit

    abbrev Files : Label → FileCaps → Type 0
    Files = OfFile c w.bound above SomeProcess SomeInherits SomePermits SomeLetsInherit

    module _ (reserved : only_above l c w ≡ true) where
      -- a process of the world whose label is not strictly above may not come to have it
      may_not : (p : WorldProc) → IsAmong w.procs p → is_above p.label l ≡ false → may_have c w p ≡ false
      may_not p among other =
          elim (or_cases (is_above p.label l) (not (may_have c w p)) (all_at (λ (p : WorldProc). is_above p.label l || not (may_have c w p)) w.procs p reserved among)) as
          (λ _. may_have c w p ≡ false) [
            | inl is ↦ absurd (true≢false (sym is ∙ other))
            | inr not_so ↦ not-true (may_have c w p) not_so
          ]

      -- no file that its label dominates gives it
      not_given : (p : WorldProc) → IsAmong w.procs p → is_above p.label l ≡ false → (o : WorldObject) → IsAmong w.objects o → dominates p.label o.label ≡ true
          → (has o.attr.caps.p c && has w.bound c || has o.attr.caps.i c && has p.caps.i c) ≡ false
      not_given p among other o there up =
          let none = (or_parts (has (union_of p.caps.e p.caps.p) c) (list_any (gives_below c w p) w.objects) (may_not p among other)).1 in
          sym (has-exec_permitted p.caps (shown o.attr.caps) w.bound c)
          ∙ sym (ap (λ b. b && has (exec_permitted p.caps (shown o.attr.caps) w.bound) c) up)
          ∙ none_at (gives_below c w p) w.objects o none there

      never_given : (m k : Label) → is_above m l ≡ false → dominates m k ≡ true → SomeProcess m → (SomePermits k → ⊥) × (SomeLetsInherit k → SomeInherits m → ⊥)
      never_given m k other up process = (
        λ file.
            let label = process.label in
            let given =
            or_parts _ _ (not_given process.p process.among (ap above label ∙ other) file.o file.among ((λ i. dominates (label i) (file.label i)) ∙ up)) in
            true≢false (sym file.permits ∙ given.0),
        λ file inheriting.
            let label = inheriting.label in
            let given =
            or_parts _ _ (not_given inheriting.p inheriting.among (ap above label ∙ other) file.o file.among ((λ i. dominates (label i) (file.label i)) ∙ up)) in
            true≢false (sym (and_from _ _ file.lets_inherit inheriting.inherits) ∙ given.1),
      )

      -- a label that the caller gives an object is strictly above where the object's was, and else is no other one
      relabelled : (s : State) (who : Pid) (p : Process) → IsCaller l p → (id : Oid) (new : Label) (place : Place) → IsGranted (subject who p) (mac_write s p id place)
          → (b : Bool) → dominates new (object_at s id).label ≡ b
          → IsGranted (subject who p) (cond b (mac_upgrade_of new id (object_at s id) place) (mac_downgrade_of new id (object_at s id) place)) → above new ≡ true
      relabelled s who p caller id new place written false up granted =
          absurd (true≢false
          (sym (rule_holds_without (subject who p) (mac_downgrade_of new id (object_at s id) place) cap.MacDowngrade refl (caller.others cap.MacDowngrade downgrade_is_other) granted)))
      relabelled s who p caller id new place written true up granted =
          let same = written_label s who p caller id place written in
          elim (above p.label) as (λ b. above p.label ≡ b → above new ≡ true) [
            | true ↦ λ is. above_up new (object_at s id).label l up (ap above (sym same) ∙ is)
            | false ↦ λ other.
                absurd (true≢false
                (sym (rule_holds_without (subject who p) (mac_upgrade_of new id (object_at s id) place) cap.MacUpgrade refl (caller.below other).1 granted)))
          ] refl

      fair : (s : State) → s.bound ≡ w.bound → (who : Pid) (p : Process) → IsCaller l p
          → IsFair c w.bound above SomeProcess SomeInherits SomePermits SomeLetsInherit s who p
      fair s same who p caller = record {
        same_bound = same;
        reads = λ id place other was granted.
            let up = rule_holds_without (subject who p) (mac_read s p id place) cap.MacRead refl (caller.below other).0 granted in
            let both = never_given p.label (object_at s id).label other up was.lives in
            (false_from_ne_true _ (λ is. true≢false (sym (above_up p.label (object_at s id).label l up is) ∙ other)), both.0, both.1);
        writes = λ id place granted other. ap above (written_label s who p caller id place granted) ∙ other;
        own_label = λ new allowed caps h.
            elim (same_label new p.label) as (λ b. same_label new p.label ≡ b → Processes new caps) [
              | true ↦ λ is. subst (λ m. Processes m caps) (sym (same_labels new p.label is)) h
              | false ↦ λ is.
                  absurd (true≢false
                  (sym (rule_holds_without (subject who p) (mac_subject who p new) cap.MacRelabelSubj refl (caller.others cap.MacRelabelSubj relabel_is_other) (allowed (ap not is)))))
            ] refl;
        file_label = λ id new place written granted f h other.
            absurd (true≢false (sym (relabelled s who p caller id new place written (dominates new (object_at s id).label) refl granted) ∙ other));
      }

      kept : (s : State) → s.bound ≡ w.bound → AllSets Processes Files s → (who : Pid) (p : Process) → map.get s.procs who ≡ Some p → IsCaller l p
          → IsKept Processes Files s who p
      kept s same sets who p is caller = is_kept c w.bound above SomeProcess SomeInherits SomePermits SomeLetsInherit s sets who p is (fair s same who p caller)

      -- ---- the first state
      first_processes : AllByRecursion (λ (p : WorldProc). Processes p.label p.caps) w.procs
      first_processes = each_among (λ (p : WorldProc). Processes p.label p.caps) w.procs (λ p among other.
          let parts = or_parts (has (union_of p.caps.e p.caps.p) c) (list_any (gives_below c w p) w.objects) (may_not p among other) in
          let lacks = or_parts (has p.caps.e c) (has p.caps.p c) (sym (has-union_of p.caps.e p.caps.p c) ∙ parts.0) in
          record {
            lives = record { p = p; among = among; label = refl };
            effective = lacks.0;
            permitted = lacks.1;
            inherits = λ h. record { p = p; among = among; label = refl; inherits = h };
          })

      first_files : AllByRecursion (λ (o : WorldObject). Files o.label o.attr.caps) w.objects
      first_files = each_among (λ (o : WorldObject). Files o.label o.attr.caps) w.objects (λ o among other. record {
        permits = λ h. record { o = o; among = among; label = refl; permits = h };
        lets_inherit = λ h. record { o = o; among = among; label = refl; lets_inherit = h };
      })

      first_sets : AllSets Processes Files (boot w)
      first_sets = boot_sets Processes Files w first_files first_processes

  -- ---- both of them
  module _ (readers : only_above l cap.MacRead w ≡ true) (movers : only_above l cap.MacUpgrade w ≡ true) where
    -- a state that is reached
    record IsReached (s : State) : Type 0 where
      same_bound : s.bound ≡ w.bound
      reading : AllSets (Processes cap.MacRead) (Files cap.MacRead) s
      moving : AllSets (Processes cap.MacUpgrade) (Files cap.MacUpgrade) s
      absent : (c : Cap) → IsOther c → IsAbsent c s

    module _ (s : State) (reached : IsReached s) (who : Pid) where
      is_caller : (p : Process) → map.get s.procs who ≡ Some p → IsCaller l p
      is_caller p is = record {
        below = λ other. ((reached.reading.processes who p is other).effective, (reached.moving.processes who p is other).effective);
        others = λ c other. (or_parts (has p.caps.e c) (has p.caps.p c) (sym (has-union_of p.caps.e p.caps.p c) ∙ (reached.absent c other).unheld who p is)).0;
      }

      next_sets : (c : Cap) → only_above l c w ≡ true → AllSets (Processes c) (Files c) s → (called : Call) → AllSets (Processes c) (Files c) (step s who called).state
      next_sets c reserved sets called =
          step_cases s who called (λ o. AllSets (Processes c) (Files c) o.state) (λ _. sets)
          (λ p is. step_sets (Processes c) (Files c) s sets who p (kept c reserved s reached.same_bound sets who p is (is_caller p is)) called)

      next_reached : (called : Call) → IsReached (step s who called).state
      next_reached called = record {
        same_bound = fixed_after s who called (λ t. t.bound) bound-apply_change ∙ reached.same_bound;
        reading = next_sets cap.MacRead readers reached.reading called;
        moving = next_sets cap.MacUpgrade movers reached.moving called;
        absent = λ c other. absent_step c s who called (reached.absent c other);
      }

      step_inside : (called : Call) → any_crosses l (step s who called).recs ≡ false
      step_inside called =
          step_cases s who called (λ o. any_crosses l o.recs ≡ false) (λ _. refl)
          (λ p is.
          all_left_inside l who p (is_caller p is) _
          (step_left (Processes cap.MacRead) (Files cap.MacRead) s reached.reading who p
          (kept cap.MacRead readers s reached.same_bound reached.reading who p is (is_caller p is)) called))

    first_reached : is_within (mac_ever w) upward_caps ≡ true → IsReached (boot w)
    first_reached within = record {
      same_bound = fixed_booted (λ s. s.bound) bound-apply_change w;
      reading = first_sets cap.MacRead readers;
      moving = first_sets cap.MacUpgrade movers;
      absent = λ c other. never_boot c w (mac_never w upward_caps within c other.0 other.1);
    }

pub uncrossed_inside : UncrossedInside
uncrossed_inside l w items uncrossed =
    let parts = and_parts (is_within (mac_ever w) upward_caps && only_above l cap.MacRead w) (only_above l cap.MacUpgrade w) uncrossed in
    let first = and_parts (is_within (mac_ever w) upward_caps) (only_above l cap.MacRead w) parts.0 in
    none_recorded (crosses l) (λ who label caps. refl) (IsReached l w first.1 parts.1)
    (λ s who called reached. next_reached l w first.1 parts.1 s reached who called)
    (λ s who called reached. step_inside l w first.1 parts.1 s reached who called) w items (first_reached l w first.1 parts.1 first.0)

pub uncrossed_alone : UncrossedAlone
uncrossed_alone l w items world script uncrossed = isolated_whole l w items world script (run_inside l w items (uncrossed_inside l w items uncrossed))

pub uncrossed_worlds : UncrossedWorlds
uncrossed_worlds l w v is js world world' script script' same same_script uncrossed uncrossed' =
    two_worlds_same l w v is js world world' script script' same same_script (run_inside l w is (uncrossed_inside l w is uncrossed))
    (run_inside l v js (uncrossed_inside l v js uncrossed'))
