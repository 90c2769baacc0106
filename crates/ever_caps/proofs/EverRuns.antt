-- What is not in the set of a world is absent from each of its states, and exercised in no record.
use Rattle.std.specs.Prelude.{◌≡◌, ◌&&◌, true, false, List, [], ◌∷◌, refl}
use Rattle.std.specs.List.{AllByRecursion}
use Rattle.std.proofs.Common.{sym, ◌∙◌}
use Rattle.std.proofs.lemmas.Bool.{and_from, and_parts, false_from_ne_true, or_left, or_parts, or_right, true≢false}
use Rattle.cap_bits.specs.CapSet.{has, union_of}
use Rattle.cap_bits.specs.FileCaps.{shown}
use Rattle.cap_bits.specs.declared.cap.Cap.{Cap}
use Rattle.cap_bits.specs.declared.state.CapState.{CapState}
use Rattle.cap_bits.proofs.CapSets.{has-union_of}
use Rattle.kern_model.specs.declared.world.ScriptItem.{ScriptItem}
use Rattle.kern_model.specs.declared.world.World.{World}
use Rattle.kern_model.specs.declared.world.WorldObject.{WorldObject}
use Rattle.kern_model.specs.declared.world.WorldProc.{WorldProc}
use Rattle.kern_model.specs.Boot.{boot}
use Rattle.kern_model.specs.Exec.{exec_permitted}
use Rattle.kern_model.specs.Run.{state_after_run}
use Rattle.kern_model.specs.State.{State}
use Rattle.kern_model.specs.Step.{step}
use Rattle.iso_laws.specs.Unnamed.{is_exercise_of}
use Rattle.iso_laws.proofs.Booting.{fixed_booted}
use Rattle.iso_laws.proofs.Part.{bound-apply_change}
use Rattle.ever_caps.specs.Absent.{IsAbsent}
use Rattle.ever_caps.specs.Ever.{all_files, all_processes, ever, join, joined}
use Rattle.ever_caps.specs.Laws.{NeverBoot, NeverEnd, NeverExercised}
use Rattle.ever_caps.proofs.Absent.{Files, Processes, absent_from, absent_step, absent_unnamed}
use Rattle.ever_caps.proofs.Kept.{has-exec_permitted}
use Rattle.ever_caps.proofs.Recorded.{none_recorded}
use Rattle.ever_caps.proofs.States.{all_weaker, boot_sets}

-- ---- what several have together
-- the second state has a capability in each set in which the first has it
pub record HasToo (c : Cap) (a b : CapState) : Type 0 where
  pub e : has a.e c ≡ true → has b.e c ≡ true
  pub i : has a.i c ≡ true → has b.i c ≡ true
  pub p : has a.p c ≡ true → has b.p c ≡ true

module _ (c : Cap) where
  first_has : (a b : CapState) → HasToo c a (join a b)
  first_has a b = record {
    e = λ h. has-union_of a.e b.e c ∙ or_left (has a.e c) (has b.e c) h;
    i = λ h. has-union_of a.i b.i c ∙ or_left (has a.i c) (has b.i c) h;
    p = λ h. has-union_of a.p b.p c ∙ or_left (has a.p c) (has b.p c) h;
  }

  second_has : (a b : CapState) → HasToo c b (join a b)
  second_has a b = record {
    e = λ h. has-union_of a.e b.e c ∙ or_right (has a.e c) (has b.e c) h;
    i = λ h. has-union_of a.i b.i c ∙ or_right (has a.i c) (has b.i c) h;
    p = λ h. has-union_of a.p b.p c ∙ or_right (has a.p c) (has b.p c) h;
  }

  -- what one has, all have together
  pub together : {X : Type 0} (f : X → CapState) (xs : List X) → AllByRecursion (λ x. HasToo c (f x) (joined f xs)) xs
  together f [] = tt
  together f (x ∷ xs) =
      let more = second_has (f x) (joined f xs) in (
        first_has (f x) (joined f xs),
        all_weaker (λ y. HasToo c (f y) (joined f xs)) (λ y. HasToo c (f y) (joined f (x ∷ xs))) (λ y h. record { e = λ t. more.e (h.e t); i = λ t. more.i (h.i t); p = λ t. more.p (h.p t) }) xs
            (together f xs),
      )

-- ---- the first state
module _ (c : Cap) (w : World) (never : has (ever w) c ≡ false) where
  abbrev Inherits : Type 0
  Inherits = has (all_processes w).i c ≡ true

  abbrev LetsInherit : Type 0
  LetsInherit = has (all_files w).i c ≡ true

  -- no process has it, and no program gives it
  parts : (has (union_of (all_processes w).e (all_processes w).p) c ≡ false) × (has (exec_permitted (all_processes w) (all_files w) w.bound) c ≡ false)
  parts = or_parts _ _ (sym (has-union_of (union_of (all_processes w).e (all_processes w).p) (exec_permitted (all_processes w) (all_files w) w.bound) c) ∙ never)

  pub held : (has (all_processes w).e c ≡ false) × (has (all_processes w).p c ≡ false)
  held = or_parts _ _ (sym (has-union_of (all_processes w).e (all_processes w).p c) ∙ parts.0)

  pub given : ((has (all_files w).p c && has w.bound c) ≡ false) × ((has (all_files w).i c && has (all_processes w).i c) ≡ false)
  given = or_parts _ _ (sym (has-exec_permitted (all_processes w) (all_files w) w.bound c) ∙ parts.1)

  not_both : LetsInherit → Inherits → ⊥
  not_both file process = true≢false (sym (and_from _ _ file process) ∙ given.1)

  processes_without : AllByRecursion (λ (p : WorldProc). Processes c w.bound Inherits LetsInherit not_both p.label p.caps) w.procs
  processes_without =
      all_weaker (λ (p : WorldProc). HasToo c p.caps (all_processes w)) (λ (p : WorldProc). Processes c w.bound Inherits LetsInherit not_both p.label p.caps)
      (λ p h _. record {
        lives = tt;
        effective = false_from_ne_true _ (λ t. true≢false (sym (h.e t) ∙ held.0));
        permitted = false_from_ne_true _ (λ t. true≢false (sym (h.p t) ∙ held.1));
        inherits = h.i;
      })
      w.procs (together c (λ (p : WorldProc). p.caps) w.procs)

  files_without : AllByRecursion (λ (o : WorldObject). Files c w.bound Inherits LetsInherit not_both o.label o.attr.caps) w.objects
  files_without =
      all_weaker (λ (o : WorldObject). HasToo c (shown o.attr.caps) (all_files w)) (λ (o : WorldObject). Files c w.bound Inherits LetsInherit not_both o.label o.attr.caps)
      (λ o h _. record {
        permits = λ t. let both = and_parts (has o.attr.caps.p c) (has w.bound c) t in true≢false (sym (and_from _ _ (h.p both.0) both.1) ∙ given.0);
        lets_inherit = h.i;
      })
      w.objects (together c (λ (o : WorldObject). shown o.attr.caps) w.objects)

  booted : IsAbsent c (boot w)
  booted =
      absent_from c w.bound Inherits LetsInherit not_both (boot w) (boot_sets _ _ w files_without processes_without)
      (fixed_booted (λ s. s.bound) bound-apply_change w)

pub never_boot : NeverBoot
never_boot c w never = booted c w never

-- ---- runs
absent_run : (c : Cap) (items : List ScriptItem) (s : State) → IsAbsent c s → IsAbsent c (state_after_run s items)
absent_run c [] s absent = absent
absent_run c (i ∷ is) s absent = absent_run c is (step s i.who i.call).state (absent_step c s i.who i.call absent)

pub never_end : NeverEnd
never_end c w items never = absent_run c items (boot w) (booted c w never)

pub never_exercised : NeverExercised
never_exercised c w items never =
    none_recorded (is_exercise_of c) (λ who label caps. refl) (IsAbsent c) (absent_step c) (absent_unnamed c) w items (booted c w never)
