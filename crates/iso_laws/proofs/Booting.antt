-- What holds of the first state of a world.
use Rattle.std.specs.Prelude.{◌≡◌, ◌+◌, List, [], ◌∷◌, Some, refl, unwrap_or}
use Rattle.std.specs.Ordering.{nat_cmp}
use Rattle.std.proofs.Common.{◌∙◌}
use Rattle.std.specs.FinMap as map
use Rattle.std.specs.FinMap.{get-empty}
use Rattle.cap_bits.specs.CapSet.{CapSet}
use Rattle.fs_path.specs.Name.{Name}
use Rattle.lab_lattice.specs.Label.{Label}
use Rattle.lab_lattice.proofs.Labels.{dominates_bottom}
use Rattle.kern_model.specs.declared.numbers.Did.{Did}
use Rattle.kern_model.specs.declared.numbers.Oid.{Oid}
use Rattle.kern_model.specs.declared.world.World.{World}
use Rattle.kern_model.specs.declared.world.WorldObject.{WorldObject}
use Rattle.kern_model.specs.declared.world.WorldProc.{WorldProc}
use Rattle.kern_model.specs.Keys.{oid_cmp, pid_cmp, did_cmp}
use Rattle.kern_model.specs.State.{State, Description, DrawObject, DrawProcess, SetObject, SetProcess, Change, apply_change, apply_changes, last_drawn, look, next_object, next_process, root}
use Rattle.kern_model.specs.Boot.{object_of, process_of, entry_for, boot_object, boot_process, boot_objects, boot_processes, nothing, objects_loaded, boot}
use Rattle.kern_model.specs.Isolation.{Kept}
use Rattle.kern_model.proofs.MapLemmas.{never_some}
use Rattle.iso_laws.specs.Laws.{KeptBoot, TopBoot}
use Rattle.iso_laws.proofs.Part.{fixed_by, top-apply_change}
use Rattle.iso_laws.proofs.Changes.{kept_with, kept_object, kept_process}

-- ---- numbers and labels stay on one side
module _ (l : Label) where
  -- a kept state without descriptions
  record IsUnopened (s : State) : Type 0 where
    kept : Kept l s
    none : (did : Did) (d : Description) → map.get s.descriptions did ≡ Some d → ⊥

  unopened_nothing : (bound : CapSet) (top : Label) → IsUnopened (nothing bound top)
  unopened_nothing bound top =
      let no_description : (did : Did) (d : Description) → map.get (nothing bound top).descriptions did ≡ Some d → ⊥ = λ did d e. never_some _ d (get-empty did_cmp did) e in
      record {
        kept = record {
          objects = λ id o e. absurd (never_some _ o (get-empty oid_cmp id) e);
          procs = λ who p e. absurd (never_some _ p (get-empty pid_cmp who) e);
          parents = λ who parent p e. absurd (never_some _ p (get-empty pid_cmp who) e);
          ended = λ who p e. absurd (never_some _ p (get-empty pid_cmp who) e);
          fds = λ who p fd did e. absurd (never_some _ p (get-empty pid_cmp who) e);
          cwd = λ who p e. absurd (never_some _ p (get-empty pid_cmp who) e);
          descriptions = λ did d e. absurd (no_description did d e);
          streams = λ did d o e. absurd (no_description did d e);
        };
        none = no_description;
      }

  unopened_entries : (s t : State) → IsUnopened t → (dir : Oid) (names : List Name) (id : Oid) → IsUnopened (apply_changes t (entry_for s dir names id))
  unopened_entries s t fresh dir [] id = fresh
  unopened_entries s t fresh dir (name ∷ []) id = record { kept = kept_with l t fresh.kept _ _ _ _; none = fresh.none }
  unopened_entries s t fresh dir (name ∷ next ∷ names) id = unopened_entries s t fresh (unwrap_or (look s dir name) dir) (next ∷ names) id

  unopened_object : (s : State) (o : WorldObject) → IsUnopened s → IsUnopened (boot_object s o)
  unfolding boot_object
  unopened_object s o fresh =
      let drew : State = apply_change s (DrawObject o.label (last_drawn s.object_numbers o.label + 1)) in
      unopened_entries s (apply_change drew (SetObject (next_object s o.label) (object_of o)))
      (record { kept = kept_object l drew (kept_with l s fresh.kept _ _ _ _) (next_object s o.label) (object_of o) refl (λ did d e. absurd (fresh.none did d e)); none = fresh.none })
      root o.path.names (next_object s o.label)

  unopened_objects : (os : List WorldObject) (s : State) → IsUnopened s → IsUnopened (boot_objects s os)
  unopened_objects [] s fresh = fresh
  unopened_objects (o ∷ os) s fresh = unopened_objects os (boot_object s o) (unopened_object s o fresh)

  kept_boot_process : (s : State) (w : WorldProc) → Kept l s → Kept l (boot_process s w)
  unfolding boot_process
  kept_boot_process s w kept =
      kept_process l (apply_change s (DrawProcess w.label (last_drawn s.process_numbers w.label + 1))) (kept_with l s kept _ _ _ _) (next_process s w.label) (process_of w)
      (record { label = refl; parent = λ q e. cc; ended = tt; fds = λ fd did e. absurd (never_some _ did (get-empty nat_cmp fd) e); cwd = λ _. dominates_bottom l })

  kept_processes : (ws : List WorldProc) (s : State) → Kept l s → Kept l (boot_processes s ws)
  kept_processes [] s kept = kept
  kept_processes (w ∷ ws) s kept = kept_processes ws (boot_process s w) (kept_boot_process s w kept)

pub kept_boot : KeptBoot
kept_boot l w = kept_processes l w.procs (objects_loaded w) (unopened_objects l w.objects (nothing w.bound w.top) (unopened_nothing l w.bound w.top)).kept

-- ---- what no change alters
module _ {X : Type 0} (of : State → X) (fixed : (s : State) (c : Change) → of (apply_change s c) ≡ of s) where
  fixed_objects : (os : List WorldObject) (s : State) → of (boot_objects s os) ≡ of s
  unfolding boot_object
  fixed_objects [] s = refl
  fixed_objects (o ∷ os) s = fixed_objects os (boot_object s o) ∙ fixed_by of fixed s (DrawObject o.label (last_drawn s.object_numbers o.label + 1) ∷ SetObject (next_object s o.label) (object_of o) ∷ entry_for s root o.path.names (next_object s o.label))

  fixed_processes : (ws : List WorldProc) (s : State) → of (boot_processes s ws) ≡ of s
  unfolding boot_process
  fixed_processes [] s = refl
  fixed_processes (w ∷ ws) s = fixed_processes ws (boot_process s w) ∙ fixed_by of fixed s (DrawProcess w.label (last_drawn s.process_numbers w.label + 1) ∷ SetProcess (next_process s w.label) (process_of w) ∷ [])

  pub fixed_booted : (w : World) → of (boot w) ≡ of (nothing w.bound w.top)
  fixed_booted w = fixed_processes w.procs (objects_loaded w) ∙ fixed_objects w.objects (nothing w.bound w.top)

pub top_boot : TopBoot
top_boot w = fixed_booted (λ s. s.top) top-apply_change w
