-- The first state of a world without some capabilities.
use Rattle.std.specs.Prelude.{◌≡◌, ◌+◌, List, [], ◌∷◌, map as map_list, Some, refl, unwrap_or}
use Rattle.std.specs.Option.{option_map}
use Rattle.std.specs.declared.cmp.Ordering.{Ordering}
use Rattle.std.specs.FinMap as map
use Rattle.std.specs.FinMap.{FinMap, IsAntisymmetric, get-empty, same_map}
use Rattle.std.specs.Cmp.{IsTotalOrder}
use Rattle.std.proofs.Common.{sym, ◌∙◌, ap}
use Rattle.cap_bits.specs.CapSet.{CapSet, minus_of}
use Rattle.fs_path.specs.Name.{Name}
use Rattle.lab_lattice.specs.Label.{Label}
use Rattle.kern_model.specs.declared.numbers.Oid.{Oid}
use Rattle.kern_model.specs.declared.records.Rec.TheVariants as rec
use Rattle.kern_model.specs.declared.world.World.{World}
use Rattle.kern_model.specs.declared.world.WorldObject.{WorldObject}
use Rattle.kern_model.specs.declared.world.WorldProc.{WorldProc}
use Rattle.kern_model.specs.Boot.{boot, boot_object, boot_objects, boot_process, boot_processes, boot_recs, boot_recs_from, entry_for, nothing, object_of, objects_loaded, process_of}
use Rattle.kern_model.specs.Maps.{select}
use Rattle.kern_model.specs.State.{State, Change, DrawObject, DrawProcess, SetObject, SetProcess, apply_changes, last_drawn, look, next_object, next_process, root}
use Rattle.kern_model.proofs.KeyLaws.{oid_cmp_total, oid_cmp_exact, pid_cmp_total, pid_cmp_exact}
use Rattle.kern_model.proofs.Selections.{get-select_each}
use Rattle.least_caps.specs.Narrowed.{narrowed, object_narrowed, process_narrowed}
use Rattle.least_caps.specs.NarrowedStates.{object_without, process_without, record_without, state_without}
use Rattle.least_caps.proofs.StatesWithout.{apply_changes-without, changes_without}

-- what is selected of no entry is none
select_none : {K X Y : Type 0} {R : K → K → Ordering} → IsTotalOrder R → IsAntisymmetric R → (g : K → X → Y)
    → ◌≡◌ {A = FinMap R Y} (select {R = R} (λ q x. Some (g q x)) map.empty) map.empty
select_none {X = X} {Y = Y} {R = R} o exact g =
    same_map o exact _ _ (λ q. get-select_each o exact g map.empty q ∙ ap (option_map (g q)) (get-empty {X = X} R q) ∙ sym (get-empty {X = Y} R q))

module _ (d : CapSet) where
  entry-without : (s : State) (dir : Oid) (names : List Name) (id : Oid)
      → entry_for (state_without d s) dir names id ≡ changes_without d (entry_for s dir names id)
  entry-without s dir [] id = refl
  entry-without s dir (name ∷ []) id = refl
  entry-without s dir (name ∷ next ∷ names) id = entry-without s (unwrap_or (look s dir name) dir) (next ∷ names) id

  boot_object-without : (s : State) (o : WorldObject) → boot_object (state_without d s) (object_narrowed d o) ≡ state_without d (boot_object s o)
  unfolding boot_object
  boot_object-without s o =
      let id : Oid = next_object s o.label in
      let drawn : Change = DrawObject o.label (last_drawn s.object_numbers o.label + 1) in
      ap (λ cs. apply_changes (state_without d s) (drawn ∷ SetObject id (object_without d (object_of o)) ∷ cs)) (entry-without s root o.path.names id)
      ∙ apply_changes-without d (DrawObject o.label (last_drawn s.object_numbers o.label + 1) ∷ SetObject id (object_of o) ∷ entry_for s root o.path.names id) s

  boot_process-without : (s : State) (w : WorldProc) → boot_process (state_without d s) (process_narrowed d w) ≡ state_without d (boot_process s w)
  unfolding boot_process
  boot_process-without s w =
      apply_changes-without d (DrawProcess w.label (last_drawn s.process_numbers w.label + 1) ∷ SetProcess (next_process s w.label) (process_of w) ∷ []) s

  boot_objects-without : (s : State) (os : List WorldObject)
      → boot_objects (state_without d s) (map_list (object_narrowed d) os) ≡ state_without d (boot_objects s os)
  boot_objects-without s [] = refl
  boot_objects-without s (o ∷ os) =
      ap (λ t. boot_objects t (map_list (object_narrowed d) os)) (boot_object-without s o) ∙ boot_objects-without (boot_object s o) os

  boot_processes-without : (s : State) (ws : List WorldProc)
      → boot_processes (state_without d s) (map_list (process_narrowed d) ws) ≡ state_without d (boot_processes s ws)
  boot_processes-without s [] = refl
  boot_processes-without s (w ∷ ws) =
      ap (λ t. boot_processes t (map_list (process_narrowed d) ws)) (boot_process-without s w) ∙ boot_processes-without (boot_process s w) ws

  nothing-without : (bound : CapSet) (top : Label) → nothing (minus_of bound d) top ≡ state_without d (nothing bound top)
  nothing-without bound top = λ i. record (nothing (minus_of bound d) top) {
    objects = sym (select_none oid_cmp_total oid_cmp_exact (λ id o. object_without d o)) i;
    procs = sym (select_none pid_cmp_total pid_cmp_exact (λ who p. process_without d p)) i;
  }

  loaded-without : (w : World) → objects_loaded (narrowed d w) ≡ state_without d (objects_loaded w)
  loaded-without w =
      ap (λ s. boot_objects s (map_list (object_narrowed d) w.objects)) (nothing-without w.bound w.top) ∙ boot_objects-without (nothing w.bound w.top) w.objects

  -- it is that of the world, without the capabilities
  pub boot-without : (w : World) → boot (narrowed d w) ≡ state_without d (boot w)
  boot-without w = ap (λ s. boot_processes s (map_list (process_narrowed d) w.procs)) (loaded-without w) ∙ boot_processes-without (objects_loaded w) w.procs

  recs-without : (s : State) (ws : List WorldProc)
      → boot_recs_from (state_without d s) (map_list (process_narrowed d) ws) ≡ map_list (record_without d) (boot_recs_from s ws)
  recs-without s [] = refl
  recs-without s (w ∷ ws) = ap (λ rs. rec.Boot (next_process s w.label) w.label (process_narrowed d w).caps ∷ rs)
      (ap (λ t. boot_recs_from t (map_list (process_narrowed d) ws)) (boot_process-without s w) ∙ recs-without (boot_process s w) ws)

  -- and so are the records of the start
  pub boot_recs-without : (w : World) → boot_recs (narrowed d w) ≡ map_list (record_without d) (boot_recs w)
  boot_recs-without w = ap (λ s. boot_recs_from s (map_list (process_narrowed d) w.procs)) (loaded-without w) ∙ recs-without (objects_loaded w) w.procs
