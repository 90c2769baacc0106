-- A world without some capabilities is a world.
use Rattle.std.specs.Prelude.{◌≡◌, ◌+◌, ◌≤◌, true, false, List, [], ◌∷◌, ◌++◌, map, Some, cond, refl}
use Rattle.std.specs.List.{AllByRecursion}
use Rattle.std.specs.Option.{option_map}
use Rattle.std.proofs.Common.{sym, ◌∙◌, ap, subst}
use Rattle.std.proofs.lemmas.List.{map-append}
use Rattle.std.proofs.lemmas.List.Sums.{sum_by-cons}
use Rattle.cap_bits.specs.CapSet.{CapSet}
use Rattle.fs_path.specs.Name.{Name}
use Rattle.lab_lattice.specs.Label.{Label}
use Rattle.kern_model.specs.declared.limits.TheConstants.{MAX_OBJECTS, MAX_PROCS}
use Rattle.kern_model.specs.declared.world.World.{World}
use Rattle.kern_model.specs.declared.world.WorldObject.{WorldObject}
use Rattle.kern_model.specs.declared.world.WorldProc.{WorldProc}
use Rattle.kern_model.specs.Rules.{same_label}
use Rattle.kern_model.specs.World.{objects_at, procs_at, same_names, parent_names, object_with_path, IsPlaced, ArePlaced, IsWorldObject, IsWorldProc, IsWorld}
use Rattle.least_caps.specs.Narrowed.{object_narrowed, process_narrowed, narrowed}
use Rattle.least_caps.proofs.NarrowedSets.{minus-within, narrowed-no_file_caps}

module _ (d : CapSet) where
  -- an object is found under a path as it was
  found-narrowed : (os : List WorldObject) (names : List Name)
      → object_with_path (map (object_narrowed d) os) names ≡ option_map (object_narrowed d) (object_with_path os names)
  found-narrowed [] names = refl
  found-narrowed (o ∷ os) names =
      ap (λ w. cond (same_names o.path.names names) (Some (object_narrowed d o)) w) (found-narrowed os names)
      ∙ elim (same_names o.path.names names) as (λ b. cond b (Some (object_narrowed d o)) (option_map (object_narrowed d) (object_with_path os names))
      ≡ option_map (object_narrowed d) (cond b (Some o) (object_with_path os names))) [ true ↦ refl | false ↦ refl ]

  placed-narrowed : (before : List WorldObject) (o : WorldObject) → IsPlaced before o → IsPlaced (map (object_narrowed d) before) (object_narrowed d o)
  placed-narrowed before o h = record {
    new = found-narrowed before o.path.names ∙ ap (option_map (object_narrowed d)) h.new;
    parent = object_narrowed d h.parent;
    parent_given = found-narrowed before (parent_names o.path.names) ∙ ap (option_map (object_narrowed d)) h.parent_given;
    parent_dir = h.parent_dir;
    order = h.order;
  }

  all_placed-narrowed : (before os : List WorldObject) → ArePlaced before os → ArePlaced (map (object_narrowed d) before) (map (object_narrowed d) os)
  all_placed-narrowed before [] h = tt
  all_placed-narrowed before (o ∷ os) h = (
    placed-narrowed before o h.0,
    subst (λ bs. ArePlaced bs (map (object_narrowed d) os)) (map-append (object_narrowed d) before (o ∷ [])) (all_placed-narrowed (before ++ o ∷ []) os h.1),
  )

  object-narrowed : (top : Label) (o : WorldObject) → IsWorldObject top o → IsWorldObject top (object_narrowed d o)
  object-narrowed top o h = record {
    absolute = h.absolute;
    path = h.path;
    mode = h.mode;
    below = h.below;
    few = h.few;
    no_pipe = h.no_pipe;
    only_file =
        λ no_file. ap (λ caps. (object_narrowed d (record o { attr = record o.attr { caps = caps } })).attr.caps) (h.only_file no_file)
        ∙ narrowed-no_file_caps d;
  }

  process-narrowed : (top : Label) (p : WorldProc) → IsWorldProc top p → IsWorldProc top (process_narrowed d p)
  process-narrowed top p h = record { ids = h.ids; few = h.few; below = h.below; within = minus-within d p.caps.e p.caps.p h.within }

  objects-narrowed : (top : Label) (os : List WorldObject) → AllByRecursion (IsWorldObject top) os
      → AllByRecursion (IsWorldObject top) (map (object_narrowed d) os)
  objects-narrowed top [] h = tt
  objects-narrowed top (o ∷ os) h = (object-narrowed top o h.0, objects-narrowed top os h.1)

  processes-narrowed : (top : Label) (ps : List WorldProc) → AllByRecursion (IsWorldProc top) ps
      → AllByRecursion (IsWorldProc top) (map (process_narrowed d) ps)
  processes-narrowed top [] h = tt
  processes-narrowed top (p ∷ ps) h = (process-narrowed top p h.0, processes-narrowed top ps h.1)

  -- as many objects and processes have a label as had it
  objects_at-narrowed : (l : Label) (os : List WorldObject) → objects_at l (map (object_narrowed d) os) ≡ objects_at l os
  objects_at-narrowed l [] = refl
  objects_at-narrowed l (o ∷ os) =
      sum_by-cons (λ (x : WorldObject). cond (same_label x.label l) 1 0) (object_narrowed d o) (map (object_narrowed d) os)
      ∙ ap (λ n. cond (same_label o.label l) 1 0 + n) (objects_at-narrowed l os)
      ∙ sym (sum_by-cons (λ (x : WorldObject). cond (same_label x.label l) 1 0) o os)

  procs_at-narrowed : (l : Label) (ps : List WorldProc) → procs_at l (map (process_narrowed d) ps) ≡ procs_at l ps
  procs_at-narrowed l [] = refl
  procs_at-narrowed l (p ∷ ps) =
      sum_by-cons (λ (x : WorldProc). cond (same_label x.label l) 1 0) (process_narrowed d p) (map (process_narrowed d) ps)
      ∙ ap (λ n. cond (same_label p.label l) 1 0 + n) (procs_at-narrowed l ps)
      ∙ sym (sum_by-cons (λ (x : WorldProc). cond (same_label x.label l) 1 0) p ps)

  -- a world stays one
  pub is_world_narrowed : (w : World) → IsWorld w → IsWorld (narrowed d w)
  is_world_narrowed w h = record {
    first = object_narrowed d h.first;
    others = map (object_narrowed d) h.others;
    objects_are = ap (map (object_narrowed d)) h.objects_are;
    no_names = h.no_names;
    root_body = h.root_body;
    root_label = h.root_label;
    others_placed = all_placed-narrowed (h.first ∷ []) h.others h.others_placed;
    objects = objects-narrowed w.top w.objects h.objects;
    procs = processes-narrowed w.top w.procs h.procs;
    room = record {
      objects = λ l. subst (λ n. n ≤ MAX_OBJECTS) (sym (objects_at-narrowed l w.objects)) (h.room.objects l);
      procs = λ l. subst (λ n. n ≤ MAX_PROCS) (sym (procs_at-narrowed l w.procs)) (h.room.procs l);
    };
  }
