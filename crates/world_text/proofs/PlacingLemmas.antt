-- The first fault of an object or a process, in the order of the tests.
use Rattle.std.proofs.Common.{◌≡◌, ◌<◌, Bool, true, false, cond, not, ◌&&◌, ◌||◌, nat_le, length, refl, sym, ◌∙◌, ap, Option, Some, None}
use Rattle.std.specs.Prelude.{is_some, ◌==◌}
use Rattle.std.specs.Option.{option_map}
use Rattle.std.proofs.lemmas.Bool.{leb-false}
use Rattle.lab_lattice.specs.Label.{bottom, dominates}
use Rattle.kern_model.specs.declared.limits.TheConstants.{MAX_OBJECTS, MAX_PROCS}
use Rattle.kern_model.specs.declared.world.WorldObject.{WorldObject}
use Rattle.kern_model.specs.declared.world.WorldProc.{WorldProc}
use Rattle.kern_model.specs.Kinds.{kind_of}
use Rattle.kern_model.specs.Kinds.{is_dir}
use Rattle.kern_model.specs.World.{object_with_path, objects_at, procs_at}
use Rattle.line_text.specs.declared.fault.LineFault.{LineFault}
use Rattle.line_text.specs.declared.fault.LineFault.TheVariants.{Repeated, NoParent, LabelOrder, RootLabel, TooMany}
use Rattle.world_text.specs.declared.builder.PathEntry.{PathEntry}
use Rattle.world_text.specs.declared.builder.Spot.{Spot}
use Rattle.world_text.specs.Tree.{Tree}
use Rattle.world_text.specs.Indexed.{IsSpot, path_entry_of, object_at, is_dir_entry, is_above_entry}
use Rattle.world_text.specs.Placing.{is_directory, is_above, directory_of, is_root, object_fault, process_fault}
use Rattle.world_text.proofs.BuilderLemmas.{stands_as_dir, stands_above}

-- the first fault of an object, from the results of the tests
abbrev pub first_fault : (repeated parent wrong above full : Bool) → Option LineFault
first_fault repeated parent wrong above full =
    cond repeated (Some Repeated) (cond (not parent) (Some NoParent) (cond wrong (Some RootLabel) (cond (not above) (Some LabelOrder) (cond full (Some TooMany) None))))

-- an object at the root's path may not be the root
abbrev pub wrong_root : WorldObject → Bool
wrong_root o = is_root o.path.names && not (is_dir (kind_of o.body) && dominates bottom o.label)

-- the first fault is found from the spot of an object and from the entry of its directory
pub fault_reported : (t : Tree) (o : WorldObject) (s : Spot) (d : Option PathEntry) (repeated parent wrong above full : Bool)
    → IsSpot t o s → d ≡ option_map path_entry_of (object_at t.objects s.directory)
    → is_some (object_with_path t.objects o.path.names) ≡ repeated → (is_root o.path.names || is_dir_entry d) ≡ parent → wrong_root o ≡ wrong → is_above_entry o.label d ≡ above → nat_le MAX_OBJECTS s.count ≡ full
    → first_fault repeated parent wrong above full ≡ object_fault t o
unfolding object_fault
fault_reported t o s d repeated parent wrong above full spot entry e f g h k = sym (λ i. first_fault (e i) (has_parent i) (g i) (is_over i) (is_full i))
  where
    dir : d ≡ option_map path_entry_of (directory_of t.objects o.path.names)
    dir = entry ∙ ap (option_map path_entry_of) spot.directory_is

    has_parent : (is_root o.path.names || is_directory (directory_of t.objects o.path.names)) ≡ parent
    has_parent = ap (λ v. is_root o.path.names || v) (sym (ap is_dir_entry dir ∙ stands_as_dir (directory_of t.objects o.path.names))) ∙ f

    is_over : is_above o.label (directory_of t.objects o.path.names) ≡ above
    is_over = sym (ap (is_above_entry o.label) dir ∙ stands_above o.label (directory_of t.objects o.path.names)) ∙ h

    is_full : nat_le MAX_OBJECTS (objects_at o.label t.objects) ≡ full
    is_full = ap (nat_le MAX_OBJECTS) (sym spot.count_is) ∙ k

pub record HasPlace (t : Tree) (o : WorldObject) : Type 0 where
  pub free : object_with_path t.objects o.path.names ≡ None
  pub room : objects_at o.label t.objects < MAX_OBJECTS

-- an object without a fault has a path at which nothing was given, and there is room for it
pub without_fault : (t : Tree) (o : WorldObject) → object_fault t o ≡ None → HasPlace t o
unfolding object_fault
without_fault t o e = by_tests (object_with_path t.objects o.path.names) (is_root o.path.names || is_directory (directory_of t.objects o.path.names)) (wrong_root o) (is_above o.label (directory_of t.objects o.path.names)) (nat_le MAX_OBJECTS (objects_at o.label t.objects)) refl refl e
  where
    by_tests : (g : Option WorldObject) (parent wrong above full : Bool) → object_with_path t.objects o.path.names ≡ g → nat_le MAX_OBJECTS (objects_at o.label t.objects) ≡ full → first_fault (is_some g) parent wrong above full ≡ None → HasPlace t o
    by_tests (Some x) parent wrong above full f k e = absurd (cc)
    by_tests None false wrong above full f k e = absurd (cc)
    by_tests None true true above full f k e = absurd (cc)
    by_tests None true false false full f k e = absurd (cc)
    by_tests None true false true true f k e = absurd (cc)
    by_tests None true false true false f k e = record { free = f; room = leb-false MAX_OBJECTS (objects_at o.label t.objects) k }

-- there is room for a process without a fault
pub room_without_fault : (t : Tree) (w : WorldProc) → process_fault t w ≡ None → procs_at w.label t.procs < MAX_PROCS
unfolding process_fault
room_without_fault t w e = by_tests (length t.objects == 0) (nat_le MAX_PROCS (procs_at w.label t.procs)) refl e
  where
    by_tests : (none full : Bool) → nat_le MAX_PROCS (procs_at w.label t.procs) ≡ full → cond none (Some NoParent) (cond full (Some TooMany) None) ≡ None → procs_at w.label t.procs < MAX_PROCS
    by_tests true full k e = absurd (cc)
    by_tests false true k e = absurd (cc)
    by_tests false false k e = leb-false MAX_PROCS (procs_at w.label t.procs) k
