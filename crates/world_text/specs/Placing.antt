-- Why an object or a process can't come after those before it.
use Rattle.std.specs.Prelude.{◌&&◌, ◌||◌, ◌==◌, not, nat_le, Bool, true, false, cond, List, [], ◌∷◌, length, Option, None, Some, is_some}
use Rattle.fs_path.specs.Name.{Name}
use Rattle.lab_lattice.specs.Label.{Label, bottom, dominates}
use Rattle.kern_model.specs.declared.limits.TheConstants.{MAX_OBJECTS, MAX_PROCS}
use Rattle.kern_model.specs.declared.world.WorldObject.{WorldObject}
use Rattle.kern_model.specs.declared.world.WorldProc.{WorldProc}
use Rattle.kern_model.specs.Kinds.{kind_of}
use Rattle.kern_model.specs.Kinds.{is_dir}
use Rattle.kern_model.specs.World.{object_with_path, parent_names, objects_at, procs_at}
use Rattle.line_text.specs.declared.fault.LineFault.{LineFault}
use Rattle.line_text.specs.declared.fault.LineFault.TheVariants.{Repeated, NoParent, LabelOrder, RootLabel, TooMany}
use Rattle.world_text.specs.Tree.{Tree}

-- a directory that was given
abbrev pub is_directory : Option WorldObject → Bool
is_directory None = false
is_directory (Some o) = is_dir (kind_of o.body)

-- whether a label dominates that of what was given
abbrev pub is_above : Label → Option WorldObject → Bool
is_above label None = true
is_above label (Some o) = dominates label o.label

-- what was given as the directory of a path; the root has none
abbrev pub directory_of : List WorldObject → List Name → Option WorldObject
directory_of os [] = None
directory_of os (n ∷ ns) = object_with_path os (parent_names (n ∷ ns))

abbrev pub is_root : List Name → Bool
is_root [] = true
is_root (n ∷ ns) = false

-- why an object can't come after those before it, if it can't: its path was given, its directory was not, it is the root and
-- no directory of the bottom label, its label does not dominate the directory's, or no number of its label is left
unfoldable pub object_fault : Tree → WorldObject → Option LineFault
object_fault t o =
    cond (is_some (object_with_path t.objects o.path.names)) (Some Repeated)
    (cond (not (is_root o.path.names || is_directory (directory_of t.objects o.path.names))) (Some NoParent)
    (cond (is_root o.path.names && not (is_dir (kind_of o.body) && dominates bottom o.label)) (Some RootLabel)
    (cond (not (is_above o.label (directory_of t.objects o.path.names))) (Some LabelOrder)
    (cond (nat_le MAX_OBJECTS (objects_at o.label t.objects)) (Some TooMany) None))))

-- why a process can't come after those before it, if it can't: there is no root yet, or no number of its label is left
unfoldable pub process_fault : Tree → WorldProc → Option LineFault
process_fault t w =
    cond (length t.objects == 0) (Some NoParent)
    (cond (nat_le MAX_PROCS (procs_at w.label t.procs)) (Some TooMany) None)
