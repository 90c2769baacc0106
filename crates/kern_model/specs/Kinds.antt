-- Kinds of objects, their modes, and what is reported of an object.
use Rattle.std.specs.Prelude.{ℕ, ◌==◌, ◌||◌, nat_le, Bool, true, false, List, [], bit_and}
use Rattle.std.specs.Int.{bit_at, bit_not, w16}
pub use Rattle.fs_path.specs.Values.{is_mode}
use Rattle.lab_lattice.specs.Label.{Label}
use Rattle.kern_model.specs.declared.limits.TheConstants.{MAX_PERMISSIONS}
use Rattle.kern_model.specs.declared.objects.Attr.{Attr}
use Rattle.kern_model.specs.declared.objects.Body.{Body}
use Rattle.kern_model.specs.declared.objects.Body.TheVariants as body
use Rattle.kern_model.specs.declared.objects.Kind.{Kind}
use Rattle.kern_model.specs.declared.objects.Kind.TheVariants.{Dir, File, Fifo, Pipe}
use Rattle.kern_model.specs.declared.objects.Object.{Object}

abbrev pub is_dir : Kind → Bool
is_dir Dir = true
is_dir _ = false

abbrev pub is_file : Kind → Bool
is_file File = true
is_file _ = false

abbrev pub is_fifo : Kind → Bool
is_fifo Fifo = true
is_fifo _ = false

-- a pipe or a FIFO, from which bytes come out in order
abbrev pub is_stream : Kind → Bool
is_stream Fifo = true
is_stream Pipe = true
is_stream _ = false

abbrev pub kind_of : Body → Kind
kind_of body.Dir = Dir
kind_of (body.File bytes) = File
kind_of body.Fifo = Fifo
kind_of body.Pipe = Pipe

abbrev pub bytes_of : Body → List ℕ
bytes_of (body.File bytes) = bytes
bytes_of _ = []

-- an object as it is made
abbrev pub object_with : Label → Attr → Body → Object
object_with label attr body = record { kind = kind_of body; label = label; attr = attr; bytes = bytes_of body }

-- ---- modes

-- permission bits lie within octal 0777
abbrev pub is_permission : ℕ → Bool
is_permission mode = nat_le mode MAX_PERMISSIONS

abbrev pub sets_user : ℕ → Bool
sets_user mode = bit_at mode 11 == 1

abbrev pub sets_group : ℕ → Bool
sets_group mode = bit_at mode 10 == 1

-- whether a mode has a set-id bit
abbrev pub has_set_id : ℕ → Bool
has_set_id mode = sets_user mode || sets_group mode

-- the permission bits of a mode
abbrev pub permissions : ℕ → ℕ
permissions mode = bit_and mode MAX_PERMISSIONS

-- the permission bits of a mode but for those of an umask
abbrev pub masked_permissions : ℕ → ℕ → ℕ
masked_permissions mode umask = bit_and (permissions mode) (bit_not w16 umask)
