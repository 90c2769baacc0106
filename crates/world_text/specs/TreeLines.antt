-- What the lines of the tree say: directories, files and FIFOs.
use Rattle.std.specs.Prelude.{ℕ, Bool, not, List, [], ◌∷◌, ◌++◌, Option, None, Some}
use Rattle.cap_bits.specs.declared.state.CapState.{CapState}
use Rattle.cap_bits.specs.declared.file_caps.FileCaps.{FileCaps}
use Rattle.cap_bits.specs.FileCaps.{caps_by, is_uniform}
use Rattle.cap_bits.specs.State.{no_flags}
use Rattle.fs_path.specs.Options.{keep_if, then}
use Rattle.fs_path.specs.Path.{PathValue}
use Rattle.fs_path.specs.Values.{number_of, mode_of}
use Rattle.lab_lattice.specs.Label.{Label}
use Rattle.lab_text.specs.Names.{Names}
use Rattle.lab_text.specs.Policy.{PolicyNames}
use Rattle.kern_model.specs.declared.objects.Body.{Body}
use Rattle.kern_model.specs.declared.objects.Body.TheVariants as body
use Rattle.kern_model.specs.declared.world.WorldObject.{WorldObject}
use Rattle.line_text.specs.Reading.{path_of}
use Rattle.line_text.specs.declared.fault.LineFault.TheVariants.{Syntax, MixedCaps}
use Rattle.world_text.specs.declared.expecting.Expecting.TheVariants as at
use Rattle.world_text.specs.declared.tree.ObjectFields.{ObjectFields}
use Rattle.world_text.specs.declared.expecting.PartialWorld.{PartialWorld}
use Rattle.world_text.specs.declared.values.WordValue.{WordValue}
use Rattle.world_text.specs.declared.values.WordValue.TheVariants as value
use Rattle.world_text.specs.declared.expecting.Parsed.{Parsed}
use Rattle.world_text.specs.declared.expecting.Parsed.TheVariants.{Refuses, GoesOn}
use Rattle.world_text.specs.Placing.{object_fault}
use Rattle.world_text.specs.Values.{unless, refuse_or, with_form, with_value, caps_of, label_of, both}

-- an absolute path
abbrev pub absolute_path : List ℕ → Option PathValue
absolute_path word = then (path_of word) (λ path. keep_if path.absolute path)

-- `PATH MODE UID GID LABEL`
unfoldable pub object_fields_of : PolicyNames → (path mode uid gid label : List ℕ) → Option ObjectFields
object_fields_of policy path mode uid gid label =
    then (absolute_path path) (λ path. then (mode_of mode) (λ mode. then (number_of uid) (λ owner. then (number_of gid) (λ group.
    Some (record { path = path; mode = mode; owner = owner; group = group; label = label_of policy label })))))

-- the first five words of a tree line
abbrev pub object_fields_in : PolicyNames → Names → Option ObjectFields
object_fields_in policy (path ∷ mode ∷ uid ∷ gid ∷ label ∷ more) = object_fields_of policy path mode uid gid label
object_fields_in policy _ = None

-- an object comes after those before it, if it can; last, a file has to be able to have the state that its line gives
abbrev pub parse_object : PartialWorld → WorldObject → Bool → Parsed
parse_object w o uniform =
    refuse_or (object_fault w.builder o) (unless (not uniform) MixedCaps (GoesOn (at.Tree (record w { builder = record w.builder { objects = w.builder.objects ++ o ∷ [] } }))))

-- the object of a tree line
abbrev pub object_of : ObjectFields → Label → FileCaps → Body → WorldObject
object_of f label caps body = record { path = f.path; label = label; attr = record { owner = f.owner; group = f.group; mode = f.mode; caps = caps }; body = body }

-- a tree line: its form, then its names, then where it stands, and last whether its capabilities are uniform
abbrev pub parse_tree : PartialWorld → Option ObjectFields → WordValue CapState → Body → Parsed
parse_tree w form caps body = with_form form (λ f. with_value (both f.label caps) (λ x. parse_object w (object_of f x.0 (caps_by x.1) body) (is_uniform x.1)))

-- `dir PATH MODE UID GID LABEL` or `fifo PATH MODE UID GID LABEL`
abbrev pub parse_plain : PartialWorld → Body → Names → Parsed
parse_plain w b (path ∷ mode ∷ uid ∷ gid ∷ label ∷ []) = parse_tree w (object_fields_of w.policy path mode uid gid label) (value.Known no_flags) b
parse_plain w b _ = Refuses Syntax

-- `file PATH MODE UID GID LABEL BYTES [CAPS]`
abbrev pub parse_file : PartialWorld → Names → Parsed
parse_file w (path ∷ mode ∷ uid ∷ gid ∷ label ∷ bytes ∷ []) = parse_tree w (object_fields_of w.policy path mode uid gid label) (value.Known no_flags) (body.File bytes)
parse_file w (path ∷ mode ∷ uid ∷ gid ∷ label ∷ bytes ∷ caps ∷ []) = parse_tree w (object_fields_of w.policy path mode uid gid label) (caps_of caps) (body.File bytes)
parse_file w _ = Refuses Syntax
