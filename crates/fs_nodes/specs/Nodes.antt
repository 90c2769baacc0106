-- The table of objects.
use Rattle.std.specs.Prelude.{◌≡◌, ℕ, ◌+◌, ◌≤◌, ◌<◌, true, List, Option, Some, IsSome, MatchOption, length, min, refl}
use Rattle.std.specs.FinMap as map
use Rattle.std.specs.FinMap.{FinMap}
use Rattle.std.specs.Coded.{Coded, code_by, coded×, coded_ℕ}
use Rattle.slab.specs.Slab.{Slab, slab_code, slab_len, get, with_value}
use Rattle.lab_lattice.specs.Label.{Label, label_cmp}
use Rattle.kern_model.specs.declared.limits.TheConstants.{MAX_FILE_BYTES, MAX_OBJECTS, MAX_PIPE_BYTES}
use Rattle.kern_model.specs.declared.numbers.Oid.{Oid}
use Rattle.kern_model.specs.declared.objects.Kind.TheVariants as kind
use Rattle.kern_model.specs.declared.objects.Object.{Object}
use Rattle.kern_model.specs.FileRows.{written_over}
use Rattle.kern_model.specs.Keys.{oid_cmp, same_oid}
use Rattle.kern_model.specs.Kinds.{is_stream}
use Rattle.kern_model.specs.Maps.{get_or, select}
use Rattle.kern_model.specs.State.{last_drawn}

-- the objects, and the last number drawn of each label
pub record NodeTable : Type 0 where
  pub objects : FinMap oid_cmp Object
  pub numbers : FinMap label_cmp ℕ

-- a table, and where it is kept: the slab that holds its objects, and the key of each
pub record NodeSlots : Type 0 where
  pub table : NodeTable
  pub slots : Slab Object
  pub keys : FinMap oid_cmp ℕ

-- the key in the slab of each object, and the last number drawn of each label
pub record NodeKeys : Type 0 where
  pub keys : FinMap oid_cmp ℕ
  pub numbers : FinMap label_cmp ℕ

-- how they are stored
abbrev pub keys_code : Coded Oid → Coded Label → Coded NodeKeys
keys_code oid label =
    code_by (FinMap oid_cmp ℕ × FinMap label_cmp ℕ)
    (coded× (map.code oid coded_ℕ) (map.code label coded_ℕ))
    (λ k. (k.keys, k.numbers))
    (λ p. record { keys = p.0; numbers = p.1 })
    (λ _. refl)

-- how a table is stored, with the slab and the keys
abbrev pub slots_code : Coded Oid → Coded Object → Coded Label → Coded NodeSlots
slots_code oid object label =
    code_by ((FinMap oid_cmp Object × FinMap label_cmp ℕ) × (Slab Object × FinMap oid_cmp ℕ))
    (coded× (coded× (map.code oid object) (map.code label coded_ℕ)) (coded× (slab_code object) (map.code oid coded_ℕ)))
    (λ n. ((n.table.objects, n.table.numbers), (n.slots, n.keys)))
    (λ p. record { table = record { objects = p.0.0; numbers = p.0.1 }; slots = p.1.0; keys = p.1.1 })
    (λ _. refl)

-- a table without objects, with no number drawn
abbrev pub no_nodes : NodeTable
no_nodes = record { objects = map.empty; numbers = map.empty }

-- the number of the next object at a label
abbrev pub next_in : NodeTable → Label → Oid
next_in t l = record { label = l; n = last_drawn t.numbers l + 1 }

-- an object in place of the one with its number
abbrev pub with_object : NodeTable → Oid → Object → NodeTable
with_object t id o = record t { objects = map.insert t.objects id o }

-- the same of a table with its slab, where the object is under the key of its number
abbrev pub with_object_at : NodeSlots → Oid → Object → NodeSlots
with_object_at n id o = record n { table = with_object n.table id o; slots = with_value n.slots (get_or n.keys id 0) o }

-- a table where bytes are written over those of an object from an offset on
abbrev pub with_written : NodeTable → Oid → Object → ℕ → List ℕ → NodeTable
with_written t id o at bytes = with_object t id (record o { bytes = written_over o.bytes at bytes })

-- an object with other bytes in place of the one with its number
abbrev pub with_bytes : FinMap oid_cmp Object → Oid → Object → List ℕ → FinMap oid_cmp Object
with_bytes objects id o bytes = map.insert objects id (record o { bytes = bytes })

-- a new object under the next number of a label
abbrev pub with_new : NodeTable → Label → Object → NodeTable
with_new t l o = record { objects = map.insert t.objects (next_in t l) o; numbers = map.insert t.numbers l (last_drawn t.numbers l + 1) }

-- the key of a new object, whose number is then the last one drawn of its label
abbrev pub with_key : NodeKeys → Oid → ℕ → NodeKeys
with_key k id key = record { keys = map.insert k.keys id key; numbers = map.insert k.numbers id.label id.n }

-- this holds of the bytes of the object with a number, if there is one, and of the objects where that one has other bytes
abbrev pub ForBytes : FinMap oid_cmp Object → Oid → (List ℕ → (List ℕ → FinMap oid_cmp Object) → Type 0) → Type 0
ForBytes objects id P = (o : Object) → map.get objects id ≡ Some o → P o.bytes (with_bytes objects id o)

-- how many bytes a buffer takes
abbrev pub copy_len : List ℕ → List ℕ → ℕ
copy_len bytes buf = min (length bytes) (length buf)

-- written from an offset on, the bytes would make a file too big
abbrev pub IsTooBig : List ℕ → ℕ → List ℕ → Type 0
IsTooBig old at bytes = (at ≤ length old) × (MAX_FILE_BYTES < at + length bytes)

-- the bytes fit into a pipe or FIFO, behind those that are there
abbrev pub FitsPipe : List ℕ → List ℕ → Type 0
FitsPipe bytes more = length bytes + length more ≤ MAX_PIPE_BYTES

-- the number is that of a file
pub record IsFile (objects : FinMap oid_cmp Object) (id : Oid) : Type 0 where
  pub object : Object
  pub is : map.get objects id ≡ Some object
  pub file : object.kind ≡ kind.File

-- the number is that of a pipe or a FIFO
pub record IsStream (objects : FinMap oid_cmp Object) (id : Oid) : Type 0 where
  pub object : Object
  pub is : map.get objects id ≡ Some object
  pub stream : is_stream object.kind ≡ true

-- the objects that a slab holds under these keys
unfoldable pub objects_in : Slab Object → FinMap oid_cmp ℕ → FinMap oid_cmp Object
objects_in slots keys = select (λ (id : Oid) (key : ℕ). get slots key) keys

-- each object has a place of its own in the slab, which holds nothing else, and a number that was drawn
pub record IsPlaced (slots : Slab Object) (keys : FinMap oid_cmp ℕ) (numbers : FinMap label_cmp ℕ) : Type 0 where
  pub there : (id : Oid) (key : ℕ) → map.get keys id ≡ Some key → IsSome (get slots key)
  pub apart : (a b : Oid) (key : ℕ) → map.get keys a ≡ Some key → map.get keys b ≡ Some key → same_oid a b ≡ true
  pub size : slab_len slots ≡ map.len (objects_in slots keys)
  pub drawn_already : (id : Oid) (key : ℕ) → map.get keys id ≡ Some key → id.n ≤ last_drawn numbers id.label
