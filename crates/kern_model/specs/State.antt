-- The state of the kernel, and the single changes that are made to it.
use Rattle.std.specs.Prelude.{ℕ, ◌+◌, Bool, false, List, [], ◌∷◌, Option, None}
use Rattle.std.specs.Ordering.{nat_cmp}
use Rattle.std.specs.FinMap as map
use Rattle.std.specs.FinMap.{FinMap}
use Rattle.cap_bits.specs.CapSet.{CapSet}
use Rattle.cap_bits.specs.declared.state.CapState.{CapState}
use Rattle.cap_bits.specs.FileCaps.{no_file_caps}
use Rattle.cap_bits.specs.State.{no_flags}
use Rattle.fs_path.specs.Name.{Name}
use Rattle.lab_lattice.specs.Label.{Label, label_cmp, bottom}
use Rattle.kern_model.specs.declared.calls.Ending.{Ending}
use Rattle.kern_model.specs.declared.numbers.Pid.{Pid}
use Rattle.kern_model.specs.declared.numbers.Oid.{Oid}
use Rattle.kern_model.specs.declared.numbers.Did.{Did}
use Rattle.kern_model.specs.declared.numbers.Ids.{Ids}
use Rattle.kern_model.specs.declared.objects.Object.{Object}
use Rattle.kern_model.specs.declared.objects.Kind.TheVariants.{File}
use Rattle.kern_model.specs.Maps.{get_or}
use Rattle.kern_model.specs.Keys.{oid_cmp, pid_cmp, did_cmp, spot_cmp, Spot}

-- a living process
pub record Process : Type 0 where
  pub ids : Ids
  -- its present label
  pub label : Label
  pub caps : CapState
  -- the bits that a new object does not get
  pub umask : ℕ
  -- the current directory
  pub cwd : Oid
  -- the audit switch: whether a denial leaves a record
  pub audited : Bool
  pub parent : Option Pid
  -- its children that ended and were not awaited yet, the first to end first
  pub ended : List (Pid × Ending)
  -- the descriptions that its descriptors refer to
  pub fds : FinMap nat_cmp Did

-- an open description, which descriptors share: the object, what it is open for, and where it stands in a file
pub record Description : Type 0 where
  pub object : Oid
  pub reads : Bool
  pub writes : Bool
  pub appends : Bool
  pub offset : ℕ

pub record State : Type 0 where
  pub objects : FinMap oid_cmp Object
  -- where the names in each directory lead: this is what a directory contains
  pub entries : FinMap spot_cmp Oid
  pub procs : FinMap pid_cmp Process
  pub descriptions : FinMap did_cmp Description
  -- the last number drawn of each label
  pub object_numbers : FinMap label_cmp ℕ
  pub process_numbers : FinMap label_cmp ℕ
  pub description_numbers : FinMap label_cmp ℕ
  -- the bound of capabilities over exec
  pub bound : CapSet
  -- the label that dominates all others
  pub top : Label

-- one change of one thing
pub data Change : Type 0 where
  SetObject : (id : Oid) (object : Object) → Change
  SetEntry : (spot : Spot) (id : Oid) → Change
  DropEntry : (spot : Spot) → Change
  SetProcess : (who : Pid) (process : Process) → Change
  DropProcess : (who : Pid) → Change
  SetDescription : (did : Did) (description : Description) → Change
  DropDescription : (did : Did) → Change
  DrawObject : (label : Label) (n : ℕ) → Change
  DrawProcess : (label : Label) (n : ℕ) → Change
  DrawDescription : (label : Label) (n : ℕ) → Change

abbrev pub apply_change : State → Change → State
apply_change s (SetObject id o) = record s { objects = map.insert s.objects id o }
apply_change s (SetEntry spot id) = record s { entries = map.insert s.entries spot id }
apply_change s (DropEntry spot) = record s { entries = map.remove s.entries spot }
apply_change s (SetProcess who p) = record s { procs = map.insert s.procs who p }
apply_change s (DropProcess who) = record s { procs = map.remove s.procs who }
apply_change s (SetDescription did d) = record s { descriptions = map.insert s.descriptions did d }
apply_change s (DropDescription did) = record s { descriptions = map.remove s.descriptions did }
apply_change s (DrawObject l n) = record s { object_numbers = map.insert s.object_numbers l n }
apply_change s (DrawProcess l n) = record s { process_numbers = map.insert s.process_numbers l n }
apply_change s (DrawDescription l n) = record s { description_numbers = map.insert s.description_numbers l n }

-- the changes, one after another
abbrev pub apply_changes : State → List Change → State
apply_changes s [] = s
apply_changes s (c ∷ cs) = apply_changes (apply_change s c) cs

-- what is read in place of an object that is absent: an empty file of the highest label that nobody may use
abbrev pub stub_object : Label → Object
stub_object top = record { kind = File; label = top; attr = record { owner = 0; group = 0; mode = 0; caps = no_file_caps }; bytes = [] }

-- the number of what a label does not see: 0, which is never drawn
abbrev pub stub : Label → Oid
stub top = record { label = top; n = 0 }

-- what is read in place of a process that is not living: one of user 0 at the highest label, without capabilities
abbrev pub stub_process : Label → Process
stub_process top = record {
  ids = record { ruid = 0; euid = 0; suid = 0; rgid = 0; egid = 0; sgid = 0; groups = [] };
  label = top;
  caps = no_flags;
  umask = 0;
  cwd = stub top;
  audited = false;
  parent = None;
  ended = [];
  fds = map.empty;
}

-- the object with a number, and the stub where there is none
abbrev pub object_at : State → Oid → Object
object_at s id = get_or s.objects id (stub_object s.top)

-- the living process with a number, and the stub where there is none
abbrev pub process_at : State → Pid → Process
process_at s who = get_or s.procs who (stub_process s.top)

-- the last number drawn of a label
abbrev pub last_drawn : FinMap label_cmp ℕ → Label → ℕ
last_drawn numbers l = get_or numbers l 0

-- the next number of an object at a label
abbrev pub next_object : State → Label → Oid
next_object s l = record { label = l; n = last_drawn s.object_numbers l + 1 }

-- the next number of a process at a label
abbrev pub next_process : State → Label → Pid
next_process s l = record { label = l; n = last_drawn s.process_numbers l + 1 }

-- the next number of a description at a label
abbrev pub next_description : State → Label → Did
next_description s l = record { label = l; n = last_drawn s.description_numbers l + 1 }

-- where an entry of a directory leads
abbrev pub look : State → Oid → Name → Option Oid
look s dir name = map.get s.entries (dir, name)

-- the root directory
abbrev pub root : Oid
root = record { label = bottom; n = 1 }
