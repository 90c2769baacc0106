-- The descriptors of all processes, and the open descriptions that they share.
use Rattle.std.specs.Prelude.{◌≡◌, ◌+◌, ◌≤◌, ◌<◌, ◌||◌, ◌&&◌, not, nat_le, int_lt, ℕ, ℤ, pos, Bool, true, false, [], Option, None, Some, cond, refl}
use Rattle.std.specs.Ordering.{nat_cmp}
use Rattle.std.specs.Option.{option_and_then, option_map}
use Rattle.std.specs.FinMap as map
use Rattle.std.specs.FinMap.{FinMap}
use Rattle.std.specs.Coded.{Coded, code_by, coded×, coded_ℕ}
use Rattle.lab_lattice.specs.Label.{Label, label_cmp}
use Rattle.kern_model.specs.declared.limits.TheConstants.{MAX_DESCRIPTIONS, MAX_DESCRIPTORS}
use Rattle.kern_model.specs.declared.numbers.Did.{Did}
use Rattle.kern_model.specs.declared.numbers.Oid.{Oid}
use Rattle.kern_model.specs.declared.numbers.Pid.{Pid}
use Rattle.kern_model.specs.declared.objects.Object.{Object}
use Rattle.kern_model.specs.Descriptors.{Opened, lowest_free}
use Rattle.kern_model.specs.Keys.{did_cmp, oid_cmp, same_did, same_oid}
use Rattle.kern_model.specs.Kinds.{is_fifo}
use Rattle.kern_model.specs.Maps.{any_entry, select, where_key}
use Rattle.kern_model.specs.State.{Description, last_drawn}
use Rattle.fd_table.specs.declared.process_fds.TheConstants.{MAX_PROCESSES}
use Rattle.fd_table.specs.declared.shared.How.{How}
use Rattle.fd_table.specs.declared.shared.Shared.{Shared}
use Rattle.fd_table.specs.declared.table.FdError.{FdError}
use Rattle.fd_table.specs.declared.table.FdError.TheVariants as error
use Rattle.fd_table.specs.Descriptions.{SharedTable, holders_kept}
use Rattle.fd_table.specs.Fds.{AllFds, Fds, fd_count, holders, fds_of}

-- the descriptors of each process, the open descriptions, and the last number drawn of each label
pub record OpenFiles : Type 0 where
  pub processes : AllFds
  pub descriptions : FinMap did_cmp Description
  pub numbers : FinMap label_cmp ℕ

-- how they are stored
abbrev pub open_files_code : Coded Pid → Coded Did → Coded Description → Coded Label → Coded OpenFiles
open_files_code pid did description label =
    code_by ((AllFds × FinMap did_cmp Description) × FinMap label_cmp ℕ)
    (coded× (coded× (map.code pid (map.code {K = ℕ} {X = Did} {R = nat_cmp} coded_ℕ did)) (map.code did description)) (map.code label coded_ℕ))
    (λ t. ((t.processes, t.descriptions), t.numbers))
    (λ p. record { processes = p.0.0; descriptions = p.0.1; numbers = p.1 })
    (λ _. refl)

-- no process, no description, and no number drawn
abbrev pub no_files : OpenFiles
no_files = record { processes = map.empty; descriptions = map.empty; numbers = map.empty }

-- the descriptors of a process; none where it is not there
abbrev pub fds_at : OpenFiles → Pid → Fds
fds_at t who = fds_of t.processes who

-- the description to which a descriptor of a process refers
abbrev pub did_at : OpenFiles → Pid → ℕ → Option Did
did_at t who fd = map.get (fds_at t who) fd

abbrev pub description_at : OpenFiles → Pid → ℕ → Option Description
description_at t who fd = option_and_then (λ did. map.get t.descriptions did) (did_at t who fd)

-- what an open descriptor refers to
abbrev pub opened_at : OpenFiles → Pid → ℕ → Option Opened
opened_at t who fd = option_and_then (λ did. option_map (λ d. record { did = did; description = d }) (map.get t.descriptions did)) (did_at t who fd)

-- this holds of the description to which a descriptor of a process refers, and of its number, if it is open
abbrev pub ForDescription : OpenFiles → Pid → ℕ → (Did → Description → Type 0) → Type 0
ForDescription t who fd P = (did : Did) (d : Description) → did_at t who fd ≡ Some did → map.get t.descriptions did ≡ Some d → P did d

-- whether some description of an object passes a test
abbrev pub any_on : OpenFiles → (Description → Bool) → Oid → Bool
any_on t test id = any_entry (λ (did : Did) (d : Description). same_oid d.object id && test d) t.descriptions

-- whether an object has a description for reading
abbrev pub has_reader : OpenFiles → Oid → Bool
has_reader t id = any_on t (λ d. d.reads) id

-- whether it has one for writing
abbrev pub has_writer : OpenFiles → Oid → Bool
has_writer t id = any_on t (λ d. d.writes) id

-- what a description is open for
abbrev pub how_of : Description → How
how_of d = record { reads = d.reads; writes = d.writes; appends = d.appends }

-- a new description of an object
abbrev pub opened_for : Oid → How → Description
opened_for id how = record { object = id; reads = how.reads; writes = how.writes; appends = how.appends; offset = 0 }

-- other descriptors of a process
abbrev pub with_fds_of : OpenFiles → Pid → Fds → OpenFiles
with_fds_of t who fds = record t { processes = map.insert t.processes who fds }

-- one descriptor more, the lowest that is free
abbrev pub with_lowest : Fds → Did → Fds
with_lowest fds did = map.insert fds (lowest_free fds) did

-- a descriptor more of a process, the lowest that is free, that refers to a description
abbrev pub with_dup : OpenFiles → Pid → Did → OpenFiles
with_dup t who did = with_fds_of t who (with_lowest (fds_at t who) did)

-- the number of the next description at a label
abbrev pub next_in : OpenFiles → Label → Did
next_in t l = record { label = l; n = last_drawn t.numbers l + 1 }

-- a new description under the next number of a label, at the lowest free descriptor of a process
abbrev pub with_opened : OpenFiles → Pid → Label → Description → OpenFiles
with_opened t who l d = record {
  processes = map.insert t.processes who (with_lowest (fds_at t who) (next_in t l));
  descriptions = map.insert t.descriptions (next_in t l) d;
  numbers = map.insert t.numbers l (last_drawn t.numbers l + 1);
}

-- a description with another offset
abbrev pub with_offset : OpenFiles → Did → Description → ℕ → OpenFiles
with_offset t did d offset = record t { descriptions = map.insert t.descriptions did (record d { offset = offset }) }

-- ---- refusals

-- why n descriptions are not opened
abbrev pub open_refusal : OpenFiles → Pid → Label → ℕ → Option FdError
open_refusal t who l n =
    cond (nat_le (fd_count (fds_at t who) + n) MAX_DESCRIPTORS) (cond (nat_le (last_drawn t.numbers l + n) MAX_DESCRIPTIONS) None (Some error.Full)) (Some error.TooMany)

abbrev pub is_no_memory : FdError → Bool
is_no_memory (error.NoMemory e) = true
is_no_memory _ = false

-- whether an offset is not within so many bytes
abbrev pub is_past : ℤ → ℕ → Bool
is_past to size = int_lt to (pos 0) || int_lt (pos size) to

-- ---- closing

-- whether some descriptor refers to a description
unfoldable pub is_held : AllFds → Did → Bool
is_held processes did = any_entry (λ (who : Pid) (fds : Fds). any_entry (λ (fd : ℕ) (d : Did). same_did d did) fds) processes

-- with these processes, and the descriptions to which their descriptors refer
abbrev pub left_with : OpenFiles → AllFds → OpenFiles
left_with t processes = record t { processes = processes; descriptions = select (where_key (is_held processes) (λ d. d)) t.descriptions }

-- whether an object has a description
abbrev pub is_open : FinMap did_cmp Description → Oid → Bool
is_open descriptions id = any_entry (λ (did : Did) (d : Description). same_oid d.object id) descriptions

-- whether the last description of an object went
abbrev pub is_unused : FinMap did_cmp Description → FinMap did_cmp Description → Oid → Bool
is_unused old new id = is_open old id && not (is_open new id)

abbrev pub emptied_if : Bool → Object → Object
emptied_if b o = cond b (record o { bytes = [] }) o

-- the objects, where each FIFO whose last description went is empty
unfoldable pub objects_after_close : FinMap did_cmp Description → FinMap did_cmp Description → FinMap oid_cmp Object → FinMap oid_cmp Object
objects_after_close old new objects = select (λ (id : Oid) (o : Object). Some (emptied_if (is_fifo o.kind && is_unused old new id) o)) objects

-- ---- what is kept

-- what is counted of each description is how many descriptors refer to it, and its number was drawn
pub record AreHeld (processes : AllFds) (shared : SharedTable) (numbers : FinMap label_cmp ℕ) : Type 0 where
  pub counted : (did : Did) → holders_kept (map.get shared did) ≡ holders processes did
  pub held : (did : Did) (s : Shared) → map.get shared did ≡ Some s → 1 ≤ s.holders
  pub below : (who : Pid) (fds : Fds) → map.get processes who ≡ Some fds → (fd : ℕ) (did : Did) → map.get fds fd ≡ Some did → fd < MAX_DESCRIPTORS
  pub few : map.len processes ≤ MAX_PROCESSES
  pub drawn_already : (did : Did) (s : Shared) → map.get shared did ≡ Some s → did.n ≤ last_drawn numbers did.label
