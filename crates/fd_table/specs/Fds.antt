-- The descriptors of processes.
use Rattle.std.specs.Prelude.{ℕ, ◌+◌, ◌<◌, Bool, List, [], ◌∷◌, Option, None, Some, cond, drop, length, slice_index_or, sum_by}
use Rattle.std.specs.Ordering.{nat_cmp}
use Rattle.std.specs.FinMap as map
use Rattle.std.specs.FinMap.{FinMap}
use Rattle.lab_lattice.specs.Label.{Label, bottom}
use Rattle.kern_model.specs.declared.limits.TheConstants.{MAX_DESCRIPTORS}
use Rattle.kern_model.specs.declared.numbers.Did.{Did}
use Rattle.kern_model.specs.declared.numbers.Pid.{Pid}
use Rattle.kern_model.specs.Keys.{pid_cmp, same_did}
use Rattle.kern_model.specs.Maps.{count_entries, get_or}

-- the descriptors of one process, and the description to which each refers
abbrev pub Fds : Type 0
Fds = FinMap nat_cmp Did

-- the descriptors of each process
abbrev pub AllFds : Type 0
AllFds = FinMap pid_cmp Fds

-- what each slot refers to: where it is taken, the number whose label and count the arrays hold there
abbrev pub slots_of : List Bool → List Label → List ℕ → List (Option Did)
slots_of [] labels counts = []
slots_of (b ∷ taken) labels counts = cond b (Some (record { label = slice_index_or labels 0 bottom; n = slice_index_or counts 0 0 })) None ∷ slots_of taken (drop 1 labels) (drop 1 counts)

-- the descriptors in a list of slots, which are numbered from n on
abbrev pub in_slots : ℕ → List (Option Did) → List (ℕ × Did)
in_slots n [] = []
in_slots n (None ∷ slots) = in_slots (n + 1) slots
in_slots n (Some did ∷ slots) = (n, did) ∷ in_slots (n + 1) slots

-- the descriptors of a process, by its slots
unfoldable pub fds_in : List (Option Did) → Fds
fds_in slots = map.from_sorted (in_slots 0 slots)

-- how many descriptors there are
abbrev pub fd_count : Fds → ℕ
fd_count fds = length (map.entries fds)

-- some descriptor is free
abbrev pub HasFree : Fds → Type 0
HasFree fds = fd_count fds < MAX_DESCRIPTORS

-- the descriptors of a process; none where it is not there
abbrev pub fds_of : AllFds → Pid → Fds
fds_of processes who = get_or processes who map.empty

-- how many of these descriptors refer to a description
abbrev pub holders_in : Fds → Did → ℕ
holders_in fds did = count_entries (λ fd d. same_did d did) fds

-- how many descriptors of all processes refer to a description
unfoldable pub holders : AllFds → Did → ℕ
holders processes did = sum_by (λ (entry : Pid × Fds). holders_in entry.1 did) (map.entries processes)
