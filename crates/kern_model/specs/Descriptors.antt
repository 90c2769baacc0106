-- The descriptors of processes, and what changes where they close.
use Rattle.std.specs.Prelude.{ℕ, ◌+◌, ◌==◌, ◌&&◌, not, Bool, cond, List, [], ◌∷◌, length, map, Option}
use Rattle.std.specs.List.{flat_map, list_any}
use Rattle.std.specs.Option.{option_and_then, option_map}
use Rattle.std.specs.Ordering.{nat_cmp}
use Rattle.std.specs.FinMap as table
use Rattle.std.specs.FinMap.{FinMap}
use Rattle.kern_model.specs.declared.numbers.Pid.{Pid}
use Rattle.kern_model.specs.declared.numbers.Oid.{Oid}
use Rattle.kern_model.specs.declared.numbers.Did.{Did}
use Rattle.kern_model.specs.Maps.{any_entry}
use Rattle.kern_model.specs.Keys.{same_oid, same_did}
use Rattle.kern_model.specs.Kinds.{is_fifo}
use Rattle.kern_model.specs.State.{State, Process, Description, Change, SetObject, DropDescription, object_at}

-- what an open descriptor refers to
pub record Opened : Type 0 where
  pub did : Did
  pub description : Description

-- what a descriptor of a process refers to, if that is open
unfoldable pub open_description : State → Process → ℕ → Option Opened
open_description s p fd = option_and_then (λ did. option_map (λ d. record { did = did; description = d }) (table.get s.descriptions did)) (table.get p.fds fd)

-- how many descriptors a process has
abbrev pub open_count : Process → ℕ
open_count p = length (table.entries p.fds)

-- the first number from n on that is not among these, which rise
abbrev pub first_gap : ℕ → List ℕ → ℕ
first_gap n [] = n
first_gap n (k ∷ ks) = cond (k == n) (first_gap (n + 1) ks) n

-- the lowest descriptor that is free
unfoldable pub lowest_free : FinMap nat_cmp Did → ℕ
lowest_free fds = first_gap 0 (table.keys fds)

-- a process with one descriptor more, the lowest that is free
abbrev pub with_descriptor : Process → Did → Process
with_descriptor p did = record p { fds = table.insert p.fds (lowest_free p.fds) did }

-- whether some description of an object passes a test
abbrev pub any_open : State → (Description → Bool) → Oid → Bool
any_open s test id = any_entry (λ did d. same_oid d.object id && test d) s.descriptions

-- ---- closing

-- a descriptor of a process
pub record Descriptor : Type 0 where
  pub who : Pid
  pub fd : ℕ
  pub did : Did

-- the descriptors of all processes
unfoldable pub descriptors : State → List Descriptor
descriptors s = flat_map (λ (e : Pid × Process). map (λ (f : ℕ × Did). record { who = e.0; fd = f.0; did = f.1 }) (table.entries e.1.fds)) (table.entries s.procs)

-- whether a description is held by descriptors that close, and by none that stays open
abbrev pub is_let_go : State → (Descriptor → Bool) → Did → Bool
is_let_go s goes did =
    list_any (λ (f : Descriptor). goes f && same_did f.did did) (descriptors s) && not (list_any (λ (f : Descriptor). not (goes f) && same_did f.did did) (descriptors s))

-- whether no description of a FIFO stays
abbrev pub is_drained : State → (Descriptor → Bool) → Oid → Bool
is_drained s goes id = is_fifo (object_at s id).kind && not (any_entry (λ did d. same_oid d.object id && not (is_let_go s goes did)) s.descriptions)

-- an object without its bytes
abbrev pub truncation : State → Oid → Change
truncation s id = SetObject id (record (object_at s id) { bytes = [] })

-- a description that is let go goes, and with the last one of a FIFO its bytes
abbrev pub let_go : State → (Descriptor → Bool) → Did × Description → List Change
let_go s goes e = cond (is_let_go s goes e.0) (DropDescription e.0 ∷ cond (is_drained s goes e.1.object) (truncation s e.1.object ∷ []) []) []

-- what changes where descriptors close
unfoldable pub changes_of_close : State → (Descriptor → Bool) → List Change
changes_of_close s goes = flat_map (let_go s goes) (table.entries s.descriptions)
