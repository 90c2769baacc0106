-- That records are read from their lines.
use Rattle.std.specs.Prelude.{◌≡◌, ℕ, ◌+◌, ◌^◌, ◌<◌, true, List}
use Rattle.std.specs.List.{AllByRecursion}
use Rattle.lab_text.specs.Policy.{PolicyNames}
use Rattle.aud_record.specs.Fits.{has_valid_labels, rec_fits}
use Rattle.kern_model.specs.declared.records.Rec.{Rec}
use Rattle.kern_model.specs.declared.world.ScriptItem.{ScriptItem}
use Rattle.kern_model.specs.Run.{run}
use Rattle.kern_model.specs.State.{State}
use Rattle.lab_engine.specs.Session.{numbered_from}

-- a record has a line: its labels are valid in the policy, and its numbers, its bytes and the number of its call have the sizes of their types
abbrev pub HasLine : PolicyNames → ℕ × Rec → Type 0
HasLine policy r = (r.0 < 2 ^ 64) × (rec_fits policy r.1 ≡ true)

-- a record has a line, where its labels are valid
abbrev pub IsReadable : PolicyNames → ℕ × Rec → Type 0
IsReadable policy r = has_valid_labels policy r.1 ≡ true → HasLine policy r

-- the records of the n-th call have lines, where their labels are valid
abbrev pub AreReadable : PolicyNames → ℕ → List Rec → Type 0
AreReadable policy n recs = AllByRecursion (λ (r : Rec). IsReadable policy (n, r)) recs

-- the records of calls that are played from a state on, after so many others, are readable
abbrev pub CallsReadable : PolicyNames → ℕ → State → List ScriptItem → Type 0
CallsReadable policy count s items = AllByRecursion (IsReadable policy) (numbered_from (count + 1) (run s items))
