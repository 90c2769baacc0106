-- How numbers go on from a state to a later one.
use Rattle.std.specs.Prelude.{◌≡◌, ℕ, ◌≤◌, ◌<◌, None}
use Rattle.std.specs.FinMap as map
use Rattle.std.specs.FinMap.{FinMap}
use Rattle.lab_lattice.specs.Label.{Label, label_cmp}
use Rattle.kern_model.specs.declared.numbers.Did.{Did}
use Rattle.kern_model.specs.declared.numbers.Oid.{Oid}
use Rattle.kern_model.specs.declared.numbers.Pid.{Pid}
use Rattle.kern_model.specs.State.{State, last_drawn}
use Rattle.kern_model.specs.Valid.{IsThere}

-- of each label, the last number drawn does not fall
abbrev pub NeverFalls : FinMap label_cmp ℕ → FinMap label_cmp ℕ → Type 0
NeverFalls old new = (l : Label) → last_drawn old l ≤ last_drawn new l

-- numbers that were drawn stay drawn, for objects, processes and descriptions
pub record StayDrawn (old new : State) : Type 0 where
  pub objects : NeverFalls old.object_numbers new.object_numbers
  pub procs : NeverFalls old.process_numbers new.process_numbers
  pub descriptions : NeverFalls old.description_numbers new.description_numbers

-- a number of a label was drawn in between: it is above the last one drawn before, and at most the last one drawn since
abbrev pub IsDrawnBetween : FinMap label_cmp ℕ → FinMap label_cmp ℕ → Label → ℕ → Type 0
IsDrawnBetween old new l n = (last_drawn old l < n) × (n ≤ last_drawn new l)

-- numbers that were drawn stay drawn, and what is there now and was not has a number that was drawn in between
pub record NumbersGoOn (old new : State) : Type 0 where
  pub stay_drawn : StayDrawn old new
  pub objects : (id : Oid) → map.get old.objects id ≡ None → IsThere new.objects id → IsDrawnBetween old.object_numbers new.object_numbers id.label id.n
  pub procs : (who : Pid) → map.get old.procs who ≡ None → IsThere new.procs who → IsDrawnBetween old.process_numbers new.process_numbers who.label who.n
  pub descriptions : (did : Did) → map.get old.descriptions did ≡ None → IsThere new.descriptions did → IsDrawnBetween old.description_numbers new.description_numbers did.label did.n

-- what is not there, and has a number that was drawn, is not there later
pub record NothingComesBack (old new : State) : Type 0 where
  pub objects : (id : Oid) → id.n ≤ last_drawn old.object_numbers id.label → map.get old.objects id ≡ None → map.get new.objects id ≡ None
  pub procs : (who : Pid) → who.n ≤ last_drawn old.process_numbers who.label → map.get old.procs who ≡ None → map.get new.procs who ≡ None
  pub descriptions : (did : Did) → did.n ≤ last_drawn old.description_numbers did.label → map.get old.descriptions did ≡ None → map.get new.descriptions did ≡ None
