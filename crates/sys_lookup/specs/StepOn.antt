-- Checks and steps on an object whose metadata are at hand.
use Rattle.std.specs.Prelude.{◌≡◌, ⊤, Result}
use Rattle.kern_model.specs.declared.checks.Check.{Check}
use Rattle.kern_model.specs.declared.numbers.Oid.{Oid}
use Rattle.kern_model.specs.Row.{Row, Need}
use Rattle.kern_model.specs.State.{State}
use Rattle.chk_rules.specs.CheckLog.{CheckLog}
use Rattle.chk_rules.specs.RowSteps.{GoesOn}
use Rattle.chk_rules.specs.declared.stop.Stop.{Stop}
use Rattle.sys_lookup.specs.Shared.{metadata_of}
use Rattle.sys_lookup.specs.declared.shared.Metadata.{Metadata}

-- it is the check that a rule makes of the object, in each state in which an object has these metadata
abbrev pub IsCheckOn : Metadata → (State → Oid → Check) → Check → Type 0
IsCheckOn object rule check = (s : State) (id : Oid) → object ≡ metadata_of s id → check ≡ rule s id

-- the part of a row that is one check
abbrev pub one_check : Check → (⊤ → Row) → Row
one_check check rest = Need check (rest tt)

-- the step is made on the object of a state that has these metadata
abbrev pub StepIn : {X : Type 0} → State → CheckLog → Metadata → (Oid → (X → Row) → Row) → Result X Stop → CheckLog → Type 0
StepIn s before object part step after = (id : Oid) → object ≡ metadata_of s id → GoesOn before (part id) step after

-- the same in each state in which an object has them
abbrev pub StepOn : {X : Type 0} → CheckLog → Metadata → (State → Oid → (X → Row) → Row) → Result X Stop → CheckLog → Type 0
StepOn before object part step after = (s : State) → StepIn s before object (part s) step after
