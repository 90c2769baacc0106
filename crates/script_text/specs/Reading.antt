-- What is read of words: a value, or the first fault.
use Rattle.std.specs.Prelude.{◌≡◌, ℕ, nat_le, cond, Result, Ok, Err}
use Rattle.line_text.specs.declared.fault.LineFault.{LineFault}
use Rattle.line_text.specs.declared.fault.LineFault.TheVariants as fault
use Rattle.script_text.specs.declared.fault.LineError.{LineError}
use Rattle.script_text.specs.declared.fault.LineError.TheVariants as error

abbrev pub Reading : Type 0 → Type 0
Reading X = Result X LineError

-- the place of a fault in the order in which faults are judged; out of memory comes first, and no word causes it
abbrev pub rank : LineError → ℕ
rank (error.NoMemory m) = 0
rank error.TooLong = 1
rank error.Syntax = 2
rank error.BadTag = 3
rank error.BadPath = 4
rank error.BadLabel = 5
rank error.BadCaps = 6

-- the first of two faults
abbrev pub first_of : LineError → LineError → LineError
first_of e f = cond (nat_le (rank e) (rank f)) e f

-- what is wrong with a refused line; out of memory is no fault of a line, and stands for `syntax` here
abbrev pub fault_of : LineError → LineFault
fault_of error.TooLong = fault.TooLong
fault_of error.BadTag = fault.BadTag
fault_of error.BadPath = fault.BadPath
fault_of error.BadLabel = fault.BadLabel
fault_of error.BadCaps = fault.BadCaps
fault_of _ = fault.Syntax

-- the fault of a refused line; out of memory is none
abbrev pub IsFaultOf : LineError → LineFault → Type 0
IsFaultOf (error.NoMemory m) why = ⊥
IsFaultOf e why = why ≡ fault_of e

-- two values, or the first fault of both
unfoldable pub both : {A B : Type 0} → Reading A → Reading B → Reading (A × B)
both (Ok a) (Ok b) = Ok (a, b)
both (Ok a) (Err f) = Err f
both (Err e) (Ok b) = Err e
both (Err e) (Err f) = Err (first_of e f)

-- what a function makes of the value that was read
unfoldable pub map_reading : {A B : Type 0} → (A → B) → Reading A → Reading B
map_reading make (Ok a) = Ok (make a)
map_reading make (Err e) = Err e

-- an error is what was parsed, or memory ran out
abbrev pub IsCause : {X : Type 0} → Reading X → LineError → Type 0
IsCause parsed (error.NoMemory m) = Unit {0}
IsCause parsed e = parsed ≡ Err e

-- an answer is what was parsed, unless memory ran out
abbrev pub Answers : {X : Type 0} → Reading X → Reading X → Type 0
Answers parsed (Ok x) = parsed ≡ Ok x
Answers parsed (Err e) = IsCause parsed e
