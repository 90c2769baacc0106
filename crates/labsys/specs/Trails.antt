-- The trail that bytes are.
use Rattle.std.specs.Prelude.{◌≡◌, ℕ, ◌+◌, ◌≤◌, nat_lt, cond, List, ◌++◌, length, Result, Ok, Err, IfOk}
use Rattle.std.specs.declared.option.Option.{Option}
use Rattle.std.specs.Io.KnownBytes.{Consumes, IsAtEnd}
use Rattle.kern_model.specs.declared.limits.TheConstants.{MAX_INPUT}
use Rattle.line_text.specs.declared.fault.LineFault.TheVariants as fault
use Rattle.aud_red.specs.declared.trail.Trail.{Trail}
use Rattle.aud_red.specs.declared.trail.TrailError.{TrailError}
use Rattle.aud_red.specs.declared.trail.TrailError.TheVariants as error
use Rattle.aud_red.specs.Trail.{parse_trail}
use Rattle.lab_engine.specs.declared.ending.Fault.{Fault}
use Rattle.lab_engine.specs.declared.ending.InputEnd.{InputEnd}
use Rattle.lab_engine.specs.declared.ending.InputEnd.TheVariants.{Refused, TooMuch}
use Rattle.lab_engine.specs.declared.ending.Part.TheVariants as part
use Rattle.lab_engine.specs.Reading.{left_of}
use Rattle.labsys.specs.declared.trails.ReadTrail.{ReadTrail}
use Rattle.labsys.specs.declared.trails.ReadTrail.TheVariants as read_is

-- how an input ends that is no trail; out of memory is no fault of a trail, and stands for `too long` here
abbrev pub ending_of_error : TrailError → InputEnd
ending_of_error (error.Header n) = Refused n part.Trail fault.Header
ending_of_error (error.Record n) = Refused n part.Trail fault.Record
ending_of_error (error.Unended n) = Refused n part.Trail fault.Unended
ending_of_error (error.NoMemory e) = TooMuch

-- what holds of the trail that was read, where there is one
abbrev pub IfTrail : ReadTrail → (Trail → Type 0) → Type 0
IfTrail (read_is.Trail t) P = P t
IfTrail (read_is.Ended ending) P = Unit {0}

abbrev pub trail_by : Result Trail TrailError → ReadTrail
trail_by (Ok t) = read_is.Trail t
trail_by (Err e) = read_is.Ended (ending_of_error e)

-- the trail that bytes are, or how they end without one: there are too many of them, or a line is refused
unfoldable pub trail_in : List ℕ → ReadTrail
trail_in text = cond (nat_lt MAX_INPUT (length text)) (read_is.Ended TooMuch) (trail_by (parse_trail text))

-- a source was read to its end, or past the limit: this is the trail that it held, or how it ends without one
pub record ReadsTrail (result : Result ReadTrail Fault) (left left' : Option (List ℕ)) : Type 0 where
  pub taken : List ℕ
  pub took : Consumes left left' taken
  pub few : length taken ≤ MAX_INPUT + 1
  pub shows : IfOk result (λ found. found ≡ trail_in (taken ++ left_of left'))
  pub to_the_end : IfOk result (λ found. IfTrail found (λ _. IsAtEnd left'))
