-- What a text says of a world, line by line.
use Rattle.std.specs.Prelude.{◌≡◌, ℕ, ◌+◌, List, [], ◌∷◌, Option, None, Some}
use Rattle.fs_path.specs.Split.{pieces}
use Rattle.line_text.specs.declared.fault.LineFault.{LineFault}
use Rattle.line_text.specs.declared.fault.LineFault.TheVariants as fault
use Rattle.world_text.specs.declared.fault.WorldError.{WorldError}
use Rattle.world_text.specs.declared.fault.WorldError.TheVariants as error
use Rattle.world_text.specs.declared.format.Format.{Format}
use Rattle.world_text.specs.declared.world.WorldText.{WorldText}
use Rattle.world_text.specs.declared.expecting.Expecting.{Expecting}
use Rattle.world_text.specs.declared.expecting.Expecting.TheVariants as at
use Rattle.world_text.specs.declared.expecting.Parsed.{Parsed}
use Rattle.world_text.specs.declared.expecting.Parsed.TheVariants.{Refuses, GoesOn, Begins}
use Rattle.world_text.specs.Expecting.{parse_line}
use Rattle.world_text.specs.Written.{next_number}

-- how the reading of a world ends
pub data Reading : Type 0 where
  -- with a world, the number of the first line of its script, and the pieces of the text from there on
  Accepted : (world : WorldText) (n : ℕ) (script : List (List ℕ)) → Reading
  -- at the line of this number, for this fault
  Refused : (n : ℕ) (fault : LineFault) → Reading
  -- before the script, in the line of this number, of which these bytes are there
  Ended : (n : ℕ) (last : List ℕ) → Reading

abbrev pub after : Parsed → ℕ → List (List ℕ) → (Expecting → Reading) → Reading
after (Refuses fault) n rest more = Refused n fault
after (GoesOn expecting) n rest more = more expecting
after (Begins world) n rest more = Accepted world (n + 1) rest

-- the pieces of a text between line feeds, from line n on; the last has no line feed after it
unfoldable pub read_lines : ℕ → Expecting → List (List ℕ) → Reading
read_lines n expecting [] = Ended n []
read_lines n expecting (last ∷ []) = Ended n last
read_lines n expecting (line ∷ next ∷ ls) = after (parse_line expecting line) n (next ∷ ls) (λ expecting. read_lines (n + 1) expecting (next ∷ ls))

-- what a text says where a format is due
abbrev pub read_text : Format → List ℕ → Reading
read_text due text = read_lines 1 (at.Format due) (pieces 10 text)

-- what the text of a world says, with no script after it
abbrev pub reading_of : WorldText → Reading
reading_of world = Accepted world (next_number world) ([] ∷ [])

-- a text says this world
abbrev pub IsRead : Reading → WorldText → Type 0
IsRead (Accepted world n script) w = world ≡ w
IsRead _ w = ⊥

-- the error of a line with this number; a fault that no line of a world has gives `syntax`
abbrev pub error_at : ℕ → LineFault → WorldError
error_at n fault.UnknownName = error.UnknownName n
error_at n fault.Repeated = error.Repeated n
error_at n fault.NoParent = error.NoParent n
error_at n fault.RootLabel = error.RootLabel n
error_at n fault.LabelOrder = error.LabelOrder n
error_at n fault.TooMany = error.TooMany n
error_at n fault.MixedCaps = error.Mixed n
error_at n fault.OldFormat = error.OldFormat n
error_at n _ = error.Syntax n

-- why a reading gives no world; a text that ends too early is refused at the line in which it ends, which is the next one after
-- a line feed
abbrev pub error_of : Reading → Option WorldError
error_of (Accepted world n script) = None
error_of (Refused n fault) = Some (error_at n fault)
error_of (Ended n last) = Some (error.Syntax n)

-- a world is not read for this cause, if memory did not run out
abbrev pub IsNotRead : Reading → WorldError → Type 0
IsNotRead r (error.NoMemory _) = Unit {0}
IsNotRead r e = error_of r ≡ Some e
