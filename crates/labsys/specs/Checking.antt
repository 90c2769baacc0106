-- What is written of an input that is read and not played.
use Rattle.std.specs.Prelude.{ℕ, List, [], ◌∷◌, ◌++◌, length, Option, Some, None, codes}
use Rattle.std.specs.Fmt.{decimal}
use Rattle.fs_path.specs.Words.{line_text}
use Rattle.kern_model.specs.declared.world.World.{World}
use Rattle.lab_engine.specs.declared.ending.InputEnd.{InputEnd}
use Rattle.lab_engine.specs.declared.ending.InputEnd.TheVariants.{Whole, Refused, RefusedWord, TooMuch}
use Rattle.lab_engine.specs.Input.{Accepted, Script, Input}
use Rattle.lab_engine.specs.Order.{Sent, to_out}
use Rattle.lab_engine.specs.Texts.{last_text}

-- the line of an input that was read whole: `ok OBJECTS PROCESSES CALLS`
unfoldable pub ok_text : (objects procs calls : ℕ) → List ℕ
ok_text objects procs calls = line_text (codes "ok" ∷ decimal objects ∷ decimal procs ∷ decimal calls ∷ []) ++ 10 ∷ []

-- what is written of a world, of how many calls its script has and of how the input ends: where a line is refused or
-- there is too much, that alone
abbrev pub checked_text : World → ℕ → InputEnd → List ℕ
checked_text w calls Whole = ok_text (length w.objects) (length w.procs) calls
checked_text w calls (Refused n part why) = last_text 0 (Refused n part why)
checked_text w calls (RefusedWord word why) = last_text 0 (RefusedWord word why)
checked_text w calls TooMuch = last_text 0 TooMuch

-- what is written of an input by its world and its script; without a world it is the last line alone
abbrev pub check_text : Option Accepted → Script → List ℕ
check_text None script = last_text 0 script.ending
check_text (Some a) script = checked_text a.world (length script.items) script.ending

-- the order of an input that is read and not played
abbrev pub order_of_check : Input → List Sent
order_of_check i = to_out (check_text i.accepted i.script)
