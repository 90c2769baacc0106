-- The line of the generated input that is played.
use Rattle.std.specs.Prelude.{ℕ, List, [], ◌∷◌, ◌++◌, length, Option, Some, None, codes}
use Rattle.std.specs.FinMap as map
use Rattle.std.specs.Fmt.{decimal}
use Rattle.fs_path.specs.Words.{after_spaces}
use Rattle.gen_world.specs.Text.{gen_text}
use Rattle.lab_engine.specs.declared.reporting.Tally.{Tally}
use Rattle.lab_engine.specs.Input.{Accepted, Script, input_of}
use Rattle.lab_engine.specs.Report.{empty_tally, tally_of}
use Rattle.lab_engine.specs.Session.{Session, session_of}

-- a number after its word
abbrev pub count_text : List ℕ → ℕ → List ℕ
count_text word n = after_spaces (word ∷ decimal n ∷ [])

-- what was counted of calls
abbrev pub counts_text : Tally → List ℕ
counts_text t = count_text (codes "ok") t.ok ++ count_text (codes "denied") t.denied
    ++ count_text (codes "refused") t.refused ++ count_text (codes "exercised") t.exercised

-- the line `drill N ok A denied B refused C exercised D live E`
unfoldable pub tally_text : (lines : ℕ) → Tally → (living : ℕ) → List ℕ
tally_text lines t living =
    codes "drill" ++ after_spaces (decimal lines ∷ []) ++ counts_text t ++ count_text (codes "live") living ++ 10 ∷ []

-- the line of what was played: the tally of its calls, and how many processes live in its last state
abbrev pub drill_text : ℕ → Session → List ℕ
drill_text lines s = tally_text lines (tally_of empty_tally s.calls) (length (map.keys s.last_state.procs))

-- the line of an input; without a world there is none
abbrev pub drill_text_of : ℕ → Option Accepted → Script → List ℕ
drill_text_of lines None script = []
drill_text_of lines (Some a) script = drill_text lines (session_of a script)

-- the line of the generated input of so many lines
abbrev pub drilled_text : ℕ → List ℕ
drilled_text lines = let i = input_of (gen_text lines) in drill_text_of lines i.accepted i.script
