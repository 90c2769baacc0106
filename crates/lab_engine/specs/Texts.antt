-- The lines of the output.
use Rattle.std.specs.Prelude.{ℕ, Bool, true, cond, List, [], ◌∷◌, ◌++◌, Option, Some, None, codes}
use Rattle.std.specs.List.{flat_map}
use Rattle.std.specs.Option.{option_map}
use Rattle.std.specs.Fmt.{decimal}
use Rattle.std.specs.FinMap as map
use Rattle.cap_bits.specs.declared.state.CapState.{CapState}
use Rattle.fs_path.specs.Words.{line_text}
use Rattle.lab_lattice.specs.Label.{Label}
use Rattle.lab_text.specs.Policy.{PolicyNames}
use Rattle.lab_text.specs.Text.{label_text}
use Rattle.line_text.specs.Faults.{fault_word}
use Rattle.line_text.specs.Words.{pid_text, caps_word}
use Rattle.kern_model.specs.declared.numbers.Pid.{Pid}
use Rattle.kern_model.specs.Isolation.{low}
use Rattle.kern_model.specs.State.{State, Process}
use Rattle.kern_model.specs.Run.{CallRecord}
use Rattle.line_text.specs.Reply.{reply_line}
use Rattle.lab_engine.specs.declared.ending.CommandWord.{CommandWord}
use Rattle.lab_engine.specs.declared.ending.CommandWord.TheVariants as command_word
use Rattle.lab_engine.specs.declared.ending.InputEnd.{InputEnd}
use Rattle.lab_engine.specs.declared.ending.InputEnd.TheVariants.{Whole, Refused, RefusedWord, TooMuch}
use Rattle.lab_engine.specs.declared.ending.Part.{Part}
use Rattle.lab_engine.specs.declared.ending.Part.TheVariants as part

-- the reply line of a call that was played
unfoldable pub reply_text : PolicyNames → CallRecord → List ℕ
reply_text policy p = reply_line policy p.who p.head p.reply

-- the end line of a process that lives: `end PID LABEL "CAPS"`
unfoldable pub life_text : PolicyNames → Pid → Label → CapState → List ℕ
life_text policy who l caps = line_text (codes "end" ∷ pid_text policy who ∷ label_text policy l ∷ caps_word caps ∷ []) ++ 10 ∷ []

-- the end line, where the process lives
abbrev pub end_text : PolicyNames → Pid → Option Label → Option CapState → List ℕ
end_text policy who (Some l) (Some caps) = life_text policy who l caps
end_text policy who (Some l) None = []
end_text policy who None caps = []

-- the label of a process that lives
abbrev pub label_in : State → Pid → Option Label
label_in s who = option_map (λ (p : Process). p.label) (map.get s.procs who)

-- the capability sets of a process that lives
abbrev pub caps_in : State → Pid → Option CapState
caps_in s who = option_map (λ (p : Process). p.caps) (map.get s.procs who)

-- whether the end line of a process is written: where a label views the run, it has to dominate that of the process's number
abbrev pub is_viewed : Option Label → Pid → Bool
is_viewed None who = true
is_viewed (Some l) who = low l who.label

-- the end lines of all that live and are viewed, in the order of their numbers
abbrev pub ends_text : Option Label → PolicyNames → State → List ℕ
ends_text viewer policy s = flat_map (λ who. cond (is_viewed viewer who) (end_text policy who (label_in s who) (caps_in s who)) []) (map.keys s.procs)

unfoldable pub part_text : Part → List ℕ
part_text part.World = codes "world"
part_text part.Script = codes "script"
part_text part.Trail = codes "trail"

unfoldable pub command_word_text : CommandWord → List ℕ
command_word_text command_word.View = codes "view"
command_word_text command_word.Select = codes "select"

-- the words of the last line: `done COUNT`, `refused LINE PART WORD`, with line 0 for a word of the command line, or `too long`
abbrev pub last_words : ℕ → InputEnd → List (List ℕ)
last_words count Whole = codes "done" ∷ decimal count ∷ []
last_words count (Refused n part why) = codes "refused" ∷ decimal n ∷ part_text part ∷ fault_word why ∷ []
last_words count (RefusedWord word why) = codes "refused" ∷ codes "0" ∷ command_word_text word ∷ fault_word why ∷ []
last_words count TooMuch = codes "too" ∷ codes "long" ∷ []

-- the last line
unfoldable pub last_text : ℕ → InputEnd → List ℕ
last_text count ending = line_text (last_words count ending) ++ 10 ∷ []
