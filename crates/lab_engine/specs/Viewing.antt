-- What a label sees of a run.
use Rattle.std.specs.Prelude.{ℕ, Bool, List, [], ◌++◌, cond, length, Some}
use Rattle.std.specs.List.{filter, flat_map, list_any}
use Rattle.lab_lattice.specs.Label.{Label}
use Rattle.kern_model.specs.Boot.{boot, boot_recs}
use Rattle.kern_model.specs.Isolation.{any_crosses, low, part, part_script, up_to}
use Rattle.kern_model.specs.Run.{CallRecord, run, state_after_run}
use Rattle.lab_engine.specs.declared.ending.InputEnd.{InputEnd}
use Rattle.lab_engine.specs.declared.ending.InputEnd.TheVariants.{Whole}
use Rattle.lab_engine.specs.Input.{Accepted, Script}
use Rattle.lab_engine.specs.Report.{crossed_line}
use Rattle.lab_engine.specs.Session.{Session}
use Rattle.lab_engine.specs.Texts.{ends_text, last_text, reply_text}

-- the calls of processes whose number's label l dominates
abbrev pub low_calls : Label → List CallRecord → List CallRecord
low_calls l calls = filter (λ (p : CallRecord). low l p.who.label) calls

-- whether a call crosses l
abbrev pub some_crosses : Label → List CallRecord → Bool
some_crosses l calls = list_any (λ (p : CallRecord). any_crosses l p.recs) calls

-- the calls that l sees: those before the first one that crosses it
abbrev pub visible_calls : Label → List CallRecord → List CallRecord
visible_calls l calls = low_calls l (up_to l calls)

-- the last line of an input that is not whole
abbrev pub unless_whole : InputEnd → List ℕ
unless_whole Whole = []
unless_whole ending = last_text 0 ending

-- what a view from l writes: the replies to the calls that it sees, and `crossed` where one crosses, or else the end lines that it sees and the number of these replies
unfoldable pub view_text : Label → Session → List ℕ
view_text l s =
    flat_map (reply_text s.policy) (visible_calls l s.calls)
    ++ cond (some_crosses l s.calls) (crossed_line ++ unless_whole s.ending) (ends_text (Some l) s.policy s.last_state ++ last_text (length (visible_calls l s.calls)) s.ending)

-- what is played of the part below l of a world and of a script, with nothing else there
abbrev pub session_alone : Label → Accepted → Script → Session
session_alone l a script = record {
  policy = a.policy;
  bound = a.world.bound;
  boot_recs = boot_recs a.world;
  calls = run (part l (boot a.world)) (part_script l script.items);
  last_state = state_after_run (part l (boot a.world)) (part_script l script.items);
  ending = script.ending;
}
