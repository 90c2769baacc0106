-- A script whose calls are seen as it is played.
use Rattle.std.proofs.Common.{◌≡◌, ◌⊎◌, List, [], ◌∷◌, ◌++◌, inl, inr, sym, ◌∙◌, ap, subst}
use Rattle.std.specs.Prelude.{Result, Ok, Err}
use Rattle.io_ends.specs.LinesState.{LinesState}
use Rattle.io_ends.specs.Ends.{SourceView}
use Rattle.kern_model.specs.declared.world.ScriptItem.{ScriptItem}
use Rattle.kern_model.specs.Run.{CallRecord, run}
use Rattle.lab_engine.specs.declared.ending.Fault.{Fault}
use Rattle.lab_engine.specs.declared.playing.Played.{Played}
use Rattle.lab_engine.specs.Handling.{HandlesScript, StopsBetween, StopsWithin}
use Rattle.lab_engine.specs.Input.{Judge, ScriptLine, ScriptLines, items_in, items_of_lines}
use Rattle.lab_engine.specs.Player.{PlayerView}
use Rattle.lab_engine.specs.Reporter.{SawPart, SawScript}
use Rattle.lab_engine.proofs.Progress.{all_played, plays, run_later, seen_later, stops}
use Rattle.lab_engine.proofs.ReadSoFar.{items_append_lines}

module _ {H : Type 0} (at : H → PlayerView) (first now : H) where
  module _ (m taken : ScriptLines) (fault : Fault) (source source' : SourceView) where
    -- a fault stopped a script after some of its calls, or in the calls of a line
    part_seen : (at first).stopped ≡ [] → StopsBetween (plays at first) m taken fault source source' first now ⊎ StopsWithin (plays at first) (stops at first) m fault source source' first now
        → SawPart (run (at first).state (items_of_lines m.lines)) (at first).seen (at now).seen (at now).stopped
    part_seen none (inl h) =
        let all = all_played at first h.lines now h.handled in
        let rest = run (at now).state (items_of_lines h.rest) in
        let calls = run (at first).state (items_of_lines h.lines) in
        record {
          added = calls;
          rest = rest;
          calls_are = ap (λ (ls : List ScriptLine). run (at first).state (items_of_lines ls)) h.prefix ∙ ap (run (at first).state) (items_append_lines h.lines h.rest)
              ∙ run_later (items_of_lines h.lines) (at first) (at now) all (items_of_lines h.rest)
              ∙ ap (λ (cs : List CallRecord). calls ++ (cs ++ rest)) (sym (all.stopped ∙ none));
          seen_is = all.seen;
        }
    part_seen none (inr h) =
        subst (λ (items : List ScriptItem). SawPart (run (at first).state items) (at first).seen (at now).seen (at now).stopped)
        (sym (ap (λ (ls : List ScriptLine). items_of_lines ls) h.prefix ∙ items_append_lines h.before (h.line ∷ h.rest)))
        (seen_later (items_of_lines h.before) (at first) (at h.between) (all_played at first h.before h.between h.handled) (items_in h.line.says) (items_of_lines h.rest) (at now).seen (at now).stopped h.stopped.saw)

  module _ (judge : Judge) (lines lines' : LinesState) (source source' : SourceView) (none : (at first).stopped ≡ []) where
    abbrev SawFrom : PlayerView → Result Played Fault → Type 0
    SawFrom start result = HandlesScript (plays at first) (stops at first) result judge start.policy lines lines' source source' first now
        → SawScript result judge start.policy start.state lines lines' source.left source'.left start.seen (at now).seen (at now).stopped

    saw_first : (result : Result Played Fault) → SawFrom (at first) result
    saw_first (Ok p) h =
        let all = all_played at first _ now h.did.handled in
        record { taken = h.taken; takes = h.takes; saw = (all.seen, all.stopped ∙ none) }
    saw_first (Err fault) h = record { taken = h.taken; takes = h.takes; saw = part_seen _ _ fault source source' none h.did }

    -- a script whose lines were played by a player that began like this, and that no call had stopped
    pub saw_script : (start : PlayerView) → at first ≡ start → (result : Result Played Fault) → SawFrom start result
    saw_script start is result = subst (λ (v : PlayerView). SawFrom v result) is (saw_first result)
