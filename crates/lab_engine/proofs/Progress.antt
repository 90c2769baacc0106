-- A script that is played as it is read: what its calls leave, and what a fault does.
use Rattle.std.proofs.Common.{◌≡◌, ◌⊎◌, ℕ, ◌+◌, List, [], ◌∷◌, ◌++◌, length, refl, sym, ◌∙◌, ap, subst, arith, append_assoc}
use Rattle.std.proofs.lemmas.List.{append-nil}
use Rattle.std.specs.Prelude.{Result, Ok, Err, MatchResult, OnOk}
use Rattle.io_ends.specs.LinesState.{LinesState}
use Rattle.io_ends.specs.Ends.{SourceView}
use Rattle.kern_model.specs.declared.numbers.Pid.{Pid}
use Rattle.kern_model.specs.declared.world.ScriptItem.{ScriptItem}
use Rattle.kern_model.specs.declared.records.Outcome.{Outcome}
use Rattle.kern_model.specs.Run.{CallRecord, run, state_after_run}
use Rattle.kern_model.specs.State.{State}
use Rattle.kern_model.specs.Step.{step}
use Rattle.lab_lattice.specs.Label.{Label}
use Rattle.lab_text.specs.Policy.{PolicyNames}
use Rattle.lab_engine.specs.declared.ending.Fault.{Fault}
use Rattle.lab_engine.specs.declared.playing.Played.{Played}
use Rattle.lab_engine.specs.declared.replying.CallHead.{CallHead}
use Rattle.lab_engine.specs.declared.reporting.Report.{Report}
use Rattle.lab_engine.specs.declared.reporting.Report.TheVariants.{All}
use Rattle.lab_engine.specs.Handling.{Handled, NoLine, NextLine, HandlesAll, HandlesScript, StopsBetween, StopsWithin}
use Rattle.lab_engine.specs.Input.{Judge, ScriptLine, ScriptLines, items_in, items_of_lines, script_of}
use Rattle.lab_engine.specs.Order.{Sent}
use Rattle.lab_engine.specs.Playing.{PlaysAll, PlaysScript, SendsAll, StopsBy, StopsIn, WritesBoth}
use Rattle.lab_engine.specs.Player.{ends_at, PlayerView, PlaysCalls, StopsCalls}
use Rattle.lab_engine.specs.Report.{CountsAtMost, items_reported, report_after}
use Rattle.lab_engine.specs.Readable.{CallsReadable}
use Rattle.lab_engine.specs.Reporter.{HasSeen, SawCalls, SawPart, calls_seen}
use Rattle.lab_engine.specs.Reading.{left_of, lines_at}
use Rattle.lab_engine.proofs.LinesWritten.{Continues, WritesLines, WritesPart, all_written, part_written}
use Rattle.lab_engine.proofs.ReadSoFar.{items_append_lines, items_more}
use Rattle.lab_engine.proofs.ReadableLemmas.{readable_items}
use Rattle.lab_engine.proofs.ReportLemmas.{after_append, after_none, all_stays, counts_items, items_append, items_none}
use Rattle.lab_engine.proofs.SeenLemmas.{SeenSoFar, more_counted, run_append, so_far_part}
use Rattle.lab_engine.proofs.Sending.{all_more, all_nothing, stops_after, stops_longer}
use Rattle.lab_engine.proofs.ToolLemmas.{top_after}

-- ---- calls after others

pub state_append : (s : State) (is more : List ScriptItem) → state_after_run s (is ++ more) ≡ state_after_run (state_after_run s is) more
state_append s [] more = refl
state_append s (i ∷ is) more = state_append (step s i.who i.call).state is more

-- no call was played
plays_none : (p : PlayerView) → PlaysCalls 0 [] p p
plays_none p = record {
  policy = refl;
  state = refl;
  report = sym (after_none p.report p.state);
  sends = λ source. subst (λ (o : List Sent). SendsAll o (ends_at source p) (ends_at source p)) (sym (items_none p.policy p.report 0 p.state)) (all_nothing (ends_at source p));
  readable = λ all. tt;
  seen = sym (append-nil p.seen);
  stopped = refl;
}

module _ (items : List ScriptItem) (before between : PlayerView) (p : PlaysCalls 0 items before between) where
  from_zero : 0 + length items ≡ length items
  from_zero = omega arith

  -- what is reported of these calls, and of those after them
  reported_later : (more : List ScriptItem) → items_reported before.report before.policy 0 before.state (items ++ more)
      ≡ items_reported before.report before.policy 0 before.state items ++ items_reported between.report between.policy (length items) between.state more
  reported_later more =
      items_append before.policy before.report 0 before.state items more
      ∙ ap (λ n. items_reported before.report before.policy 0 before.state items ++ items_reported (report_after before.report (run before.state items)) before.policy n (state_after_run before.state items) more) from_zero
      ∙ ap (λ (s : State). items_reported before.report before.policy 0 before.state items ++ items_reported (report_after before.report (run before.state items)) before.policy (length items) s more) (sym p.state)
      ∙ ap (λ (r : Report). items_reported before.report before.policy 0 before.state items ++ items_reported r before.policy (length items) between.state more) (sym p.report)
      ∙ ap (λ (q : PolicyNames). items_reported before.report before.policy 0 before.state items ++ items_reported between.report q (length items) between.state more) (sym p.policy)

  -- what is played of these calls, and of those after them
  pub run_later : (more : List ScriptItem) → run before.state (items ++ more) ≡ run before.state items ++ run between.state more
  run_later more = run_append before.state items more ∙ ap (λ (s : State). run before.state items ++ run s more) (sym p.state)

  -- further calls were played
  plays_more : (more : List ScriptItem) (after : PlayerView) → PlaysCalls (length items) more between after → PlaysCalls 0 (items ++ more) before after
  plays_more more after q = record {
    policy = q.policy ∙ p.policy;
    state = q.state ∙ ap (λ (s : State). state_after_run s more) p.state ∙ sym (state_append before.state items more);
    report = q.report ∙ ap (λ (r : Report). report_after r (run between.state more)) p.report
        ∙ ap (λ (s : State). report_after (report_after before.report (run before.state items)) (run s more)) p.state ∙ sym (after_append before.report before.state items more);
    sends = λ source. subst (λ (o : List Sent). SendsAll o (ends_at source before) (ends_at source after)) (sym (reported_later more))
        (all_more (items_reported before.report before.policy 0 before.state items) (items_reported between.report between.policy (length items) between.state more) (ends_at source before) (ends_at source between) (ends_at source after) (p.sends source) (q.sends source));
    readable = λ all. readable_items before.policy 0 before.state items more (p.readable all)
        (subst (λ n. CallsReadable before.policy n (state_after_run before.state items) more) (sym from_zero)
        (subst (λ (s : State). CallsReadable before.policy (length items) s more) p.state
        (subst (λ (n : PolicyNames). CallsReadable n (length items) between.state more) p.policy (q.readable (p.report ∙ all_stays before.report (run before.state items) all)))));
    seen = q.seen ∙ ap (λ (cs : List CallRecord). cs ++ run between.state more) p.seen ∙ append_assoc before.seen (run before.state items) (run between.state more)
        ∙ ap (λ (cs : List CallRecord). before.seen ++ cs) (sym (run_later more));
    stopped = q.stopped ∙ p.stopped;
  }

  -- a fault stopped further calls
  stops_later : (more rest : List ScriptItem) (fault : Fault) (after : PlayerView) → StopsCalls (length items) more fault between after
      → (source : ℕ) → StopsBy fault (items_reported before.report before.policy 0 before.state (items ++ (more ++ rest))) (ends_at source before) (ends_at source after)
  stops_later more rest fault after stop source =
      let first = items_reported before.report before.policy 0 before.state items in
      let cut = items_reported between.report between.policy (length items) between.state more in
      let later = items_reported (report_after between.report (run between.state more)) between.policy (length items + length more) (state_after_run between.state more) rest in
      subst (λ (o : List Sent). StopsBy fault o (ends_at source before) (ends_at source after))
      (sym (reported_later (more ++ rest) ∙ ap (λ (o : List Sent). first ++ o) (items_append between.policy between.report (length items) between.state more rest)))
      (stops_after fault first (cut ++ later) (ends_at source before) (ends_at source between) (ends_at source after) (p.sends source) (stops_longer fault cut later (ends_at source between) (ends_at source after) (stop.stops source)))

  -- a part of them was seen
  pub seen_later : (more rest : List ScriptItem) (seen stopped : List CallRecord) → SawPart (run between.state more) between.seen seen stopped → SawPart (run before.state (items ++ (more ++ rest))) before.seen seen stopped
  seen_later more rest seen stopped part =
      let so_far : SeenSoFar (run before.state (items ++ (more ++ rest))) (run between.state (more ++ rest)) before.seen between.seen = record {
        added = run before.state items;
        calls_are = run_later (more ++ rest);
        seen_is = p.seen;
      } in
      so_far_part _ _ _ _ so_far (run between.state more) _ (run_append between.state more rest) seen stopped part

-- ---- a line

-- what the contract of a line says of a player that no call has stopped
pub plays_line : {T : Type 0} (result : Result T Fault) (count : ℕ) (items : List ScriptItem) (a b : PlayerView) → b.policy ≡ a.policy → WritesBoth result (items_reported a.report a.policy count a.state items) a.out b.out a.trail b.trail
    → OnOk result (b.state ≡ state_after_run a.state items) → OnOk result (b.report ≡ report_after a.report (run a.state items)) → OnOk result (a.report ≡ All → CallsReadable a.policy count a.state items)
    → a.stopped ≡ [] → SawCalls result (run a.state items) a.seen b.seen b.stopped → MatchResult result (λ _. PlaysCalls count items a b) (λ fault. StopsCalls count items fault a b)
plays_line (Ok x) count items a b policy writes state report readable none saw = record {
  policy = policy;
  state = state;
  report = report;
  sends = writes;
  readable = readable;
  seen = saw.0;
  stopped = saw.1 ∙ sym none;
}
plays_line (Err fault) count items a b policy writes state report readable none saw = record { stops = writes; saw = saw }

-- it is ready for another line
pub ready_again : {T : Type 0} (result : Result T Fault) (count : ℕ) (items : List ScriptItem) (r r' : Report) (s s' : State) (seen seen' stopped stopped' : List (Pid × (CallHead × Outcome))) → OnOk result (s' ≡ state_after_run s items)
    → OnOk result (r' ≡ report_after r (run s items)) → SawCalls result (run s items) (calls_seen seen) (calls_seen seen') (calls_seen stopped')
    → (top : Label) → (s.top ≡ top) × CountsAtMost count r × HasSeen count seen stopped → OnOk result ((s'.top ≡ top) × CountsAtMost (count + length items) r' × HasSeen (count + length items) seen' stopped')
ready_again (Ok x) count items r r' s s' seen seen' stopped stopped' state report saw top ready = (
  ap (λ (x : State). x.top) state ∙ top_after s items ∙ ready.0,
  subst (CountsAtMost (count + length items)) (sym report) (counts_items count r s items ready.1),
  (more_counted count (count + length items) s items (calls_seen seen) (calls_seen seen') ready.2.0 saw.0 refl, saw.1),
)
ready_again (Err fault) count items r r' s s' seen seen' stopped stopped' state report saw top ready = tt

-- ---- a script
module _ {H : Type 0} (at : H → PlayerView) (first : H) where
  abbrev pub plays : ℕ → ScriptLine → H → H → Type 0
  plays count line a b = PlaysCalls count (items_in line.says) (at a) (at b)

  abbrev pub stops : ℕ → ScriptLine → Fault → H → H → Type 0
  stops count line fault a b = StopsCalls count (items_in line.says) fault (at a) (at b)

  -- the calls of lines that were played one after another
  pub all_played : (ls : List ScriptLine) (now : H) → Handled plays first ls now → PlaysCalls 0 (items_of_lines ls) (at first) (at now)
  all_played ls now NoLine = plays_none (at first)
  all_played ls now (NextLine before line between last lines next) =
      subst (λ (items : List ScriptItem). PlaysCalls 0 items (at first) (at now)) (sym (items_more before line))
      (plays_more (items_of_lines before) (at first) (at between) (all_played before between lines) (items_in line.says) (at now) next)

  -- what is reported of lines
  abbrev reported : List ScriptLine → List Sent
  reported ls = items_reported (at first).report (at first).policy 0 (at first).state (items_of_lines ls)

  lines_reported : WritesLines plays stops (λ h. (at h).out) (λ h. (at h).trail) first reported
  lines_reported ls now handled source = (all_played ls now handled).sends source

  line_cut : WritesPart plays stops (λ h. (at h).out) (λ h. (at h).trail) first reported
  line_cut before line rest between now fault handled stopped source =
      subst (λ (items : List ScriptItem). StopsBy fault (items_reported (at first).report (at first).policy 0 (at first).state items) (ends_at source (at first)) (ends_at source (at now))) (sym (items_append_lines before (line ∷ rest)))
      (stops_later (items_of_lines before) (at first) (at between) (all_played before between handled) (items_in line.says) (items_of_lines rest) fault (at now) stopped source)

  goes_on : (ls more : List ScriptLine) → Continues reported ls more
  goes_on ls more =
      let policy = (at first).policy in
      let r = (at first).report in
      let s = (at first).state in
      record {
        rest = items_reported (report_after r (run s (items_of_lines ls))) policy (0 + length (items_of_lines ls)) (state_after_run s (items_of_lines ls)) (items_of_lines more);
        is = ap (items_reported r policy 0 s) (items_append_lines ls more) ∙ items_append policy r 0 s (items_of_lines ls) (items_of_lines more);
      }

  module _ (now : H) (m : ScriptLines) (source source' : SourceView) where
    -- the script was played to its end
    script_played : (p : Played) → HandlesAll plays m p source source' first now
        → PlaysAll (at first).policy (at first).report (at now).report (at first).state (at now).state (script_of m) source'.left p (ends_at source.faults (at first)) (ends_at source'.faults (at now))
    script_played p h =
        let all = all_played m.lines now h.handled in
        record {
          ending = h.ending;
          count = h.count;
          state = all.state;
          report = all.report;
          sends = all_written plays stops (λ h. (at h).out) (λ h. (at h).trail) first reported lines_reported source source' now m h.handled h.no_fault;
          readable = all.readable;
          to_the_end = h.to_the_end;
        }

    -- a fault stopped the script
    script_stopped : (taken : ScriptLines) (fault : Fault) → StopsBetween plays m taken fault source source' first now ⊎ StopsWithin plays stops m fault source source' first now
        → StopsIn (at first).policy (at first).report (at first).state (script_of m) (script_of taken) fault (ends_at source.faults (at first)) (ends_at source'.faults (at now))
    script_stopped taken fault h =
        let part = part_written plays stops (λ h. (at h).out) (λ h. (at h).trail) first reported lines_reported source source' now line_cut goes_on m taken fault h in
        record { stops = part.stops; by_line = part.by_line }

  module _ (judge : Judge) where
    abbrev PlaysFrom : PlayerView → Result Played Fault → (lines lines' : LinesState) (source source' : SourceView) → H → Type 0
    PlaysFrom start result lines lines' source source' now = HandlesScript plays stops result judge start.policy lines lines' source source' first now
        → PlaysScript result judge start.policy start.report (at now).report start.state (at now).state lines lines' source.left source'.left (ends_at source.faults start) (ends_at source'.faults (at now))

    plays_first : (result : Result Played Fault) (lines lines' : LinesState) (source source' : SourceView) (now : H) → PlaysFrom (at first) result lines lines' source source' now
    plays_first (Ok p) lines lines' source source' now h = record {
      taken = h.taken;
      takes = h.takes;
      did = script_played now (lines_at judge (at first).policy lines (h.taken ++ left_of source'.left)) source source' p h.did;
    }
    plays_first (Err fault) lines lines' source source' now h = record {
      taken = h.taken;
      takes = h.takes;
      did = script_stopped now (lines_at judge (at first).policy lines (h.taken ++ left_of source'.left)) source source' (lines_at judge (at first).policy lines h.taken) fault h.did;
    }

    -- a script whose lines were played by a player that began like this
    pub plays_script : (start : PlayerView) → at first ≡ start → (result : Result Played Fault) (lines lines' : LinesState) (source source' : SourceView) (now : H) → PlaysFrom start result lines lines' source source' now
    plays_script start is result lines lines' source source' now = subst (λ (v : PlayerView). PlaysFrom v result lines lines' source source' now) is (plays_first result lines lines' source source' now)
