-- What a reporter keeps: the calls that it saw, and what its ends hold of them.
use Rattle.std.specs.Prelude.{◌≡◌, ℕ, ◌+◌, ◌<◌, ◌≤◌, List, [], ◌∷◌, ◌++◌, length, map, Result, MatchResult}
use Rattle.std.specs.Borrow.{MutBor}
use Rattle.std.specs.List.{AllByRecursion}
use Rattle.std.specs.declared.option.Option.{Option}
use Rattle.io_ends.specs.Ends.{SinkView}
use Rattle.io_ends.specs.LinesState.{LinesState}
use Rattle.kern_model.specs.declared.calls.Call.{Call}
use Rattle.kern_model.specs.declared.numbers.Pid.{Pid}
use Rattle.kern_model.specs.declared.records.Outcome.{Outcome}
use Rattle.kern_model.specs.declared.calls.Reply.{Reply}
use Rattle.kern_model.specs.declared.world.ScriptItem.{ScriptItem}
use Rattle.kern_model.specs.Names.{name_of, word_of}
use Rattle.kern_model.specs.Run.{CallRecord, item_record, run}
use Rattle.kern_model.specs.State.{State}
use Rattle.lab_lattice.specs.Label.{bottom}
use Rattle.lab_text.specs.Policy.{PolicyNames}
use Rattle.line_text.specs.Reply.{reply_line}
use Rattle.script_text.specs.declared.line.Line.{Line}
use Rattle.script_text.specs.declared.line.Line.TheVariants as line
use Rattle.sec_utils.specs.Calls.{IsWhole}
use Rattle.sec_utils.specs.Items.{head_at}
use Rattle.lab_engine.specs.declared.ending.Fault.{Fault}
use Rattle.lab_engine.specs.declared.playing.Played.{Played}
use Rattle.lab_engine.specs.declared.replying.CallHead.{CallHead}
use Rattle.lab_engine.specs.declared.replying.ReplyLine.{ReplyLine}
use Rattle.lab_engine.specs.declared.replying.ReplyLine.TheVariants.{Program, Script}
use Rattle.lab_engine.specs.declared.reporting.Report.{Report}
use Rattle.lab_engine.specs.declared.reporting.Report.TheVariants.{All}
use Rattle.lab_engine.specs.Input.{Judge}
use Rattle.lab_engine.specs.Order.{Sent}
use Rattle.lab_engine.specs.Playing.{Ends, Sends, ends}
use Rattle.lab_engine.specs.Readable.{IsReadable}
use Rattle.lab_engine.specs.Reading.{Takes, left_of, script_by}
use Rattle.lab_engine.specs.Report.{call_record, report_after, sends_from}
use Rattle.lab_engine.specs.Session.{numbered_from}

-- the names of labels are the same as before, and so are the borrows of the output and of the trail
abbrev pub SameEnds : {P A B : Type 0} → (policy policy' : P) (out out' : MutBor A) (trail trail' : MutBor B) → Type 0
SameEnds policy policy' out out' trail trail' = (policy' ≡ policy) × (out.ghost_name ≡ out'.ghost_name) × (trail.ghost_name ≡ trail'.ghost_name)

-- ---- the line of a call

-- a line has a call at an index: its only one, or that of a path of its whole utility
abbrev pub HasCallAt : Line → ℕ → Type 0
HasCallAt line.Blank at = ⊥
HasCallAt (line.One who call) at = at ≡ 0
HasCallAt (line.Tool util) at = (at < length util.paths) × IsWhole util

-- the process whose calls stand on a line; a blank line has the number of no process
abbrev pub who_on : Line → Pid
who_on line.Blank = record { label = bottom; n = 0 }
who_on (line.One who call) = who
who_on (line.Tool util) = util.who

-- what a reply shows of the call at an index of a line: the word of the call, or that of the utility and the text of the path
abbrev pub head_on : Line → ℕ → List ℕ
head_on line.Blank at = []
head_on (line.One who call) at = word_of (name_of call)
head_on (line.Tool util) at = head_at util at

-- a call at an index of a line, as an item of a script
abbrev pub item_on : Line → ℕ → Call → ScriptItem
item_on line at call = record { who = who_on line; head = head_on line at; call = call }

-- ---- a call

-- a call of a script stands on its line
abbrev pub HasCall : ReplyLine → Type 0
HasCall (Script line at) = HasCallAt line.now at
HasCall (Program who call) = Unit {0}

-- the process whose call it is
abbrev pub who_of : ReplyLine → Pid
who_of (Script line at) = who_on line.now
who_of (Program who call) = who.now

-- what a reply shows of it: of a call of a program its word
abbrev pub head_of : ReplyLine → List ℕ
head_of (Script line at) = head_on line.now at
head_of (Program who call) = word_of (name_of call.now)

-- a call as it was played, by what came of it
abbrev pub call_on : ReplyLine → Outcome → CallRecord
call_on r outcome = call_record (who_of r) (head_of r) outcome

-- the same call as it is played from a state on
abbrev pub played_at : State → ReplyLine → Call → CallRecord
played_at s r call = item_record s (record { who = who_of r; head = head_of r; call = call })

-- the line of the output with a reply to the call
abbrev pub reply_at : PolicyNames → ReplyLine → Reply → List ℕ
reply_at policy r reply = reply_line policy (who_of r) (head_of r) reply

-- ---- the calls that were seen

-- what a reply shows, by a list with a line of a script, or else by one with a call of a program
abbrev pub head_in : List (Line × (ℕ × Unit {0})) → List (Call × (Unit {0} × Unit {0})) → List ℕ
head_in (l ∷ _) calls = head_on l.0 l.1.0
head_in [] (c ∷ _) = word_of (name_of c.0)
head_in [] [] = []

-- what is kept of it
abbrev pub head_seen : CallHead → List ℕ
head_seen h = head_in h.line.items h.call.items

-- the calls of a list, each by its process, by what its reply shows and by what came of it
abbrev pub calls_seen : List (Pid × (CallHead × Outcome)) → List CallRecord
calls_seen seen = map (λ (c : Pid × (CallHead × Outcome)). call_record c.0 (head_seen c.1.0) c.1.1) seen

-- so many calls were seen, and none was stopped
abbrev pub HasSeen : ℕ → (seen stopped : List (Pid × (CallHead × Outcome))) → Type 0
HasSeen n seen stopped = (length (calls_seen seen) ≡ n) × (calls_seen stopped ≡ [])

-- the first of these calls were seen besides, and a call that was stopped is the next one
pub record SawPart (calls seen seen' stopped' : List CallRecord) : Type 0 where
  pub added : List CallRecord
  pub rest : List CallRecord
  pub calls_are : calls ≡ added ++ (stopped' ++ rest)
  pub seen_is : seen' ≡ seen ++ added

-- a function that succeeded saw all of these calls and stopped none, and one that failed saw a part of them
abbrev pub SawCalls : {T : Type 0} → Result T Fault → (calls seen seen' stopped' : List CallRecord) → Type 0
SawCalls result calls seen seen' stopped' = MatchResult result (λ _. (seen' ≡ seen ++ calls) × (stopped' ≡ [])) (λ _. SawPart calls seen seen' stopped')

-- the calls of the lines that a judge takes of a script were seen, played from a state on
pub record SawScript (result : Result Played Fault) (judge : Judge) (policy : PolicyNames) (s : State) (lines lines' : LinesState) (left left' : Option (List ℕ)) (seen seen' stopped' : List CallRecord) : Type 0 where
  pub taken : List ℕ
  pub takes : Takes lines lines' left left' taken
  pub saw : SawCalls result (run s (script_by judge policy lines (taken ++ left_of left')).items) seen seen' stopped'

-- ---- what the ends hold

-- behind what the ends held at the start they hold what is reported of the calls seen, and then a prefix of what is reported of the call that was stopped, if there is one; until then the report is that after the calls seen; where all is reported, the records of the calls seen are readable
pub record HoldReports (policy : PolicyNames) (first now : Report) (seen stopped : List CallRecord) (before after : Ends) : Type 0 where
  pub front : List Sent
  pub rest : List Sent
  pub next : sends_from (report_after first seen) policy (length seen + 1) stopped ≡ front ++ rest
  pub sends : Sends (sends_from first policy 1 seen ++ front) before after
  pub report : stopped ≡ [] → now ≡ report_after first seen
  pub readable : first ≡ All → AllByRecursion (IsReadable policy) (numbered_from 1 seen)
  pub one : length stopped ≤ 1

-- the same from a list that has the output, the trail and the report as they were at the start
abbrev pub HoldReportsSince : {K T : Type 0} → (K → SinkView) → (T → SinkView) → List (K × (T × Report)) → PolicyNames → Report → (seen stopped : List CallRecord) → (out trail : SinkView) → Type 0
HoldReportsSince f g [] policy now seen stopped out trail = ⊥
HoldReportsSince f g (start ∷ _) policy now seen stopped out trail = HoldReports policy start.1.1 now seen stopped (ends 0 (f start.0) (g start.1.0)) (ends 0 out trail)
