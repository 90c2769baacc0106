-- What a kernel plays and a reporter sees of the calls of lines.
use Rattle.std.specs.Prelude.{◌≡◌, ℕ, List, ◌++◌, Result}
use Rattle.io_ends.specs.Ends.{SinkView, SourceView}
use Rattle.io_ends.specs.LinesState.{LinesState}
use Rattle.io_ends.specs.declared.ends.Sink.{Ghosts}
use Rattle.kern_model.specs.declared.records.Rec.{Rec}
use Rattle.kern_model.specs.declared.world.ScriptItem.{ScriptItem}
use Rattle.kern_model.specs.Run.{CallRecord, run, state_after_run}
use Rattle.kern_model.specs.State.{State}
use Rattle.lab_text.specs.Policy.{PolicyNames}
use Rattle.lab_engine.specs.Input.{Judge}
use Rattle.lab_engine.specs.declared.ending.Fault.{Fault}
use Rattle.lab_engine.specs.declared.playing.Played.{Played}
use Rattle.lab_engine.specs.declared.reporter.Reporter.{Reporter}
use Rattle.lab_engine.specs.declared.reporting.Report.{Report}
use Rattle.lab_engine.specs.declared.reporting.Report.TheVariants.{All}
use Rattle.lab_engine.specs.Order.{Sent}
use Rattle.lab_engine.specs.Playing.{Ends, PlaysScript, SendsAll, StopsBy, WritesBoth, ends}
use Rattle.lab_engine.specs.Readable.{AreReadable, CallsReadable}
use Rattle.lab_engine.specs.Report.{call_sends, items_reported, report_after}
use Rattle.lab_engine.specs.Reporter.{SameEnds, SawCalls, SawPart, SawScript, calls_seen}

-- what contracts see of a reporter and a kernel: the names of labels, what is kept, the calls that were seen, the call that was stopped, the state, and the two sinks
pub record PlayerView : Type 0 where
  pub policy : PolicyNames
  pub report : Report
  pub seen : List CallRecord
  pub stopped : List CallRecord
  pub state : State
  pub out : SinkView
  pub trail : SinkView

-- a reporter and a kernel, by what contracts see of a kernel and of each sink
abbrev pub player_view : {C K T : Type 0} → (C → State) → (k : Ghosts K) (t : Ghosts T) → Reporter K T k t × C → PlayerView
player_view state k t p = record {
  policy = p.0.texts.policy.now;
  report = p.0.report;
  seen = calls_seen p.0.seen.items;
  stopped = calls_seen p.0.stopped.items;
  state = state p.1;
  out = k.view p.0.out.now;
  trail = t.view p.0.trail.now;
}

-- the two sinks beside a source that has counted so many faults
abbrev pub ends_at : ℕ → PlayerView → Ends
ends_at source p = ends source p.out p.trail

-- these calls were played and seen, after so many others
pub record PlaysCalls (count : ℕ) (items : List ScriptItem) (before after : PlayerView) : Type 0 where
  pub policy : after.policy ≡ before.policy
  pub state : after.state ≡ state_after_run before.state items
  pub report : after.report ≡ report_after before.report (run before.state items)
  pub sends : (source : ℕ) → SendsAll (items_reported before.report before.policy count before.state items) (ends_at source before) (ends_at source after)
  pub readable : before.report ≡ All → CallsReadable before.policy count before.state items
  pub seen : after.seen ≡ before.seen ++ run before.state items
  pub stopped : after.stopped ≡ before.stopped

-- a fault stopped these calls, after so many others
pub record StopsCalls (count : ℕ) (items : List ScriptItem) (fault : Fault) (before after : PlayerView) : Type 0 where
  pub stops : (source : ℕ) → StopsBy fault (items_reported before.report before.policy count before.state items) (ends_at source before) (ends_at source after)
  pub saw : SawPart (run before.state items) before.seen after.seen after.stopped

-- ---- what a function did with a reporter

module _ {K T : Type 0} {k : Ghosts K} {t : Ghosts T} where
  -- the names of labels are the same as before, and so are the borrows of the output and of the trail
  abbrev pub SameBorrows : (r r' : Reporter K T k t) → Type 0
  SameBorrows r r' = SameEnds r.texts.policy.now r'.texts.policy.now r.out r'.out r.trail r'.trail

  -- a function wrote an order to the output and the trail of a reporter, or at a fault a prefix of it
  abbrev pub WritesTo : {X : Type 0} → Result X Fault → List Sent → (r r' : Reporter K T k t) → Type 0
  WritesTo result order r r' = WritesBoth result order (k.view r.out.now) (k.view r'.out.now) (t.view r.trail.now) (t.view r'.trail.now)

  -- the same of what is reported of the n-th call
  abbrev pub WritesCall : {X : Type 0} → Result X Fault → ℕ → CallRecord → (r r' : Reporter K T k t) → Type 0
  WritesCall result n call r r' = WritesTo result (call_sends r.report r.texts.policy.now n call) r r'

  -- the same of what is reported of items that are played from a state on, after so many calls
  abbrev pub WritesItems : {X : Type 0} → Result X Fault → ℕ → State → List ScriptItem → (r r' : Reporter K T k t) → Type 0
  WritesItems result count s items r r' = WritesTo result (items_reported r.report r.texts.policy.now count s items) r r'

  -- where all is reported, these records of the n-th call are readable
  abbrev pub ReadableIfAll : Reporter K T k t → ℕ → List Rec → Type 0
  ReadableIfAll r n recs = r.report ≡ All → AreReadable r.texts.policy.now n recs

  -- where all is reported, the records of items that are played from a state on, after so many calls, are readable
  abbrev pub ItemsReadableIfAll : Reporter K T k t → ℕ → State → List ScriptItem → Type 0
  ItemsReadableIfAll r count s items = r.report ≡ All → CallsReadable r.texts.policy.now count s items

  -- a function that succeeded showed all of these calls to a reporter and stopped at none, and one that failed showed it a part of them
  abbrev pub ShowsCalls : {X : Type 0} → Result X Fault → List CallRecord → (r r' : Reporter K T k t) → Type 0
  ShowsCalls result calls r r' = SawCalls result calls (calls_seen r.seen.items) (calls_seen r'.seen.items) (calls_seen r'.stopped.items)

  -- a script is read from a reader of lines and played from one state to another, up to a fault, and what it does is reported
  abbrev pub PlaysTo : Result Played Fault → Judge → (lines lines' : LinesState) (source source' : SourceView) (s s' : State) (r r' : Reporter K T k t) → Type 0
  PlaysTo result judge lines lines' source source' s s' r r' =
      PlaysScript result judge r.texts.policy.now r.report r'.report s s' lines lines' source.left source'.left
      (ends source.faults (k.view r.out.now) (t.view r.trail.now)) (ends source'.faults (k.view r'.out.now) (t.view r'.trail.now))

  -- the calls of a script that was read from a reader of lines were shown to a reporter, as they are played from a state on
  abbrev pub ShowsScript : Result Played Fault → Judge → (lines lines' : LinesState) (source source' : SourceView) (s : State) (r r' : Reporter K T k t) → Type 0
  ShowsScript result judge lines lines' source source' s r r' =
      SawScript result judge r.texts.policy.now s lines lines' source.left source'.left (calls_seen r.seen.items) (calls_seen r'.seen.items) (calls_seen r'.stopped.items)
