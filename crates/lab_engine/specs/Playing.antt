-- What a run did at its ends.
use Rattle.std.specs.Prelude.{◌≡◌, ℕ, ◌+◌, List, ◌++◌, length, Result, MatchResult}
use Rattle.std.specs.List.{flat_map}
use Rattle.std.specs.declared.option.Option.{Option}
use Rattle.std.specs.Io.KnownBytes.{Appends, IsAtEnd}
use Rattle.io_ends.specs.LinesState.{LinesState}
use Rattle.io_ends.specs.Ends.{SinkView}
use Rattle.lab_engine.specs.declared.ending.InputEnd.TheVariants.{Whole}
use Rattle.lab_engine.specs.declared.playing.Played.{Played}
use Rattle.lab_engine.specs.declared.ending.Fault.{Fault}
use Rattle.lab_engine.specs.declared.ending.Fault.TheVariants.{Read}
use Rattle.kern_model.specs.declared.world.ScriptItem.{ScriptItem}
use Rattle.kern_model.specs.State.{State}
use Rattle.kern_model.specs.Run.{run, state_after_run}
use Rattle.lab_text.specs.Policy.{PolicyNames}
use Rattle.lab_engine.specs.Counts.{Counts, counts, counted_by}
use Rattle.lab_engine.specs.Input.{Judge, Script}
use Rattle.lab_engine.specs.Readable.{CallsReadable}
use Rattle.lab_engine.specs.Reading.{Takes, left_of, script_by}
use Rattle.lab_engine.specs.Order.{Sent, out_of, trail_of, to_out, to_trail, call_order}
use Rattle.lab_engine.specs.Session.{bytes_from}
use Rattle.lab_engine.specs.declared.reporting.Report.{Report}
use Rattle.lab_engine.specs.declared.reporting.Report.TheVariants.{All}
use Rattle.lab_engine.specs.Report.{report_after, sends_from}

-- ---- the order of calls

-- the order of calls that are played from a state on, after so many others
unfoldable pub items_order : PolicyNames → ℕ → State → List ScriptItem → List Sent
items_order policy count s items = flat_map call_order (bytes_from policy (count + 1) (run s items))

-- ---- what a function writes

-- what contracts see of the ends of a run: how many faults the source has counted, and the two sinks
pub record Ends : Type 0 where
  pub source : ℕ
  pub out : SinkView
  pub trail : SinkView

abbrev pub ends : ℕ → SinkView → SinkView → Ends
ends source out trail = record { source = source; out = out; trail = trail }

-- how many faults each end has counted
abbrev pub faults_of : Ends → Counts
faults_of e = counts e.source e.out.faults e.trail.faults

-- these bytes were appended, each to its sink
pub record Sends (sent : List Sent) (before after : Ends) : Type 0 where
  pub to_out : Appends before.out.held after.out.held (out_of sent)
  pub to_trail : Appends before.trail.held after.trail.held (trail_of sent)

-- a prefix of an order was appended
pub record SendsPrefix (order : List Sent) (before after : Ends) : Type 0 where
  pub sent : List Sent
  pub rest : List Sent
  pub prefix : order ≡ sent ++ rest
  pub sends : Sends sent before after

-- all of an order was appended, and no fault was counted
pub record SendsAll (order : List Sent) (before after : Ends) : Type 0 where
  pub sends : Sends order before after
  pub no_fault : faults_of after ≡ faults_of before

-- a prefix of an order was appended, and the fault was counted once
pub record StopsBy (fault : Fault) (order : List Sent) (before after : Ends) : Type 0 where
  pub sends : SendsPrefix order before after
  pub one_fault : faults_of after ≡ counted_by fault (faults_of before)

-- a function wrote an order, or stopped in it by the fault that it reports
abbrev pub Writes : {T : Type 0} → Result T Fault → List Sent → Ends → Ends → Type 0
Writes result order before after = MatchResult result (λ _. SendsAll order before after) (λ fault. StopsBy fault order before after)

-- a function that does not read wrote an order
abbrev pub WritesBoth : {T : Type 0} → Result T Fault → List Sent → (out out' trail trail' : SinkView) → Type 0
WritesBoth result order out out' trail trail' = (source : ℕ) → Writes result order (ends source out trail) (ends source out' trail')

-- a function wrote bytes to the output alone
abbrev pub WritesOut : {T : Type 0} → Result T Fault → List ℕ → (out out' : SinkView) → Type 0
WritesOut result bytes out out' = (source : ℕ) (trail : SinkView) → Writes result (to_out bytes) (ends source out trail) (ends source out' trail)

-- a function wrote bytes to the trail alone
abbrev pub WritesTrail : {T : Type 0} → Result T Fault → List ℕ → (trail trail' : SinkView) → Type 0
WritesTrail result bytes trail trail' = (source : ℕ) (out : SinkView) → Writes result (to_trail bytes) (ends source out trail) (ends source out trail')

-- ---- a script that is played

-- all calls of a script were played
pub record PlaysAll (policy : PolicyNames) (r r' : Report) (s s' : State) (m : Script) (left : Option (List ℕ)) (p : Played) (before after : Ends) : Type 0 where
  pub ending : p.ending ≡ m.ending
  pub count : p.count ≡ length m.items
  pub state : s' ≡ state_after_run s m.items
  pub report : r' ≡ report_after r (run s m.items)
  pub sends : SendsAll (sends_from r policy 1 (run s m.items)) before after
  pub readable : r ≡ All → CallsReadable policy 0 s m.items
  pub to_the_end : p.ending ≡ Whole → IsAtEnd left

-- a script was played up to a fault; where a read failed, all calls in the bytes that were taken were played
pub record StopsIn (policy : PolicyNames) (r : Report) (s : State) (m taken : Script) (fault : Fault) (before after : Ends) : Type 0 where
  pub stops : StopsBy fault (sends_from r policy 1 (run s m.items)) before after
  pub by_line : fault ≡ Read → Sends (sends_from r policy 1 (run s taken.items)) before after

-- the script of the lines that a judge takes was read from a reader of lines, and played
pub record PlaysScript (result : Result Played Fault) (judge : Judge) (policy : PolicyNames) (r r' : Report) (s s' : State) (lines lines' : LinesState) (left left' : Option (List ℕ)) (before after : Ends) : Type 0 where
  pub taken : List ℕ
  pub takes : Takes lines lines' left left' taken
  pub did : MatchResult result (λ p. PlaysAll policy r r' s s' (script_by judge policy lines (taken ++ left_of left')) left' p before after)
      (λ fault. StopsIn policy r s (script_by judge policy lines (taken ++ left_of left')) (script_by judge policy lines taken) fault before after)
