-- What is written of the calls of programs, and what a reporter of them keeps.
use Rattle.std.specs.Prelude.{◌≡◌, ℕ, Bool, true, false, List, [], length, map}
use Rattle.std.specs.List.{AllByRecursion}
use Rattle.io_ends.specs.Ends.{SinkView}
use Rattle.kern_model.specs.declared.calls.Call.{Call}
use Rattle.kern_model.specs.declared.numbers.Pid.{Pid}
use Rattle.kern_model.specs.declared.records.Outcome.{Outcome}
use Rattle.kern_model.specs.Run.{CallRecord}
use Rattle.lab_text.specs.Policy.{PolicyNames}
use Rattle.lab_engine.specs.declared.ending.Fault.{Fault}
use Rattle.lab_engine.specs.declared.ending.Fault.TheVariants.{NoMemory}
use Rattle.lab_engine.specs.declared.reporting.Report.{Report}
use Rattle.lab_engine.specs.declared.reporting.Report.TheVariants.{All}
use Rattle.lab_engine.specs.Counts.{counted_by}
use Rattle.lab_engine.specs.Order.{Sent}
use Rattle.lab_engine.specs.Playing.{ends, faults_of}
use Rattle.lab_engine.specs.Readable.{IsReadable}
use Rattle.lab_engine.specs.Report.{call_sends, sends_from}
use Rattle.lab_engine.specs.Reporter.{HoldReports}
use Rattle.lab_engine.specs.Session.{numbered_from}
use Rattle.sched_progs.specs.declared.watch.SchedFault.{SchedFault}
use Rattle.sched_progs.specs.declared.watch.SchedFault.TheVariants as sched
use Rattle.sched_progs.specs.Chosen.{record_of_item}
use Rattle.sched_progs.specs.Turns.{LoopItem}
use Rattle.sched_progs.specs.Watching.{item_of}

-- ---- what is written

-- calls of programs, as those of a script are reported: a reply shows the word of its call
abbrev pub records_of_items : List LoopItem → List CallRecord
records_of_items items = map record_of_item items

-- what is written of the n-th call: its records, and then its reply
abbrev pub item_sends : PolicyNames → ℕ → LoopItem → List Sent
item_sends policy n i = call_sends All policy n (record_of_item i)

-- what is written of calls, one after another
abbrev pub items_sends : PolicyNames → List LoopItem → List Sent
items_sends policy items = sends_from All policy 1 (records_of_items items)

-- the records of calls are readable
abbrev pub AreItemsReadable : PolicyNames → List LoopItem → Type 0
AreItemsReadable policy items = AllByRecursion (IsReadable policy) (numbered_from 1 (records_of_items items))

-- ---- what a fault does

-- how many faults of the ends this one is: out of memory is none
abbrev pub end_faults : Fault → ℕ
end_faults NoMemory = 0
end_faults _ = 1

-- how a fault ends the programs
abbrev pub sched_fault_of : Fault → SchedFault
sched_fault_of NoMemory = sched.NoMemory
sched_fault_of _ = sched.Stopped

-- ---- what a reporter keeps

-- the calls of a list, each with what came of it
abbrev pub items_in : List (Pid × (Call × Outcome)) → List LoopItem
items_in calls = map (λ (c : Pid × (Call × Outcome)). item_of c.0 c.1.0 c.1.1) calls

-- whether all is reported
abbrev pub is_all : Report → Bool
is_all All = true
is_all _ = false

-- until a call is refused all is reported, so many calls were seen, none was stopped, and no end had a fault
abbrev pub IsGoing : List LoopItem → ℕ → Fault → Report → (seen stopped : List CallRecord) → Type 0
IsGoing refused count fault report seen stopped = refused ≡ [] → (is_all report ≡ true) × (length seen ≡ count) × (length stopped ≡ 0) × (end_faults fault ≡ 0)

-- behind what the output and the trail held they hold what is written of the calls seen, and then a prefix of what is written of the refused call, if there is one; its fault was counted once, and no other was
pub record HoldItems (policy : PolicyNames) (count : ℕ) (fault : Fault) (seen refused : List LoopItem) (out out' trail trail' : SinkView) : Type 0 where
  pub reports : HoldReports policy All All (records_of_items seen) (records_of_items refused) (ends 0 out trail) (ends 0 out' trail')
  pub count_is : count ≡ length seen
  pub once : (source : ℕ) → faults_of (ends source out' trail') ≡ counted_by fault (faults_of (ends source out trail))
