use Rattle.std.proofs.Common.{◌≡◌, true, ℕ, ◌+◌, [], drop, length}
use Rattle.kern_model.specs.Arguments.{is_script}
use Rattle.kern_model.specs.Run.{run, state_after_run}
use Rattle.sec_utils.specs.Items.{items_of}
use Rattle.lab_engine.specs.Playing.{ends}
use Rattle.lab_engine.specs.Report.{CountsAtMost, items_reported, report_after}
use Rattle.lab_engine.specs.Reporter.{SameEnds, calls_seen}
use Rattle.lab_engine.specs.declared.reporting.Report.TheVariants.{All}
use Rattle.lab_engine.specs.Readable.{CallsReadable}
use Rattle.lab_engine.proofs.ScriptLemmas.{Underway}
use Rattle.lab_engine.proofs.SeenLemmas.{SeenSoFar}
use Rattle.lab_engine.proofs.playing.play_tool.Given as goal

abbrev pub invariant-loop-at : goal.invariant-loop-at
invariant-loop-at g l =
    let first = l.fn.reporter in
    let now = l.reporter in
    let policy = first.texts.policy.now in
    let items = items_of l.util in
    let left = drop l.at items in
    let state = g.C.Calls.state l.kernel in
    let start = g.C.Calls.state l.fn.kernel in
    record {
      underway : (source : ℕ) → Underway
          (ends source (g.K.Sink.view first.out.now) (g.T.Sink.view first.trail.now))
          (ends source (g.K.Sink.view now.out.now) (g.T.Sink.view now.trail.now))
          (items_reported first.report policy l.count start items) (items_reported now.report policy l.number state left);
      readable : first.report ≡ All → CallsReadable policy l.number state left → CallsReadable policy l.count start items;
      all : first.report ≡ All → now.report ≡ All;
      kept : report_after now.report (run state left) ≡ report_after first.report (run start items);
      few : CountsAtMost l.number now.report;
      counted : l.number ≡ l.count + l.at;
      after : state_after_run state left ≡ state_after_run start items;
      top : state.top ≡ start.top;
      playable : is_script start.top left ≡ true;
      saw : SeenSoFar (run start items) (run state left) (calls_seen first.seen.items) (calls_seen now.seen.items);
      numbered : l.number ≡ length (calls_seen now.seen.items);
      going : calls_seen now.stopped.items ≡ [];
      start : now.start.items ≡ first.start.items;
      same : SameEnds policy now.texts.policy.now first.out now.out first.trail now.trail;
    }
