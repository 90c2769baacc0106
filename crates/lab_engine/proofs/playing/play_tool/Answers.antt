use Rattle.std.proofs.Common.{◌≡◌, ℕ, ◌<◌, ◌≤◌, ◌^◌, true, ◌+◌, [], ◌∷◌, length, drop, get_or, refl, sym, ◌∙◌, ap, subst, arith}
use Rattle.std.specs.Prelude.{List}
use Rattle.kern_model.specs.declared.calls.Call.{Call}
use Rattle.kern_model.specs.Arguments.{is_call}
use Rattle.kern_model.specs.State.{State}
use Rattle.kern_model.specs.Run.{item_record, run, state_after_run}
use Rattle.lab_lattice.specs.Label.{Label}
use Rattle.iso_laws.proofs.Laws.{top_step}
use Rattle.script_text.specs.declared.line.Line.{Line}
use Rattle.script_text.specs.declared.line.Line.TheVariants as a_line
use Rattle.sec_utils.specs.declared.util.Util.{Util}
use Rattle.sec_utils.specs.Calls.{calls_of, IsWhole}
use Rattle.sec_utils.specs.Items.{item_of, items_of}
use Rattle.sec_utils.proofs.ItemLaws.{items_from, items_length, items_played}
use Rattle.std.proofs.lemmas.List.{drop_all, length-append}
use Rattle.kern_model.specs.declared.world.ScriptItem.{ScriptItem}
use Rattle.kern_model.specs.Step.{step}
use Rattle.lab_text.specs.Policy.{PolicyNames}
use Rattle.lab_engine.specs.Readable.{AreReadable}
use Rattle.lab_engine.specs.Reporter.{HasCallAt, calls_seen, item_on, who_on}
use Rattle.lab_engine.specs.Report.{CountsAtMost, items_reported, report_after}
use Rattle.lab_engine.proofs.ReportLemmas.{after_first, after_none, call_stays, counts_call, counts_longer, items_none}
use Rattle.lab_engine.proofs.ReadableLemmas.{readable_call, readable_none}
use Rattle.lab_engine.proofs.ReporterLemmas.{left_now}
use Rattle.lab_engine.proofs.Sending.{out_of_memory}
use Rattle.lab_engine.proofs.SeenLemmas.{none_seen, part_passes, so_far_begins, so_far_ends, so_far_more, so_far_part}
use Rattle.lab_engine.proofs.ScriptLemmas.{underway_begins, underway_ends, underway_more, underway_stops}
use Rattle.lab_engine.proofs.ToolLemmas.{first_playable}
use Rattle.lab_engine.proofs.playing.play_tool.Goals as goal

-- the items from an index on begin with the call there
module _ (line : Line) (util : Util) (same : line ≡ a_line.Tool util) (whole : IsWhole util) (calls : List Call) (are : calls ≡ calls_of util) (each : length calls ≡ length util.paths) (at : ℕ) (call : Call) (within : at < length calls) (is : call ≡ get_or calls at call) where
  pub within_paths : at < length util.paths
  within_paths = omega (arith, within, each)

  pub first : drop at (items_of util) ≡ item_on line at call ∷ drop (at + 1) (items_of util)
  first =
      items_from util whole at call within_paths
      ∙ ap (λ (c : Call). item_of util (get_or util.texts at []) c ∷ drop (at + 1) (items_of util)) (ap (λ (cs : List Call). get_or cs at call) (sym are) ∙ sym is)
      ∙ ap (λ (l : Line). item_on l at call ∷ drop (at + 1) (items_of util)) (sym same)

  has_call : HasCallAt line at
  has_call = subst (λ (l : Line). HasCallAt l at) (sym same) (within_paths, whole)

-- no item is left after the last call
no_more : (util : Util) → IsWhole util → (calls : List Call) → length calls ≡ length util.paths → (at : ℕ) → length calls ≤ at → drop at (items_of util) ≡ []
no_more util whole calls each at after = drop_all at (items_of util) (omega (arith, items_length util whole, each, after))

pub returns-in_err-calls-clause-writes : goal.returns-in_err-calls-clause-writes
returns-in_err-calls-clause-writes g c = λ source. out_of_memory _ _ _ c.from_residual.ensures.1

pub returns-in_err-calls-clause-saw : goal.returns-in_err-calls-clause-saw
returns-in_err-calls-clause-saw g c = none_seen _ _ _ _ _ c.requires.seen.1 c.from_residual.ensures.1

pub loop-at-init : goal.loop-at-init
loop-at-init g c =
    record {
      underway = λ source. underway_begins _ _;
      readable = λ all h. h;
      all = λ all. all;
      kept = refl;
      few = c.requires.counted;
      counted = omega arith;
      after = refl;
      top = refl;
      playable = items_played c.args.util.now _ c.requires.calls.0 c.requires.calls.1;
      saw = so_far_begins _ _;
      numbered = sym c.requires.seen.0;
      going = c.requires.seen.1;
      start = refl;
      same = (refl, refl, refl);
    }

pub overflow_add-number : goal.overflow_add-number
overflow_add-number g c =
    let len = items_length c.args.util.now c.requires.calls.2 in
    let within = within_paths c.args.line.now c.args.util.now c.requires.line c.requires.calls.2 c.items-call-items.result.now (c.items-call-items.ensures ∙ c.in_ok-calls.ensures.calls) (ap length c.items-call-items.ensures ∙ c.in_ok-calls.ensures.each) c.loop-at.at c.call-item.result c.loop-at-test.true c.call-item.is in
    let counted = c.loop-at.invariant.counted in
    let small = c.requires.small in
    omega arith

pub play_call-requires-clause-arguments : goal.play_call-requires-clause-arguments
play_call-requires-clause-arguments g c =
    subst (λ (top : Label). is_call top c.call-item.result ≡ true) (sym c.loop-at.invariant.top)
    (first_playable _ _ _ _ (first c.args.line.now c.args.util.now c.requires.line c.requires.calls.2 c.items-call-items.result.now (c.items-call-items.ensures ∙ c.in_ok-calls.ensures.calls) (ap length c.items-call-items.ensures ∙ c.in_ok-calls.ensures.each) c.loop-at.at c.call-item.result c.loop-at-test.true c.call-item.is) c.loop-at.invariant.playable).first

pub play_call-requires-clause-line : goal.play_call-requires-clause-line
play_call-requires-clause-line g c = has_call c.args.line.now c.args.util.now c.requires.line c.requires.calls.2 c.items-call-items.result.now (c.items-call-items.ensures ∙ c.in_ok-calls.ensures.calls) (ap length c.items-call-items.ensures ∙ c.in_ok-calls.ensures.each) c.loop-at.at c.call-item.result c.loop-at-test.true c.call-item.is

pub play_call-requires-clause-small : goal.play_call-requires-clause-small
play_call-requires-clause-small g c =
    let len = items_length c.args.util.now c.requires.calls.2 in
    let within = within_paths c.args.line.now c.args.util.now c.requires.line c.requires.calls.2 c.items-call-items.result.now (c.items-call-items.ensures ∙ c.in_ok-calls.ensures.calls) (ap length c.items-call-items.ensures ∙ c.in_ok-calls.ensures.each) c.loop-at.at c.call-item.result c.loop-at-test.true c.call-item.is in
    let counted = c.loop-at.invariant.counted in
    let small = c.requires.small in
    counts_longer c.loop-at.number (2 ^ 60) c.loop-at.reporter.report (omega arith) c.loop-at.invariant.few

pub returns-in_err-play_call-clause-writes : goal.returns-in_err-play_call-clause-writes
returns-in_err-play_call-clause-writes g c =
    λ source. underway_stops _ _ _ _ (c.loop-at.invariant.underway source) _ _ (left_now c.args.reporter.now.texts.policy.now _ c.loop-at.invariant.same.0 c.loop-at.reporter.report _ c.loop-at.number (g.C.Calls.state c.loop-at.kernel) _ _ _ _ (first c.args.line.now c.args.util.now c.requires.line c.requires.calls.2 c.items-call-items.result.now (c.items-call-items.ensures ∙ c.in_ok-calls.ensures.calls) (ap length c.items-call-items.ensures ∙ c.in_ok-calls.ensures.each) c.loop-at.at c.call-item.result c.loop-at-test.true c.call-item.is) refl refl)
    _ _ _ (c.in_err-play_call.ensures.writes source) c.from_residual-in_err-play_call.ensures.1

pub returns-in_err-play_call-clause-saw : goal.returns-in_err-play_call-clause-saw
returns-in_err-play_call-clause-saw g c =
    part_passes _ _ _ _ _ _
    (so_far_part _ _ _ _ c.loop-at.invariant.saw _ _ (ap (run (g.C.Calls.state c.loop-at.kernel)) (first c.args.line.now c.args.util.now c.requires.line c.requires.calls.2 c.items-call-items.result.now (c.items-call-items.ensures ∙ c.in_ok-calls.ensures.calls) (ap length c.items-call-items.ensures ∙ c.in_ok-calls.ensures.each) c.loop-at.at c.call-item.result c.loop-at-test.true c.call-item.is)) _ _ c.in_err-play_call.ensures.saw)
    c.from_residual-in_err-play_call.ensures.1

pub loop-at-preserved : goal.loop-at-preserved
loop-at-preserved g c =
    let i = c.loop-at.invariant in
    let state = c.in_ok-play_call.ensures.state in
    let s = g.C.Calls.state c.loop-at.kernel in
    let left = drop (c.loop-at.at + 1) (items_of c.args.util.now) in
    let saw = c.in_ok-play_call.ensures.saw in
    record {
      underway = λ source. underway_more _ _ _ _ (i.underway source) _ _
          (left_now c.args.reporter.now.texts.policy.now _ c.loop-at.invariant.same.0 c.loop-at.reporter.report _ c.loop-at.number s _ _ _ _ (first c.args.line.now c.args.util.now c.requires.line c.requires.calls.2 c.items-call-items.result.now (c.items-call-items.ensures ∙ c.in_ok-calls.ensures.calls) (ap length c.items-call-items.ensures ∙ c.in_ok-calls.ensures.each) c.loop-at.at c.call-item.result c.loop-at-test.true c.call-item.is) c.in_ok-play_call.ensures.report state)
          _ (c.in_ok-play_call.ensures.writes source);
      readable = λ all h. i.readable all (readable_call c.args.reporter.now.texts.policy.now c.loop-at.number s _ _ _ _ (first c.args.line.now c.args.util.now c.requires.line c.requires.calls.2 c.items-call-items.result.now (c.items-call-items.ensures ∙ c.in_ok-calls.ensures.calls) (ap length c.items-call-items.ensures ∙ c.in_ok-calls.ensures.each) c.loop-at.at c.call-item.result c.loop-at-test.true c.call-item.is) state (subst (λ (p : PolicyNames). AreReadable p (c.loop-at.number + 1) (step s (who_on c.args.line.now) c.call-item.result).recs) i.same.0 (c.in_ok-play_call.ensures.readable (i.all all))) h);
      all = λ all. call_stays c.loop-at.reporter.report _ _ c.in_ok-play_call.ensures.report (i.all all);
      kept = sym (after_first c.loop-at.reporter.report _ s _ _ _ _ (first c.args.line.now c.args.util.now c.requires.line c.requires.calls.2 c.items-call-items.result.now (c.items-call-items.ensures ∙ c.in_ok-calls.ensures.calls) (ap length c.items-call-items.ensures ∙ c.in_ok-calls.ensures.each) c.loop-at.at c.call-item.result c.loop-at-test.true c.call-item.is) c.in_ok-play_call.ensures.report state) ∙ i.kept;
      few = subst (CountsAtMost (c.loop-at.number + 1)) (sym c.in_ok-play_call.ensures.report) (counts_call c.loop-at.number c.loop-at.reporter.report _ i.few);
      counted = omega (arith, i.counted);
      after = ap (λ (x : State). state_after_run x left) state ∙ sym (ap (state_after_run s) (first c.args.line.now c.args.util.now c.requires.line c.requires.calls.2 c.items-call-items.result.now (c.items-call-items.ensures ∙ c.in_ok-calls.ensures.calls) (ap length c.items-call-items.ensures ∙ c.in_ok-calls.ensures.each) c.loop-at.at c.call-item.result c.loop-at-test.true c.call-item.is)) ∙ i.after;
      top = ap (λ (x : State). x.top) state ∙ top_step s (who_on c.args.line.now) c.call-item.result ∙ i.top;
      playable = (first_playable _ _ _ _ (first c.args.line.now c.args.util.now c.requires.line c.requires.calls.2 c.items-call-items.result.now (c.items-call-items.ensures ∙ c.in_ok-calls.ensures.calls) (ap length c.items-call-items.ensures ∙ c.in_ok-calls.ensures.each) c.loop-at.at c.call-item.result c.loop-at-test.true c.call-item.is) i.playable).others;
      saw = so_far_more _ _ _ _ i.saw _ _ (ap (run s) (first c.args.line.now c.args.util.now c.requires.line c.requires.calls.2 c.items-call-items.result.now (c.items-call-items.ensures ∙ c.in_ok-calls.ensures.calls) (ap length c.items-call-items.ensures ∙ c.in_ok-calls.ensures.each) c.loop-at.at c.call-item.result c.loop-at-test.true c.call-item.is) ∙ ap (λ (x : State). item_record s (item_on c.args.line.now c.loop-at.at c.call-item.result) ∷ run x left) (sym state)) _ saw.0;
      numbered = ap (λ k. k + 1) i.numbered ∙ sym (length-append (calls_seen c.loop-at.reporter.seen.items) (item_record s (item_on c.args.line.now c.loop-at.at c.call-item.result) ∷ [])) ∙ sym (ap length saw.0);
      going = saw.1;
      start = c.in_ok-play_call.ensures.start ∙ i.start;
      same = (c.in_ok-play_call.ensures.same.0 ∙ i.same.0, i.same.1 ∙ c.in_ok-play_call.ensures.same.1, i.same.2 ∙ c.in_ok-play_call.ensures.same.2);
    }

pub returns-clause-writes : goal.returns-clause-writes
returns-clause-writes g c =
    let none = no_more c.args.util.now c.requires.calls.2 c.items-call-items.result.now (ap length c.items-call-items.ensures ∙ c.in_ok-calls.ensures.each) c.loop-at.at c.loop-at-test.false in
    λ source. underway_ends _ _ _ _ (c.loop-at.invariant.underway source) (ap (items_reported c.loop-at.reporter.report c.args.reporter.now.texts.policy.now c.loop-at.number (g.C.Calls.state c.loop-at.kernel)) none ∙ items_none c.args.reporter.now.texts.policy.now c.loop-at.reporter.report c.loop-at.number (g.C.Calls.state c.loop-at.kernel))

pub returns-clause-state : goal.returns-clause-state
returns-clause-state g c =
    let none = no_more c.args.util.now c.requires.calls.2 c.items-call-items.result.now (ap length c.items-call-items.ensures ∙ c.in_ok-calls.ensures.each) c.loop-at.at c.loop-at-test.false in
    sym (ap (state_after_run (g.C.Calls.state c.loop-at.kernel)) none) ∙ c.loop-at.invariant.after

pub returns-clause-report : goal.returns-clause-report
returns-clause-report g c =
    let none = no_more c.args.util.now c.requires.calls.2 c.items-call-items.result.now (ap length c.items-call-items.ensures ∙ c.in_ok-calls.ensures.each) c.loop-at.at c.loop-at-test.false in
    let s = g.C.Calls.state c.loop-at.kernel in
    sym (ap (λ (is : List ScriptItem). report_after c.loop-at.reporter.report (run s is)) none ∙ after_none c.loop-at.reporter.report s) ∙ c.loop-at.invariant.kept

pub returns-clause-count : goal.returns-clause-count
returns-clause-count g c =
    let len = items_length c.args.util.now c.requires.calls.2 in
    let each = ap length c.items-call-items.ensures ∙ c.in_ok-calls.ensures.each in
    omega (arith, c.loop-at.invariant.counted, c.loop-at-test.false, c.loop-at.auto.at-end)

pub returns-clause-readable : goal.returns-clause-readable
returns-clause-readable g c =
    let none = no_more c.args.util.now c.requires.calls.2 c.items-call-items.result.now (ap length c.items-call-items.ensures ∙ c.in_ok-calls.ensures.each) c.loop-at.at c.loop-at-test.false in
    λ all. c.loop-at.invariant.readable all (readable_none c.args.reporter.now.texts.policy.now c.loop-at.number (g.C.Calls.state c.loop-at.kernel) _ none)

pub returns-clause-saw : goal.returns-clause-saw
returns-clause-saw g c =
    let none = no_more c.args.util.now c.requires.calls.2 c.items-call-items.result.now (ap length c.items-call-items.ensures ∙ c.in_ok-calls.ensures.each) c.loop-at.at c.loop-at-test.false in
    (so_far_ends _ _ _ _ c.loop-at.invariant.saw (ap (run (g.C.Calls.state c.loop-at.kernel)) none), c.loop-at.invariant.going)
