use Rattle.std.proofs.Common.{◌≡◌, ℕ, ◌+◌, List, [], ◌∷◌, ◌++◌, refl, sym, ◌∙◌, ap}
use Rattle.std.proofs.lemmas.List.{append-nil}
use Rattle.std.specs.Prelude.{Ok}
use Rattle.kern_model.specs.declared.calls.Call.{Call}
use Rattle.kern_model.specs.declared.numbers.Pid.{Pid}
use Rattle.kern_model.specs.declared.world.ScriptItem.{ScriptItem}
use Rattle.kern_model.specs.Run.{run}
use Rattle.kern_model.specs.Step.{step}
use Rattle.script_text.specs.declared.line.Line.{Line}
use Rattle.script_text.specs.declared.line.Line.TheVariants as a_line
use Rattle.lab_engine.specs.Input.{items_in}
use Rattle.lab_engine.specs.Report.{items_reported, report_after}
use Rattle.lab_engine.specs.Reporter.{calls_seen, item_on, who_on}
use Rattle.lab_engine.proofs.ReadableLemmas.{readable_call, readable_none}
use Rattle.lab_engine.proofs.SeenLemmas.{part_passes, saw_equal}
use Rattle.lab_engine.proofs.Sending.{all_nothing, in_order, passes_on}
use Rattle.lab_engine.proofs.ReportLemmas.{after_none, after_one, items_none, items_one}
use Rattle.lab_engine.proofs.playing.play_line.Goals as goal

-- the only call of a line
one_item : (l : Line) (who : Pid) (call : Call) → l ≡ a_line.One who call → items_in l ≡ item_on l 0 call ∷ []
one_item l who call is = ap items_in is ∙ ap (λ (x : Line). item_on x 0 call ∷ []) (sym is)

pub returns-in-Blank-clause-writes : goal.returns-in-Blank-clause-writes
returns-in-Blank-clause-writes g c = λ source.
    let s = g.C.Calls.state c.args.kernel.now in
    in_order {T = ℕ} (Ok c.args.count) _ _ _ _
    (sym (ap (items_reported c.args.reporter.now.report c.args.reporter.now.texts.policy.now c.args.count s) (ap items_in c.in-Blank.is) ∙ items_none c.args.reporter.now.texts.policy.now c.args.reporter.now.report c.args.count s))
    (all_nothing _)

pub returns-in_err-play_call-in-One-clause-writes : goal.returns-in_err-play_call-in-One-clause-writes
returns-in_err-play_call-in-One-clause-writes g c = λ source.
    let s = g.C.Calls.state c.args.kernel.now in
    in_order _ _ _ _ _
    (items_one c.args.reporter.now.texts.policy.now c.args.reporter.now.report c.args.count s (item_on c.args.line.now 0 c.in-One.call) ∙ sym (ap (items_reported c.args.reporter.now.report c.args.reporter.now.texts.policy.now c.args.count s) (one_item _ _ _ c.in-One.is)))
    (passes_on _ _ _ _ _ (c.in_err-play_call-in-One.ensures.writes source) c.from_residual.ensures.1)

pub returns-in_ok-play_call-in-One-clause-writes : goal.returns-in_ok-play_call-in-One-clause-writes
returns-in_ok-play_call-in-One-clause-writes g c = λ source.
    let s = g.C.Calls.state c.args.kernel.now in
    in_order {T = ℕ} (Ok (c.args.count + 1)) _ _ _ _
    (items_one c.args.reporter.now.texts.policy.now c.args.reporter.now.report c.args.count s (item_on c.args.line.now 0 c.in-One.call) ∙ sym (ap (items_reported c.args.reporter.now.report c.args.reporter.now.texts.policy.now c.args.count s) (one_item _ _ _ c.in-One.is)))
    (c.in_ok-play_call-in-One.ensures.writes source)

pub returns-in-Tool-clause-writes : goal.returns-in-Tool-clause-writes
returns-in-Tool-clause-writes g c = λ source.
    in_order c.play_tool.result _ _ _ _ (sym (ap (items_reported c.args.reporter.now.report c.args.reporter.now.texts.policy.now c.args.count (g.C.Calls.state c.args.kernel.now)) (ap items_in c.in-Tool.is))) (c.play_tool.ensures.writes source)

pub returns-in-Blank-clause-readable : goal.returns-in-Blank-clause-readable
returns-in-Blank-clause-readable g c = λ all. readable_none c.args.reporter.now.texts.policy.now c.args.count (g.C.Calls.state c.args.kernel.now) _ (ap items_in c.in-Blank.is)

pub returns-in_ok-play_call-in-One-clause-readable : goal.returns-in_ok-play_call-in-One-clause-readable
returns-in_ok-play_call-in-One-clause-readable g c = λ all.
    let policy = c.args.reporter.now.texts.policy.now in
    let s = g.C.Calls.state c.args.kernel.now in
    let next = (step s (who_on c.args.line.now) c.in-One.call).state in
    readable_call policy c.args.count s next (item_on c.args.line.now 0 c.in-One.call) [] _ (one_item _ _ _ c.in-One.is) refl (c.in_ok-play_call-in-One.ensures.readable all)
    (readable_none policy (c.args.count + 1) next [] refl)

pub returns-in-Blank-clause-report : goal.returns-in-Blank-clause-report
returns-in-Blank-clause-report g c =
    let s = g.C.Calls.state c.args.kernel.now in
    sym (ap (λ (is : List ScriptItem). report_after c.args.reporter.now.report (run s is)) (ap items_in c.in-Blank.is) ∙ after_none c.args.reporter.now.report s)

pub returns-in_ok-play_call-in-One-clause-report : goal.returns-in_ok-play_call-in-One-clause-report
returns-in_ok-play_call-in-One-clause-report g c =
    let s = g.C.Calls.state c.args.kernel.now in
    c.in_ok-play_call-in-One.ensures.report
    ∙ sym (ap (λ (is : List ScriptItem). report_after c.args.reporter.now.report (run s is)) (one_item _ _ _ c.in-One.is) ∙ after_one c.args.reporter.now.report s (item_on c.args.line.now 0 c.in-One.call))

pub returns-in-Blank-clause-saw : goal.returns-in-Blank-clause-saw
returns-in-Blank-clause-saw g c =
    let seen = calls_seen c.args.reporter.now.seen.items in
    (sym (append-nil seen) ∙ ap (λ (is : List ScriptItem). seen ++ run (g.C.Calls.state c.args.kernel.now) is) (sym (ap items_in c.in-Blank.is)), c.requires.seen.1)

pub returns-in_err-play_call-in-One-clause-saw : goal.returns-in_err-play_call-in-One-clause-saw
returns-in_err-play_call-in-One-clause-saw g c =
    saw_equal c.from_residual.result _ _ _ _ _ (sym (ap (run (g.C.Calls.state c.args.kernel.now)) (one_item _ _ _ c.in-One.is)))
    (part_passes _ _ _ _ _ _ c.in_err-play_call-in-One.ensures.saw c.from_residual.ensures.1)

pub returns-in_ok-play_call-in-One-clause-saw : goal.returns-in_ok-play_call-in-One-clause-saw
returns-in_ok-play_call-in-One-clause-saw g c =
    saw_equal {T = ℕ} (Ok (c.args.count + 1)) _ _ _ _ _ (sym (ap (run (g.C.Calls.state c.args.kernel.now)) (one_item _ _ _ c.in-One.is))) c.in_ok-play_call-in-One.ensures.saw

pub returns-in-Tool-clause-saw : goal.returns-in-Tool-clause-saw
returns-in-Tool-clause-saw g c = saw_equal c.play_tool.result _ _ _ _ _ (sym (ap (run (g.C.Calls.state c.args.kernel.now)) (ap items_in c.in-Tool.is))) c.play_tool.ensures.saw
