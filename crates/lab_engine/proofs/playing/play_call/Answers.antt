use Rattle.std.proofs.Common.{◌≡◌, ◌∷◌, [], ap, subst}
use Rattle.kern_model.specs.declared.calls.Call.{Call}
use Rattle.kern_model.specs.declared.numbers.Pid.{Pid}
use Rattle.kern_model.specs.declared.records.Outcome.{Outcome}
use Rattle.kern_model.specs.Run.{CallRecord}
use Rattle.kern_model.specs.State.{State}
use Rattle.kern_model.specs.Step.{IsPlayed}
use Rattle.std.specs.Prelude.{OnOk}
use Rattle.lab_engine.specs.declared.replying.ReplyLine.{ReplyLine}
use Rattle.lab_engine.specs.Report.{call_sends, report_after_call}
use Rattle.lab_engine.specs.Reporter.{call_on, head_of, played_at, who_of}
use Rattle.lab_engine.proofs.CallLemmas.{by_outcome}
use Rattle.lab_engine.proofs.Sending.{in_order, out_of_memory}
use Rattle.lab_engine.proofs.SeenLemmas.{none_seen, saw_equal}
use Rattle.lab_engine.proofs.playing.play_call.Goals as goal

-- what was played of a call, by its outcome
played_on : (s t : State) (r : ReplyLine) (call : Call) (who : Pid) → who ≡ who_of r → (o : Outcome) → IsPlayed s who call o t → call_on r o ≡ played_at s r call
played_on s t r call who is o did = by_outcome s t (record { who = who_of r; head = head_of r; call = call }) o (subst (λ (w : Pid). IsPlayed s w call o t) is did)

pub returns-in_err-outcome-clause-writes : goal.returns-in_err-outcome-clause-writes
returns-in_err-outcome-clause-writes g c = λ source. out_of_memory _ _ _ c.from_residual.ensures.1

pub returns-in_err-outcome-clause-saw : goal.returns-in_err-outcome-clause-saw
returns-in_err-outcome-clause-saw g c = none_seen _ _ _ _ _ c.requires.going c.from_residual.ensures.1

pub returns-clause-writes : goal.returns-clause-writes
returns-clause-writes g c = λ source.
    in_order c.report_call.result _ _ _ _
    (ap (call_sends c.args.reporter.now.report c.args.reporter.now.texts.policy.now c.args.number) (played_on _ _ c.args.line c.args.call.now _ c.who.ensures _ c.in_ok-outcome.ensures.played))
    (c.report_call.ensures.writes source)

pub returns-clause-saw : goal.returns-clause-saw
returns-clause-saw g c =
    saw_equal c.report_call.result _ _ _ _ _
    (ap (λ (p : CallRecord). p ∷ []) (played_on _ _ c.args.line c.args.call.now _ c.who.ensures _ c.in_ok-outcome.ensures.played))
    c.report_call.ensures.saw

pub returns-clause-report : goal.returns-clause-report
returns-clause-report g c =
    subst (λ (p : CallRecord). OnOk c.report_call.result (c.report_call.new.self.report ≡ report_after_call c.args.reporter.now.report p))
    (played_on _ _ c.args.line c.args.call.now _ c.who.ensures _ c.in_ok-outcome.ensures.played)
    c.report_call.ensures.report
