use Rattle.std.proofs.Common.{sym, refl, subst, Option, Result, Err}
use Rattle.std.specs.FinMap as map
use Rattle.kern_model.specs.declared.calls.Errno.TheVariants.{ESRCH}
use Rattle.kern_model.specs.Row.{Need}
use Rattle.kern_model.specs.Rules.{mac_write_process}
use Rattle.kern_model.specs.ProcessRows.{asks_signal, kill_row, send, signal_row}
use Rattle.kern_model.specs.State.{Process, State, process_at}
use Rattle.chk_rules.proofs.Steps.{equal_check}
use Rattle.chk_rules.specs.CheckLog.{CheckLog}
use Rattle.chk_rules.specs.declared.stop.Stop.{Stop}
use Rattle.chk_rules.specs.declared.stop.Stop.TheVariants as stop
use Rattle.sys_lookup.specs.declared.effect.Effect.{Effect}
use Rattle.sys_lookup.specs.PlaysRow.{PlaysRow}
use Rattle.sys_lookup.proofs.PlayLemmas.{fails_row, need_plays, need_stops_row, step_called, stops_row, then_plays}
use Rattle.sys_proc.proofs.ReceiverLemmas.{asks_receiver, none_there, receiver_lives, sends}
use Rattle.sys_proc.proofs.ends.kill.Goals.{In_ok-must}
use Rattle.sys_proc.proofs.ends.kill.Goals as goal

pub returns-in_err-must : goal.returns-in_err-must
returns-in_err-must c =
    let target = c.args.target.now in
    need_stops_row c.from_residual.result c.from_residual.ensures.1 refl
    (step_called (λ k rest. Need (mac_write_process k.process target target.label) (rest tt)) c.new-sender.ensures.caller (equal_check c.mac_write.ensures c.in_err-must.ensures))

-- the receiver may be looked at, and the rest of the row is of the process with its number
looked : (c : In_ok-must) {r : Result Effect Stop} {t : State} {b : CheckLog} → (
    let s = c.args.shared.now in
    let p = process_at s c.args.who.now in
    let target = c.args.target.now in
    PlaysRow s c.must.new.checks (send s p target c.args.signal (map.get s.procs target)) r t b → PlaysRow s c.args.checks.now (kill_row s c.args.who.now p target c.args.signal) r t b)
looked c plays =
    let target = c.args.target.now in
    need_plays (step_called (λ k rest. Need (mac_write_process k.process target target.label) (rest tt)) c.new-sender.ensures.caller (equal_check c.mac_write.ensures c.in_ok-must.ensures)) plays

pub returns-in_default : goal.returns-in_default
returns-in_default c =
    let s = c.args.shared.now in
    let log = c.must.new.checks in
    let target = c.args.target.now in
    looked (goal.at.returns-in_default c).In_ok-must
    (subst (λ (w : Option Process). PlaysRow s log (send s (process_at s c.args.who.now) target c.args.signal w) (Err (stop.Refused ESRCH)) s log) (sym (none_there (map.get s.procs target) c.in_default.ensures))
    (fails_row s s log ESRCH refl))

pub returns-in_err-may_signal : goal.returns-in_err-may_signal
returns-in_err-may_signal c =
    let s = c.args.shared.now in
    let target = c.args.target.now in
    let receiver = c.in-Some.receiver.now in
    let p = process_at s c.args.who.now in
    looked (goal.at.returns-in_err-may_signal c).In_ok-must
    (sends s target receiver c.in-Some.ensures p c.args.signal
    (stops_row {rest = λ _. signal_row s target (process_at s target) c.args.signal} c.from_residual-in_err-may_signal.result c.from_residual-in_err-may_signal.ensures.1 refl
    (asks_receiver s target receiver c.in-Some.ensures p (step_called (λ k rest. asks_signal k.process target receiver (rest tt)) c.new-sender.ensures.caller c.in_err-may_signal.ensures))))

pub send_signal-requires-clause-living : goal.send_signal-requires-clause-living
send_signal-requires-clause-living c = receiver_lives c.args.shared.now c.args.target.now c.in-Some.receiver.now c.in-Some.ensures

pub returns : goal.returns
returns c =
    let s = c.args.shared.now in
    let target = c.args.target.now in
    let receiver = c.in-Some.receiver.now in
    let p = process_at s c.args.who.now in
    looked (goal.at.returns c).In_ok-must
    (sends s target receiver c.in-Some.ensures p c.args.signal
    (then_plays {rest = λ _. signal_row s target (process_at s target) c.args.signal}
    (asks_receiver s target receiver c.in-Some.ensures p (step_called (λ k rest. asks_signal k.process target receiver (rest tt)) c.new-sender.ensures.caller c.in_ok-may_signal.ensures))
    (c.send_signal.ensures c.may_signal.new.checks)))
