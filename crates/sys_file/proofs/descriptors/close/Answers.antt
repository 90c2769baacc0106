use Rattle.std.proofs.Common.{ap, refl, is_some}
use Rattle.kern_model.specs.FileRows.{close_opened, on_descriptor}
use Rattle.kern_model.specs.State.{process_at}
use Rattle.sys_lookup.proofs.PlayLemmas.{commits_as, step_called, stops_row, then_plays}
use Rattle.sys_file.proofs.ReferLemmas.{open_of}
use Rattle.sys_file.proofs.descriptors.close.Goals as goal

pub returns-in_err-opened-clause-played : goal.returns-in_err-opened-clause-played
returns-in_err-opened-clause-played c = λ log.
    let s = c.args.shared.now in
    let who = c.args.who.now in
    stops_row {rest = λ _. close_opened s who (process_at s who) c.args.fd} c.from_residual.result c.from_residual.ensures.1 refl
    (step_called (λ k. on_descriptor k.state k.process c.args.fd) c.new-caller.ensures.caller (c.in_err-opened.ensures.step log))

pub close_open-requires-clause-open : goal.close_open-requires-clause-open
close_open-requires-clause-open c = ap is_some (open_of c.args.fd _ c.new-caller.ensures.caller c.in_ok-opened.ensures.found)

pub returns-clause-played : goal.returns-clause-played
returns-clause-played c = λ log.
    let s = c.args.shared.now in
    let who = c.args.who.now in
    then_plays {rest = λ _. close_opened s who (process_at s who) c.args.fd}
    (step_called (λ k. on_descriptor k.state k.process c.args.fd) c.new-caller.ensures.caller (c.in_ok-opened.ensures.step log))
    (commits_as c.done.ensures c.close_open.ensures)
