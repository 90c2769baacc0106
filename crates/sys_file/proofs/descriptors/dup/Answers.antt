use Rattle.std.proofs.Common.{ap, refl, is_some}
use Rattle.kern_model.specs.FileRows.{on_descriptor, repeat}
use Rattle.kern_model.specs.State.{process_at}
use Rattle.sys_lookup.proofs.PlayLemmas.{step_called, stops_row, then_plays}
use Rattle.sys_file.proofs.ReferLemmas.{open_of}
use Rattle.sys_file.proofs.descriptors.dup.Goals as goal

pub returns-in_err-opened-clause-played : goal.returns-in_err-opened-clause-played
returns-in_err-opened-clause-played c = λ log.
    let who = c.args.who.now in
    stops_row {rest = repeat who (process_at c.args.shared.now who)} c.from_residual.result c.from_residual.ensures.1 refl
    (step_called (λ k. on_descriptor k.state k.process c.args.fd) c.new-caller.ensures.caller (c.in_err-opened.ensures.step log))

pub repeat-requires : goal.repeat-requires
repeat-requires c = ap is_some (open_of c.args.fd _ c.new-caller.ensures.caller c.in_ok-opened.ensures.found)

pub returns-clause-played : goal.returns-clause-played
returns-clause-played c = λ log.
    let who = c.args.who.now in
    then_plays {rest = repeat who (process_at c.args.shared.now who)}
    (step_called (λ k. on_descriptor k.state k.process c.args.fd) c.new-caller.ensures.caller (c.in_ok-opened.ensures.step log))
    (c.repeat.ensures.played c.in_ok-opened.field-0 log (open_of c.args.fd _ c.new-caller.ensures.caller c.in_ok-opened.ensures.found))
