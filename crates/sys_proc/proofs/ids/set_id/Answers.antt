use Rattle.std.proofs.Common.{refl}
use Rattle.kern_model.specs.State.{process_at}
use Rattle.sys_lookup.proofs.PlayLemmas.{commits_as, step_called, stops_row, then_plays}
use Rattle.sys_proc.specs.IdKind.{asks_id}
use Rattle.sys_proc.proofs.IdLemmas.{plays_set_id, set_id}
use Rattle.sys_proc.proofs.ids.set_id.Goals as goal

pub returns-in_err-all : goal.returns-in_err-all
returns-in_err-all c =
    let who = c.args.who.now in
    let p = process_at c.args.shared.now who in
    plays_set_id c.args.kind who p c.args.id
    (stops_row {rest = set_id c.args.kind who p c.args.id} c.from_residual.result c.from_residual.ensures.1 refl
    (step_called (λ k. asks_id c.args.kind who k.process c.args.id) c.new-caller.ensures.caller c.in_err-all.ensures.step))

pub returns : goal.returns
returns c =
    let who = c.args.who.now in
    let p = process_at c.args.shared.now who in
    plays_set_id c.args.kind who p c.args.id
    (then_plays {rest = set_id c.args.kind who p c.args.id}
    (step_called (λ k. asks_id c.args.kind who k.process c.args.id) c.new-caller.ensures.caller c.in_ok-all.ensures.step)
    (commits_as c.done.ensures c.change_creds.ensures))
