use Rattle.std.proofs.Common.{refl}
use Rattle.kern_model.specs.State.{process_at}
use Rattle.kern_model.specs.TreeRows.{go_to}
use Rattle.kern_model.specs.Walk.{enter}
use Rattle.sys_lookup.proofs.PlayLemmas.{commits_as, item_plays, item_stops_row, step_called}
use Rattle.sys_tree.proofs.EntryLemmas.{path_plays, path_stops}
use Rattle.sys_tree.proofs.standing.chdir.Goals as goal

pub returns-in_err-id : goal.returns-in_err-id
returns-in_err-id c =
    let s = c.args.shared.now in
    let who = c.args.who.now in
    path_stops s who c.new-caller.ensures.caller c.args.path.now (go_to s who (process_at s who)) c.from_residual.result c.from_residual.ensures.1 c.in_err-id.ensures.step

pub returns-in_err-enter : goal.returns-in_err-enter
returns-in_err-enter c =
    let s = c.args.shared.now in
    let same = c.new-caller.ensures.caller in
    path_plays s c.args.who.now same c.args.path.now (go_to s c.args.who.now (process_at s c.args.who.now)) c.in_ok-id.ensures.step
    (item_stops_row (enter s (process_at s c.args.who.now) c.in_ok-id.id c.in_ok-id.place) c.from_residual-in_err-enter.result c.from_residual-in_err-enter.ensures.1 refl
    (step_called (λ k rest. enter k.state k.process c.in_ok-id.id c.in_ok-id.place (rest tt)) same c.in_err-enter.ensures.step))

pub returns : goal.returns
returns c =
    let s = c.args.shared.now in
    let same = c.new-caller.ensures.caller in
    path_plays s c.args.who.now same c.args.path.now (go_to s c.args.who.now (process_at s c.args.who.now)) c.in_ok-id.ensures.step
    (item_plays (enter s (process_at s c.args.who.now) c.in_ok-id.id c.in_ok-id.place) (step_called (λ k rest. enter k.state k.process c.in_ok-id.id c.in_ok-id.place (rest tt)) same c.in_ok-enter.ensures.step)
    (commits_as c.done.ensures c.change_directory.ensures))
