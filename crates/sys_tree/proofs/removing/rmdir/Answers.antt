use Rattle.std.proofs.Common.{ap, is_some, refl}
use Rattle.kern_model.specs.TreeRows.{must_be_empty, remove_dir}
use Rattle.sys_lookup.proofs.PlayLemmas.{commits_as, item_plays, item_stops_row, step_called}
use Rattle.sys_tree.proofs.EntryLemmas.{entry_in, entry_plays, entry_stops}
use Rattle.sys_tree.proofs.removing.rmdir.Goals as goal

pub drop_entry-requires : goal.drop_entry-requires
drop_entry-requires c = ap is_some (entry_in c.new-caller.ensures.caller c.in_ok-dir.ensures.entry).leads

pub returns-in_err-dir : goal.returns-in_err-dir
returns-in_err-dir c = entry_stops c.args.shared.now c.args.who.now c.new-caller.ensures.caller c.args.path.now (remove_dir c.args.shared.now) c.from_residual.result c.from_residual.ensures.1 c.in_err-dir.ensures.step

pub returns-in_err-must_be_empty : goal.returns-in_err-must_be_empty
returns-in_err-must_be_empty c =
    let s = c.args.shared.now in
    let same = c.new-caller.ensures.caller in
    let id = c.in_ok-dir.object.id in
    entry_plays s c.args.who.now same c.args.path.now (remove_dir s) c.in_ok-dir.ensures.step
    (item_stops_row (must_be_empty s id) c.from_residual-in_err-must_be_empty.result c.from_residual-in_err-must_be_empty.ensures.1 refl
    (step_called (λ k rest. must_be_empty k.state id (rest tt)) same (c.in_err-must_be_empty.ensures c.old_entry.new.checks c.in_ok-dir.ensures.object)))

pub returns : goal.returns
returns c =
    let s = c.args.shared.now in
    let same = c.new-caller.ensures.caller in
    let id = c.in_ok-dir.object.id in
    entry_plays s c.args.who.now same c.args.path.now (remove_dir s) c.in_ok-dir.ensures.step
    (item_plays (must_be_empty s id) (step_called (λ k rest. must_be_empty k.state id (rest tt)) same (c.in_ok-must_be_empty.ensures c.old_entry.new.checks c.in_ok-dir.ensures.object))
    (commits_as c.done.ensures c.drop_entry.ensures))
