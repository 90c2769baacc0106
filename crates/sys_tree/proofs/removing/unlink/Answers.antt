use Rattle.std.proofs.Common.{◌∙◌, ap, is_some, refl}
use Rattle.kern_model.specs.Rules.{unlink_dir}
use Rattle.kern_model.specs.TreeRows.{remove_name}
use Rattle.chk_rules.proofs.Steps.{equal_check}
use Rattle.sys_lookup.specs.Callers.{CallerView}
use Rattle.sys_lookup.specs.Shared.{metadata_of}
use Rattle.sys_lookup.proofs.PlayLemmas.{commits_as, need_plays, need_stops_row}
use Rattle.sys_tree.proofs.EntryLemmas.{entry_in, entry_plays, entry_stops}
use Rattle.sys_tree.proofs.removing.unlink.Goals as goal

pub drop_entry-requires : goal.drop_entry-requires
drop_entry-requires c = ap is_some (entry_in c.new-caller.ensures.caller c.in_ok-dir.ensures.entry).leads

pub returns-in_err-dir : goal.returns-in_err-dir
returns-in_err-dir c =
    entry_stops c.args.shared.now c.args.who.now c.new-caller.ensures.caller c.args.path.now (remove_name c.args.shared.now c.args.path.now) c.from_residual.result c.from_residual.ensures.1 c.in_err-dir.ensures.step

pub returns-in_err-unlink_dir : goal.returns-in_err-unlink_dir
returns-in_err-unlink_dir c =
    let s = c.args.shared.now in
    let same = c.new-caller.ensures.caller in
    let id = c.in_ok-dir.object.id in
    let is = c.in_ok-dir.ensures.object ∙ ap (λ (k : CallerView). metadata_of k.state id) same in
    entry_plays s c.args.who.now same c.args.path.now (remove_name s c.args.path.now) c.in_ok-dir.ensures.step
    (need_stops_row c.from_residual-in_err-unlink_dir.result c.from_residual-in_err-unlink_dir.ensures.1 refl (equal_check (ap (unlink_dir s id) c.last_place.ensures) (c.in_err-unlink_dir.ensures s id is)))

pub returns : goal.returns
returns c =
    let s = c.args.shared.now in
    let same = c.new-caller.ensures.caller in
    let id = c.in_ok-dir.object.id in
    let is = c.in_ok-dir.ensures.object ∙ ap (λ (k : CallerView). metadata_of k.state id) same in
    entry_plays s c.args.who.now same c.args.path.now (remove_name s c.args.path.now) c.in_ok-dir.ensures.step
    (need_plays (equal_check (ap (unlink_dir s id) c.last_place.ensures) (c.in_ok-unlink_dir.ensures s id is))
    (commits_as c.done.ensures c.drop_entry.ensures))
