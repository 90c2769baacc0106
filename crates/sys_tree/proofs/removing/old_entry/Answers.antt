use Rattle.std.proofs.Common.{Some, subst, sym}
use Rattle.kern_model.specs.TreeRows.{leave_from, old_entry_found}
use Rattle.chk_rules.proofs.Steps.{then_goes, stops_there, item_goes, item_stops, gives}
use Rattle.sys_lookup.specs.Walks.{IsEntry}
use Rattle.sys_lookup.specs.declared.shared.Metadata.{Metadata}
use Rattle.sys_tree.specs.Entries.{with_metadata}
use Rattle.sys_tree.proofs.EntryLemmas.{read_by}
use Rattle.sys_tree.proofs.removing.old_entry.Goals as goal

pub returns-in_err-dir-clause-step : goal.returns-in_err-dir-clause-step
returns-in_err-dir-clause-step c =
    let k = c.args.caller.now in
    then_goes {next = λ found rest. old_entry_found k.state k.process c.args.path.now found (with_metadata k.state rest)} c.in_ok-walk.ensures.step
    (stops_there {next = λ e rest. leave_from k.state k.process c.args.path.now e.0 e.2 (with_metadata k.state rest e)} c.from_residual-in_err-dir.result c.from_residual-in_err-dir.ensures.1 (c.in_err-dir.ensures.step c.walk.new.checks))

pub returns-in_err-object-clause-step : goal.returns-in_err-object-clause-step
returns-in_err-object-clause-step c =
    let k = c.args.caller.now in
    then_goes {next = λ found rest. old_entry_found k.state k.process c.args.path.now found (with_metadata k.state rest)} c.in_ok-walk.ensures.step
    (then_goes {next = λ e rest. leave_from k.state k.process c.args.path.now e.0 e.2 (with_metadata k.state rest e)} (c.in_ok-dir.ensures.step c.walk.new.checks)
    (item_stops (leave_from k.state k.process c.args.path.now c.in_ok-dir.dir c.in_ok-dir.id) c.from_residual-in_err-object.result c.from_residual-in_err-object.ensures.1 c.in_err-object.ensures.step))

pub returns-clause-step : goal.returns-clause-step
returns-clause-step c =
    let k = c.args.caller.now in
    then_goes {next = λ found rest. old_entry_found k.state k.process c.args.path.now found (with_metadata k.state rest)} c.in_ok-walk.ensures.step
    (then_goes {next = λ e rest. leave_from k.state k.process c.args.path.now e.0 e.2 (with_metadata k.state rest e)} (c.in_ok-dir.ensures.step c.walk.new.checks)
    (item_goes (leave_from k.state k.process c.args.path.now c.in_ok-dir.dir c.in_ok-dir.id) c.in_ok-object.ensures.step
    (gives (λ i. (c.in_ok-dir.dir, c.in_ok-dir.name, c.in_ok-object.ensures.object i)))))

pub returns-clause-entry : goal.returns-clause-entry
returns-clause-entry c =
    let s = c.args.caller.now.state in
    subst (λ (m : Metadata). IsEntry s c.in_ok-dir.dir c.in_ok-dir.name (Some m.id)) (sym c.in_ok-object.ensures.object) (c.in_ok-dir.ensures.entry s _ c.in_ok-walk.ensures.found)

pub returns-clause-object : goal.returns-clause-object
returns-clause-object c = read_by c.args.caller.now c.in_ok-dir.id c.in_ok-object.ensures.object
