use Rattle.std.proofs.Common.{◌≡◌, ◌∙◌, Ok, Result, ap, refl, subst, sym}
use Rattle.std.specs.Prelude.{⊤}
use Rattle.fs_path.specs.Path.{PathValue}
use Rattle.kern_model.specs.declared.checks.Place.{Place}
use Rattle.kern_model.specs.declared.numbers.Oid.{Oid}
use Rattle.kern_model.specs.declared.numbers.Pid.{Pid}
use Rattle.kern_model.specs.Entries.{is_removed}
use Rattle.kern_model.specs.Row.{Row}
use Rattle.kern_model.specs.State.{State, process_at}
use Rattle.kern_model.specs.TreeRows.{add_entry, add_name, asks_name, link_row, link_to, name_spot}
use Rattle.kern_model.specs.Valid.{IsValid}
use Rattle.chk_rules.specs.CheckLog.{CheckLog}
use Rattle.chk_rules.specs.RowSteps.{GoesOn}
use Rattle.chk_rules.specs.declared.stop.Stop.{Stop}
use Rattle.fs_dirs.specs.Tree.{MayBeAdded}
use Rattle.sys_lookup.specs.declared.effect.Effect.{Effect}
use Rattle.sys_lookup.specs.Callers.{CallerView, caller_in}
use Rattle.sys_lookup.specs.PlaysRow.{PlaysRow}
use Rattle.sys_lookup.proofs.PlayLemmas.{commits_as, item_plays, item_stops_row, no_memory_row, step_called, stops_row, then_plays}
use Rattle.sys_tree.proofs.EntryLemmas.{entry_in, may_be_added, path_plays, path_stops, reached}
use Rattle.sys_tree.proofs.linking.link.Goals as goal

-- what the first path leads to may get one more name, and gets it
gets_name : (s : State) (who : Pid) {k : CallerView} → k ≡ caller_in s who → (path to : PathValue) {id : Oid} {place : Place} {x : ⊤} {a b c d : CheckLog} {t : State} {r : Result Effect Stop}
    → GoesOn a (reached k path) (Ok (id, place)) b → GoesOn b (λ (rest : ⊤ → Row). asks_name k.state k.process id place (rest tt)) (Ok x) c → PlaysRow s c (add_name s (process_at s who) to id) r t d
    → PlaysRow s a (link_row s who (process_at s who) path to) r t d
gets_name s who same path to {id} {place} led asks plays =
    path_plays s who same path (link_to s (process_at s who) to) led
    (item_plays (asks_name s (process_at s who) id place) (step_called (λ (x : CallerView) (rest : ⊤ → Row). asks_name x.state x.process id place (rest tt)) same asks) plays)

pub returns-in_err-id-clause-played : goal.returns-in_err-id-clause-played
returns-in_err-id-clause-played c =
    let s = c.args.shared.now in
    path_stops s c.args.who.now c.new-caller.ensures.caller c.args.path.now (link_to s (process_at s c.args.who.now) c.args.to.now) c.from_residual.result c.from_residual.ensures.1 c.in_err-id.ensures.step

pub returns-in_err-ask_name-clause-played : goal.returns-in_err-ask_name-clause-played
returns-in_err-ask_name-clause-played c =
    let s = c.args.shared.now in
    let p = process_at s c.args.who.now in
    let same = c.new-caller.ensures.caller in
    path_plays s c.args.who.now same c.args.path.now (link_to s p c.args.to.now) c.in_ok-id.ensures.step
    (item_stops_row (asks_name s p c.in_ok-id.id c.in_ok-id.place) c.from_residual-in_err-ask_name.result c.from_residual-in_err-ask_name.ensures.1 refl
    (step_called (λ k rest. asks_name k.state k.process c.in_ok-id.id c.in_ok-id.place (rest tt)) same c.in_err-ask_name.ensures.step))

pub returns-in_err-dir-clause-played : goal.returns-in_err-dir-clause-played
returns-in_err-dir-clause-played c =
    let same = c.new-caller.ensures.caller in
    let id = c.in_ok-id.id in
    gets_name c.args.shared.now c.args.who.now same c.args.path.now c.args.to.now c.in_ok-id.ensures.step c.in_ok-ask_name.ensures.step
    (stops_row {rest = add_entry id} c.from_residual-in_err-dir.result c.from_residual-in_err-dir.ensures.1 refl
    (step_called (λ k. name_spot k.state k.process c.args.to.now id) same c.in_err-dir.ensures.step))

pub returns-in_err-add_entry-clause-played : goal.returns-in_err-add_entry-clause-played
returns-in_err-add_entry-clause-played c = no_memory_row c.from_residual-in_err-add_entry.result c.from_residual-in_err-add_entry.ensures.1

pub returns-clause-played : goal.returns-clause-played
returns-clause-played c =
    let same = c.new-caller.ensures.caller in
    let id = c.in_ok-id.id in
    gets_name c.args.shared.now c.args.who.now same c.args.path.now c.args.to.now c.in_ok-id.ensures.step c.in_ok-ask_name.ensures.step
    (then_plays {rest = add_entry id} (step_called (λ k. name_spot k.state k.process c.args.to.now id) same c.in_ok-dir.ensures.step)
    (commits_as c.done.ensures c.in_ok-add_entry.ensures))

pub add_entry-requires-clause-dir : goal.add_entry-requires-clause-dir
add_entry-requires-clause-dir c = (entry_in c.new-caller.ensures.caller c.in_ok-dir.ensures.entry).is_dir

pub add_entry-requires-clause-stands : goal.add_entry-requires-clause-stands
add_entry-requires-clause-stands c = ap (λ (k : CallerView). is_removed k.state c.in_ok-dir.dir) (sym c.new-caller.ensures.caller) ∙ c.in_ok-dir.ensures.stands

pub add_entry-requires-clause-absent : goal.add_entry-requires-clause-absent
add_entry-requires-clause-absent c = (entry_in c.new-caller.ensures.caller c.in_ok-dir.ensures.entry).leads

pub add_entry-requires-clause-may : goal.add_entry-requires-clause-may
add_entry-requires-clause-may c =
    let same = c.new-caller.ensures.caller in
    let k = c.new-caller.result in
    let id = c.in_ok-id.id in
    let valid = subst (λ (x : CallerView). ∥ IsValid x.state ∥₁) (sym same) c.requires.valid in
    subst (λ (x : CallerView). MayBeAdded x.state id) same
    (may_be_added k.state valid k.who k.process c.new-caller.ensures.living c.args.path.now id c.in_ok-id.ensures.led c.in_ok-ask_name.ensures.no_dir c.in_ok-ask_name.ensures.few)
