use Rattle.std.proofs.Common.{◌≡◌, None, Option, Bool, true, false, Ok, Result, is_some, refl, ap, subst, sym}
use Rattle.fs_path.specs.Name.{Name}
use Rattle.fs_path.specs.Path.{PathValue}
use Rattle.kern_model.specs.declared.calls.Answer.TheVariants.{Nothing}
use Rattle.kern_model.specs.declared.numbers.Oid.{Oid}
use Rattle.kern_model.specs.declared.numbers.Pid.{Pid}
use Rattle.kern_model.specs.Row.{Row}
use Rattle.kern_model.specs.State.{State, process_at}
use Rattle.kern_model.specs.TreeRows.{if_moves, move_over, move_row, move_to, rename_row, target_entry}
use Rattle.chk_rules.specs.CheckLog.{CheckLog}
use Rattle.chk_rules.specs.RowSteps.{GoesOn}
use Rattle.chk_rules.specs.declared.stop.Stop.{Stop}
use Rattle.sys_lookup.specs.declared.effect.Effect.{Effect}
use Rattle.sys_lookup.specs.Callers.{CallerView, caller_in}
use Rattle.sys_lookup.specs.PlaysRow.{PlaysRow}
use Rattle.sys_lookup.proofs.PlayLemmas.{commits_as, step_called, stops_row, then_plays}
use Rattle.sys_lookup.specs.declared.shared.Metadata.{Metadata}
use Rattle.sys_tree.specs.Entries.{entry_taken, target_left}
use Rattle.sys_tree.proofs.EntryLemmas.{entry_in, entry_plays, entry_stops}
use Rattle.sys_tree.proofs.renaming.rename.Goals as goal

-- the row goes on where the entry moves
if_moves_plays : {s t : State} {a b : CheckLog} {r : Result Effect Stop} {moves : Bool} (row : Row) → moves ≡ true → PlaysRow s a row r t b → PlaysRow s a (if_moves row moves) r t b
if_moves_plays {s = s} {t = t} {a = a} {b = b} {r = r} row is plays = subst (λ m. PlaysRow s a (if_moves row m) r t b) (sym is) plays

-- nothing is done where it does not move
if_stays : {s : State} {log : CheckLog} {moves : Bool} {effect : Effect} (row : Row) → moves ≡ false → effect ≡ record { answer = Nothing; own = None } → PlaysRow s log (if_moves row moves) (Ok effect) s log
if_stays {s = s} {log = log} {effect = effect} row is done = subst (λ m. PlaysRow s log (if_moves row m) (Ok effect) s log) (sym is) (commits_as done refl)

module _ (s : State) (who : Pid) {k : CallerView} (same : k ≡ caller_in s who) (to : PathValue) (dir : Oid) (name : Name) (id : Oid) {a b c : CheckLog} {t : State} {r : Result Effect Stop} where
  -- the entry moves to what the second path leads to
  to_target : {e : Oid × Name × Option Oid} → GoesOn a (target_entry k.state k.process to id) (Ok e) b → PlaysRow s b (move_over s (process_at s who) to (dir, name, id) e) r t c → PlaysRow s a (move_to s (process_at s who) to (dir, name, id)) r t c
  to_target step plays = then_plays {rest = move_over s (process_at s who) to (dir, name, id)} (step_called (λ (x : CallerView). target_entry x.state x.process to id) same step) plays

  -- which gives way to it
  over_target : (into : Oid) (new : Name) (target : Option Oid) {moves : Bool} → GoesOn a (target_left k to id target) (Ok moves) b → PlaysRow s b (if_moves (move_row s dir name id into new) moves) r t c
      → PlaysRow s a (move_over s (process_at s who) to (dir, name, id) (into, new, target)) r t c
  over_target into new target step plays = then_plays {rest = if_moves (move_row s dir name id into new)} (step_called (λ (x : CallerView). target_left x to id target) same step) plays

-- the row of the call, where it is decided whether the entry moves
decided : (s : State) (who : Pid) {k : CallerView} → k ≡ caller_in s who → (path to : PathValue) {dir into : Oid} {name new : Name} {object : Metadata} {target : Option Oid} {moves : Bool} {a b c d e : CheckLog} {t : State} {r : Result Effect Stop}
    → GoesOn a (entry_taken k path) (Ok (dir, name, object)) b → GoesOn b (target_entry k.state k.process to object.id) (Ok (into, new, target)) c → GoesOn c (target_left k to object.id target) (Ok moves) d
    → PlaysRow s d (if_moves (move_row s dir name object.id into new) moves) r t e → PlaysRow s a (rename_row s who (process_at s who) path to) r t e
decided s who same path to {dir} {into} {name} {new} {object} {target} taken found left plays =
    entry_plays s who same path (move_to s (process_at s who) to) taken
    (to_target s who same to dir name object.id found (over_target s who same to dir name object.id into new target left plays))

pub returns-in_err-dir-clause-played : goal.returns-in_err-dir-clause-played
returns-in_err-dir-clause-played c =
    let s = c.args.shared.now in
    let who = c.args.who.now in
    entry_stops s who c.new-caller.ensures.caller c.args.path.now (move_to s (process_at s who) c.args.to.now) c.from_residual.result c.from_residual.ensures.1 c.in_err-dir.ensures.step

pub returns-in_err-into-clause-played : goal.returns-in_err-into-clause-played
returns-in_err-into-clause-played c =
    let s = c.args.shared.now in
    let same = c.new-caller.ensures.caller in
    entry_plays s c.args.who.now same c.args.path.now (move_to s (process_at s c.args.who.now) c.args.to.now) c.in_ok-dir.ensures.step
    (stops_row {rest = move_over s (process_at s c.args.who.now) c.args.to.now (c.in_ok-dir.dir, c.in_ok-dir.name, c.in_ok-dir.object.id)} c.from_residual-in_err-into.result c.from_residual-in_err-into.ensures.1 refl
    (step_called (λ k. target_entry k.state k.process c.args.to.now c.in_ok-dir.object.id) same c.in_err-into.ensures.step))

pub returns-in_err-moves-clause-played : goal.returns-in_err-moves-clause-played
returns-in_err-moves-clause-played c =
    let s = c.args.shared.now in
    let same = c.new-caller.ensures.caller in
    let id = c.in_ok-dir.object.id in
    entry_plays s c.args.who.now same c.args.path.now (move_to s (process_at s c.args.who.now) c.args.to.now) c.in_ok-dir.ensures.step
    (to_target s c.args.who.now same c.args.to.now c.in_ok-dir.dir c.in_ok-dir.name id c.in_ok-into.ensures.step
    (stops_row {rest = if_moves (move_row s c.in_ok-dir.dir c.in_ok-dir.name id c.in_ok-into.into c.in_ok-into.new)} c.from_residual-in_err-moves.result c.from_residual-in_err-moves.ensures.1 refl
    (step_called (λ k. target_left k c.args.to.now id c.in_ok-into.target) same (c.in_err-moves.ensures c.in_ok-dir.ensures.object))))

pub returns-then-moves-clause-played : goal.returns-then-moves-clause-played
returns-then-moves-clause-played c =
    let same = c.new-caller.ensures.caller in
    let id = c.in_ok-dir.object.id in
    let row = move_row c.args.shared.now c.in_ok-dir.dir c.in_ok-dir.name id c.in_ok-into.into c.in_ok-into.new in
    decided c.args.shared.now c.args.who.now same c.args.path.now c.args.to.now c.in_ok-dir.ensures.step c.in_ok-into.ensures.step (c.in_ok-moves.ensures c.in_ok-dir.ensures.object)
    (if_moves_plays row c.if-moves.true (c.move_entry.ensures id c.give_way.new.checks (entry_in same c.in_ok-dir.ensures.entry).leads))

pub returns-else-moves-clause-played : goal.returns-else-moves-clause-played
returns-else-moves-clause-played c =
    let row = move_row c.args.shared.now c.in_ok-dir.dir c.in_ok-dir.name c.in_ok-dir.object.id c.in_ok-into.into c.in_ok-into.new in
    decided c.args.shared.now c.args.who.now c.new-caller.ensures.caller c.args.path.now c.args.to.now c.in_ok-dir.ensures.step c.in_ok-into.ensures.step (c.in_ok-moves.ensures c.in_ok-dir.ensures.object)
    (if_stays row c.if-moves.false c.done.ensures)

pub move_entry-requires-clause-into : goal.move_entry-requires-clause-into
move_entry-requires-clause-into c = (entry_in c.new-caller.ensures.caller c.in_ok-into.ensures.entry).is_dir

pub move_entry-requires-clause-there : goal.move_entry-requires-clause-there
move_entry-requires-clause-there c = ap is_some (entry_in c.new-caller.ensures.caller c.in_ok-dir.ensures.entry).leads
