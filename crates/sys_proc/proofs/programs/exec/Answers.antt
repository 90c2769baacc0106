use Rattle.std.proofs.Common.{◌∙◌, Result, ap, refl}
use Rattle.kern_model.specs.declared.checks.Place.{Place}
use Rattle.kern_model.specs.declared.numbers.Oid.{Oid}
use Rattle.kern_model.specs.ProcessRows.{asks_program, exec_row, execute, run, take_on}
use Rattle.kern_model.specs.Row.{Need}
use Rattle.kern_model.specs.Rules.{mac_read}
use Rattle.kern_model.specs.State.{State, object_at, process_at}
use Rattle.kern_model.specs.Walk.{on_path}
use Rattle.chk_rules.specs.CheckLog.{CheckLog}
use Rattle.chk_rules.specs.declared.stop.Stop.{Stop}
use Rattle.sys_lookup.specs.Callers.{CallerView}
use Rattle.sys_lookup.specs.declared.effect.Effect.{Effect}
use Rattle.sys_lookup.specs.PlaysRow.{PlaysRow}
use Rattle.sys_lookup.specs.Shared.{metadata_of}
use Rattle.sys_lookup.specs.declared.shared.Metadata.{Metadata}
use Rattle.sys_lookup.proofs.PlayLemmas.{step_called, then_plays, stops_row}
use Rattle.sys_proc.proofs.programs.exec.Goals.{In_ok-program}
use Rattle.sys_proc.proofs.programs.exec.Goals as goal

-- the path leads to an object that is read, and the rest of the row is of its metadata
was_read : (c : In_ok-program) {r : Result Effect Stop} {t : State} {b : CheckLog} → (
    let s = c.args.shared.now in
    let p = process_at s c.args.who.now in
    let m = c.in_ok-program.program in
    PlaysRow s c.read_object.new.checks (asks_program p c.in_ok-id.id c.in_ok-id.place (object_at s c.in_ok-id.id) (run s.bound c.args.who.now p m.id m.attr)) r t b
    → PlaysRow s c.args.checks.now (exec_row s c.args.who.now p c.args.path.now) r t b)
was_read c plays =
    let s = c.args.shared.now in
    let who = c.args.who.now in
    let p = process_at s who in
    let id = c.in_ok-id.id in
    then_plays {rest = λ (r : Oid × Place). execute s who p r.0 r.1}
    (step_called (λ k rest. on_path k.state k.process c.args.path.now (λ id place. rest (id, place))) c.new-caller.ensures.caller c.in_ok-id.ensures.step)
    (then_plays {rest = λ (m : Metadata). asks_program p id c.in_ok-id.place (object_at s id) (run s.bound who p m.id m.attr)}
    (step_called (λ k rest. Need (mac_read k.state k.process id c.in_ok-id.place) (rest (metadata_of k.state id))) c.new-caller.ensures.caller c.in_ok-program.ensures.step)
    plays)

pub returns-in_err-id : goal.returns-in_err-id
returns-in_err-id c =
    let s = c.args.shared.now in
    let who = c.args.who.now in
    stops_row {rest = λ (r : Oid × Place). execute s who (process_at s who) r.0 r.1} c.from_residual.result c.from_residual.ensures.1 refl
    (step_called (λ k rest. on_path k.state k.process c.args.path.now (λ id place. rest (id, place))) c.new-caller.ensures.caller c.in_err-id.ensures.step)

pub returns-in_err-program : goal.returns-in_err-program
returns-in_err-program c =
    let s = c.args.shared.now in
    let who = c.args.who.now in
    let at = c.in_ok-id in
    then_plays {rest = λ (r : Oid × Place). execute s who (process_at s who) r.0 r.1}
    (step_called (λ k rest. on_path k.state k.process c.args.path.now (λ id place. rest (id, place))) c.new-caller.ensures.caller at.ensures.step)
    (stops_row {rest = λ _. take_on s.bound who (process_at s who) at.id at.place (object_at s at.id)} c.from_residual-in_err-program.result c.from_residual-in_err-program.ensures.1 refl
    (step_called (λ k rest. Need (mac_read k.state k.process at.id at.place) (rest (metadata_of k.state at.id))) c.new-caller.ensures.caller c.in_err-program.ensures.step))

pub returns-in_err-ask_program : goal.returns-in_err-ask_program
returns-in_err-ask_program c =
    let s = c.args.shared.now in
    let id = c.in_ok-id.id in
    let program = c.in_ok-program.program in
    was_read (goal.at.returns-in_err-ask_program c).In_ok-program
    (stops_row {rest = λ _. run s.bound c.args.who.now (process_at s c.args.who.now) program.id program.attr}
    c.from_residual-in_err-ask_program.result c.from_residual-in_err-ask_program.ensures.1 refl
    (step_called (λ k rest. asks_program k.process id c.in_ok-id.place (object_at s id) (rest tt)) c.new-caller.ensures.caller
    (c.in_err-ask_program.ensures s id (c.in_ok-program.ensures.object ∙ ap (λ (k : CallerView). metadata_of k.state id) c.new-caller.ensures.caller))))

pub returns : goal.returns
returns c =
    let s = c.args.shared.now in
    let id = c.in_ok-id.id in
    let program = c.in_ok-program.program in
    was_read (goal.at.returns c).In_ok-program
    (then_plays {rest = λ _. run s.bound c.args.who.now (process_at s c.args.who.now) program.id program.attr}
    (step_called (λ k rest. asks_program k.process id c.in_ok-id.place (object_at s id) (rest tt)) c.new-caller.ensures.caller
    (c.in_ok-ask_program.ensures s id (c.in_ok-program.ensures.object ∙ ap (λ (k : CallerView). metadata_of k.state id) c.new-caller.ensures.caller)))
    (c.run.ensures c.ask_program.new.checks))
