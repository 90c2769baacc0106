use Rattle.std.proofs.Common.{◌∙◌, ap, sym, refl, unwrap_or}
use Rattle.std.specs.Prelude.{⊤}
use Rattle.kern_model.specs.Entries.{is_removed}
use Rattle.kern_model.specs.FileRows.{has_descriptions, has_free_descriptors, may_describe}
use Rattle.kern_model.specs.OpenRows.{open_path}
use Rattle.kern_model.specs.Row.{Row}
use Rattle.kern_model.specs.State.{process_at}
use Rattle.sys_lookup.specs.Callers.{CallerView}
use Rattle.sys_lookup.proofs.PlayLemmas.{step_called, stops_row}
use Rattle.sys_file.proofs.OpenRowLemmas.{absent_plays, absent_stops, entry_found, found_empties, present_plays, present_stops, walk_stops}
use Rattle.sys_file.proofs.opening.open.Goals as goal

pub returns-in_err-may_open-clause-played : goal.returns-in_err-may_open-clause-played
returns-in_err-may_open-clause-played c =
    let s = c.args.shared.now in
    let who = c.args.who.now in
    let request = c.args.opening.now in
    stops_row {rest = λ _. open_path s who (process_at s who) request.path.now request.flags (unwrap_or request.mode 0)} c.from_residual.result c.from_residual.ensures.1 refl
    (step_called (λ k (rest : ⊤ → Row). may_describe k.state k.process 1 (rest tt)) c.new-caller.ensures.caller (c.in_err-may_open.ensures.step c.args.checks.now))

pub returns-in_err-found-clause-played : goal.returns-in_err-found-clause-played
returns-in_err-found-clause-played c = walk_stops c.new-caller.ensures.caller c.args.opening.now (c.in_ok-may_open.ensures.step c.args.checks.now) c.from_residual-in_err-found.ensures.1 c.in_err-found.ensures.step

-- ---- an object is there

pub returns-in_err-emptied-in-Present-clause-played : goal.returns-in_err-emptied-in-Present-clause-played
returns-in_err-emptied-in-Present-clause-played c =
    present_stops c.new-caller.ensures.caller c.args.opening.now (c.in_ok-may_open.ensures.step c.args.checks.now) c.in_ok-found.found c.in_ok-found.ensures.step c.in-Present.ensures c.last_place-place.ensures
    c.from_residual-in_err-emptied-in-Present.ensures.1 c.in_err-emptied-in-Present.ensures.step

pub returns-in_ok-emptied-in-Present-clause-played : goal.returns-in_ok-emptied-in-Present-clause-played
returns-in_ok-emptied-in-Present-clause-played c =
    present_plays c.new-caller.ensures.caller c.args.opening.now (c.in_ok-may_open.ensures.step c.args.checks.now) c.in_ok-found.found c.in_ok-found.ensures.step c.in-Present.ensures c.last_place-place.ensures
    c.in_ok-emptied-in-Present.ensures.step (c.open_present.ensures c.may_open-in-Present.new.checks)

pub open_present-requires-clause-file : goal.open_present-requires-clause-file
open_present-requires-clause-file c =
    found_empties c.new-caller.ensures.caller c.args.opening.now.path.now c.in_ok-found.found c.in_ok-found.ensures.found c.requires.valid c.requires.living c.in-Present.id c.in-Present.ensures c.in_ok-emptied-in-Present.emptied c.in_ok-emptied-in-Present.ensures.files

pub open_present-requires-clause-free : goal.open_present-requires-clause-free
open_present-requires-clause-free c = ap (λ (k : CallerView). has_free_descriptors k.process 1) (sym c.new-caller.ensures.caller) ∙ c.in_ok-may_open.ensures.free

pub open_present-requires-clause-left : goal.open_present-requires-clause-left
open_present-requires-clause-left c = ap (λ (k : CallerView). has_descriptions k.state k.process 1) (sym c.new-caller.ensures.caller) ∙ c.in_ok-may_open.ensures.left

-- ---- nothing has the name

pub returns-in_err-may_make-in-Absent-clause-played : goal.returns-in_err-may_make-in-Absent-clause-played
returns-in_err-may_make-in-Absent-clause-played c =
    absent_stops c.new-caller.ensures.caller c.args.opening.now (c.in_ok-may_open.ensures.step c.args.checks.now) c.in_ok-found.found c.in_ok-found.ensures.step c.in-Absent.ensures c.dir_place-place.ensures
    c.from_residual-in_err-may_make-in-Absent.ensures.1 c.in_err-may_make-in-Absent.ensures.step

pub returns-in_ok-may_make-in-Absent-clause-played : goal.returns-in_ok-may_make-in-Absent-clause-played
returns-in_ok-may_make-in-Absent-clause-played c =
    absent_plays c.new-caller.ensures.caller c.args.opening.now (c.in_ok-may_open.ensures.step c.args.checks.now) c.in_ok-found.found c.in_ok-found.ensures.step c.in-Absent.ensures c.dir_place-place.ensures
    c.in_ok-may_make-in-Absent.ensures.step (c.open_new.ensures c.may_make.new.checks)

pub open_new-requires-clause-free : goal.open_new-requires-clause-free
open_new-requires-clause-free c = ap (λ (k : CallerView). has_free_descriptors k.process 1) (sym c.new-caller.ensures.caller) ∙ c.in_ok-may_open.ensures.free

pub open_new-requires-clause-left : goal.open_new-requires-clause-left
open_new-requires-clause-left c = ap (λ (k : CallerView). has_descriptions k.state k.process 1) (sym c.new-caller.ensures.caller) ∙ c.in_ok-may_open.ensures.left

pub open_new-requires-clause-dir : goal.open_new-requires-clause-dir
open_new-requires-clause-dir c = (entry_found c.new-caller.ensures.caller c.args.opening.now.path.now c.in_ok-found.found c.in_ok-found.ensures.found c.in-Absent.ensures).is_dir

pub open_new-requires-clause-stands : goal.open_new-requires-clause-stands
open_new-requires-clause-stands c = ap (λ (k : CallerView). is_removed k.state c.in-Absent.spot.0) (sym c.new-caller.ensures.caller) ∙ c.in_ok-may_make-in-Absent.ensures.stands

pub open_new-requires-clause-absent : goal.open_new-requires-clause-absent
open_new-requires-clause-absent c = (entry_found c.new-caller.ensures.caller c.args.opening.now.path.now c.in_ok-found.found c.in_ok-found.ensures.found c.in-Absent.ensures).leads
