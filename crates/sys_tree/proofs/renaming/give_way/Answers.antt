use Rattle.std.proofs.Common.{◌≡◌, ◌∙◌, Bool, true, false, Option, Result, Ok, Err, ap, refl, sym, subst}
use Rattle.kern_model.specs.declared.checks.Place.{Place}
use Rattle.kern_model.specs.declared.numbers.Oid.{Oid}
use Rattle.kern_model.specs.Keys.{same_oid}
use Rattle.kern_model.specs.State.{State, Process}
use Rattle.kern_model.specs.TreeRows.{gives_way, may_replace, over_other}
use Rattle.chk_rules.specs.CheckLog.{CheckLog}
use Rattle.chk_rules.specs.RowSteps.{GoesOn}
use Rattle.chk_rules.specs.declared.stop.Stop.{Stop}
use Rattle.chk_rules.proofs.Steps.{need_goes, need_stops, item_goes, item_stops, gives}
use Rattle.sys_lookup.specs.declared.shared.Metadata.{Metadata}
use Rattle.sys_tree.proofs.EntryLemmas.{read_by}
use Rattle.sys_tree.proofs.renaming.give_way.Goals as goal

-- the same step for an equal target, at an equal place
at_target : (s : State) (p : Process) (id : Oid) {o target : Option Oid} {at place : Place} {a b : CheckLog} {r : Result Bool Stop} → o ≡ target → at ≡ place → GoesOn a (gives_way s p id o at) r b → GoesOn a (gives_way s p id target place) r b
at_target s p id {o = o} {place = place} {a = a} {b = b} {r = r} same here step =
    subst (λ (x : Option Oid). GoesOn a (gives_way s p id x place) r b) same (subst (λ (x : Place). GoesOn a (gives_way s p id o x) r b) here step)

pub returns-in_err-target : goal.returns-in_err-target
returns-in_err-target c = λ is.
    let t = c.in-Some.id in
    at_target c.args.caller.now.state c.args.caller.now.process c.args.object.now.id (sym c.in-Some.is) c.last_place.ensures
    (need_stops {part = over_other c.args.caller.now.state c.args.object.now.id t (same_oid t c.args.object.now.id)} c.from_residual.result c.from_residual.ensures.1 c.in_err-target.ensures.step)

pub returns-then-is_same : goal.returns-then-is_same
returns-then-is_same c = λ is.
    let t = c.in-Some.id in
    let log = c.write_object.new.checks in
    at_target c.args.caller.now.state c.args.caller.now.process c.args.object.now.id (sym c.in-Some.is) c.last_place.ensures
    (need_goes {part = over_other c.args.caller.now.state c.args.object.now.id t (same_oid t c.args.object.now.id)} c.in_ok-target.ensures.step
    (subst (λ (b : Bool). GoesOn log (over_other c.args.caller.now.state c.args.object.now.id t b) (Ok false) log) (sym (sym c.is_same.ensures ∙ c.if-is_same.true)) (gives refl)))

pub returns-in_err-may_replace : goal.returns-in_err-may_replace
returns-in_err-may_replace c = λ is.
    let t = c.in-Some.id in
    let log = c.write_object.new.checks in
    let r = c.from_residual-in_err-may_replace.result in
    let there = read_by c.args.caller.now t c.in_ok-target.ensures.object in
    let step = subst (λ (x : Oid). GoesOn log (λ rest. may_replace c.args.caller.now.state c.args.object.now.id x (rest tt)) (Err c.in_err-may_replace.field-0.0) log) (ap (λ (m : Metadata). m.id) c.in_ok-target.ensures.object) (c.in_err-may_replace.ensures log is there) in
    at_target c.args.caller.now.state c.args.caller.now.process c.args.object.now.id (sym c.in-Some.is) c.last_place.ensures
    (need_goes {part = over_other c.args.caller.now.state c.args.object.now.id t (same_oid t c.args.object.now.id)} c.in_ok-target.ensures.step
    (subst (λ (b : Bool). GoesOn log (over_other c.args.caller.now.state c.args.object.now.id t b) r log) (sym (sym c.is_same.ensures ∙ c.if-is_same.false))
    (item_stops (may_replace c.args.caller.now.state c.args.object.now.id t) r c.from_residual-in_err-may_replace.ensures.1 step)))

pub returns : goal.returns
returns c = λ is.
    let t = c.in-Some.id in
    let log = c.write_object.new.checks in
    let there = read_by c.args.caller.now t c.in_ok-target.ensures.object in
    let step = subst (λ (x : Oid). GoesOn log (λ rest. may_replace c.args.caller.now.state c.args.object.now.id x (rest tt)) (Ok c.in_ok-may_replace.field-0) log) (ap (λ (m : Metadata). m.id) c.in_ok-target.ensures.object) (c.in_ok-may_replace.ensures log is there) in
    at_target c.args.caller.now.state c.args.caller.now.process c.args.object.now.id (sym c.in-Some.is) c.last_place.ensures
    (need_goes {part = over_other c.args.caller.now.state c.args.object.now.id t (same_oid t c.args.object.now.id)} c.in_ok-target.ensures.step
    (subst (λ (b : Bool). GoesOn log (over_other c.args.caller.now.state c.args.object.now.id t b) (Ok true) log) (sym (sym c.is_same.ensures ∙ c.if-is_same.false))
    (item_goes (may_replace c.args.caller.now.state c.args.object.now.id t) step (gives refl))))
