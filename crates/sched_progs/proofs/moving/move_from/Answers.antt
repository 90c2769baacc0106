use Rattle.std.specs.Prelude.{◌+◌, ◌-◌, Some, refl}
use Rattle.std.proofs.Common.{arith, ap, sym, ◌∙◌}
use Rattle.sched_progs.specs.Programs.{Move, max_jumps, move_from}
use Rattle.sched_progs.proofs.MoveLemmas.{by_call, by_end, by_jump, by_last, by_stop}
use Rattle.sched_progs.proofs.moving.move_from.Goals as goal

pub loop-init : goal.loop-init
loop-init c = refl

pub returns-in-Some-Do-clause-place : goal.returns-in-Some-Do-clause-place
returns-in-Some-Do-clause-place c =
    let is = sym c.in-Some-Do.ensures.step ∙ ap (λ s. Some s) c.in-Some-Do.field-0-is in
    ap (λ (m : Move). m.place) (sym (by_call c.args.steps.now c.args.last c.loop.at c.loop.counter c.loop-test.true c.in-Some-Do.call is) ∙ c.loop.invariant)

pub returns-in-Some-Do-clause-call : goal.returns-in-Some-Do-clause-call
returns-in-Some-Do-clause-call c =
    let is = sym c.in-Some-Do.ensures.step ∙ ap (λ s. Some s) c.in-Some-Do.field-0-is in
    ap (λ (m : Move). m.call) (sym (by_call c.args.steps.now c.args.last c.loop.at c.loop.counter c.loop-test.true c.in-Some-Do.call is) ∙ c.loop.invariant)

pub returns-in-Some-Stop-clause-place : goal.returns-in-Some-Stop-clause-place
returns-in-Some-Stop-clause-place c =
    let is = sym c.in-Some-Stop.ensures.step ∙ ap (λ s. Some s) c.in-Some-Stop.field-0-is in
    ap (λ (m : Move). m.place) (sym (by_stop c.args.steps.now c.args.last c.loop.at c.loop.counter c.loop-test.true is) ∙ c.loop.invariant)

pub returns-in-Some-Stop-clause-call : goal.returns-in-Some-Stop-clause-call
returns-in-Some-Stop-clause-call c =
    let is = sym c.in-Some-Stop.ensures.step ∙ ap (λ s. Some s) c.in-Some-Stop.field-0-is in
    ap (λ (m : Move). m.call) (sym (by_stop c.args.steps.now c.args.last c.loop.at c.loop.counter c.loop-test.true is) ∙ c.loop.invariant)

pub returns-in-None-clause-place : goal.returns-in-None-clause-place
returns-in-None-clause-place c =
    ap (λ (m : Move). m.place) (sym (by_end c.args.steps.now c.args.last c.loop.at c.loop.counter c.loop-test.true (sym c.in-None.ensures.step)) ∙ c.loop.invariant)

pub returns-in-None-clause-call : goal.returns-in-None-clause-call
returns-in-None-clause-call c =
    ap (λ (m : Move). m.call) (sym (by_end c.args.steps.now c.args.last c.loop.at c.loop.counter c.loop-test.true (sym c.in-None.ensures.step)) ∙ c.loop.invariant)

pub loop-preserved : goal.loop-preserved
loop-preserved c =
    let is = sym c.in-Some-Jump.ensures.step ∙ ap (λ s. Some s) c.in-Some-Jump.field-0-is in
    let on = by_jump c.args.steps.now c.args.last c.loop.at c.loop.counter c.loop-test.true c.in-Some-Jump.when c.in-Some-Jump.to is in
    ap (λ at. move_from c.args.steps.now c.args.last (max_jumps - (c.loop.counter + 1)) at) c.after_jump-at.ensures ∙ sym on ∙ c.loop.invariant

pub returns-clause-place : goal.returns-clause-place
returns-clause-place c = ap (λ (m : Move). m.place) (by_last c.args.steps.now c.args.last c.loop.at c.loop.counter (omega (arith, c.loop-test.false, c.loop.auto.counter-end)) ∙ c.loop.invariant)

pub returns-clause-call : goal.returns-clause-call
returns-clause-call c = ap (λ (m : Move). m.call) (by_last c.args.steps.now c.args.last c.loop.at c.loop.counter (omega (arith, c.loop-test.false, c.loop.auto.counter-end)) ∙ c.loop.invariant)
