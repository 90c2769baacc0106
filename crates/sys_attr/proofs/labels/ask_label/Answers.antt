use Rattle.std.specs.Prelude.{◌≡◌, ⊤, Bool, true, false, Result, Ok, cond, refl}
use Rattle.std.proofs.Common.{ap, sym, ◌∙◌, subst}
use Rattle.kern_model.specs.AttrRows.{change_label}
use Rattle.kern_model.specs.Row.{Row}
use Rattle.kern_model.specs.Rules.{same_label}
use Rattle.chk_rules.specs.CheckLog.{CheckLog}
use Rattle.chk_rules.specs.RowSteps.{GoesOn}
use Rattle.chk_rules.specs.declared.stop.Stop.{Stop}
use Rattle.chk_rules.proofs.Steps.{equal_refusal, gives, need_goes, need_stops}
use Rattle.sys_lookup.specs.declared.shared.Metadata.{Metadata}
use Rattle.sys_attr.proofs.labels.ask_label.Goals as goal

-- the part of a row that is left out, and the part that is not
left_out : {a : CheckLog} (b : Bool) (part : Row → Row) → b ≡ true → GoesOn a (λ (rest : ⊤ → Row). cond b (rest tt) (part (rest tt))) (Ok tt) a
left_out {a = a} b part e = subst (λ x. GoesOn a (λ (rest : ⊤ → Row). cond x (rest tt) (part (rest tt))) (Ok tt) a) (sym e) (gives refl)

left_in : {a z : CheckLog} {r : Result ⊤ Stop} (b : Bool) (part : Row → Row) → b ≡ false → GoesOn a (λ (rest : ⊤ → Row). part (rest tt)) r z → GoesOn a (λ (rest : ⊤ → Row). cond b (rest tt) (part (rest tt))) r z
left_in {a = a} {z = z} {r = r} b part e step = subst (λ x. GoesOn a (λ (rest : ⊤ → Row). cond x (rest tt) (part (rest tt))) r z) (sym e) step

pub returns-in_err-owner : goal.returns-in_err-owner
returns-in_err-owner c id is = need_stops c.from_residual.result c.from_residual.ensures.1 (c.in_err-owner.ensures c.args.caller.now.state id is)

pub returns-then-equal : goal.returns-then-equal
returns-then-equal c id is =
    let s = c.args.caller.now.state in
    need_goes (c.in_ok-owner.ensures s id is)
    (left_out _ (change_label s c.args.label.now id c.args.place) (ap (λ (m : Metadata). same_label c.args.label.now m.label) (sym is) ∙ sym c.equal.ensures ∙ c.if-equal.true))

pub returns-in_err-mac_change : goal.returns-in_err-mac_change
returns-in_err-mac_change c id is =
    let s = c.args.caller.now.state in
    need_goes (c.in_ok-owner.ensures s id is)
    (left_in _ (change_label s c.args.label.now id c.args.place) (ap (λ (m : Metadata). same_label c.args.label.now m.label) (sym is) ∙ sym c.equal.ensures ∙ c.if-equal.false)
    (need_stops c.from_residual-in_err-mac_change.result c.from_residual-in_err-mac_change.ensures.1 (c.in_err-mac_change.ensures s id is)))

pub returns-in_err-relabelled_order : goal.returns-in_err-relabelled_order
returns-in_err-relabelled_order c id is =
    let s = c.args.caller.now.state in
    need_goes (c.in_ok-owner.ensures s id is)
    (left_in _ (change_label s c.args.label.now id c.args.place) (ap (λ (m : Metadata). same_label c.args.label.now m.label) (sym is) ∙ sym c.equal.ensures ∙ c.if-equal.false)
    (need_goes (c.in_ok-mac_change.ensures s id is)
    (need_stops c.from_residual-in_err-relabelled_order.result c.from_residual-in_err-relabelled_order.ensures.1 (c.in_err-relabelled_order.ensures id is))))

pub returns : goal.returns
returns c id is =
    let s = c.args.caller.now.state in
    need_goes (c.in_ok-owner.ensures s id is)
    (left_in _ (change_label s c.args.label.now id c.args.place) (ap (λ (m : Metadata). same_label c.args.label.now m.label) (sym is) ∙ sym c.equal.ensures ∙ c.if-equal.false)
    (need_goes (c.in_ok-mac_change.ensures s id is)
    (need_goes (c.in_ok-relabelled_order.ensures id is)
    (equal_refusal (c.has_entries.ensures id is) (c.refuse_if.ensures c.relabelled_order.new.checks)))))
