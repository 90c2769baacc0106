use Rattle.std.proofs.Common.{◌∙◌, None, ap, not}
use Rattle.cap_bits.specs.FileCaps.{shown}
use Rattle.kern_model.specs.declared.calls.Answer.TheVariants as answer
use Rattle.kern_model.specs.Kinds.{is_file}
use Rattle.chk_rules.proofs.Steps.{equal_refusal}
use Rattle.sys_lookup.proofs.PlayLemmas.{called, then_plays, stops_row, refuse_plays, refuse_stops_row, commits_as}
use Rattle.sys_lookup.specs.declared.shared.Metadata.{Metadata}
use Rattle.sys_attr.specs.declared.fields.Field.TheVariants.{Caps, Label}
use Rattle.sys_attr.specs.Fields.{get_row, report}
use Rattle.sys_attr.specs.Objects.{on_read}
use Rattle.sys_attr.proofs.CallLemmas.{state_is}
use Rattle.sys_attr.proofs.fields.get_field.Goals as goal

pub returns-in_err-object : goal.returns-in_err-object
returns-in_err-object c =
    let same = c.new-caller.ensures.caller in
    called (λ k. get_row k.state k.process c.args.object c.args.field) same
    (stops_row {rest = on_read c.new-caller.result.state (report c.args.field)} c.from_residual.result c.from_residual.ensures.1 (state_is same) c.in_err-object.ensures.step)

pub returns-in_err-refuse_if-in-Caps : goal.returns-in_err-refuse_if-in-Caps
returns-in_err-refuse_if-in-Caps c =
    let same = c.new-caller.ensures.caller in
    let no_file = ap not (c.is_file.ensures ∙ ap (λ (m : Metadata). is_file m.kind) c.in_ok-object.ensures.object) in
    rw c.in-Caps.is
    (called (λ k. get_row k.state k.process c.args.object Caps) same
    (then_plays {rest = on_read c.new-caller.result.state (report Caps)} c.in_ok-object.ensures.step
    (refuse_stops_row c.from_residual-in_err-refuse_if-in-Caps.result c.from_residual-in_err-refuse_if-in-Caps.ensures.1 (state_is same) (equal_refusal no_file (c.in_err-refuse_if-in-Caps.ensures c.read_named.new.checks)))))

pub returns-in_ok-refuse_if-in-Caps : goal.returns-in_ok-refuse_if-in-Caps
returns-in_ok-refuse_if-in-Caps c =
    let same = c.new-caller.ensures.caller in
    let is = c.in_ok-object.ensures.object in
    let no_file = ap not (c.is_file.ensures ∙ ap (λ (m : Metadata). is_file m.kind) is) in
    rw c.in-Caps.is
    (called (λ k. get_row k.state k.process c.args.object Caps) same
    (then_plays {rest = on_read c.new-caller.result.state (report Caps)} c.in_ok-object.ensures.step
    (refuse_plays (equal_refusal no_file (c.in_ok-refuse_if-in-Caps.ensures c.read_named.new.checks))
    (commits_as (c.answers.ensures ∙ (λ i. record { answer = answer.Caps ((c.shown.ensures.value ∙ ap (λ (m : Metadata). shown m.attr.caps) is) i); own = None })) (state_is same)))))

pub returns-in-Label : goal.returns-in-Label
returns-in-Label c =
    let same = c.new-caller.ensures.caller in
    rw c.in-Label.is
    (called (λ k. get_row k.state k.process c.args.object Label) same
    (then_plays {rest = on_read c.new-caller.result.state (report Label)} c.in_ok-object.ensures.step
    (commits_as (c.answers-in-Label.ensures ∙ ap (λ (m : Metadata). record { answer = answer.Mark m.label; own = None }) c.in_ok-object.ensures.object) (state_is same))))
