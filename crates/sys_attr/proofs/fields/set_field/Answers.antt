use Rattle.std.proofs.Common.{◌∙◌, Some, sym}
use Rattle.cap_bits.specs.declared.file_caps.FileCaps.{FileCaps}
use Rattle.kern_model.specs.AttrRows.{give_caps, give_label, with_attr, with_label}
use Rattle.kern_model.specs.declared.calls.Answer.TheVariants.{Nothing}
use Rattle.kern_model.specs.declared.records.Rec.TheVariants.{CapSetFile, MacSetFile}
use Rattle.kern_model.specs.State.{apply_change, object_at}
use Rattle.sys_lookup.proofs.PlayLemmas.{then_plays, stops_row, commits_as}
use Rattle.sys_lookup.specs.declared.shared.Metadata.{Metadata}
use Rattle.sys_attr.specs.declared.fields.Setting.TheVariants.{Caps, Label}
use Rattle.sys_attr.specs.Fields.{change}
use Rattle.sys_attr.proofs.CallLemmas.{change_is, object_there, state_is, write_plays, write_stops}
use Rattle.sys_attr.proofs.fields.set_field.Goals as goal

pub give_attr-requires : goal.give_attr-requires
give_attr-requires c = object_there c.new-caller.ensures.caller c.in_ok-object.ensures.there

pub give_label-requires : goal.give_label-requires
give_label-requires c = object_there c.new-caller.ensures.caller c.in_ok-object.ensures.there

pub returns-in_err-object : goal.returns-in_err-object
returns-in_err-object c = write_stops c.new-caller.ensures.caller _ (λ k. change k.state k.who k.process c.args.setting) c.from_residual.ensures.1 c.in_err-object.ensures.step

-- ---- capability sets

pub returns-in_err-file_caps-in-Caps : goal.returns-in_err-file_caps-in-Caps
returns-in_err-file_caps-in-Caps c =
    let k = c.new-caller.result in
    let same = c.new-caller.ensures.caller in
    let id = c.in_ok-object.object.id in
    let caps = c.in-Caps.caps in
    rw c.in-Caps.is
    (write_plays same _ (λ x. change x.state x.who x.process (Caps caps)) c.in_ok-object.ensures.step
    (stops_row {rest = λ _. give_caps k.who caps id (object_at k.state id)} c.from_residual-in_err-file_caps-in-Caps.result c.from_residual-in_err-file_caps-in-Caps.ensures.1 (state_is same) (c.in_err-file_caps-in-Caps.ensures.step k.state id c.in_ok-object.ensures.object)))

pub returns-in_ok-file_caps-in-Caps : goal.returns-in_ok-file_caps-in-Caps
returns-in_ok-file_caps-in-Caps c =
    let k = c.new-caller.result in
    let same = c.new-caller.ensures.caller in
    let id = c.in_ok-object.object.id in
    let is = c.in_ok-object.ensures.object in
    let caps = c.in-Caps.caps in
    let attr = λ (f : FileCaps) (m : Metadata). record m.attr { caps = f } in
    let file_caps = c.in_ok-file_caps-in-Caps.ensures.value in
    rw c.in-Caps.is
    (write_plays same _ (λ x. change x.state x.who x.process (Caps caps)) c.in_ok-object.ensures.step
    (then_plays {rest = λ _. give_caps k.who caps id (object_at k.state id)} (c.in_ok-file_caps-in-Caps.ensures.step k.state id is)
    (commits_as (c.leaves.ensures ∙ (λ i. record { answer = Nothing; own = Some (CapSetFile (sym same i).who id caps) }))
    (change_is same (λ s. with_attr id (object_at s id) (attr c.in_ok-file_caps-in-Caps.file_caps c.in_ok-object.object)) c.give_attr.ensures ∙ (λ i. apply_change k.state (with_attr id (object_at k.state id) (attr (file_caps i) (is i))))))))

-- ---- a label

pub returns-in_err-ask_label-in-Label : goal.returns-in_err-ask_label-in-Label
returns-in_err-ask_label-in-Label c =
    let k = c.new-caller.result in
    let same = c.new-caller.ensures.caller in
    rw c.in-Label.is
    (write_plays same _ (λ x. change x.state x.who x.process (Label c.in-Label.label)) c.in_ok-object.ensures.step
    (stops_row {rest = λ _. give_label k.who c.in-Label.label c.in_ok-object.object.id (object_at k.state c.in_ok-object.object.id)} c.from_residual-in_err-ask_label-in-Label.result c.from_residual-in_err-ask_label-in-Label.ensures.1 (state_is same) (c.in_err-ask_label-in-Label.ensures c.in_ok-object.object.id c.in_ok-object.ensures.object)))

pub returns-in_ok-ask_label-in-Label : goal.returns-in_ok-ask_label-in-Label
returns-in_ok-ask_label-in-Label c =
    let k = c.new-caller.result in
    let same = c.new-caller.ensures.caller in
    let is = c.in_ok-object.ensures.object in
    rw c.in-Label.is
    (write_plays same _ (λ x. change x.state x.who x.process (Label c.in-Label.label)) c.in_ok-object.ensures.step
    (then_plays {rest = λ _. give_label k.who c.in-Label.label c.in_ok-object.object.id (object_at k.state c.in_ok-object.object.id)} (c.in_ok-ask_label-in-Label.ensures c.in_ok-object.object.id is)
    (commits_as (c.leaves-in-Label.ensures ∙ (λ i. record { answer = Nothing; own = Some (MacSetFile (sym same i).who c.in_ok-object.object.id (is i).label c.in-Label.label) }))
    (change_is same (λ s. with_label c.in_ok-object.object.id (object_at s c.in_ok-object.object.id) c.in-Label.label) c.give_label.ensures))))
