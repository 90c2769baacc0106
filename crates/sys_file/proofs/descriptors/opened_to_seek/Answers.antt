use Rattle.std.proofs.Common.{◌≡◌, ◌∙◌, ap, refl, Bool}
use Rattle.kern_model.specs.declared.calls.Errno.TheVariants.{ESPIPE}
use Rattle.kern_model.specs.declared.numbers.Oid.{Oid}
use Rattle.kern_model.specs.Descriptors.{Opened}
use Rattle.kern_model.specs.FileRows.{open_object, to_seek}
use Rattle.kern_model.specs.Kinds.{is_stream}
use Rattle.kern_model.specs.State.{State, object_at}
use Rattle.chk_rules.proofs.Steps.{then_goes, stops_there, need_goes, need_stops, refuse_goes, refuse_stops, equal_refusal, gives}
use Rattle.sys_lookup.specs.Shared.{metadata_of}
use Rattle.sys_lookup.specs.declared.shared.Metadata.{Metadata}
use Rattle.sys_lookup.proofs.CheckLemmas.{not_refused}
use Rattle.sys_file.specs.Access.{access_object}
use Rattle.sys_file.specs.declared.access.Access.TheVariants.{Read}
use Rattle.sys_file.proofs.ReferLemmas.{step_at}
use Rattle.sys_file.proofs.descriptors.opened_to_seek.Goals as goal

-- whether the object that was read is a stream
same_kind : (s : State) (id : Oid) (f : Opened) (object : Metadata) (is : Bool) → is ≡ is_stream object.kind → object ≡ metadata_of s id → id ≡ f.description.object → is ≡ is_stream (open_object s f).kind
same_kind s id f object is found read same = found ∙ ap (λ (m : Metadata). is_stream m.kind) read ∙ ap (λ (o : Oid). is_stream (object_at s o).kind) same

pub returns-in_err-opened-clause-step : goal.returns-in_err-opened-clause-step
returns-in_err-opened-clause-step c =
    stops_there {next = to_seek c.args.caller.now.state c.args.caller.now.process} c.from_residual.result c.from_residual.ensures.1 (c.in_err-opened.ensures.step c.args.checks.now)

pub returns-in_err-object-clause-step : goal.returns-in_err-object-clause-step
returns-in_err-object-clause-step c =
    let k = c.args.caller.now in
    then_goes {next = to_seek k.state k.process} (c.in_ok-opened.ensures.step c.args.checks.now)
    (need_stops c.from_residual-in_err-object.result c.from_residual-in_err-object.ensures.1
    (step_at (access_object Read k.state k.process) (λ i. (c.opened-2.view_is i).description.object) c.in_err-object.ensures.step))

pub returns-in_err-refuse_if-clause-step : goal.returns-in_err-refuse_if-clause-step
returns-in_err-refuse_if-clause-step c =
    let k = c.args.caller.now in
    then_goes {next = to_seek k.state k.process} (c.in_ok-opened.ensures.step c.args.checks.now)
    (need_goes (step_at (access_object Read k.state k.process) (λ i. (c.opened-2.view_is i).description.object) c.in_ok-object.ensures.step)
    (refuse_stops c.from_residual-in_err-refuse_if.result c.from_residual-in_err-refuse_if.ensures.1
    (equal_refusal (same_kind k.state _ c.in_ok-opened.opened c.in_ok-object.object _ c.is_stream.ensures c.in_ok-object.ensures.object (λ i. (c.opened-2.view_is i).description.object)) (c.in_err-refuse_if.ensures c.read_object.new.checks))))

pub returns-clause-step : goal.returns-clause-step
returns-clause-step c =
    let k = c.args.caller.now in
    then_goes {next = to_seek k.state k.process} (c.in_ok-opened.ensures.step c.args.checks.now)
    (need_goes (step_at (access_object Read k.state k.process) (λ i. (c.opened-2.view_is i).description.object) c.in_ok-object.ensures.step)
    (refuse_goes (equal_refusal (same_kind k.state _ c.in_ok-opened.opened c.in_ok-object.object _ c.is_stream.ensures c.in_ok-object.ensures.object (λ i. (c.opened-2.view_is i).description.object)) (c.in_ok-refuse_if.ensures c.read_object.new.checks)) (gives refl)))

pub returns-clause-no_stream : goal.returns-clause-no_stream
returns-clause-no_stream c =
    let s = c.args.caller.now.state in
    let f = c.in_ok-opened.opened in
    let log = c.read_object.new.checks in
    not_refused log log ESPIPE (is_stream (open_object s f).kind)
    (equal_refusal (same_kind s _ f c.in_ok-object.object _ c.is_stream.ensures c.in_ok-object.ensures.object (λ i. (c.opened-2.view_is i).description.object)) (c.in_ok-refuse_if.ensures log))
