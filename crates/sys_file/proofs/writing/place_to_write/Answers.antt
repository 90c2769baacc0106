use Rattle.std.proofs.Common.{◌∙◌, ◌+◌, ap, arith, length, nat_lt}
use Rattle.std.proofs.lemmas.Bool.{ltb-false}
use Rattle.kern_model.specs.declared.calls.Errno.TheVariants.{EFBIG, EINVAL}
use Rattle.kern_model.specs.declared.limits.TheConstants.{MAX_FILE_BYTES}
use Rattle.kern_model.specs.declared.objects.Object.{Object}
use Rattle.kern_model.specs.FileRows.{open_object}
use Rattle.kern_model.specs.State.{object_at}
use Rattle.chk_rules.proofs.Steps.{equal_refusal, gives, refuse_goes, refuse_stops}
use Rattle.sys_file.proofs.ObjectLemmas.{few_bytes, object_is}
use Rattle.sys_file.proofs.WriteLemmas.{never_refused}
use Rattle.sys_file.proofs.writing.place_to_write.Goals as goal

pub overflow_cast-size : goal.overflow_cast-size
overflow_cast-size c =
    let s = c.args.shared.now in
    let id = c.args.opened.now.description.object in
    let file = c.requires.file in
    let size = c.byte_count-size.ensures ∙ (λ i. length (object_at s (c.opened.view_is i).description.object).bytes) ∙ ap (λ (o : Object). length o.bytes) (object_is s id file.object file.is) in
    let few = few_bytes s c.requires.valid id file.object file.is file.file in
    omega (arith, size, few)

pub returns-in_err-refuse_if-clause-step : goal.returns-in_err-refuse_if-clause-step
returns-in_err-refuse_if-clause-step c = λ log.
    let s = c.args.shared.now in
    let size = c.byte_count-size.ensures ∙ (λ i. length (object_at s (c.opened.view_is i).description.object).bytes) in
    let at = c.place_in_file-at.ensures (open_object s c.args.opened.now) size in
    refuse_stops c.from_residual.result c.from_residual.ensures.1 (equal_refusal (λ i. nat_lt (size i) (at i)) (c.in_err-refuse_if.ensures log))

pub returns-in_err-refuse_if-2-clause-step : goal.returns-in_err-refuse_if-2-clause-step
returns-in_err-refuse_if-2-clause-step c = λ log.
    let s = c.args.shared.now in
    let size = c.byte_count-size.ensures ∙ (λ i. length (object_at s (c.opened.view_is i).description.object).bytes) in
    let at = c.place_in_file-at.ensures (open_object s c.args.opened.now) size in
    refuse_goes (equal_refusal (λ i. nat_lt (size i) (at i)) (c.in_ok-refuse_if.ensures log))
    (refuse_stops c.from_residual-in_err-refuse_if-2.result c.from_residual-in_err-refuse_if-2.ensures.1
    (equal_refusal (λ i. nat_lt MAX_FILE_BYTES (at i + length c.args.bytes.now)) (c.in_err-refuse_if-2.ensures log)))

pub returns-clause-step : goal.returns-clause-step
returns-clause-step c = λ log.
    let s = c.args.shared.now in
    let size = c.byte_count-size.ensures ∙ (λ i. length (object_at s (c.opened.view_is i).description.object).bytes) in
    let at = c.place_in_file-at.ensures (open_object s c.args.opened.now) size in
    refuse_goes (equal_refusal (λ i. nat_lt (size i) (at i)) (c.in_ok-refuse_if.ensures log))
    (refuse_goes (equal_refusal (λ i. nat_lt MAX_FILE_BYTES (at i + length c.args.bytes.now)) (c.in_ok-refuse_if-2.ensures log))
    (gives at))

pub returns-clause-within : goal.returns-clause-within
returns-clause-within c =
    let s = c.args.shared.now in
    let size = c.byte_count-size.ensures ∙ (λ i. length (object_at s (c.opened.view_is i).description.object).bytes) in
    let within = ltb-false _ _ (never_refused EINVAL _ c.in_ok-refuse_if.ensures) in
    omega (arith, size, within)

pub returns-clause-few : goal.returns-clause-few
returns-clause-few c = ltb-false _ _ (never_refused EFBIG _ c.in_ok-refuse_if-2.ensures)
