use Rattle.std.proofs.Common.{◌∙◌, ◌&&◌, ap, refl}
use Rattle.kern_model.specs.Kinds.{is_dir, is_fifo}
use Rattle.chk_rules.proofs.Steps.{equal_refusal, refuse_goes, refuse_stops}
use Rattle.sys_lookup.specs.declared.shared.Metadata.{Metadata}
use Rattle.sys_lookup.proofs.AskLemmas.{equal_asked}
use Rattle.sys_file.proofs.opening.kind_allows.Goals as goal

pub returns-in_err-refuse_if : goal.returns-in_err-refuse_if
returns-in_err-refuse_if c = λ s id same.
    refuse_stops c.from_residual.result c.from_residual.ensures.1 (equal_refusal (c.is_directory.ensures ∙ ap (λ (m : Metadata). is_dir m.kind) same) (c.in_err-refuse_if.ensures c.args.checks.now))

pub returns-in_err-refuse_if-2 : goal.returns-in_err-refuse_if-2
returns-in_err-refuse_if-2 c = λ s id same.
    let log = c.args.checks.now in
    let drains = c.both-drains.ensures ∙ (λ i. (c.is_fifo.ensures ∙ ap (λ (m : Metadata). is_fifo m.kind) same) i && c.args.flags.r) in
    refuse_goes (equal_refusal (c.is_directory.ensures ∙ ap (λ (m : Metadata). is_dir m.kind) same) (c.in_ok-refuse_if.ensures log))
    (refuse_stops c.from_residual-in_err-refuse_if-2.result c.from_residual-in_err-refuse_if-2.ensures.1
    (equal_refusal (c.both.ensures ∙ (λ i. drains i && c.args.flags.w)) (c.in_err-refuse_if-2.ensures log)))

pub returns : goal.returns
returns c = λ s id same.
    let log = c.args.checks.now in
    let drains = c.both-drains.ensures ∙ (λ i. (c.is_fifo.ensures ∙ ap (λ (m : Metadata). is_fifo m.kind) same) i && c.args.flags.r) in
    refuse_goes (equal_refusal (c.is_directory.ensures ∙ ap (λ (m : Metadata). is_dir m.kind) same) (c.in_ok-refuse_if.ensures log))
    (refuse_goes (equal_refusal (c.both.ensures ∙ (λ i. drains i && c.args.flags.w)) (c.in_ok-refuse_if-2.ensures log))
    (equal_asked drains refl (c.mac_write_if.ensures s id same)))
