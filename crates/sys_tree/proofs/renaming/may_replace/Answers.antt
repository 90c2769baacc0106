use Rattle.std.proofs.Common.{◌∙◌, ◌&&◌, ap, not}
use Rattle.kern_model.specs.Kinds.{is_dir}
use Rattle.chk_rules.proofs.Steps.{refuse_goes, refuse_stops, equal_refusal}
use Rattle.sys_lookup.specs.declared.shared.Metadata.{Metadata}
use Rattle.sys_tree.proofs.renaming.may_replace.Goals as goal

pub returns-in_err-refuse_if : goal.returns-in_err-refuse_if
returns-in_err-refuse_if c = λ log is there.
    let moves = c.is_directory-moves.ensures ∙ ap (λ (m : Metadata). is_dir m.kind) is in
    let goes = c.is_directory-goes.ensures ∙ ap (λ (m : Metadata). is_dir m.kind) there in
    refuse_stops c.from_residual.result c.from_residual.ensures.1 (equal_refusal (c.only_first.ensures ∙ (λ i. moves i && not (goes i))) (c.in_err-refuse_if.ensures log))

pub returns-in_err-refuse_if-2 : goal.returns-in_err-refuse_if-2
returns-in_err-refuse_if-2 c = λ log is there.
    let moves = c.is_directory-moves.ensures ∙ ap (λ (m : Metadata). is_dir m.kind) is in
    let goes = c.is_directory-goes.ensures ∙ ap (λ (m : Metadata). is_dir m.kind) there in
    refuse_goes (equal_refusal (c.only_first.ensures ∙ (λ i. moves i && not (goes i))) (c.in_ok-refuse_if.ensures log))
    (refuse_stops c.from_residual-in_err-refuse_if-2.result c.from_residual-in_err-refuse_if-2.ensures.1 (equal_refusal (c.only_first-2.ensures ∙ (λ i. goes i && not (moves i))) (c.in_err-refuse_if-2.ensures log)))

pub returns : goal.returns
returns c = λ log is there.
    let moves = c.is_directory-moves.ensures ∙ ap (λ (m : Metadata). is_dir m.kind) is in
    let goes = c.is_directory-goes.ensures ∙ ap (λ (m : Metadata). is_dir m.kind) there in
    refuse_goes (equal_refusal (c.only_first.ensures ∙ (λ i. moves i && not (goes i))) (c.in_ok-refuse_if.ensures log))
    (refuse_goes (equal_refusal (c.only_first-2.ensures ∙ (λ i. goes i && not (moves i))) (c.in_ok-refuse_if-2.ensures log))
    (equal_refusal (c.only_first-3.ensures ∙ (λ i. goes i && not (c.is_empty-empty.ensures i))) (c.refuse_if-3.ensures log)))
