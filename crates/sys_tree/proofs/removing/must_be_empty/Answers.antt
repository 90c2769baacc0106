use Rattle.std.proofs.Common.{◌∙◌, ap, not}
use Rattle.kern_model.specs.Kinds.{is_dir}
use Rattle.chk_rules.proofs.Steps.{refuse_goes, refuse_stops, equal_refusal}
use Rattle.sys_lookup.specs.declared.shared.Metadata.{Metadata}
use Rattle.sys_tree.proofs.removing.must_be_empty.Goals as goal

pub returns-in_err-refuse_if : goal.returns-in_err-refuse_if
returns-in_err-refuse_if c = λ log is.
    refuse_stops c.from_residual.result c.from_residual.ensures.1 (equal_refusal (ap not (c.is_directory.ensures ∙ ap (λ (m : Metadata). is_dir m.kind) is)) (c.in_err-refuse_if.ensures log))

pub returns : goal.returns
returns c = λ log is.
    refuse_goes (equal_refusal (ap not (c.is_directory.ensures ∙ ap (λ (m : Metadata). is_dir m.kind) is)) (c.in_ok-refuse_if.ensures log)) (equal_refusal (ap not c.is_empty.ensures) (c.refuse_if-2.ensures log))
