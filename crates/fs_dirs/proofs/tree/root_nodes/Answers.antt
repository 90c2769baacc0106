use Rattle.std.specs.Prelude.{Err}
use Rattle.std.proofs.Common.{ap, ◌∙◌, arith}
use Rattle.lab_lattice.specs.Label.{Label}
use Rattle.kern_model.specs.declared.objects.Body.TheVariants as body
use Rattle.kern_model.specs.Kinds.{object_with}
use Rattle.kern_model.specs.State.{last_drawn}
use Rattle.fs_nodes.specs.Nodes.{NodeTable, no_nodes, with_new}
use Rattle.fs_dirs.proofs.TreeLemmas.{none_drawn, root_made}
use Rattle.fs_dirs.proofs.tree.root_nodes.Goals as goal

pub unreachable-requires : goal.unreachable-requires
unreachable-requires c =
    let many = c.create.ensures.full.0 (c.in-Err-Full.is ∙ ap Err c.in-Err-Full.field-0-is) in
    let none = ap (λ (t : NodeTable). last_drawn t.numbers c.bottom.result) c.in_ok-nodes.ensures ∙ none_drawn c.bottom.result in
    omega (arith, many, none)

pub returns-in-Ok : goal.returns-in-Ok
returns-in-Ok c =
    c.in-Ok.ensures.made ∙ ap (λ (t : NodeTable). with_new t c.bottom.result (object_with c.bottom.result c.args.attr body.Dir)) c.in_ok-nodes.ensures
    ∙ ap (λ (l : Label). with_new no_nodes l (object_with l c.args.attr body.Dir)) c.bottom.ensures ∙ root_made c.args.attr
