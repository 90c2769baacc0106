use Rattle.std.specs.Prelude.{◌≡◌, IfOk, OnErr, OnOk}
use Rattle.std.proofs.Common.{ap, sym, subst}
use Rattle.kern_model.specs.Kinds.{object_with}
use Rattle.fs_nodes.specs.Nodes.{NodeSlots, NodeTable, next_in, with_new}
use Rattle.fs_dirs.specs.Tree.{IsTree, TreeView}
use Rattle.fs_dirs.proofs.Answering.{either_way}
use Rattle.fs_dirs.proofs.TreeLabelLemmas.{with_made}
use Rattle.fs_dirs.proofs.tree.Tree.create_next.Goals as goal

pub invariant_of-self : goal.invariant_of-self
invariant_of-self c =
    let kept = λ (table : NodeTable). IsTree table c.self.inside.entries c.self.inside.labels in
    either_way c.create_next.result
    (with_made c.self.invariant c.args.label (object_with c.args.label c.args.attr c.args.body))
    (λ e. subst kept (sym e) c.self.invariant)
    c.create_next.ensures.made c.create_next.ensures.err

pub returns-clause-id : goal.returns-clause-id
returns-clause-id c = subst (λ (n : NodeSlots). IfOk c.create_next.result (λ id. id ≡ next_in n.table c.args.label)) (ap (λ (t : TreeView). t.nodes) c.self.view_is) c.create_next.ensures.id

pub returns-clause-made : goal.returns-clause-made
returns-clause-made c =
    subst (λ (n : NodeSlots). OnOk c.create_next.result (c.create_next.new.self.table ≡ with_new n.table c.args.label (object_with c.args.label c.args.attr c.args.body))) (ap (λ (t : TreeView). t.nodes) c.self.view_is) c.create_next.ensures.made

pub returns-clause-err : goal.returns-clause-err
returns-clause-err c = subst (λ (n : NodeSlots). OnErr c.create_next.result (c.create_next.new.self.table ≡ n.table)) (ap (λ (t : TreeView). t.nodes) c.self.view_is) c.create_next.ensures.err
