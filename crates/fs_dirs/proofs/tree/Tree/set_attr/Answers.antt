use Rattle.std.proofs.Common.{sym, subst, refl}
use Rattle.kern_model.specs.declared.objects.Object.{Object}
use Rattle.kern_model.specs.Valid.{IsThere}
use Rattle.fs_nodes.specs.Nodes.{with_object}
use Rattle.std.specs.Prelude.{◌≡◌}
use Rattle.fs_dirs.specs.Tree.{IfObject, TreeView}
use Rattle.fs_dirs.proofs.TreeLabelLemmas.{with_set}
use Rattle.fs_dirs.proofs.tree.Tree.set_attr.Goals as goal

pub set_attr-requires : goal.set_attr-requires
set_attr-requires c = subst (λ (t : TreeView). IsThere t.nodes.table.objects c.args.id.now) (sym c.self.view_is) c.requires

pub invariant_of-self : goal.invariant_of-self
invariant_of-self c =
    let here = subst (λ (t : TreeView). IsThere t.nodes.table.objects c.args.id.now) (sym c.self.view_is) c.requires in
    with_set c.self.invariant c.args.id.now (λ (o : Object). record o { attr = c.args.attr }) here.value here.is refl refl (c.set_attr.ensures here.value here.is)

pub returns-clause-attr : goal.returns-clause-attr
returns-clause-attr c =
    subst (λ (t : TreeView). IfObject t c.args.id.now (λ (o : Object). c.set_attr.new.self.table ≡ with_object t.nodes.table c.args.id.now (record o { attr = c.args.attr }))) c.self.view_is c.set_attr.ensures
