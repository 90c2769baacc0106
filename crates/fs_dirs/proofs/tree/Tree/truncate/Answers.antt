use Rattle.std.proofs.Common.{sym, subst, refl}
use Rattle.std.specs.Prelude.{◌≡◌, []}
use Rattle.kern_model.specs.declared.objects.Object.{Object}
use Rattle.fs_nodes.specs.Nodes.{IsFile, with_object}
use Rattle.fs_dirs.specs.Tree.{IfObject, TreeView}
use Rattle.fs_dirs.proofs.TreeLabelLemmas.{with_set}
use Rattle.fs_dirs.proofs.tree.Tree.truncate.Goals as goal

pub truncate-requires : goal.truncate-requires
truncate-requires c = subst (λ (t : TreeView). IsFile t.nodes.table.objects c.args.id.now) (sym c.self.view_is) c.requires

pub invariant_of-self : goal.invariant_of-self
invariant_of-self c =
    let here = subst (λ (t : TreeView). IsFile t.nodes.table.objects c.args.id.now) (sym c.self.view_is) c.requires in
    with_set c.self.invariant c.args.id.now (λ (o : Object). record o { bytes = [] }) here.object here.is refl refl (c.truncate.ensures here.object here.is)

pub returns-clause-bytes : goal.returns-clause-bytes
returns-clause-bytes c =
    subst (λ (t : TreeView). IfObject t c.args.id.now (λ (o : Object). c.truncate.new.self.table ≡ with_object t.nodes.table c.args.id.now (record o { bytes = [] }))) c.self.view_is c.truncate.ensures
