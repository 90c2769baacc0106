use Rattle.std.specs.Prelude.{◌≡◌, ◌↔◌, ◌+◌, ◌<◌, ◌≤◌, Err, OnErr, OnOk, length}
use Rattle.std.proofs.Common.{sym, subst, refl}
use Rattle.kern_model.specs.declared.limits.TheConstants.{MAX_FILE_BYTES}
use Rattle.kern_model.specs.declared.objects.Object.{Object}
use Rattle.kern_model.specs.FileRows.{written_over}
use Rattle.fs_nodes.specs.Nodes.{IsFile, NodeTable, with_object}
use Rattle.fs_nodes.specs.declared.nodes.WriteError.TheVariants as error
use Rattle.fs_dirs.specs.Tree.{IfObject, IsTree, TreeView}
use Rattle.fs_dirs.proofs.Answering.{either_way}
use Rattle.fs_dirs.proofs.TreeLabelLemmas.{with_set}
use Rattle.fs_dirs.proofs.tree.Tree.write_at.Goals as goal

pub write_at-requires : goal.write_at-requires
write_at-requires c = subst (λ (t : TreeView). IsFile t.nodes.table.objects c.args.id.now) (sym c.self.view_is) c.requires

pub invariant_of-self : goal.invariant_of-self
invariant_of-self c =
    let here = subst (λ (t : TreeView). IsFile t.nodes.table.objects c.args.id.now) (sym c.self.view_is) c.requires in
    either_way c.write_at.result
    (with_set c.self.invariant c.args.id.now (λ (o : Object). record o { bytes = written_over o.bytes c.args.at c.args.bytes.now }) here.object here.is refl refl)
    (λ e. subst (λ (table : NodeTable). IsTree table c.self.inside.entries c.self.inside.labels) (sym e) c.self.invariant)
    (c.write_at.ensures.written here.object here.is) c.write_at.ensures.err

pub returns-clause-written : goal.returns-clause-written
returns-clause-written c =
    subst (λ (t : TreeView). IfObject t c.args.id.now (λ (o : Object). OnOk c.write_at.result (c.write_at.new.self.table ≡ with_object t.nodes.table c.args.id.now (record o { bytes = written_over o.bytes c.args.at c.args.bytes.now })))) c.self.view_is c.write_at.ensures.written

pub returns-clause-past_end : goal.returns-clause-past_end
returns-clause-past_end c = subst (λ (t : TreeView). IfObject t c.args.id.now (λ (o : Object). (c.write_at.result ≡ Err error.PastEnd) ↔ (length o.bytes < c.args.at))) c.self.view_is c.write_at.ensures.past_end

pub returns-clause-too_big : goal.returns-clause-too_big
returns-clause-too_big c =
    subst (λ (t : TreeView). IfObject t c.args.id.now (λ (o : Object). (c.write_at.result ≡ Err error.TooBig) ↔ (c.args.at ≤ length o.bytes) × (MAX_FILE_BYTES < c.args.at + length c.args.bytes.now))) c.self.view_is c.write_at.ensures.too_big

pub returns-clause-err : goal.returns-clause-err
returns-clause-err c = subst (λ (t : TreeView). OnErr c.write_at.result (c.write_at.new.self.table ≡ t.nodes.table)) c.self.view_is c.write_at.ensures.err
