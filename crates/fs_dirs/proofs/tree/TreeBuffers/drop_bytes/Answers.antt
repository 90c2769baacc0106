use Rattle.std.specs.Prelude.{[]}
use Rattle.std.proofs.Common.{ap, sym, ◌∙◌, subst, refl}
use Rattle.std.specs.FinMap as map
use Rattle.kern_model.specs.declared.objects.Object.{Object}
use Rattle.fs_nodes.specs.Nodes.{IsStream, NodeSlots}
use Rattle.fs_dirs.specs.Tree.{TreeView}
use Rattle.fs_dirs.proofs.TreeLabelLemmas.{with_streamed}
use Rattle.fs_dirs.proofs.tree.TreeBuffers.drop_bytes.Goals as goal

pub drop_bytes-requires : goal.drop_bytes-requires
drop_bytes-requires c = record { stream = subst (λ (n : NodeSlots). IsStream n.table.objects c.args.id.now) (ap (λ (t : TreeView). t.nodes) (sym c.self.view_is)) c.requires.stream }

pub invariant_of-self : goal.invariant_of-self
invariant_of-self c =
    let here = subst (λ (n : NodeSlots). IsStream n.table.objects c.args.id.now) (ap (λ (t : TreeView). t.nodes) (sym c.self.view_is)) c.requires.stream in
    let o : Object = here.object in
    with_streamed c.self.invariant c.args.id.now o (record o { bytes = [] }) here.is refl refl (c.drop_bytes.ensures.dropped o here.is) c.drop_bytes.ensures.rest

pub returns-clause-dropped : goal.returns-clause-dropped
returns-clause-dropped c o is =
    c.drop_bytes.ensures.dropped o (ap (λ (t : TreeView). map.get t.nodes.table.objects c.args.id.now) c.self.view_is ∙ is)
    ∙ ap (λ (t : TreeView). map.insert t.nodes.table.objects c.args.id.now (record o { bytes = [] })) c.self.view_is

pub returns-clause-rest : goal.returns-clause-rest
returns-clause-rest c = (c.drop_bytes.ensures.rest ∙ ap (λ (t : TreeView). t.nodes.table.numbers) c.self.view_is, ap (λ (t : TreeView). t.entries) c.self.view_is)
