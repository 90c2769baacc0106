use Rattle.std.specs.Prelude.{◌≡◌, ◌++◌, OnErr, OnOk}
use Rattle.std.proofs.Common.{ap, sym, ◌∙◌, subst, refl}
use Rattle.std.specs.FinMap as map
use Rattle.kern_model.specs.declared.objects.Object.{Object}
use Rattle.fs_nodes.specs.Nodes.{IsStream, NodeSlots}
use Rattle.fs_dirs.specs.Tree.{TreeView}
use Rattle.fs_dirs.proofs.Answering.{either_way}
use Rattle.fs_dirs.proofs.TreeLabelLemmas.{with_same, with_streamed}
use Rattle.fs_dirs.proofs.tree.TreeBuffers.put_bytes.Goals as goal

pub put_bytes-requires-clause-stream : goal.put_bytes-requires-clause-stream
put_bytes-requires-clause-stream c = subst (λ (n : NodeSlots). IsStream n.table.objects c.args.id.now) (ap (λ (t : TreeView). t.nodes) (sym c.self.view_is)) c.requires.stream

pub put_bytes-requires-clause-room : goal.put_bytes-requires-clause-room
put_bytes-requires-clause-room c o is = c.requires.room o (ap (λ (t : TreeView). map.get t.nodes.table.objects c.args.id.now) (sym c.self.view_is) ∙ is)

pub invariant_of-self : goal.invariant_of-self
invariant_of-self c =
    let here = subst (λ (n : NodeSlots). IsStream n.table.objects c.args.id.now) (ap (λ (t : TreeView). t.nodes) (sym c.self.view_is)) c.requires.stream in
    let o : Object = here.object in
    either_way c.put_bytes.result
    (λ e. with_streamed c.self.invariant c.args.id.now o (record o { bytes = o.bytes ++ c.args.bytes.now }) here.is refl refl e c.put_bytes.ensures.rest)
    (λ e. with_same c.self.invariant e c.put_bytes.ensures.rest)
    (c.put_bytes.ensures.put o here.is) c.put_bytes.ensures.err

pub returns-clause-put : goal.returns-clause-put
returns-clause-put c o is =
    let nodes = ap (λ (t : TreeView). t.nodes) c.self.view_is in
    subst (λ (n : NodeSlots). OnOk c.put_bytes.result (c.put_bytes.new.self.table.objects ≡ map.insert n.table.objects c.args.id.now (record o { bytes = o.bytes ++ c.args.bytes.now }))) nodes
    (c.put_bytes.ensures.put o (ap (λ (n : NodeSlots). map.get n.table.objects c.args.id.now) nodes ∙ is))

pub returns-clause-err : goal.returns-clause-err
returns-clause-err c =
    subst (λ (n : NodeSlots). OnErr c.put_bytes.result (c.put_bytes.new.self.table.objects ≡ n.table.objects)) (ap (λ (t : TreeView). t.nodes) c.self.view_is) c.put_bytes.ensures.err

pub returns-clause-rest : goal.returns-clause-rest
returns-clause-rest c = (c.put_bytes.ensures.rest ∙ ap (λ (t : TreeView). t.nodes.table.numbers) c.self.view_is, ap (λ (t : TreeView). t.entries) c.self.view_is)
