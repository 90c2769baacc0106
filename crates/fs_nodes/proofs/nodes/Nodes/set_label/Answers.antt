use Rattle.std.proofs.Common.{ap}
use Rattle.kern_model.specs.declared.objects.Object.{Object}
use Rattle.fs_nodes.specs.Nodes.{with_object}
use Rattle.fs_nodes.proofs.Places.{same_object}
use Rattle.fs_nodes.proofs.nodes.Nodes.set_label.Goals as goal

pub returns : goal.returns
returns c = λ o there.
    ap (λ (x : Object). with_object c.args.self.now.table c.args.id.now (record x { label = c.args.label }))
    (same_object c.args.self.now.table.objects c.args.id.now c.object_mut.result.now o c.object_mut.ensures.value there)
