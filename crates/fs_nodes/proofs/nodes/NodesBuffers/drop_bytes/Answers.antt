use Rattle.std.specs.Prelude.{[]}
use Rattle.std.proofs.Common.{ap, ◌∙◌}
use Rattle.kern_model.specs.declared.objects.Object.{Object}
use Rattle.fs_nodes.specs.Nodes.{with_bytes}
use Rattle.fs_nodes.proofs.Places.{same_object}
use Rattle.fs_nodes.proofs.nodes.NodesBuffers.drop_bytes.Goals as goal

pub object_mut-requires : goal.object_mut-requires
object_mut-requires c = record { value = c.requires.stream.object; is = c.requires.stream.is }

pub returns-clause-dropped : goal.returns-clause-dropped
returns-clause-dropped c = λ o there.
    ap (with_bytes c.args.self.now.table.objects c.args.id.now c.object_mut.result.now) c.new-empty.ensures
    ∙ ap (λ (x : Object). with_bytes c.args.self.now.table.objects c.args.id.now x [])
    (same_object c.args.self.now.table.objects c.args.id.now c.object_mut.result.now o c.object_mut.ensures.value there)
