use Rattle.std.specs.Prelude.{length, min, take, drop, ◌++◌}
use Rattle.std.proofs.Common.{ap, ◌∙◌}
use Rattle.kern_model.specs.declared.objects.Object.{Object}
use Rattle.fs_nodes.specs.Nodes.{with_bytes}
use Rattle.fs_nodes.proofs.Places.{same_object}
use Rattle.fs_nodes.proofs.nodes.NodesBuffers.take_bytes.Goals as goal

pub object_mut-requires : goal.object_mut-requires
object_mut-requires c = record { value = c.requires.stream.object; is = c.requires.stream.is }

pub returns-clause-count : goal.returns-clause-count
returns-clause-count c = λ o there. c.take_first.ensures.count
    ∙ ap (λ (x : Object). min (length x.bytes) (length c.args.buf.now)) (same_object c.args.self.now.table.objects c.args.id.now c.object_mut.result.now o c.object_mut.ensures.value there)

pub returns-clause-taken : goal.returns-clause-taken
returns-clause-taken c = λ o there. c.take_first.ensures.taken
    ∙ ap (λ (x : Object). take c.take_first.result x.bytes ++ drop c.take_first.result c.args.buf.now)
    (same_object c.args.self.now.table.objects c.args.id.now c.object_mut.result.now o c.object_mut.ensures.value there)

pub returns-clause-left : goal.returns-clause-left
returns-clause-left c = λ o there.
    ap (with_bytes c.args.self.now.table.objects c.args.id.now c.object_mut.result.now) c.take_first.ensures.rest
    ∙ ap (λ (x : Object). with_bytes c.args.self.now.table.objects c.args.id.now x (drop c.take_first.result x.bytes))
    (same_object c.args.self.now.table.objects c.args.id.now c.object_mut.result.now o c.object_mut.ensures.value there)
