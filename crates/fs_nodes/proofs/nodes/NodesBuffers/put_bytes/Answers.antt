use Rattle.std.specs.Prelude.{◌++◌}
use Rattle.std.proofs.Common.{ap, ◌∙◌}
use Rattle.std.proofs.lemmas.Result.{on_err_weaker, on_ok_weaker}
use Rattle.kern_model.specs.declared.objects.Object.{Object}
use Rattle.fs_nodes.specs.Nodes.{with_bytes}
use Rattle.fs_nodes.proofs.Places.{same_bytes, same_object}
use Rattle.fs_nodes.proofs.nodes.NodesBuffers.put_bytes.Goals as goal

pub object_mut-requires : goal.object_mut-requires
object_mut-requires c = record { value = c.requires.stream.object; is = c.requires.stream.is }

pub returns-clause-put : goal.returns-clause-put
returns-clause-put c = λ o there. on_ok_weaker c.extend_from_slice.result
    (λ put. ap (with_bytes c.args.self.now.table.objects c.args.id.now c.object_mut.result.now) put
    ∙ ap (λ (x : Object). with_bytes c.args.self.now.table.objects c.args.id.now x (x.bytes ++ c.args.bytes.now))
    (same_object c.args.self.now.table.objects c.args.id.now c.object_mut.result.now o c.object_mut.ensures.value there))
    c.extend_from_slice.ensures.ok

pub returns-clause-err : goal.returns-clause-err
returns-clause-err c = on_err_weaker c.extend_from_slice.result
    (same_bytes c.args.self.now.table.objects c.args.id.now c.object_mut.result.now c.object_mut.ensures.value c.extend_from_slice.new.self)
    c.extend_from_slice.ensures.err
