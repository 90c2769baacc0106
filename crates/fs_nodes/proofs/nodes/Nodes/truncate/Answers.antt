use Rattle.std.specs.Prelude.{List, ℕ, []}
use Rattle.std.proofs.Common.{ap, ◌∙◌}
use Rattle.kern_model.specs.declared.objects.Object.{Object}
use Rattle.fs_nodes.specs.Nodes.{with_object}
use Rattle.fs_nodes.proofs.Places.{same_object}
use Rattle.fs_nodes.proofs.nodes.Nodes.truncate.Goals as goal

pub object_mut-requires : goal.object_mut-requires
object_mut-requires c = record { value = c.requires.object; is = c.requires.is }

pub returns : goal.returns
returns c = λ o there.
    ap (λ (bytes : List ℕ). with_object c.args.self.now.table c.args.id.now (record c.object_mut.result.now { bytes = bytes })) c.new-empty.ensures
    ∙ ap (λ (x : Object). with_object c.args.self.now.table c.args.id.now (record x { bytes = [] }))
    (same_object c.args.self.now.table.objects c.args.id.now c.object_mut.result.now o c.object_mut.ensures.value there)
