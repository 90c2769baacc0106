use denote.Enum.Bare.{same_true}
use Rattle.std.proofs.Common.{◌≡◌, ap, sym, rules}
use Rattle.kern_model.specs.declared.objects.Kind.TheVariants.{Fifo}
use Rattle.kern_model.specs.Kinds.{is_stream}
use Rattle.kern_model.specs.contracts.objects.Kind.{the_type}
use Rattle.kernel_tests.proofs.pipes.take_ends.Goals as goal

pub pipe_take-requires : goal.pipe_take-requires
pipe_take-requires c = record {
  object = c.in-Some.object.now;
  is = sym c.in-Some.ensures;
  stream = let kind : c.in-Some.object.now.kind ≡ Fifo = same_true the_type (search rules) _ _ (sym c.if-eq.ensures) in ap is_stream kind;
}
