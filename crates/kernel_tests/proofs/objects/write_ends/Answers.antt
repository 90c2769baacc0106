use denote.Enum.Bare.{same_true}
use Rattle.std.proofs.Common.{sym, rules}
use Rattle.kern_model.specs.contracts.objects.Kind.{the_type}
use Rattle.kernel_tests.proofs.objects.write_ends.Goals as goal

pub write_at-requires : goal.write_at-requires
write_at-requires c = record {
  object = c.in-Some.object.now;
  is = sym c.in-Some.ensures;
  file = same_true the_type (search rules) _ _ (sym c.if-eq.ensures);
}
