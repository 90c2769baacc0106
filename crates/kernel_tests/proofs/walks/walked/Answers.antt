use Rattle.std.proofs.Common.{IsSome, refl, subst, sym}
use Rattle.sys_lookup.specs.Callers.{IsLiving}
use Rattle.kernel_tests.proofs.walks.walked.Goals as goal

pub walk-requires : goal.walk-requires
walk-requires c = record { living = subst IsSome (sym (subst IsLiving c.in-Some.ensures.0 c.in-Some.ensures.1)) refl }
