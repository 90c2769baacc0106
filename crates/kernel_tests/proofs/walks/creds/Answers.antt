use Rattle.cap_bits.specs.Laws.{has-within}
use Rattle.kernel_tests.proofs.walks.creds.Goals as goal

pub invariant_of-result : goal.invariant_of-result
invariant_of-result c = has-within c.none-none.result c.none-none.result (λ q there. there)
