use Rattle.std.specs.Prelude.{◌≡◌, true}
use Rattle.std.proofs.Common.{sym, subst}
use Rattle.cap_bits.specs.CapSet.{is_within, no_caps}
use Rattle.cap_bits.specs.Laws.{has-within}
use Rattle.cap_bits.specs.declared.state.CapState.{CapState}
use Rattle.kernel_tests.proofs.processes.creds.Goals as goal

pub invariant_of-result : goal.invariant_of-result
invariant_of-result c = subst (λ (s : CapState). is_within s.e s.p ≡ true) (sym c.none.ensures) (has-within no_caps no_caps (λ q there. there))
