use Rattle.std.specs.Prelude.{◌≡◌, ◌==◌, Bool, List, false, get_or, nat_lt}
use Rattle.std.proofs.Common.{ap, sym, ◌∙◌, arith}
use Rattle.std.proofs.lemmas.Bool.Decides.{nat_tests}
use Rattle.std.proofs.lemmas.List.{get_or_past}
use Rattle.std.proofs.lemmas.Nat.Bits.{shr_and_one}
use Rattle.fd_table.specs.Taken.{lowest_bits}
use Rattle.fd_table.proofs.TakenLemmas.{get_or-bits, length-bits}
use Rattle.fd_table.proofs.taken.TakenSlots.has.Goals as goal

pub returns-then-slot-lt-MAX_DESCRIPTORS-clause-taken : goal.returns-then-slot-lt-MAX_DESCRIPTORS-clause-taken
returns-then-slot-lt-MAX_DESCRIPTORS-clause-taken c =
    let bits = c.self.inside.bits in
    let slot = c.args.slot in
    ap (λ b. b == 1) (shr_and_one bits slot) ∙ sym (get_or-bits 32 bits slot false (omega arith)) ∙ ap (λ (taken : List Bool). get_or taken slot false) c.self.view_is

pub returns-else-slot-lt-MAX_DESCRIPTORS-clause-taken : goal.returns-else-slot-lt-MAX_DESCRIPTORS-clause-taken
returns-else-slot-lt-MAX_DESCRIPTORS-clause-taken c =
    let bits = c.self.inside.bits in
    let slot = c.args.slot in
    let long = length-bits 32 bits in
    let no : nat_lt slot 32 ≡ false = grind (arith, nat_tests) in
    no ∙ sym (get_or_past (lowest_bits 32 bits) slot false (omega (arith, long))) ∙ ap (λ (taken : List Bool). get_or taken slot false) c.self.view_is
