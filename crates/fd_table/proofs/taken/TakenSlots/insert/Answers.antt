use Rattle.std.specs.Prelude.{◌==◌, Bool, List, true, set}
use Rattle.std.proofs.Common.{ap, ◌∙◌, w32}
use Rattle.std.proofs.lemmas.Nat.Bits.{bit_at_set_other, bit_at_set_same}
use Rattle.fd_table.proofs.TakenLemmas.{bits-set}
use Rattle.fd_table.proofs.taken.TakenSlots.insert.Goals as goal

pub returns : goal.returns
returns c =
    let bits = c.self.inside.bits in
    let slot = c.args.slot in
    bits-set 32 bits _ slot true c.requires (ap (λ b. b == 1) (bit_at_set_same w32 bits slot c.requires)) (λ k below differs. bit_at_set_other w32 bits slot c.requires k differs)
    ∙ ap (λ (taken : List Bool). set taken slot true) c.self.view_is
