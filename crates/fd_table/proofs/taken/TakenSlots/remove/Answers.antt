use Rattle.std.specs.Prelude.{◌==◌, Bool, List, false, set}
use Rattle.std.proofs.Common.{ap, ◌∙◌, w32}
use Rattle.std.proofs.lemmas.Nat.Bits.{bit_at_clear_other, bit_at_clear_same}
use Rattle.fd_table.proofs.TakenLemmas.{bits-set}
use Rattle.fd_table.proofs.taken.TakenSlots.remove.Goals as goal

pub returns : goal.returns
returns c =
    let bits = c.self.inside.bits in
    let slot = c.args.slot in
    bits-set 32 bits _ slot false c.requires (ap (λ b. b == 1) (bit_at_clear_same w32 bits slot c.requires)) (λ k below differs. bit_at_clear_other w32 bits slot c.requires k below differs)
    ∙ ap (λ (taken : List Bool). set taken slot false) c.self.view_is
