use Rattle.std.proofs.Common.{◌∙◌}
use Rattle.cap_bits.specs.CapSet.{minus_of}
use Rattle.cap_bits.proofs.Words.{word_minus}
use Rattle.cap_bits.proofs.set.CapSet.minus.Goals as goal

pub returns : goal.returns
returns c =
    word_minus c.self.inside.word c.other.inside.word c.other.invariant
    ∙ (λ i. minus_of (c.self.view_is i) (c.other.view_is i))
