use Rattle.std.proofs.Common.{◌∙◌}
use Rattle.cap_bits.specs.CapSet.{is_within}
use Rattle.cap_bits.proofs.Words.{word_within}
use Rattle.cap_bits.proofs.set.CapSet.within.Goals as goal

pub returns : goal.returns
returns c =
    word_within c.self.inside.word c.other.inside.word c.self.invariant ∙ (λ i. is_within (c.self.view_is i) (c.other.view_is i))
