use Rattle.std.proofs.Common.{◌∙◌}
use Rattle.cap_bits.specs.CapSet.{meet_of}
use Rattle.cap_bits.proofs.Words.{word_meet}
use Rattle.cap_bits.proofs.set.CapSet.meet.Goals as goal

pub returns : goal.returns
returns c = word_meet c.self.inside.word c.other.inside.word ∙ (λ i. meet_of (c.self.view_is i) (c.other.view_is i))
