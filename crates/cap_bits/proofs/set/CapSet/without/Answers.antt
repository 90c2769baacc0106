use Rattle.std.proofs.Common.{ap, ◌∙◌}
use Rattle.cap_bits.specs.CapSet.{without_cap}
use Rattle.cap_bits.proofs.Words.{word_without}
use Rattle.cap_bits.proofs.set.CapSet.without.Goals as goal

pub returns : goal.returns
returns c =
    word_without c.self.inside.word c.number.result c.args.cap c.number.ensures.number
    ∙ ap (λ s. without_cap s c.args.cap) c.self.view_is
