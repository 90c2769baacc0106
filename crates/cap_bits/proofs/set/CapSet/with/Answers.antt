use Rattle.std.proofs.Common.{ap, ◌∙◌}
use Rattle.cap_bits.specs.CapSet.{with_cap}
use Rattle.cap_bits.proofs.Words.{word_with, with_short}
use Rattle.cap_bits.proofs.set.CapSet.with.Goals as goal

pub invariant_of-result : goal.invariant_of-result
invariant_of-result c = with_short c.self.inside.word c.number.result c.self.invariant c.number.ensures.few

pub returns : goal.returns
returns c =
    word_with c.self.inside.word c.number.result c.args.cap c.number.ensures.number ∙ ap (λ s. with_cap s c.args.cap) c.self.view_is
