use Rattle.std.proofs.Common.{◌∙◌}
use Rattle.std.proofs.lemmas.Nat.{or_lt}
use Rattle.cap_bits.specs.CapSet.{union_of}
use Rattle.cap_bits.proofs.Words.{word_union}
use Rattle.cap_bits.proofs.set.CapSet.union.Goals as goal

pub invariant_of-result : goal.invariant_of-result
invariant_of-result c = or_lt 18 c.self.inside.word c.other.inside.word c.self.invariant c.other.invariant

pub returns : goal.returns
returns c = word_union c.self.inside.word c.other.inside.word ∙ (λ i. union_of (c.self.view_is i) (c.other.view_is i))
