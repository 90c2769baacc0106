use Rattle.std.specs.Prelude.{◌==◌}
use Rattle.std.specs.Int.{bit_at}
use Rattle.std.proofs.Common.{ap, sym, ◌∙◌}
use Rattle.std.proofs.lemmas.Nat.Bits.{shr_and_one}
use Rattle.cap_bits.specs.Laws.{has-caps_of_word}
use Rattle.cap_bits.specs.CapSet.{has}
use Rattle.cap_bits.proofs.set.CapSet.has.Goals as goal

pub returns : goal.returns
returns c =
    ap (λ x. x == 1) (shr_and_one c.self.inside.word c.number.result ∙ ap (bit_at c.self.inside.word) c.number.ensures.number)
    ∙ sym (has-caps_of_word c.self.inside.word c.args.cap)
    ∙ ap (λ s. has s c.args.cap) c.self.view_is
