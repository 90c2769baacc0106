use Rattle.std.proofs.Common.{None, ◌^◌, sym, ◌∙◌, arith}
use Rattle.aud_record.proofs.Numbers.{number_below}
use Rattle.aud_record.proofs.CanonicalLemmas.{fitted}
use Rattle.aud_record.proofs.canonical.canonical_u8.Goals as goal

pub returns-in_default : goal.returns-in_default
returns-in_default c = sym (number_below 256 (2 ^ 64) c.args.word.now None (omega arith) (omega arith) (sym c.in_default.is ∙ c.in_ok-number.ensures))

pub returns : goal.returns
returns c = c.ok.ensures.value ∙ fitted 256 (2 ^ 64) c.args.word.now c.in-Some.number c.try_from.result (omega arith) (omega arith) (sym c.in-Some.is ∙ c.in_ok-number.ensures) c.try_from.ensures
