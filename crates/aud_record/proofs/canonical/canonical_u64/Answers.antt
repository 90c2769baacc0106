use Rattle.std.proofs.Common.{sym, ◌∙◌, subst}
use Rattle.std.specs.Str.{IsUtf8}
use Rattle.std.specs.Fmt.{decimal}
use Rattle.std.proofs.lemmas.Fmt.{IsAscii-decimal}
use Rattle.std.proofs.lemmas.Str.{IsUtf8-from_ascii}
use Rattle.aud_record.proofs.Numbers.{no_number}
use Rattle.aud_record.proofs.CanonicalLemmas.{unparsed, parsed}
use Rattle.aud_record.proofs.canonical.canonical_u64.Goals as goal

pub returns-in_default : goal.returns-in_default
returns-in_default c = sym (no_number _ c.args.word.now (λ n small text. c.in_default.ensures.cases.0 (subst IsUtf8 (sym text) (IsUtf8-from_ascii (decimal n) (IsAscii-decimal n small)))))

pub returns-in_default-parse : goal.returns-in_default-parse
returns-in_default-parse c = unparsed c.args.word.now c.in-Ok.digits.now c.parse.result _ c.in-Ok.ensures.cases.0 c.parse.ensures.value.0 c.in_default-parse.is

pub returns : goal.returns
returns c =
    c.then_some.ensures
    ∙ parsed c.args.word.now c.in-Ok.digits.now c.as_bytes.result.now c.parse.result c.in-Ok-parse.number c.eq.result c.in-Ok.ensures.cases.0 c.parse.ensures.value.0 c.in-Ok-parse.is (c.as_bytes.ensures.value ∙ c.in_ok-text.ensures.ok) c.eq.ensures
