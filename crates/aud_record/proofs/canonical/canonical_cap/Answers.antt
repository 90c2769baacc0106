use Rattle.std.proofs.Common.{sym, ap, ◌∙◌}
use Rattle.lab_text.specs.Names.{same_bytes}
use Rattle.aud_record.proofs.NameLemmas.{no_cap, one_cap}
use Rattle.aud_record.proofs.canonical.canonical_cap.Goals as goal

pub returns-in_err-cap : goal.returns-in_err-cap
returns-in_err-cap c = c.from_residual.ensures ∙ sym (no_cap c.args.word.now (sym c.from_name.ensures.found ∙ c.in_err-cap.was))

pub returns : goal.returns
returns c = c.then_some.ensures ∙ one_cap c.args.word.now c.in_ok-cap.cap c.eq.result (sym c.from_name.ensures.found ∙ c.in_ok-cap.was) (c.eq.ensures ∙ ap (same_bytes c.args.word.now) c.name.ensures)
