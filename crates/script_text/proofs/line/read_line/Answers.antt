use Rattle.std.proofs.Common.{sym, ◌∙◌, ap, Some}
use Rattle.script_text.proofs.LineLemmas.{answer_played}
use Rattle.script_text.proofs.line.read_line.Goals as goal

pub returns-clause-item : goal.returns-clause-item
returns-clause-item c =
    answer_played c.args.policy.now c.args.line.now c.items.result.now c.item_of.result c.if-line-gt-MAX_LINE.false (sym c.is_blank.ensures ∙ c.if-is_blank.false)
    (sym c.in_ok-words_of.ensures.parsed ∙ c.in_ok-words.ensures.ok_part ∙ ap (λ ws. Some ws) (sym c.items.ensures)) c.item_of.ensures
