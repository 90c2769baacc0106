use Rattle.std.proofs.Common.{sym, ◌∙◌, ap, Some}
use Rattle.script_text.proofs.StepLemmas.{step_answer_played}
use Rattle.script_text.proofs.step_line.read_step.Goals as goal

pub returns-clause-item : goal.returns-clause-item
returns-clause-item c =
    step_answer_played c.args.policy.now c.args.line.now c.items.result.now c.step_of_words.result c.if-line-gt-MAX_LINE.false (sym c.is_blank.ensures ∙ c.if-is_blank.false)
    (sym c.in_ok-words_of.ensures.parsed ∙ c.in_ok-words.ensures.ok_part ∙ ap (λ ws. Some ws) (sym c.items.ensures)) c.step_of_words.ensures
