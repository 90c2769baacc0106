use Rattle.std.proofs.Common.{List, ℕ, ◌++◌, ap, ◌∙◌}
use Rattle.lab_text.specs.Text.{label_text, parse_label}
use Rattle.lab_text.proofs.Parsed.{parse_text}
use Rattle.lab_text.proofs.text.mac_to_text.Goals as goal

pub returns-clause-round_trip : goal.returns-clause-round_trip
returns-clause-round_trip c = λ valid.
    ap (parse_label c.args.policy.now) (c.in_ok-put_label.ensures ∙ ap (λ (before : List ℕ). before ++ label_text c.args.policy.now c.args.label.now) c.new-text.ensures.items)
    ∙ parse_text c.args.policy.now c.args.label.now c.levels-names.ensures.policy valid
