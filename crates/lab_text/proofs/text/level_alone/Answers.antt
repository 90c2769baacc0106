use Rattle.std.proofs.Common.{sym, ◌∙◌}
use Rattle.lab_text.proofs.Parsed.{level_parsed}
use Rattle.lab_text.proofs.text.level_alone.Goals as goal

pub returns-clause-label : goal.returns-clause-label
returns-clause-label c =
    level_parsed c.args.policy.now c.args.text.now c.in_ok-level.level c.empty.result c.highest.result (sym c.level_named.ensures.place ∙ c.in_ok-level.was) c.in_ok-level.ensures.name
    c.empty.ensures c.highest.ensures
