use Rattle.world_text.proofs.LineLemmas.{label_known}
use Rattle.world_text.proofs.values.label_of.Goals as goal

pub returns-in-Ok : goal.returns-in-Ok
returns-in-Ok c = label_known c.args.policy.now c.args.word.now c.in-Ok.label c.in-Ok.ensures.parsed
