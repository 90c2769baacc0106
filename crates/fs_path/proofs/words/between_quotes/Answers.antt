use Rattle.std.proofs.Common.{◌∙◌}
use Rattle.fs_path.proofs.WordLemmas.{items_step}
use Rattle.fs_path.proofs.words.between_quotes.Goals as goal

pub loop-left-preserved : goal.loop-left-preserved
loop-left-preserved c = c.loop-left.invariant ∙ items_step c.loop-left.left.now c.in-Some.more.now c.loop-left.bytes c.push.new.self c.in-Some.byte c.if-first-eq34.false c.in-Some.ensures c.in_ok-push.ensures.ok
