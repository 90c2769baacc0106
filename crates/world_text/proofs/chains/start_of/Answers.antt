use Rattle.world_text.proofs.ChainLemmas.{along_link}
use Rattle.world_text.proofs.chains.start_of.Goals as goal

pub returns-then-links-count : goal.returns-then-links-count
returns-then-links-count c = along_link c.args.heads.now c.args.links.now _ c.args.hash c.args.count c.requires.chained c.if-count-links.true c.if-links-count.true
