use Rattle.sys_lookup.proofs.AskLemmas.{asked, not_asked}
use Rattle.sys_lookup.proofs.asking.must_if.Goals as goal

pub returns-then-asked : goal.returns-then-asked
returns-then-asked c = asked c.if-asked.true c.must.ensures

pub returns-else-asked : goal.returns-else-asked
returns-else-asked c = not_asked c.args.checks.now c.args.check.now c.if-asked.false
