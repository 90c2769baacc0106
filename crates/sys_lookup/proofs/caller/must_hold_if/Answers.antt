use Rattle.std.specs.Prelude.{None}
use Rattle.sys_lookup.specs.Shared.{check_on}
use Rattle.sys_lookup.proofs.AskLemmas.{asked, not_asked}
use Rattle.sys_lookup.proofs.caller.must_hold_if.Goals as goal

pub returns-then-asked : goal.returns-then-asked
returns-then-asked c = asked c.if-asked.true c.must_hold.ensures

pub returns-else-asked : goal.returns-else-asked
returns-else-asked c = not_asked c.args.checks.now (check_on c.args.name c.args.holds None c.args.object.now c.args.place) c.if-asked.false
