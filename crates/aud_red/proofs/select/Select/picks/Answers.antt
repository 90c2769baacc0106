use Rattle.aud_red.proofs.PickLemmas.{by_tests}
use Rattle.aud_red.proofs.select.Select.picks.Goals as goal

pub returns-clause-tests : goal.returns-clause-tests
returns-clause-tests c = by_tests c.args.self.now c.args.rec.now c.holds_of.result c.holds_of.ensures
