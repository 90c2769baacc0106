use Rattle.kern_model.proofs.LabelMaps.{at_some}
use Rattle.kern_model.proofs.label_map.LabelMap.insert.Goals as goal

pub returns-in-Some-clause-ok : goal.returns-in-Some-clause-ok
returns-in-Some-clause-ok g c = at_some c.in-Some.is (c.get_mut.follows.holds c.args.value)
