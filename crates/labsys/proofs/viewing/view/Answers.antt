use Rattle.labsys.proofs.ViewedLemmas.{view_named, view_refused}
use Rattle.labsys.proofs.viewing.view.Goals as goal

pub returns-in-Some : goal.returns-in-Some
returns-in-Some g c = λ trail. view_named c.args.word c.args.opened.read c.args.opened.lines c.view_from.result _ _ _ _ _ _ c.in-Some.is c.label_named.ensures (c.view_from.ensures trail)

pub returns-in-None : goal.returns-in-None
returns-in-None g c = λ trail. view_refused c.args.word c.args.opened.read c.args.opened.lines c.end_without_world.result _ _ _ _ c.in-None.is c.label_named.ensures (c.end_without_world.ensures.writes _ trail) c.end_without_world.ensures.ending
