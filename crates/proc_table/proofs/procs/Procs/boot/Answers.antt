use Rattle.num_table.proofs.Outcomes.{some_match}
use Rattle.proc_table.proofs.DrawnLemmas.{drawn_next, made_drawn}
use Rattle.proc_table.proofs.procs.Procs.boot.Goals as goal

pub invariant_of-self-2 : goal.invariant_of-self-2
invariant_of-self-2 c =
    let who = some_match _ _ c.next.result c.in_ok-who.who c.in_ok-who.ensures.ok_part c.next.ensures in
    let next = drawn_next c.self.inside.table.numbers c.creds.inside.label c.in_ok-who.who who.0 in
    (made_drawn c.self.inside.table.living c.self.inside.table.numbers c.self.invariant.0 c.in_ok-who.who next _ c.enter.new.self.living c.enter.new.self.numbers c.in_ok-enter.ensures.living c.in_ok-enter.ensures.numbers, c.enter.ensures.kept)
