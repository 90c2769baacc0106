use Rattle.std.proofs.Common.{rules}
use Rattle.num_table.proofs.Outcomes.{some_match}
use Rattle.proc_table.proofs.DrawnLemmas.{drawn_next, made_drawn}
use Rattle.proc_table.proofs.procs.Procs.fork.Goals as goal

pub invariant_of-self-2 : goal.invariant_of-self-2
invariant_of-self-2 c =
    let who = some_match _ _ c.next.result c.in_ok-who.who c.in_ok-who.ensures.ok_part c.next.ensures in
    let next = drawn_next c.self.inside.table.numbers c.label-label.result c.in_ok-who.who who.0 in
    (made_drawn c.self.inside.table.living c.self.inside.table.numbers c.self.invariant.0 c.in_ok-who.who next _ c.enter.new.self.living c.enter.new.self.numbers c.in_ok-enter.ensures.living c.in_ok-enter.ensures.numbers, c.enter.ensures.kept)

pub invariant_of-self : goal.invariant_of-self
invariant_of-self c = search rules

pub enter-requires-clause-absent : goal.enter-requires-clause-absent
enter-requires-clause-absent c = search rules

pub returns-clause-made : goal.returns-clause-made
returns-clause-made c = search rules

pub returns-in_err-enter-clause-err : goal.returns-in_err-enter-clause-err
returns-in_err-enter-clause-err c = search rules
