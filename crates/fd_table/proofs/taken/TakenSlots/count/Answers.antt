use Rattle.std.specs.Prelude.{count_by}
use Rattle.std.specs.Int.Count.{ones-le}
use Rattle.std.proofs.Common.{ap, ◌∙◌, rules}
use Rattle.fd_table.proofs.TakenLemmas.{count-bits}
use Rattle.fd_table.proofs.taken.TakenSlots.count.Goals as goal

pub returns-clause-count : goal.returns-clause-count
returns-clause-count c = count-bits 32 c.self.inside.bits (search rules) ∙ ap (count_by (λ taken. taken)) c.self.view_is

pub returns-clause-few : goal.returns-clause-few
returns-clause-few c = ones-le 32 c.self.inside.bits (search rules)
