use Rattle.std.specs.Prelude.{◌≡◌, length, not}
use Rattle.std.specs.List.{position_or_len}
use Rattle.std.proofs.Common.{ap, sym, ◌∙◌, arith, rules}
use Rattle.fd_table.proofs.TakenLemmas.{free_within, length-bits, lowest-bits}
use Rattle.fd_table.proofs.taken.TakenSlots.lowest_free.Goals as goal

pub returns-clause-lowest : goal.returns-clause-lowest
returns-clause-lowest c = c.trailing_ones.ensures ∙ lowest-bits c.self.inside.bits (search rules) ∙ ap (position_or_len not) c.self.view_is

pub returns-clause-below : goal.returns-clause-below
returns-clause-below c =
    let is = c.trailing_ones.ensures ∙ lowest-bits c.self.inside.bits (search rules) ∙ ap (position_or_len not) c.self.view_is in
    let long : length c.args.self.now ≡ 32 = ap length (sym c.self.view_is) ∙ length-bits 32 c.self.inside.bits in
    let within = free_within c.args.self.now (omega arith) in
    omega (arith, is, within, long)
