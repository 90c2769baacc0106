use Rattle.std.specs.Prelude.{◌≡◌, length}
use Rattle.std.specs.FinMap as map
use Rattle.std.proofs.Common.{refl, ap, sym, ◌∙◌, arith, rules}
use Rattle.fd_table.specs.Fds.{Fds, slots_of}
use Rattle.fd_table.proofs.Slots.{free_slot, get-fds, taken_slot}
use Rattle.fd_table.proofs.fd_slots.FdSlots.get.Goals as goal

pub returns-then-not-has-clause-did : goal.returns-then-not-has-clause-did
returns-then-not-has-clause-did c =
    let inside = c.self.inside in
    let free = free_slot inside.taken inside.labels inside.counts c.args.fd (sym c.if-not-has.ensures.taken) in
    sym (get-fds (slots_of inside.taken inside.labels inside.counts) c.args.fd ∙ free) ∙ ap (λ (fds : Fds). map.get fds c.args.fd) c.self.view_is

pub returns-clause-did : goal.returns-clause-did
returns-clause-did c =
    let inside = c.self.inside in
    let labels : length inside.labels ≡ 32 = search rules in
    let below = c.if-not-has.ensures.below refl in
    let taken = taken_slot inside.taken inside.labels inside.counts c.args.fd c.index-self-fd.result (sym c.if-not-has.ensures.taken) (omega (arith, labels, below)) in
    sym (get-fds (slots_of inside.taken inside.labels inside.counts) c.args.fd ∙ taken) ∙ ap (λ (fds : Fds). map.get fds c.args.fd) c.self.view_is
