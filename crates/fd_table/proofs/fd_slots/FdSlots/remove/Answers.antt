use Rattle.std.specs.Prelude.{Bool, List, false, length}
use Rattle.std.specs.FinMap as map
use Rattle.std.proofs.Common.{ap, ◌∙◌, arith}
use Rattle.std.proofs.lemmas.List.{length-set}
use Rattle.fd_table.specs.Fds.{Fds, fds_in, slots_of}
use Rattle.fd_table.proofs.Slots.{fds-clear, length-slots, slots-clear}
use Rattle.fd_table.proofs.fd_slots.FdSlots.remove.Goals as goal

pub invariant_of-self : goal.invariant_of-self
invariant_of-self c = ap length c.remove.ensures ∙ length-set c.self.inside.taken c.args.fd false ∙ c.self.invariant

pub returns : goal.returns
returns c =
    let inside = c.self.inside in
    let long = c.self.invariant in
    let within = length-slots inside.taken inside.labels inside.counts in
    ap (λ (taken : List Bool). fds_in (slots_of taken inside.labels inside.counts)) c.remove.ensures
    ∙ ap fds_in (slots-clear inside.taken inside.labels inside.counts c.args.fd)
    ∙ fds-clear (slots_of inside.taken inside.labels inside.counts) c.args.fd (omega (arith, long, within))
    ∙ ap (λ (fds : Fds). map.remove fds c.args.fd) c.self.view_is
