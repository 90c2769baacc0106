use Rattle.std.specs.Prelude.{◌≡◌, Bool, List, length, set, true}
use Rattle.std.specs.FinMap as map
use Rattle.std.proofs.Common.{ap, ◌∙◌, arith, rules}
use Rattle.std.proofs.lemmas.List.{length-set}
use Rattle.fd_table.specs.Fds.{Fds, fds_in, slots_of}
use Rattle.fd_table.proofs.Slots.{fds-set, length-slots, slots-set}
use Rattle.fd_table.proofs.fd_slots.FdSlots.set.Goals as goal

pub invariant_of-self : goal.invariant_of-self
invariant_of-self c = ap length c.insert.ensures ∙ length-set c.self.inside.taken c.args.fd true ∙ c.self.invariant

pub returns : goal.returns
returns c =
    let inside = c.self.inside in
    let long = c.self.invariant in
    let labels : length inside.labels ≡ 32 = search rules in
    let counts : length inside.counts ≡ 32 = search rules in
    let within = length-slots inside.taken inside.labels inside.counts in
    ap (λ (taken : List Bool). fds_in (slots_of taken (set inside.labels c.args.fd c.args.did.label) (set inside.counts c.args.fd c.args.did.n))) c.insert.ensures
    ∙ ap fds_in (slots-set inside.taken inside.labels inside.counts c.args.fd c.args.did (omega (arith, labels)) (omega (arith, counts)))
    ∙ fds-set (slots_of inside.taken inside.labels inside.counts) c.args.fd (omega (arith, long, within)) c.args.did
    ∙ ap (λ (fds : Fds). map.insert fds c.args.fd c.args.did) c.self.view_is
