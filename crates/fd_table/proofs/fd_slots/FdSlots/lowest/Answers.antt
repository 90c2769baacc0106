use Rattle.std.specs.FinMap as map
use Rattle.std.specs.Option.{option_flatten}
use Rattle.std.specs.List.{slice_get}
use Rattle.std.proofs.Common.{ap, sym, ◌∙◌, arith}
use Rattle.kern_model.specs.Descriptors.{lowest_free}
use Rattle.fd_table.specs.Fds.{Fds, slots_of}
use Rattle.fd_table.proofs.Slots.{count-seen, first_is_free, get-fds, lowest-fds, lowest-taken}
use Rattle.fd_table.proofs.fd_slots.FdSlots.lowest.Goals as goal

pub lowest_free-requires : goal.lowest_free-requires
lowest_free-requires c =
    let count = count-seen c.self.inside.taken c.self.inside.labels c.self.inside.counts c.args.self.now c.self.view_is in
    omega (arith, count)

pub returns-clause-lowest : goal.returns-clause-lowest
returns-clause-lowest c =
    let inside = c.self.inside in
    c.lowest_free.ensures.lowest ∙ sym (lowest-taken inside.taken inside.labels inside.counts)
    ∙ sym (lowest-fds (slots_of inside.taken inside.labels inside.counts)) ∙ ap lowest_free c.self.view_is

pub returns-clause-free : goal.returns-clause-free
returns-clause-free c =
    let inside = c.self.inside in
    let slots = slots_of inside.taken inside.labels inside.counts in
    let is = c.lowest_free.ensures.lowest ∙ sym (lowest-taken inside.taken inside.labels inside.counts) in
    ap (λ (fds : Fds). map.get fds c.lowest_free.result) (sym c.self.view_is) ∙ get-fds slots c.lowest_free.result
    ∙ ap (λ k. option_flatten (slice_get slots k)) is ∙ first_is_free slots
