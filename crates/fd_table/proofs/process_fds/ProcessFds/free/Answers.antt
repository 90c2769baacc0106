use Rattle.std.proofs.Common.{sym, ◌∙◌}
use Rattle.std.specs.FinMap as map
use Rattle.kern_model.proofs.MapLemmas.{never_some}
use Rattle.num_table.proofs.Outcomes.{at_some}
use Rattle.fd_table.specs.Fds.{Fds}
use Rattle.fd_table.proofs.Looking.{fds_changed}
use Rattle.fd_table.proofs.process_fds.ProcessFds.free.Goals as goal

pub unreachable-requires : goal.unreachable-requires
unreachable-requires c = never_some (map.get c.args.self.now c.args.who.now) c.requires.process.value (sym c.in_default.ensures.value) c.requires.process.is

pub returns : goal.returns
returns c =
    at_some c.in-Some.is (c.slots_mut.follows.holds c.remove.new.self)
    ∙ fds_changed c.args.self.now c.args.who.now c.in-Some.slots.now c.in-Some.ensures.value (λ (fds : Fds). map.remove fds c.args.fd) c.remove.new.self c.remove.ensures
