use Rattle.std.proofs.Common.{◌∙◌, sym, ap}
use Rattle.std.specs.Option.{option_copied}
use Rattle.kernel_tests.proofs.processes.fork.Goals as goal

pub fork-requires : goal.fork-requires
fork-requires c = record { value = _; is = sym c.find.ensures ∙ ap option_copied c.in-Some.is }
