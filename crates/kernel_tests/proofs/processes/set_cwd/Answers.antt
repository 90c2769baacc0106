use Rattle.std.proofs.Common.{◌∙◌, sym, ap}
use Rattle.std.specs.Option.{option_copied}
use Rattle.kernel_tests.proofs.processes.set_cwd.Goals as goal

pub set_cwd-requires : goal.set_cwd-requires
set_cwd-requires c = record { value = _; is = sym c.find.ensures ∙ ap option_copied c.in-Some.is }
