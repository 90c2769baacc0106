use Rattle.std.proofs.Common.{◌∙◌, refl, sym}
use Rattle.labsys.proofs.PerformLemmas.{left_alone}
use Rattle.labsys.proofs.RunLemmas.{command_ran, no_command, no_memory}
use Rattle.labsys.proofs.UntouchedLemmas.{untouched_alone}
use Rattle.labsys.proofs.running.run.Goals as goal

pub returns-in-Some-clause-runs : goal.returns-in-Some-clause-runs
returns-in-Some-clause-runs g c = command_ran _ _ (sym c.in-Ok.ensures.command ∙ c.in-Some.is) c.perform.result _ c.status_of.ensures _ _ c.perform.ensures.did c.perform.ensures.read_fault c.perform.ensures.trail_fault

pub returns-in-Some-clause-left_alone : goal.returns-in-Some-clause-left_alone
returns-in-Some-clause-left_alone g c = left_alone _ _ _ _ _ (sym c.in-Ok.ensures.command ∙ c.in-Some.is) c.perform.ensures.alone

pub returns-in-None-clause-runs : goal.returns-in-None-clause-runs
returns-in-None-clause-runs g c = no_command _ (sym c.in-Ok.ensures.command ∙ c.in-None.is) _

-- ---- where memory runs out before a command is known

pub returns-in_default-clause-runs : goal.returns-in_default-clause-runs
returns-in_default-clause-runs g c = no_memory _ _

pub returns-in_default-clause-left_alone : goal.returns-in_default-clause-left_alone
returns-in_default-clause-left_alone g c = untouched_alone _ _ _ _ refl refl refl
