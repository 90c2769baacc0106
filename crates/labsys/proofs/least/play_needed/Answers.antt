use Rattle.std.proofs.Common.{◌∙◌, ap}
use Rattle.kern_model.specs.State.{State}
use Rattle.kern_core.specs.Kernel.{state_of}
use Rattle.iso_laws.proofs.Laws.{top_boot}
use Rattle.lab_engine.proofs.OpenLemmas.{memory_counts_none}
use Rattle.labsys.proofs.LeastLemmas.{boot_fails, script_played}
use Rattle.labsys.proofs.least.play_needed.Goals as goal

pub returns-in_err-kernel-clause-needs : goal.returns-in_err-kernel-clause-needs
returns-in_err-kernel-clause-needs g c = boot_fails c.args.read.now c.from_residual.result _ _ c.from_residual.ensures.1

pub returns-in_err-kernel-clause-counts : goal.returns-in_err-kernel-clause-counts
returns-in_err-kernel-clause-counts g c = λ o t. memory_counts_none c.from_residual.result c.from_residual.ensures.1 _

pub keep_script-requires-clause-top : goal.keep_script-requires-clause-top
keep_script-requires-clause-top g c = ap (λ (s : State). s.top) c.in_ok-kernel.ensures.state ∙ top_boot c.args.read.now.world ∙ c.requires.world.top

pub returns-clause-needs : goal.returns-clause-needs
returns-clause-needs g c = script_played c.args.read.now c.keep_script.result (state_of c.in_ok-kernel.kernel) _ _ _ _ _ _ c.in_ok-kernel.ensures.state c.none.ensures c.keep_script.ensures.keeps
