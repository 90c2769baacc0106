use Rattle.std.proofs.Common.{◌∙◌, ap, inr}
use Rattle.lab_lattice.specs.Label.{Label}
use Rattle.kern_model.specs.State.{State}
use Rattle.kern_core.specs.Kernel.{state_of}
use Rattle.iso_laws.proofs.Laws.{top_boot}
use Rattle.lab_engine.proofs.Sending.{out_of_memory, prefix_nothing}
use Rattle.sched_progs.specs.Programs.{are_programs}
use Rattle.labsys.proofs.SchedulePlays.{all_readable, calls_cut, calls_written, cut_in_calls, cut_in_head, head_cut, memory_out}
use Rattle.labsys.proofs.scheduling.run_schedule.Goals as goal

pub report_programs-requires-clause-top : goal.report_programs-requires-clause-top
report_programs-requires-clause-top g c = ap (λ (s : State). s.top) c.in_ok-kernel.ensures.state ∙ top_boot c.args.read.world ∙ c.requires.top

pub report_programs-requires-clause-programs : goal.report_programs-requires-clause-programs
report_programs-requires-clause-programs g c =
    ap (λ (t : Label). are_programs t c.args.schedule.now.programs) (ap (λ (s : State). s.top) c.in_ok-kernel.ensures.state ∙ top_boot c.args.read.world ∙ c.requires.top)
    ∙ c.requires.plays.programs

pub returns-in_err-kernel-clause-writes : goal.returns-in_err-kernel-clause-writes
returns-in_err-kernel-clause-writes g c = λ source. out_of_memory _ _ _ c.from_residual.ensures.1

pub returns-in_err-kernel-clause-readable : goal.returns-in_err-kernel-clause-readable
returns-in_err-kernel-clause-readable g c = λ source. inr (prefix_nothing _ _ _ _ _)

pub returns-in_err-write_head-clause-writes : goal.returns-in_err-write_head-clause-writes
returns-in_err-write_head-clause-writes g c = λ source.
    head_cut c.args.read c.args.schedule.now c.items.result.now (c.items.ensures ∙ c.in_ok-kernel.ensures.recs) (state_of c.in_ok-kernel.kernel) c.in_ok-kernel.ensures.state _ _
    _ _ (c.in_err-write_head.ensures.writes source _) c.from_residual-in_err-write_head.ensures.1

pub returns-in_err-write_head-clause-readable : goal.returns-in_err-write_head-clause-readable
returns-in_err-write_head-clause-readable g c = λ source.
    cut_in_head c.args.read c.args.schedule.now c.items.result.now (c.items.ensures ∙ c.in_ok-kernel.ensures.recs) (state_of c.in_ok-kernel.kernel) c.in_ok-kernel.ensures.state
    _ _ _ (c.in_err-write_head.ensures.writes source _)

pub returns-in_err-living-clause-writes : goal.returns-in_err-living-clause-writes
returns-in_err-living-clause-writes g c = λ source.
    memory_out c.args.read c.args.schedule.now c.items.result.now (c.items.ensures ∙ c.in_ok-kernel.ensures.recs) (state_of c.in_ok-kernel.kernel) c.in_ok-kernel.ensures.state _ _
    _ (c.in_ok-write_head.ensures.writes source _) c.from_residual-in_err-living.ensures.1

pub returns-in_err-living-clause-readable : goal.returns-in_err-living-clause-readable
returns-in_err-living-clause-readable g c = λ source.
    cut_in_calls c.args.read c.args.schedule.now c.items.result.now (c.items.ensures ∙ c.in_ok-kernel.ensures.recs) (state_of c.in_ok-kernel.kernel) c.in_ok-kernel.ensures.state
    _ _ _ (c.in_ok-write_head.ensures.writes source _) (prefix_nothing _ _ _ _ _)

pub returns-in_err-count-clause-writes : goal.returns-in_err-count-clause-writes
returns-in_err-count-clause-writes g c = λ source.
    calls_cut c.args.read c.args.schedule.now c.items.result.now (c.items.ensures ∙ c.in_ok-kernel.ensures.recs) (state_of c.in_ok-kernel.kernel) c.in_ok-kernel.ensures.state _ _
    _ (c.in_ok-write_head.ensures.writes source _) _ _ (c.in_err-count.ensures.writes source) c.from_residual-in_err-count.ensures.1

pub returns-in_err-count-clause-readable : goal.returns-in_err-count-clause-readable
returns-in_err-count-clause-readable g c = λ source.
    cut_in_calls c.args.read c.args.schedule.now c.items.result.now (c.items.ensures ∙ c.in_ok-kernel.ensures.recs) (state_of c.in_ok-kernel.kernel) c.in_ok-kernel.ensures.state
    _ _ _ (c.in_ok-write_head.ensures.writes source _) (c.in_err-count.ensures.writes source).sends

pub returns-clause-writes : goal.returns-clause-writes
returns-clause-writes g c = λ source.
    calls_written c.args.read c.args.schedule.now c.items.result.now (c.items.ensures ∙ c.in_ok-kernel.ensures.recs) (state_of c.in_ok-kernel.kernel) c.in_ok-kernel.ensures.state _ _
    _ (c.in_ok-write_head.ensures.writes source _) _ _ (c.in_ok-count.ensures.writes source) _ _ c.in_ok-count.ensures.state c.in_ok-count.ensures.count (c.finish.ensures source _)

pub returns-clause-readable : goal.returns-clause-readable
returns-clause-readable g c = λ source.
    all_readable c.args.read c.args.schedule.now c.items.result.now (c.items.ensures ∙ c.in_ok-kernel.ensures.recs) (state_of c.in_ok-kernel.kernel) c.in_ok-kernel.ensures.state
    _ _ c.in_ok-write_head.ensures.readable c.in_ok-count.ensures.readable
