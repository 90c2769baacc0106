use Rattle.std.proofs.Common.{◌≡◌, ◌∙◌, subst, sym}
use Rattle.kern_model.specs.Boot.{boot, boot_processes, boot_recs_from}
use Rattle.kern_model.specs.Valid.{IsValid}
use Rattle.iso_laws.proofs.Laws.{valid_boot}
use Rattle.kern_core.proofs.BootLemmas.{all_can_start}
use Rattle.kern_core.proofs.kernel.Kernel.boot_from.Goals as goal

pub take_processes-requires : goal.take_processes-requires
take_processes-requires c = all_can_start c.args.world c.requires.world c.in_ok-shared.shared c.in_ok-shared.procs c.in_ok-shared.ensures.state c.in_ok-shared.ensures.procs

pub new-requires : goal.new-requires
new-requires c =
    let booted : c.take_processes.new.shared ≡ boot c.args.world = c.in_ok-recs.ensures.state ∙ (λ i. boot_processes (c.in_ok-shared.ensures.state i) (c.in_ok-shared.ensures.procs i)) in
    subst IsValid (sym booted) (valid_boot c.args.world c.requires.world)

pub returns-clause-state : goal.returns-clause-state
returns-clause-state c = c.new.ensures.state ∙ c.in_ok-recs.ensures.state ∙ (λ i. boot_processes (c.in_ok-shared.ensures.state i) (c.in_ok-shared.ensures.procs i))

pub returns-clause-recs : goal.returns-clause-recs
returns-clause-recs c = c.in_ok-recs.ensures.recs ∙ (λ i. boot_recs_from (c.in_ok-shared.ensures.state i) (c.in_ok-shared.ensures.procs i))
