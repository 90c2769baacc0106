use Rattle.std.proofs.Common.{◌∙◌, ap, length}
use Rattle.kern_model.specs.State.{State}
use Rattle.kern_core.specs.Kernel.{state_of}
use Rattle.iso_laws.proofs.Laws.{top_boot}
use Rattle.labsys.proofs.DrillLemmas.{line_is}
use Rattle.labsys.proofs.InputLemmas.{reads_within}
use Rattle.labsys.proofs.drilling.drill_world.Goals as goal

pub keep_script-requires-clause-top : goal.keep_script-requires-clause-top
keep_script-requires-clause-top g c = ap (λ (s : State). s.top) c.in_ok-kernel.ensures.state ∙ top_boot c.args.opened.read.world ∙ c.requires.top

pub returns : goal.returns
returns g c =
    let did = c.in_ok-kept.ensures.keeps in
    let living = ap length (c.items.ensures ∙ c.in_ok-living.ensures) in
    record {
      reads = reads_within _ _ _ _ did.taken did.takes;
      is_line = c.in_ok-text.ensures
          ∙ line_is c.args.number c.args.opened.read (state_of c.in_ok-kernel.kernel) c.in_ok-kernel.ensures.state (state_of c.keep_script.new.kernel) _ _ _ c.new.ensures _ c.in_ok-kept.kept did.did c.tally-tally.ensures _ living;
    }
