use Rattle.std.proofs.Common.{◌∙◌, ap, refl}
use Rattle.std.specs.Prelude.{None}
use Rattle.io_ends.specs.Ends.{sink_view}
use Rattle.kern_model.specs.State.{State}
use Rattle.kern_core.specs.Kernel.{state_of}
use Rattle.iso_laws.proofs.Laws.{top_boot}
use Rattle.lab_engine.proofs.Sending.{not_a_read}
use Rattle.labsys.proofs.PlayLemmas.{boot_fails, end_fails, head_fails, script_fails, world_played}
use Rattle.labsys.proofs.playing.play.Goals as goal

pub play-requires-clause-top : goal.play-requires-clause-top
play-requires-clause-top g c = ap (λ (s : State). s.top) c.in_ok-kernel.ensures.state ∙ top_boot c.args.opened.read.world ∙ c.requires.top

pub returns-in_err-kernel : goal.returns-in_err-kernel
returns-in_err-kernel g c = boot_fails c.args.opened.read _ refl _ refl _ _ _ _ c.from_residual.ensures.1

pub returns-in_err-write_head : goal.returns-in_err-write_head
returns-in_err-write_head g c =
    head_fails c.args.opened.read c.items.result.now (c.items.ensures ∙ c.in_ok-kernel.ensures.recs) (state_of c.in_ok-kernel.kernel) c.in_ok-kernel.ensures.state _ _ _ _
    _ _ (c.in_err-write_head.ensures.writes _ _) (not_a_read _ _ _ _ _ _ (c.in_err-write_head.ensures.writes 0 (sink_view None 0))) c.from_residual-in_err-write_head.ensures.1

pub returns-in_err-played : goal.returns-in_err-played
returns-in_err-played g c =
    let did = c.in_err-played.ensures in
    script_fails c.args.opened.read c.items.result.now (c.items.ensures ∙ c.in_ok-kernel.ensures.recs) (state_of c.in_ok-kernel.kernel) c.in_ok-kernel.ensures.state _ _ _ _
    _ (c.in_ok-write_head.ensures.writes _ _) _ _ did.taken did.takes _ _ did.did c.from_residual-in_err-played.ensures.1

pub returns-in_err-finish : goal.returns-in_err-finish
returns-in_err-finish g c =
    let did = c.in_ok-played.ensures in
    end_fails c.args.opened.read c.items.result.now (c.items.ensures ∙ c.in_ok-kernel.ensures.recs) (state_of c.in_ok-kernel.kernel) c.in_ok-kernel.ensures.state _ _ _ _
    _ (c.in_ok-write_head.ensures.writes _ _) _ _ did.taken did.takes _ c.in_ok-write_head.ensures.readable _ _ c.in_ok-played.played _ did.did
    _ (c.in_err-finish.ensures _ _) (not_a_read _ _ _ _ _ _ (c.in_err-finish.ensures 0 (sink_view None 0))) c.from_residual-in_err-finish.ensures.1

pub returns : goal.returns
returns g c =
    let did = c.in_ok-played.ensures in
    world_played c.args.opened.read c.items.result.now (c.items.ensures ∙ c.in_ok-kernel.ensures.recs) (state_of c.in_ok-kernel.kernel) c.in_ok-kernel.ensures.state _ _ _ _
    _ (c.in_ok-write_head.ensures.writes _ _) _ _ did.taken did.takes _ c.in_ok-write_head.ensures.readable _ _ c.in_ok-played.played _ did.did
    refl (c.in_ok-finish.ensures _ _)
