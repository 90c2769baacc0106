use Rattle.std.proofs.Common.{◌∙◌, ap, refl}
use Rattle.kern_model.specs.State.{State}
use Rattle.kern_core.specs.Kernel.{state_of}
use Rattle.iso_laws.proofs.Laws.{top_boot}
use Rattle.labsys.proofs.ViewedLemmas.{view_cut, view_memory, view_stops, view_written}
use Rattle.labsys.proofs.viewing.view_from.Goals as goal

pub play-requires-clause-top : goal.play-requires-clause-top
play-requires-clause-top g c = ap (λ (s : State). s.top) c.in_ok-kernel.ensures.state ∙ top_boot c.args.opened.read.world ∙ c.requires.top

pub returns-in_err-kernel : goal.returns-in_err-kernel
returns-in_err-kernel g c = λ trail. view_memory c.args.label c.args.opened.read _ _ _ _ c.from_residual.ensures.1

pub returns-in_err-played : goal.returns-in_err-played
returns-in_err-played g c = λ trail.
    let did = c.in_err-played.ensures in
    view_stops c.args.label c.args.opened.read (state_of c.in_ok-kernel.kernel) c.in_ok-kernel.ensures.state _ _ _ _ _ did.taken did.takes _ _ _ _ trail _ did.did c.from_residual-in_err-played.ensures.1

pub returns-in_err-finish_view : goal.returns-in_err-finish_view
returns-in_err-finish_view g c = λ trail.
    let did = c.in_ok-played.ensures in
    let end = c.in_err-finish_view.ensures in
    view_cut c.args.label c.args.opened.read (state_of c.in_ok-kernel.kernel) c.in_ok-kernel.ensures.state _ _ _ _ _ did.taken did.takes _ _ _ _ trail _ _ _ c.in_ok-played.played did.did
    _ (λ j k is. end.below j k is _ trail) (λ no. end.others no _ trail) c.from_residual-in_err-finish_view.ensures.1

pub returns : goal.returns
returns g c = λ trail.
    let did = c.in_ok-played.ensures in
    let end = c.in_ok-finish_view.ensures in
    view_written c.args.label c.args.opened.read (state_of c.in_ok-kernel.kernel) c.in_ok-kernel.ensures.state _ _ _ _ _ did.taken did.takes _ _ _ _ trail _ _ _ c.in_ok-played.played did.did
    refl (λ j k is. end.below j k is _ trail) (λ no. end.others no _ trail)
