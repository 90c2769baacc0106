use Rattle.std.proofs.Common.{◌∙◌}
use Rattle.labsys.proofs.GeneratedLemmas.{all_given, fewer_left, next_alone, nothing_given, piece_fails, piece_given, piece_memory}
use Rattle.labsys.proofs.generating.generate.Goals as goal

pub loop-piece-init : goal.loop-piece-init
loop-piece-init g c = record { gave = nothing_given _ _ _ c.new-generator.ensures; empty = c.new-piece.ensures.items }

pub returns-in_err-put_next : goal.returns-in_err-put_next
returns-in_err-put_next g c = piece_memory _ _ _ _ c.loop-piece.invariant.gave _ c.from_residual.ensures.1

pub returns-in_err-answer : goal.returns-in_err-answer
returns-in_err-answer g c =
    piece_fails _ _ _ _ c.loop-piece.invariant.gave _ (c.deref.ensures.value ∙ next_alone _ _ _ c.in_ok-put_next.ensures.appended c.loop-piece.invariant.empty) _ _ _ c.in_err-answer.ensures c.from_residual-in_err-answer.ensures.1

pub loop-piece-smaller : goal.loop-piece-smaller
loop-piece-smaller g c = fewer_left _ _ c.in_ok-put_next.ensures.left _ c.in_ok-put_next.ensures.given c.if-branch.true

pub loop-piece-preserved : goal.loop-piece-preserved
loop-piece-preserved g c = record {
  gave = piece_given _ _ _ _ c.loop-piece.invariant.gave _ (c.deref.ensures.value ∙ next_alone _ _ _ c.in_ok-put_next.ensures.appended c.loop-piece.invariant.empty) _ _ c.in_ok-put_next.ensures.left c.in_ok-answer.ensures;
  empty = c.clear.ensures.items;
}

pub returns : goal.returns
returns g c = all_given _ _ _ _ c.loop-piece.invariant.gave _ c.in_ok-put_next.ensures.given c.if-branch.false
