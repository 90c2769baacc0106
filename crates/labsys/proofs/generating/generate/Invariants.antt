use Rattle.std.proofs.Common.{◌≡◌, [], length}
use Rattle.gen_world.specs.Text.{gen_text}
use Rattle.labsys.proofs.GeneratedLemmas.{Gave}
use Rattle.labsys.proofs.generating.generate.Given as goal

abbrev pub invariant-loop-piece : goal.invariant-loop-piece
invariant-loop-piece g l = record {
  gave : Gave (gen_text l.lines) l.generator (g.K.Sink.view l.initial.out) (g.K.Sink.view l.out);
  empty : l.piece.items ≡ [];
}

abbrev pub decreases-loop-piece : goal.decreases-loop-piece
decreases-loop-piece g l = length l.generator
