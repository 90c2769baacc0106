use Rattle.std.proofs.Common.{◌≡◌, ◌+◌, ◌-◌, ◌≤◌, ◌^◌, length}
use Rattle.io_ends.specs.Lines.{HoldsLine}
use Rattle.io_ends.proofs.SeekLemmas.{Seeking}
use Rattle.io_ends.proofs.lines.seek.Given as goal

abbrev pub invariant-loop-look : goal.invariant-loop-look
invariant-loop-look g l = record {
  seeking : Seeking l.initial.buffer l.buffer l.room l.searched (g.S.Source.view l.initial.source).left (g.S.Source.view l.source).left (g.S.Source.view l.initial.source).faults (g.S.Source.view l.source).faults;
  small : l.room ≤ 2 ^ 24;
  quiet : HoldsLine l.initial.buffer l.room → l.source ≡ l.initial.source;
}

abbrev pub decreases-loop-look : goal.decreases-loop-look
decreases-loop-look g l = l.room + 1 - length l.buffer
