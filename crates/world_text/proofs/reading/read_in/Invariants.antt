use Rattle.std.proofs.Common.{◌≡◌, ◌+◌, ◌≤◌, length}
use Rattle.fs_path.specs.Split.{pieces}
use Rattle.world_text.specs.Reading.{read_lines, read_text}
use Rattle.world_text.proofs.reading.read_in.Given as goal

abbrev pub invariant-loop-line : goal.invariant-loop-line
invariant-loop-line l = record {
  says : read_text l.fn.due l.text ≡ read_lines l.number l.expecting (pieces 10 l.rest);
  numbered : l.number + length l.rest ≤ length l.text + 1;
}

abbrev pub decreases-loop-line : goal.decreases-loop-line
decreases-loop-line l = length l.rest
