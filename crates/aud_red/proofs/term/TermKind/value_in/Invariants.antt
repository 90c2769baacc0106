use Rattle.std.proofs.Common.{◌≡◌}
use Rattle.std.specs.Option.{option_copied}
use Rattle.fs_path.specs.Split.{pieces, pieces_of_rest, bytes_from}
use Rattle.aud_red.specs.Select.{value_in}
use Rattle.aud_red.proofs.term.TermKind.value_in.Given as goal

abbrev pub invariant-loop-left : goal.invariant-loop-left
invariant-loop-left l = value_in l.self (pieces 59 l.text) ≡ value_in l.self (pieces_of_rest 59 (option_copied l.left))

abbrev pub decreases-loop-left : goal.decreases-loop-left
decreases-loop-left l = bytes_from (option_copied l.left)
