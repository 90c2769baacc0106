use Rattle.std.proofs.Common.{◌≡◌, ◌++◌}
use Rattle.std.specs.Option.{option_copied}
use Rattle.fs_path.specs.Split.{pieces_of_rest, bytes_from}
use Rattle.aud_record.proofs.header.words_in.Given as goal

abbrev pub invariant-loop-left : goal.invariant-loop-left
invariant-loop-left l = l.words ++ pieces_of_rest 32 (option_copied l.left) ≡ pieces_of_rest 32 (option_copied l.rest)

abbrev pub decreases-loop-left : goal.decreases-loop-left
decreases-loop-left l = bytes_from (option_copied l.left)
