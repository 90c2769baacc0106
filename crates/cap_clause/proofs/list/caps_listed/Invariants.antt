use Rattle.std.proofs.Common.{◌≡◌, ◌+◌, length}
use Rattle.std.specs.Prelude.{fold}
use Rattle.std.specs.Option.{option_copied}
use Rattle.fs_path.specs.Split.{pieces_at, pieces_of_rest, bytes_from}
use Rattle.cap_clause.specs.Clauses.{parse_list, first_fault, piece_fault, with_piece, unless_fault}
use Rattle.cap_clause.proofs.list.caps_listed.Given as goal

abbrev pub invariant-loop-left : goal.invariant-loop-left
invariant-loop-left l =
    let pieces = pieces_at l.at (pieces_of_rest 44 (option_copied l.left)) in
    record {
      parsed : parse_list l.start l.list ≡ unless_fault (first_fault piece_fault pieces) (fold with_piece l.caps pieces);
      place : l.at + bytes_from (option_copied l.left) ≡ l.start + length l.list + 1;
    }

abbrev pub decreases-loop-left : goal.decreases-loop-left
decreases-loop-left l = bytes_from (option_copied l.left)
