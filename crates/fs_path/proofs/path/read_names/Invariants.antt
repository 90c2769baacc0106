use Rattle.std.proofs.Common.{◌≡◌, ◌+◌, ◌++◌, length}
use Rattle.std.specs.List.{filter}
use Rattle.std.specs.Option.{option_copied}
use Rattle.fs_path.specs.Path.{written_len}
use Rattle.fs_path.specs.PathText.{components_of, counts, first_fault, names_of}
use Rattle.fs_path.specs.Split.{pieces_of_rest, pieces_at}
use Rattle.fs_path.proofs.path.read_names.Given as goal

abbrev pub invariant-loop-left : goal.invariant-loop-left
invariant-loop-left l =
    let components = filter counts (pieces_at l.at (pieces_of_rest 47 (option_copied l.left))) in
    record {
      names : names_of (components_of l.text) ≡ l.names ++ names_of components;
      fault : first_fault 0 (components_of l.text) ≡ first_fault (length l.names) components;
      place : l.at + written_len (pieces_of_rest 47 (option_copied l.left)) ≡ length l.text + 1;
    }

abbrev pub decreases-loop-left : goal.decreases-loop-left
decreases-loop-left l = written_len (pieces_of_rest 47 (option_copied l.left))
