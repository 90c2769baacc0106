use Rattle.std.proofs.Common.{◌≡◌, ◌+◌, ◌≤◌}
use Rattle.std.specs.Option.{option_copied}
use Rattle.lab_lattice.specs.Cats.{no_cats}
use Rattle.fs_path.specs.Split.{pieces_of_rest, bytes_from}
use Rattle.lab_text.specs.Text.{first_unknown}
use Rattle.lab_text.proofs.NameLemmas.{gathered}
use Rattle.lab_text.proofs.text.cats_named.Given as goal

abbrev pub invariant-loop-rest : goal.invariant-loop-rest
invariant-loop-rest l = record {
  cats : gathered l.policy.cats no_cats (pieces_of_rest 44 (option_copied l.list)) ≡ gathered l.policy.cats l.cats (pieces_of_rest 44 (option_copied l.rest));
  unknown : first_unknown l.policy.cats l.start (pieces_of_rest 44 (option_copied l.list)) ≡ first_unknown l.policy.cats l.at (pieces_of_rest 44 (option_copied l.rest));
  room : l.at + bytes_from (option_copied l.rest) ≤ l.start + bytes_from (option_copied l.list);
}

abbrev pub decreases-loop-rest : goal.decreases-loop-rest
decreases-loop-rest l = bytes_from (option_copied l.rest)
