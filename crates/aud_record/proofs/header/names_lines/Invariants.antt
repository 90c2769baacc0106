use Rattle.std.proofs.Common.{◌≡◌, ◌+◌, ◌≤◌, drop, length}
use Rattle.lab_text.specs.Lists.{all_lists}
use Rattle.lab_text.specs.Policy.{no_names}
use Rattle.aud_record.specs.Header.{names_lines}
use Rattle.aud_record.proofs.header.names_lines.Given as goal

abbrev pub invariant-loop-place : goal.invariant-loop-place
invariant-loop-place l = record {
  lines : names_lines 2 all_lists no_names l.text ≡ names_lines (l.place + 2) (drop l.place all_lists) l.names l.rest;
  shorter : length l.rest ≤ length l.text;
}
