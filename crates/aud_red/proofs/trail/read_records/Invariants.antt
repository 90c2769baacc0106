use Rattle.std.proofs.Common.{◌≡◌, ◌+◌, ◌≤◌, length}
use Rattle.fs_path.specs.Split.{pieces}
use Rattle.aud_record.specs.Header.{bound_number}
use Rattle.aud_red.proofs.TrailLemmas.{onto}
use Rattle.aud_red.specs.Trail.{parse_recs}
use Rattle.aud_red.proofs.trail.read_records.Given as goal

abbrev pub invariant-loop-rest : goal.invariant-loop-rest
invariant-loop-rest l = record {
  parsed : parse_recs l.policy (bound_number l.policy + 1) 0 (pieces 10 l.text) ≡ onto l.recs (parse_recs l.policy l.number l.low (pieces 10 l.rest));
  numbered : l.number + length l.rest ≤ length l.text + 6;
}

abbrev pub decreases-loop-rest : goal.decreases-loop-rest
decreases-loop-rest l = length l.rest
