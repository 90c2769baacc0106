use Rattle.std.proofs.Common.{◌≡◌, ◌+◌, drop, false}
use Rattle.aud_record.specs.Words.{quoted_len}
use Rattle.aud_record.proofs.words.quoted_len.Given as goal

abbrev pub invariant-loop-at : goal.invariant-loop-at
invariant-loop-at l = l.at + quoted_len l.escaped (drop l.at l.text) ≡ quoted_len false l.text
