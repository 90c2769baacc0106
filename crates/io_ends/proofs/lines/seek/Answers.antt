use Rattle.std.proofs.Common.{◌≤◌, List, ℕ, ap, length, refl, subst}
use Rattle.io_ends.specs.Lines.{HoldsPart}
use Rattle.io_ends.proofs.SeekLemmas.{seeking_begins, seeking_reads, held_no_line}
use Rattle.io_ends.proofs.lines.seek.Goals as goal

pub loop-look-init : goal.loop-look-init
loop-look-init g c = record { seeking = seeking_begins _ _ _ _ c.requires.few; small = c.requires.small; quiet = λ _. refl }

pub loop-look-preserved : goal.loop-look-preserved
loop-look-preserved g c =
    let part = subst (λ (held : List ℕ). HoldsPart held c.args.room × (length held ≤ c.args.room)) c.held.ensures.value c.in-Part.ensures in
    let seeking = c.loop-look.invariant.seeking in
    record {
      seeking = seeking_reads _ _ _ _ _ _ _ _ seeking part.0 part.1 c.in_ok-fill.field-0 _ _ _ c.in_ok-fill.ensures.fills c.in_ok-fill.ensures.chunk c.in_ok-fill.ensures.counts.still _ (ap length c.held-searched.ensures.value);
      small = c.requires.small;
      quiet = λ line. absurd (held_no_line _ _ _ _ _ _ _ _ seeking part.0 line);
    }
