use Rattle.std.proofs.Common.{◌≡◌, drop}
use Rattle.aud_red.specs.Lineage.{recs_in, lineage_of, lineage_from, is_in, caps_in}
use Rattle.aud_red.proofs.lineage.lineage_of.Given as goal

-- the records that are left give the answer of all
abbrev pub invariant-loop-place : goal.invariant-loop-place
invariant-loop-place l =
    lineage_of l.bound (recs_in l.recs) ≡ lineage_from l.bound (is_in l.known) (caps_in l.known) l.place (recs_in (drop l.place l.recs))
