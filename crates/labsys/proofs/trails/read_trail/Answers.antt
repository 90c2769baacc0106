use Rattle.std.proofs.Common.{sym, ◌∙◌, ap}
use Rattle.aud_red.specs.Trail.{parse_trail}
use Rattle.lab_engine.proofs.ReadLemmas.{counts_memory}
use Rattle.labsys.specs.Trails.{trail_by}
use Rattle.labsys.proofs.TrailLemmas.{read_counts, read_found, read_too_much, refused_by}
use Rattle.labsys.proofs.trails.read_trail.Goals as goal

pub returns-in_err-whole-clause-counts : goal.returns-in_err-whole-clause-counts
returns-in_err-whole-clause-counts g c = read_counts c.from_residual.result _ c.from_residual.ensures.1 _ _ c.in_err-whole.ensures.counts

pub returns-then-whole-clause-reads : goal.returns-then-whole-clause-reads
returns-then-whole-clause-reads g c = read_too_much _ _ _ c.in_ok-whole.ensures.reads c.if-whole.true

pub returns-in-Ok-clause-reads : goal.returns-in-Ok-clause-reads
returns-in-Ok-clause-reads g c = read_found _ _ _ c.in_ok-whole.ensures.reads c.if-whole.false _ (ap (λ x. trail_by (parse_trail x)) (sym c.items.ensures) ∙ ap trail_by c.in-Ok.ensures.cause)

pub returns-in_err-ending_of_error-in-Err-clause-counts : goal.returns-in_err-ending_of_error-in-Err-clause-counts
returns-in_err-ending_of_error-in-Err-clause-counts g c = counts_memory _ c.from_residual-in_err-ending_of_error-in-Err.ensures.1 _ _ c.in_ok-whole.ensures.counts

pub returns-clause-reads : goal.returns-clause-reads
returns-clause-reads g c =
    read_found _ _ _ c.in_ok-whole.ensures.reads c.if-whole.false _
    (ap (λ x. trail_by (parse_trail x)) (sym c.items.ensures) ∙ refused_by _ c.in-Err.error _ c.in-Err.ensures.cause c.in_ok-ending_of_error-in-Err.ensures.0 c.in_ok-ending_of_error-in-Err.ensures.1)
