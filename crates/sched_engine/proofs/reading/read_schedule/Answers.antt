use Rattle.std.proofs.Common.{refl, ◌∙◌, ap}
use Rattle.lab_engine.specs.Counts.{Counts, counts}
use Rattle.lab_engine.proofs.WorldProgress.{counts_once}
use Rattle.sched_engine.proofs.Progress.{fails_plays, found_plays, line_fewer, reading_begins, reading_ends, reading_fails, reading_goes_on}
use Rattle.sched_engine.proofs.reading.read_schedule.Goals as goal

pub loop-after-init : goal.loop-after-init
loop-after-init g c = record { progress = reading_begins _ _ _ c.requires; still = refl }

pub read_schedule_line-requires : goal.read_schedule_line-requires
read_schedule_line-requires g c = c.loop-after.invariant.progress.more

pub returns-in_err-after-clause-reads : goal.returns-in_err-after-clause-reads
returns-in_err-after-clause-reads g c = reading_fails _ _ _ _ _ _ _ _ c.loop-after.invariant.progress _ _ c.from_residual.ensures.1 c.in_err-after.ensures.reads

pub returns-in_err-after-clause-plays : goal.returns-in_err-after-clause-plays
returns-in_err-after-clause-plays g c = fails_plays _ _ _ c.from_residual.ensures.1

pub returns-in_err-after-clause-counts : goal.returns-in_err-after-clause-counts
returns-in_err-after-clause-counts g c = λ o t. counts_once c.from_residual.result _ c.from_residual.ensures.1 _ _ _ (ap (λ n. counts n o t) c.loop-after.invariant.still) (c.in_err-after.ensures.counts o t)

pub loop-after-smaller : goal.loop-after-smaller
loop-after-smaller g c = line_fewer _ _ _ _ _ _ _ c.in_ok-after.ensures.reads c.in-GoesOn.after c.in-GoesOn.is

pub loop-after-preserved : goal.loop-after-preserved
loop-after-preserved g c = record {
  progress = reading_goes_on _ _ _ _ _ _ _ _ c.loop-after.invariant.progress c.in-GoesOn.after _ c.in-GoesOn.is c.in_ok-after.ensures.reads;
  still = ap (λ (k : Counts). k.source) (c.in_ok-after.ensures.counts 0 0) ∙ c.loop-after.invariant.still;
}

pub returns-in-Ended-clause-reads : goal.returns-in-Ended-clause-reads
returns-in-Ended-clause-reads g c = reading_ends _ _ _ _ _ _ _ _ c.loop-after.invariant.progress c.in-Ended.found _ c.in-Ended.is c.in_ok-after.ensures.reads

pub returns-in-Ended-clause-plays : goal.returns-in-Ended-clause-plays
returns-in-Ended-clause-plays g c = found_plays _ _ _ _ _ _ _ _ c.loop-after.invariant.progress c.in-Ended.found _ c.in-Ended.is c.in_ok-after.ensures.reads

pub returns-in-Ended-clause-counts : goal.returns-in-Ended-clause-counts
returns-in-Ended-clause-counts g c = λ o t. c.in_ok-after.ensures.counts o t ∙ ap (λ n. counts n o t) c.loop-after.invariant.still
