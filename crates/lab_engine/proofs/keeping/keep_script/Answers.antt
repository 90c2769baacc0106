use Rattle.lab_engine.proofs.KeepLemmas.{counts_fault, counts_none, keeps_part, keeps_script}
use Rattle.lab_engine.proofs.ReporterLemmas.{plays_from}
use Rattle.lab_engine.proofs.keeping.keep_script.Goals as goal

pub returns-in_err-played-clause-keeps : goal.returns-in_err-played-clause-keeps
returns-in_err-played-clause-keeps g c = keeps_part _ _ _ _ _ _ _ _ _ _ _ _ _ _ c.from_residual.ensures.1
    (plays_from _ _ c.new-reporter.ensures.policy _ _ _ _ _ _ _ _ _ _ _ _ c.new-reporter.ensures.report _ c.in_err-played.ensures.plays)

pub returns-in_err-played-clause-counts : goal.returns-in_err-played-clause-counts
returns-in_err-played-clause-counts g c = counts_fault _ _ c.from_residual.ensures.1 _ _ c.in_err-played.ensures.plays.did.stops.one_fault

pub returns-clause-keeps : goal.returns-clause-keeps
returns-clause-keeps g c = keeps_script _ _ _ _ _ _ _ _ _ _ _ _ _
    (plays_from _ _ c.new-reporter.ensures.policy _ _ _ _ _ _ _ _ _ _ _ _ c.new-reporter.ensures.report _ c.in_ok-played.ensures.plays)

pub returns-clause-counts : goal.returns-clause-counts
returns-clause-counts g c = counts_none _ _ c.in_ok-played.ensures.plays.did.sends.no_fault
