use Rattle.least_caps.proofs.NarrowedRuns.{narrowed_end, narrowed_exercises, narrowed_records, narrowed_replies, narrowed_sets}
use Rattle.least_caps.proofs.narrowed_run.Goals as goal

pub returns-clause-replies : goal.returns-clause-replies
returns-clause-replies c = narrowed_replies

pub returns-clause-exercises : goal.returns-clause-exercises
returns-clause-exercises c = narrowed_exercises

pub returns-clause-sets : goal.returns-clause-sets
returns-clause-sets c = narrowed_sets

pub returns-clause-records : goal.returns-clause-records
returns-clause-records c = narrowed_records

pub returns-clause-end : goal.returns-clause-end
returns-clause-end c = narrowed_end
