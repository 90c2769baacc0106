use Rattle.iso_laws.proofs.Laws.{kept_step, valid_step}
use Rattle.iso_laws.proofs.kept_step.Goals as goal

pub returns-clause-kept : goal.returns-clause-kept
returns-clause-kept c = kept_step

pub returns-clause-valid : goal.returns-clause-valid
returns-clause-valid c = valid_step
