use Rattle.iso_laws.proofs.Laws.{kept_boot, valid_boot}
use Rattle.iso_laws.proofs.kept_boot.Goals as goal

pub returns-clause-kept : goal.returns-clause-kept
returns-clause-kept c = kept_boot

pub returns-clause-valid : goal.returns-clause-valid
returns-clause-valid c = valid_boot
