use Rattle.ever_caps.proofs.EverRuns.{never_boot, never_end, never_exercised}
use Rattle.ever_caps.proofs.never_had.Goals as goal

pub returns-clause-boot : goal.returns-clause-boot
returns-clause-boot c = never_boot

pub returns-clause-end : goal.returns-clause-end
returns-clause-end c = never_end

pub returns-clause-recs : goal.returns-clause-recs
returns-clause-recs c = never_exercised
