use Rattle.lab_engine.proofs.CheckLemmas.{checks_count, checks_script}
use Rattle.lab_engine.proofs.checking.check_script.Goals as goal

pub returns-clause-checks : goal.returns-clause-checks
returns-clause-checks g c = checks_script _ _ _ _ _ _ _ _ _ _ c.handle_script.ensures.handles

pub returns-clause-counts : goal.returns-clause-counts
returns-clause-counts g c = checks_count _ _ _ _ _ _ _ _ _ c.handle_script.ensures.handles
