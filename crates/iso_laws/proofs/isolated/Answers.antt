use Rattle.iso_laws.proofs.Laws.{isolated_prefix, isolated_whole, isolated_end, isolated_inside}
use Rattle.iso_laws.proofs.isolated.Goals as goal

pub returns-clause-prefix : goal.returns-clause-prefix
returns-clause-prefix c = isolated_prefix

pub returns-clause-whole : goal.returns-clause-whole
returns-clause-whole c = isolated_whole

pub returns-clause-end : goal.returns-clause-end
returns-clause-end c = isolated_end

pub returns-clause-inside : goal.returns-clause-inside
returns-clause-inside c = isolated_inside
