use Rattle.iso_laws.proofs.Laws.{two_worlds_agree, two_worlds_same}
use Rattle.iso_laws.proofs.two_worlds.Goals as goal

pub returns-clause-prefixes : goal.returns-clause-prefixes
returns-clause-prefixes c = two_worlds_agree

pub returns-clause-whole : goal.returns-clause-whole
returns-clause-whole c = two_worlds_same
