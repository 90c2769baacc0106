use Rattle.ever_caps.proofs.ConfinedRuns.{confined_uncrossed}
use Rattle.ever_caps.proofs.UncrossedRuns.{uncrossed_alone, uncrossed_inside, uncrossed_worlds}
use Rattle.ever_caps.proofs.uncrossed.Goals as goal

pub returns-clause-inside : goal.returns-clause-inside
returns-clause-inside c = uncrossed_inside

pub returns-clause-alone : goal.returns-clause-alone
returns-clause-alone c = uncrossed_alone

pub returns-clause-worlds : goal.returns-clause-worlds
returns-clause-worlds c = uncrossed_worlds

pub returns-clause-confined : goal.returns-clause-confined
returns-clause-confined c = confined_uncrossed
