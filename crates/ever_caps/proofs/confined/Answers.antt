use Rattle.ever_caps.proofs.ConfinedRuns.{confined_alone, confined_inside, confined_worlds}
use Rattle.ever_caps.proofs.confined.Goals as goal

pub returns-clause-inside : goal.returns-clause-inside
returns-clause-inside c = confined_inside

pub returns-clause-alone : goal.returns-clause-alone
returns-clause-alone c = confined_alone

pub returns-clause-worlds : goal.returns-clause-worlds
returns-clause-worlds c = confined_worlds
