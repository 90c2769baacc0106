-- The judges of lines by their names in the code.
use Rattle.lab_engine.specs.declared.judging.Judge.{Judge as NamedJudge}
use Rattle.lab_engine.specs.declared.judging.Judge.TheVariants.{TakesAll, RefusesAsked, RefusesMixed}
use Rattle.lab_engine.specs.Input.{Judge, takes_all}
use Rattle.lab_engine.specs.LeastInput.{refuses_asked}
use Rattle.lab_engine.specs.UpgradeInput.{refuses_mixed}

-- the judge with a name
abbrev pub judge_of : NamedJudge → Judge
judge_of TakesAll = takes_all
judge_of RefusesAsked = refuses_asked
judge_of RefusesMixed = refuses_mixed
