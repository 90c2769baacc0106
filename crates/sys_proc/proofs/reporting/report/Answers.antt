use Rattle.std.proofs.Common.{Ok, refl, subst, sym}
use Rattle.kern_model.specs.Row.{Row}
use Rattle.sys_lookup.specs.PlaysRow.{PlaysRow}
use Rattle.sys_lookup.proofs.PlayLemmas.{commits_as, no_memory_row}
use Rattle.sys_proc.proofs.reporting.report.Goals as goal

pub returns-clause-played : goal.returns-clause-played
returns-clause-played c = λ s log.
    subst (λ (x : Row). PlaysRow s log x (Ok c.answers.result) s log) (sym (c.in_ok-answer.ensures.answer s)) (commits_as c.answers.ensures refl)

pub returns-in_err-answer-clause-played : goal.returns-in_err-answer-clause-played
returns-in_err-answer-clause-played c = λ s log. no_memory_row c.from_residual.result c.from_residual.ensures.1
