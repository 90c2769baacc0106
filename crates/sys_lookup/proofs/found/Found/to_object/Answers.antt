use Rattle.std.proofs.Common.{sym, subst}
use Rattle.kern_model.specs.Walk.{to_object}
use Rattle.chk_rules.specs.RowSteps.{GoesOn}
use Rattle.sys_lookup.specs.Walks.{found_of}
use Rattle.sys_lookup.specs.declared.found.Found.{Found}
use Rattle.sys_lookup.proofs.WalkLemmas.{entry_leads}
use Rattle.sys_lookup.proofs.found.Found.to_object.Goals as goal

pub returns-in-Entry-clause-step : goal.returns-in-Entry-clause-step
returns-in-Entry-clause-step c = λ log. subst (λ (w : Found). GoesOn log (to_object (found_of w)) c.present.result log) (sym c.in-Entry.is) (c.present.ensures.step log)

pub returns-in-Entry-clause-led : goal.returns-in-Entry-clause-led
returns-in-Entry-clause-led c = λ s start found. entry_leads s start _ _ _ _ c.in-Entry.is found c.present.result c.present.ensures.some
