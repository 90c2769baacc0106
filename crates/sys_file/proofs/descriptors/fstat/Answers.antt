use Rattle.std.proofs.Common.{refl, []}
use Rattle.kern_model.specs.declared.calls.Answer.TheVariants as answer
use Rattle.kern_model.specs.FileRows.{report_opened}
use Rattle.kern_model.specs.Stat.{stat_of}
use Rattle.sys_lookup.proofs.PlayLemmas.{commits_as, then_plays, stops_row, need_plays, need_stops_row}
use Rattle.sys_file.proofs.BranchLemmas.{answering}
use Rattle.sys_file.specs.Access.{access_object}
use Rattle.sys_file.specs.declared.access.Access.TheVariants.{Read}
use Rattle.sys_file.proofs.ReferLemmas.{step_at}
use Rattle.std.proofs.Common.{◌∙◌}
use Rattle.sys_file.proofs.descriptors.fstat.Goals as goal

pub returns-in_err-opened : goal.returns-in_err-opened
returns-in_err-opened c = λ who.
    stops_row {rest = report_opened c.args.caller.now.state c.args.caller.now.process} c.from_residual.result c.from_residual.ensures.1 refl (c.in_err-opened.ensures.step c.args.checks.now)

pub returns-in_err-read_object : goal.returns-in_err-read_object
returns-in_err-read_object c = λ who.
    let s = c.args.caller.now.state in
    let p = c.args.caller.now.process in
    then_plays {rest = report_opened s p} (c.in_ok-opened.ensures.step c.args.checks.now)
    (need_stops_row c.from_residual-in_err-read_object.result c.from_residual-in_err-read_object.ensures.1 refl
    (step_at (access_object Read s p) (λ i. (c.opened-2.view_is i).description.object) c.in_err-read_object.ensures.step))

pub returns : goal.returns
returns c = λ who.
    let s = c.args.caller.now.state in
    let p = c.args.caller.now.process in
    then_plays {rest = report_opened s p} (c.in_ok-opened.ensures.step c.args.checks.now)
    (need_plays (step_at (access_object Read s p) (λ i. (c.opened-2.view_is i).description.object) c.in_ok-read_object.ensures.step)
    (commits_as {changes = []} (answering c.answers.ensures ((λ i. answer.Stat (c.report-stat.ensures i)) ∙ (λ i. answer.Stat (stat_of s (c.opened-2.view_is i).description.object)))) refl))
