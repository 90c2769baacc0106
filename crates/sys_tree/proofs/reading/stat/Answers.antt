use Rattle.std.proofs.Common.{◌∙◌, None, ap, refl}
use Rattle.kern_model.specs.declared.calls.Answer.TheVariants as answer
use Rattle.kern_model.specs.TreeRows.{report_stat}
use Rattle.sys_lookup.proofs.PlayLemmas.{commits_as, need_plays, need_stops_row, stops_row, then_plays}
use Rattle.sys_tree.proofs.EntryLemmas.{on_reached}
use Rattle.sys_tree.proofs.reading.stat.Goals as goal

pub returns-in_err-id : goal.returns-in_err-id
returns-in_err-id c = λ who.
    stops_row {rest = on_reached (report_stat c.args.caller.now.state c.args.caller.now.process)} c.from_residual.result c.from_residual.ensures.1 refl c.in_err-id.ensures.step

pub returns-in_err-read_object : goal.returns-in_err-read_object
returns-in_err-read_object c = λ who.
    then_plays {rest = on_reached (report_stat c.args.caller.now.state c.args.caller.now.process)} c.in_ok-id.ensures.step
    (need_stops_row c.from_residual-in_err-read_object.result c.from_residual-in_err-read_object.ensures.1 refl c.in_err-read_object.ensures.step)

pub returns : goal.returns
returns c = λ who.
    then_plays {rest = on_reached (report_stat c.args.caller.now.state c.args.caller.now.process)} c.in_ok-id.ensures.step
    (need_plays c.in_ok-read_object.ensures.step
    (commits_as (c.answers.ensures ∙ ap (λ a. record { answer = answer.Stat a; own = None }) c.report.ensures) refl))
