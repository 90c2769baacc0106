use Rattle.std.proofs.Common.{◌∙◌, ◌++◌, sym, ap}
use Rattle.std.specs.List.{flat_map}
use Rattle.lab_engine.specs.declared.ending.InputEnd.TheVariants.{Whole}
use Rattle.lab_engine.specs.Order.{to_out}
use Rattle.lab_engine.specs.Texts.{last_text}
use Rattle.lab_engine.proofs.Sending.{goes_on, in_order, stops, to_out-append}
use Rattle.labsys.specs.Selecting.{selected_line, selected_text}
use Rattle.labsys.proofs.selecting.write_selected.Goals as goal

pub returns-in_err-write_lines : goal.returns-in_err-write_lines
unfolding selected_text
returns-in_err-write_lines g c = λ source t. in_order _ _ _ _ _ (sym (to_out-append _ _)) (stops _ _ _ _ _ _ (c.in_err-write_lines.ensures source t) c.from_residual.ensures.1)

pub returns : goal.returns
unfolding selected_text
returns g c = λ source t.
    in_order c.report_last.result _ _ _ _ (sym (to_out-append _ _) ∙ ap (λ n. to_out (flat_map (selected_line c.args.trail.now.policy c.args.select.now) c.args.trail.now.recs ++ last_text n Whole)) c.count_selected.ensures)
    (goes_on c.report_last.result _ _ _ _ _ (c.in_ok-write_lines.ensures source t) (c.report_last.ensures source t))
