use Rattle.std.proofs.Common.{◌≡◌, ◌∙◌, ◌++◌, ap, refl, ℕ, Bool, true, false, List}
use Rattle.ever_caps.specs.Crossing.{is_left_by}
use Rattle.kern_model.specs.declared.numbers.Pid.{Pid}
use Rattle.lab_lattice.specs.Label.{Label}
use Rattle.lab_text.specs.Policy.{PolicyNames}
use Rattle.lab_engine.specs.declared.ending.InputEnd.TheVariants.{Whole}
use Rattle.lab_engine.specs.Order.{to_out}
use Rattle.lab_engine.specs.Texts.{last_text}
use Rattle.lab_engine.proofs.Sending.{goes_on, in_order, stops}
use Rattle.labsys.specs.Never.{count_labels, labels_text}
use Rattle.labsys.proofs.NeverLemmas.{three_parts}
use Rattle.labsys.proofs.never.report_crossings.Goals as goal

-- the lines of labels and the last line, after so many labels
parts : (test : Label → Bool) (policy : PolicyNames) (numbers : List Pid) (n : ℕ) → n ≡ count_labels test true numbers
    → to_out (labels_text test policy true numbers) ++ (to_out (labels_text test policy false numbers) ++ to_out (last_text n Whole))
    ≡ to_out (labels_text test policy true numbers ++ (labels_text test policy false numbers ++ last_text (count_labels test true numbers) Whole))
parts test policy numbers n is =
    ap (λ k. to_out (labels_text test policy true numbers) ++ (to_out (labels_text test policy false numbers) ++ to_out (last_text k Whole))) is
    ∙ three_parts (labels_text test policy true numbers) (labels_text test policy false numbers) (last_text (count_labels test true numbers) Whole)

pub returns-in_err-report_labels : goal.returns-in_err-report_labels
returns-in_err-report_labels g c = λ source trail.
    in_order _ _ _ _ _ (parts (is_left_by c.args.crossers.now) c.args.texts.policy.now c.args.numbers.now _ refl)
    (stops _ _ _ _ _ _ (c.in_err-report_labels.ensures source trail) c.from_residual.ensures.1)

pub returns-in_err-report_labels-2 : goal.returns-in_err-report_labels-2
returns-in_err-report_labels-2 g c = λ source trail.
    in_order _ _ _ _ _ (parts (is_left_by c.args.crossers.now) c.args.texts.policy.now c.args.numbers.now _ refl)
    (goes_on _ _ _ _ _ _ (c.in_ok-report_labels.ensures source trail) (stops _ _ _ _ _ _ (c.in_err-report_labels-2.ensures source trail) c.from_residual-in_err-report_labels-2.ensures.1))

pub returns : goal.returns
returns g c = λ source trail.
    in_order c.report_last.result _ _ _ _ (parts (is_left_by c.args.crossers.now) c.args.texts.policy.now c.args.numbers.now _ c.count_labels.ensures)
    (goes_on c.report_last.result _ _ _ _ _ (c.in_ok-report_labels.ensures source trail) (goes_on c.report_last.result _ _ _ _ _ (c.in_ok-report_labels-2.ensures source trail) (c.report_last.ensures source trail)))
