use Rattle.std.proofs.Common.{◌∙◌, ◌++◌, ap, ℕ, List}
use Rattle.lab_engine.specs.Order.{to_out}
use Rattle.lab_engine.proofs.Sending.{goes_on, in_order, out_of_memory, stops}
use Rattle.labsys.proofs.NeverLemmas.{three_parts}
use Rattle.labsys.specs.Never.{givers_text, holders_text}
use Rattle.kern_core.specs.Kernel.{state_of}
use Rattle.labsys.proofs.never.report_caps.Goals as goal

pub returns-in_err-line : goal.returns-in_err-line
returns-in_err-line g c = λ source trail. out_of_memory _ _ _ c.from_residual.ensures.1

pub returns-in_err-answer : goal.returns-in_err-answer
returns-in_err-answer g c = λ source trail.
    let rest = to_out (holders_text c.args.texts.policy.now (state_of c.args.kernel.now) c.args.numbers.now) ++ to_out (givers_text c.args.world.now) in
    in_order _ _ _ _ _ (ap (λ (xs : List ℕ). to_out xs ++ rest) (c.deref.ensures.value ∙ c.in_ok-line.ensures) ∙ three_parts _ _ _)
    (stops _ _ _ _ _ _ (c.in_err-answer.ensures source trail) c.from_residual-in_err-answer.ensures.1)

pub returns-in_err-report_holders : goal.returns-in_err-report_holders
returns-in_err-report_holders g c = λ source trail.
    let rest = to_out (holders_text c.args.texts.policy.now (state_of c.args.kernel.now) c.args.numbers.now) ++ to_out (givers_text c.args.world.now) in
    in_order _ _ _ _ _ (ap (λ (xs : List ℕ). to_out xs ++ rest) (c.deref.ensures.value ∙ c.in_ok-line.ensures) ∙ three_parts _ _ _)
    (goes_on _ _ _ _ _ _ (c.in_ok-answer.ensures source trail) (stops _ _ _ _ _ _ (c.in_err-report_holders.ensures source trail) c.from_residual-in_err-report_holders.ensures.1))

pub returns : goal.returns
returns g c = λ source trail.
    let rest = to_out (holders_text c.args.texts.policy.now (state_of c.args.kernel.now) c.args.numbers.now) ++ to_out (givers_text c.args.world.now) in
    in_order c.report_givers.result _ _ _ _ (ap (λ (xs : List ℕ). to_out xs ++ rest) (c.deref.ensures.value ∙ c.in_ok-line.ensures) ∙ three_parts _ _ _)
    (goes_on c.report_givers.result _ _ _ _ _ (c.in_ok-answer.ensures source trail) (goes_on c.report_givers.result _ _ _ _ _ (c.in_ok-report_holders.ensures source trail) (c.report_givers.ensures source trail)))
