use Rattle.std.specs.Prelude.{◌≤◌, Some}
use Rattle.std.proofs.Common.{ap, sym, ◌∙◌, subst}
use Rattle.std.proofs.lemmas.Result.{IfOk-weaker}
use Rattle.serde_json.specs.Data.{depth}
use Rattle.serde_json.specs.Read.{max_depth}
use Rattle.serde_json.specs.Written.{has_float}
use Rattle.aud_red.specs.Json.{are_printable}
use Rattle.aud_red.proofs.KeyOrder.{record_whole, record_shallow}
use Rattle.aud_red.proofs.members.json_text.Goals as goal

pub returns-clause-text : goal.returns-clause-text
returns-clause-text c =
    let whole = ap has_float c.in_ok-value.ensures.value ∙ record_whole c.args.policy.now c.args.rec.now in
    IfOk-weaker c.to_vec.result _ _ (λ text is. is whole ∙ c.in_ok-value.ensures.text) c.to_vec.ensures.text

pub returns-clause-printable : goal.returns-clause-printable
returns-clause-printable c =
    let whole = ap has_float c.in_ok-value.ensures.value ∙ record_whole c.args.policy.now c.args.rec.now in
    IfOk-weaker c.to_vec.result _ _ (λ text is. ap are_printable (is whole) ∙ c.in_ok-value.ensures.printable) c.to_vec.ensures.text

pub returns-clause-reads_back : goal.returns-clause-reads_back
returns-clause-reads_back c =
    let shallow = subst (λ d. depth d ≤ max_depth) (sym c.in_ok-value.ensures.value) (record_shallow c.args.policy.now c.args.rec.now) in
    IfOk-weaker c.to_vec.result _ _ (λ text is. is shallow ∙ ap Some c.in_ok-value.ensures.value) c.to_vec.ensures.reads_back
