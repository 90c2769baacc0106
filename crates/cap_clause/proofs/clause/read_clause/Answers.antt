use Rattle.std.proofs.Common.{◌∙◌, ap, sym, Err}
use Rattle.std.specs.Prelude.{not}
use Rattle.std.proofs.lemmas.Result.{err_from_is_err_and}
use Rattle.cap_clause.specs.Clauses.{is_operator}
use Rattle.cap_clause.proofs.ReadLemmas.{IsClause, prefix_of, clause_wrong, clause_about}
use Rattle.cap_clause.proofs.clause.read_clause.Goals as goal
use Rattle.cap_clause.proofs.clause.read_clause.Goals.{After-split_at}

cut : (c : After-split_at) → IsClause c.args.clause.now c.split_at.result.0.now c.split_at.result.1.now
cut c = prefix_of (λ b. not (is_operator b)) c.list_len.result c.args.clause.now c.split_at.result.0.now c.split_at.result.1.now c.list_len.ensures.count c.split_at.ensures.front c.split_at.ensures.back

pub returns-in_err-caps : goal.returns-in_err-caps
returns-in_err-caps c =
    let p = err_from_is_err_and c.from_residual.result c.from_residual.ensures.1 in
    p.1 ∙ ap Err p.2
    ∙ sym (clause_wrong c.args.at c.args.clause.now c.split_at.result.0.now c.split_at.result.1.now c.args.state c.in_err-caps.field-0.0 (cut (goal.at.returns-in_err-caps c).After-split_at)
    (sym c.clause_caps.ensures ∙ c.in_err-caps.was))

pub returns : goal.returns
returns c =
    c.read_actions.ensures
    ∙ sym (clause_about c.args.at c.args.clause.now c.split_at.result.0.now c.split_at.result.1.now c.args.state c.in_ok-caps.caps (cut (goal.at.returns c).After-split_at)
    (sym c.clause_caps.ensures ∙ c.in_ok-caps.was))
