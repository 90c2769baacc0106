use Rattle.std.proofs.Common.{◌-◌, ◌∙◌, ap, sym, subst, refl, arith, length, drop, Err}
use Rattle.std.specs.Prelude.{not}
use Rattle.std.specs.List.{prefix_len}
use Rattle.std.proofs.lemmas.Result.{err_from_is_err_and}
use Rattle.std.proofs.lemmas.List.{length-drop}
use Rattle.cap_clause.specs.Clauses.{is_blank, clauses_of}
use Rattle.cap_clause.proofs.Steps.{Stops, after_stops, parse_clauses, clause_taken, clause_refused}
use Rattle.cap_clause.proofs.ReadLemmas.{IsPrefix, prefix_of, no_clause, first_clause, next_clause, no_more}
use Rattle.cap_clause.proofs.clause.cap_from_text.Goals as goal
use Rattle.cap_clause.proofs.clause.cap_from_text.Goals.{After-split_at}

cut : (c : After-split_at) → IsPrefix (λ b. not (is_blank b)) c.loop-left.left.now c.split_at.result.0.now c.split_at.result.1.now
cut c = prefix_of (λ b. not (is_blank b)) c.clause_len.result c.loop-left.left.now c.split_at.result.0.now c.split_at.result.1.now c.clause_len.ensures.count c.split_at.ensures.front c.split_at.ensures.back

pub returns-then-is_empty : goal.returns-then-is_empty
returns-then-is_empty c = record { parsed = sym (no_clause c.args.text.now c.trim_blanks-left.result.now c.trim_blanks-left.ensures (sym c.is_empty.ensures ∙ c.if-is_empty.true)) }

pub loop-left-init : goal.loop-left-init
loop-left-init c =
    let text = c.args.text.now in
    let left = c.trim_blanks-left.result.now in
    let short = length-drop (prefix_len is_blank text) text in
    let len = ap length c.trim_blanks-left.ensures in
    record {
      parsed = first_clause text left c.trim_blanks-left.ensures (sym c.is_empty.ensures ∙ c.if-is_empty.false) ∙ ap (parse_clauses (clauses_of (length text - length left) left)) (sym c.none-state.ensures);
      stops = subst (Stops is_blank) (sym c.trim_blanks-left.ensures) (after_stops is_blank text);
      within = omega arith;
    }

pub returns-in_err-state : goal.returns-in_err-state
returns-in_err-state c =
    let text = c.args.text.now in
    let left = c.loop-left.left.now in
    let clause = c.split_at.result.0.now in
    let rest = c.split_at.result.1.now in
    let next = drop (prefix_len is_blank rest) rest in
    let p = err_from_is_err_and c.from_residual.result c.from_residual.ensures.1 in
    record {
      parsed = p.1 ∙ ap Err p.2 ∙ sym (c.loop-left.invariant.parsed
          ∙ ap (λ clauses. parse_clauses clauses c.loop-left.state) (next_clause (length text) left clause rest next (cut (goal.at.returns-in_err-state c).After-split_at) (sym c.is_empty-in-loop-left.ensures ∙ c.loop-left-test.true) c.loop-left.invariant.stops refl c.loop-left.invariant.within)
          ∙ clause_refused (record { at = length text - length left; bytes = clause }) (clauses_of (length text - length next) next) c.loop-left.state c.in_err-state.field-0.0 (sym c.read_clause.ensures ∙ c.in_err-state.was));
    }

pub loop-left-preserved : goal.loop-left-preserved
loop-left-preserved c =
    let text = c.args.text.now in
    let left = c.loop-left.left.now in
    let clause = c.split_at.result.0.now in
    let rest = c.split_at.result.1.now in
    let next = c.trim_blanks-left-in-loop-left.result.now in
    let short = length-drop (prefix_len is_blank rest) rest in
    let len = ap length c.trim_blanks-left-in-loop-left.ensures in
    record {
      parsed = c.loop-left.invariant.parsed
          ∙ ap (λ clauses. parse_clauses clauses c.loop-left.state) (next_clause (length text) left clause rest next (cut (goal.at.loop-left-preserved c).After-split_at) (sym c.is_empty-in-loop-left.ensures ∙ c.loop-left-test.true) c.loop-left.invariant.stops c.trim_blanks-left-in-loop-left.ensures c.loop-left.invariant.within)
          ∙ clause_taken (record { at = length text - length left; bytes = clause }) (clauses_of (length text - length next) next) c.loop-left.state c.in_ok-state.state (sym c.read_clause.ensures ∙ c.in_ok-state.was);
      stops = subst (Stops is_blank) (sym c.trim_blanks-left-in-loop-left.ensures) (after_stops is_blank rest);
      within = omega arith;
    }

pub returns : goal.returns
returns c =
    let left = c.loop-left.left.now in
    record { parsed = sym (c.loop-left.invariant.parsed ∙ no_more (length c.args.text.now - length left) left c.loop-left.state (sym c.is_empty-in-loop-left.ensures ∙ c.loop-left-test.false)) }
