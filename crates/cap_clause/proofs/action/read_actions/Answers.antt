use Rattle.std.proofs.Common.{sym, ◌∙◌, ap, arith, subst, Ok, ◌+◌, length}
use Rattle.cap_clause.specs.Clauses.{is_flag}
use Rattle.cap_clause.specs.Reading.{parse_actions}
use Rattle.cap_clause.proofs.Steps.{parsed_none}
use Rattle.cap_clause.proofs.ReadLemmas.{IsAction, IsPrefix, prefix_of, no_flag, last_action, more_actions}
use Rattle.cap_clause.proofs.action.read_actions.Goals as goal
use Rattle.cap_clause.proofs.action.read_actions.Goals.{After-split_at}

begins : (c : After-split_at) → IsAction c.loop-operator.left.now c.in-Some.operator c.split_at.result.0.now c.split_at.result.1.now
begins c = record {
  first = sym c.in-Some.ensures.first;
  flags_are = subst (λ bytes. IsPrefix is_flag bytes c.split_at.result.0.now c.split_at.result.1.now) c.in-Some.ensures.after
      (prefix_of is_flag c.flags_len.result c.in-Some.after.now c.split_at.result.0.now c.split_at.result.1.now c.flags_len.ensures.count c.split_at.ensures.front c.split_at.ensures.back);
}

pub returns-in_default : goal.returns-in_default
returns-in_default c = sym (c.loop-operator.invariant.parsed ∙ parsed_none c.loop-operator.at c.args.caps c.loop-operator.left.now c.loop-operator.state (sym c.in_default.ensures.first))

pub returns-then-lacks_flag : goal.returns-then-lacks_flag
returns-then-lacks_flag c =
    sym (c.loop-operator.invariant.parsed
    ∙ no_flag c.loop-operator.at c.args.caps c.loop-operator.left.now c.split_at.result.0.now c.split_at.result.1.now c.loop-operator.state c.in-Some.operator (begins (goal.at.returns-then-lacks_flag c).After-split_at)
    (sym c.lacks_flag.ensures ∙ c.if-lacks_flag.true))

pub returns-then-is_empty : goal.returns-then-is_empty
returns-then-is_empty c =
    ap Ok c.operate-state.ensures
    ∙ sym (c.loop-operator.invariant.parsed
    ∙ last_action c.loop-operator.at c.args.caps c.loop-operator.left.now c.split_at.result.0.now c.split_at.result.1.now c.loop-operator.state c.in-Some.operator (begins (goal.at.returns-then-is_empty c).After-split_at)
    (sym c.lacks_flag.ensures ∙ c.if-lacks_flag.false) (sym c.is_empty.ensures ∙ c.if-is_empty.true))

pub loop-operator-preserved : goal.loop-operator-preserved
loop-operator-preserved c =
    let begun = begins (goal.at.loop-operator-preserved c).After-split_at in
    record {
      parsed = c.loop-operator.invariant.parsed
          ∙ more_actions c.loop-operator.at c.args.caps c.loop-operator.left.now c.split_at.result.0.now c.split_at.result.1.now c.loop-operator.state c.in-Some.operator begun
          (sym c.lacks_flag.ensures ∙ c.if-lacks_flag.false) (sym c.is_empty.ensures ∙ c.if-is_empty.false)
          ∙ ap (parse_actions (c.loop-operator.at + (length c.split_at.result.0.now + 1)) c.args.caps c.split_at.result.1.now) (sym c.operate-state.ensures);
      place = omega (arith, c.in-Some.ensures.fewer);
    }
