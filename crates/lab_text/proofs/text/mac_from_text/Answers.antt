use Rattle.std.proofs.Common.{sym, ◌∙◌, arith}
use Rattle.std.specs.Option.{option_copied}
use Rattle.std.proofs.lemmas.Result.{err_from_is_err_and}
use Rattle.fs_path.proofs.SplitLemmas.{before_is, after_is}
use Rattle.lab_text.specs.declared.text.LabelError.TheVariants as error
use Rattle.lab_text.proofs.Parsed.{says_none, parsed_valid}
use Rattle.lab_text.proofs.LabelLemmas.{IsRead, read_parsed, level_unknown, cat_unknown, grade_unknown}
use Rattle.lab_text.proofs.text.mac_from_text.Goals as goal
use Rattle.lab_text.proofs.text.mac_from_text.Goals.{After-first_piece-2}

read : (c : After-first_piece-2) → IsRead c.args.text.now c.first_piece.result.0.now c.first_piece-2.result.0.now (option_copied c.first_piece-2.result.1) (option_copied c.first_piece.result.1)
read c = record {
  form = c.in_default-syntax_fault.ensures;
  before_is = before_is 47 c.args.text.now _ (option_copied c.first_piece.result.1) c.first_piece.ensures.pieces;
  level_is = before_is 58 c.first_piece.result.0.now _ (option_copied c.first_piece-2.result.1) c.first_piece-2.ensures.pieces;
  list_is = after_is 58 c.first_piece.result.0.now c.first_piece-2.result.0.now _ c.first_piece-2.ensures.pieces;
  grade_is = after_is 47 c.args.text.now c.first_piece.result.0.now _ c.first_piece.ensures.pieces;
}

pub cats_named-requires : goal.cats_named-requires
cats_named-requires c =
    let few = c.first_piece.ensures.lengths in
    let fewer = c.first_piece-2.ensures.lengths in
    omega arith

pub returns-in-Some-clause-valid : goal.returns-in-Some-clause-valid
returns-in-Some-clause-valid c = parsed_valid c.args.policy.now c.args.text.now c.in-Some.label c.in-Some.ensures.label

pub returns-in-Some-syntax_fault-clause-none : goal.returns-in-Some-syntax_fault-clause-none
returns-in-Some-syntax_fault-clause-none c = says_none c.args.policy.now c.args.text.now (error.Syntax c.in-Some-syntax_fault.at) c.in-Some-syntax_fault.ensures

pub returns-in_default-level_named-clause-cause : goal.returns-in_default-level_named-clause-cause
returns-in_default-level_named-clause-cause c =
    level_unknown (read (goal.at.returns-in_default-level_named-clause-cause c).After-first_piece-2) c.args.policy.now (sym c.level_named.ensures.place ∙ c.in_default-level_named.is)

pub returns-in_default-level_named-clause-none : goal.returns-in_default-level_named-clause-none
returns-in_default-level_named-clause-none c =
    says_none c.args.policy.now c.args.text.now (error.UnknownLevel 0)
    (level_unknown (read (goal.at.returns-in_default-level_named-clause-none c).After-first_piece-2) c.args.policy.now (sym c.level_named.ensures.place ∙ c.in_default-level_named.is))

pub returns-in_err-second-clause-cause : goal.returns-in_err-second-clause-cause
returns-in_err-second-clause-cause c =
    let p = err_from_is_err_and c.from_residual.result c.from_residual.ensures.1 in
    rw (p.1, p.2)
    (cat_unknown (read (goal.at.returns-in_err-second-clause-cause c).After-first_piece-2) c.args.policy.now c.in-Some-level_named.first c.in_err-second.field-0.0 (sym c.level_named.ensures.place ∙ c.in-Some-level_named.is) c.in_err-second.ensures.unknown)

pub returns-in_err-second-clause-none : goal.returns-in_err-second-clause-none
returns-in_err-second-clause-none c =
    let p = err_from_is_err_and c.from_residual.result c.from_residual.ensures.1 in
    rw p.1
    (says_none c.args.policy.now c.args.text.now c.in_err-second.field-0.0
    (cat_unknown (read (goal.at.returns-in_err-second-clause-none c).After-first_piece-2) c.args.policy.now c.in-Some-level_named.first c.in_err-second.field-0.0 (sym c.level_named.ensures.place ∙ c.in-Some-level_named.is) c.in_err-second.ensures.unknown))

pub returns-in_err-inner-clause-cause : goal.returns-in_err-inner-clause-cause
returns-in_err-inner-clause-cause c =
    let p = err_from_is_err_and c.from_residual-in_err-inner.result c.from_residual-in_err-inner.ensures.1 in
    rw (p.1, p.2)
    (grade_unknown (read (goal.at.returns-in_err-inner-clause-cause c).After-first_piece-2) c.args.policy.now c.in-Some-level_named.first c.in_ok-second.second c.in_err-inner.field-0.0
    (sym c.level_named.ensures.place ∙ c.in-Some-level_named.is) c.in_ok-second.ensures.cats c.in_err-inner.ensures.unknown)

pub returns-in_err-inner-clause-none : goal.returns-in_err-inner-clause-none
returns-in_err-inner-clause-none c =
    let p = err_from_is_err_and c.from_residual-in_err-inner.result c.from_residual-in_err-inner.ensures.1 in
    rw p.1
    (says_none c.args.policy.now c.args.text.now c.in_err-inner.field-0.0
    (grade_unknown (read (goal.at.returns-in_err-inner-clause-none c).After-first_piece-2) c.args.policy.now c.in-Some-level_named.first c.in_ok-second.second c.in_err-inner.field-0.0
    (sym c.level_named.ensures.place ∙ c.in-Some-level_named.is) c.in_ok-second.ensures.cats c.in_err-inner.ensures.unknown))

pub returns-clause-parsed : goal.returns-clause-parsed
returns-clause-parsed c =
    read_parsed (read (goal.at.returns-clause-parsed c).After-first_piece-2) c.args.policy.now c.in-Some-level_named.first c.in_ok-second.second c.in_ok-inner.inner
    (sym c.level_named.ensures.place ∙ c.in-Some-level_named.is) c.in_ok-second.ensures.cats c.in_ok-inner.ensures.grade

pub returns-clause-valid : goal.returns-clause-valid
returns-clause-valid c =
    parsed_valid c.args.policy.now c.args.text.now _
    (read_parsed (read (goal.at.returns-clause-valid c).After-first_piece-2) c.args.policy.now c.in-Some-level_named.first c.in_ok-second.second c.in_ok-inner.inner
    (sym c.level_named.ensures.place ∙ c.in-Some-level_named.is) c.in_ok-second.ensures.cats c.in_ok-inner.ensures.grade)
