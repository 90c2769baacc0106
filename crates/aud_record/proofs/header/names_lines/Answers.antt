use Rattle.std.proofs.Common.{Ok, ap, sym, ◌∙◌, arith}
use Rattle.lab_text.specs.Policy.{PolicyNames, no_names}
use Rattle.aud_record.proofs.HeaderLines.{line_read, line_fails, lines_read, names_made, handed_on}
use Rattle.aud_record.proofs.header.names_lines.Goals as goal

pub loop-place-preserved : goal.loop-place-preserved
loop-place-preserved c = record {
  lines = line_read c.loop-place.place _ c.loop-place.names c.list_line.new.names c.loop-place.rest.now c.in_ok-rest.rest.now _ c.loop-place-test.true c.loop-place.invariant.lines c.in_ok-rest.ensures.line;
  shorter = let before = c.loop-place.invariant.shorter in let line = c.in_ok-rest.ensures.shorter in omega arith;
}

pub returns-in_err-rest-clause-lines : goal.returns-in_err-rest-clause-lines
returns-in_err-rest-clause-lines c =
    handed_on c.from_residual.result _ c.in_err-rest.field-0.0 _ c.from_residual.ensures.1
    (line_fails c.loop-place.place _ c.loop-place.names c.loop-place.rest.now c.in_err-rest.field-0.0 _ c.loop-place-test.true c.loop-place.invariant.lines c.in_err-rest.ensures.line)

pub into_policy-requires : goal.into_policy-requires
into_policy-requires c =
    names_made 2 no_names c.loop-place.names c.args.text.now c.loop-place.rest.now (lines_read c.loop-place.place c.loop-place.names c.loop-place.rest.now _ c.loop-place-test.false c.loop-place.invariant.lines)

pub returns-clause-lines : goal.returns-clause-lines
returns-clause-lines c =
    lines_read c.loop-place.place c.loop-place.names c.loop-place.rest.now _ c.loop-place-test.false c.loop-place.invariant.lines
    ∙ ap (λ (p : PolicyNames). Ok (p, c.loop-place.rest.now)) (sym c.into_policy.ensures)
