use Rattle.std.proofs.Common.{◌+◌, sym, ◌∙◌, arith}
use Rattle.fs_path.specs.Split.{pieces}
use Rattle.aud_red.proofs.TrailLemmas.{onto, read_on, read_fails, read_end, from_fits, handed_on}
use Rattle.aud_red.specs.Trail.{parse_recs}
use Rattle.aud_red.proofs.trail.read_records.Goals as goal

pub returns-in_err-read : goal.returns-in_err-read
returns-in_err-read c =
    handed_on c.from_residual-in_err-read.result _ c.in_err-read.field-0.0 _ c.from_residual-in_err-read.ensures.1
    (read_fails _ c.loop-rest.recs c.args.policy.now c.loop-rest.number c.loop-rest.low c.loop-rest.rest.now c.in_err-read.field-0.0 (sym c.is_empty.ensures ∙ c.loop-rest-test.true) c.loop-rest.invariant.parsed c.in_err-read.ensures.parsed)

pub loop-rest-smaller : goal.loop-rest-smaller
loop-rest-smaller c =
    let fits = from_fits c.args.policy.now c.loop-rest.number c.loop-rest.low c.loop-rest.rest.now c.in_ok-read.read c.in_ok-read.ensures.parsed in
    let some = fits.some in
    let left = c.split_at.ensures.back_len in
    omega arith

pub loop-rest-preserved : goal.loop-rest-preserved
loop-rest-preserved c =
    let fits = from_fits c.args.policy.now c.loop-rest.number c.loop-rest.low c.loop-rest.rest.now c.in_ok-read.read c.in_ok-read.ensures.parsed in
    let some = fits.some in
    let left = c.split_at.ensures.back_len in
    let numbered = c.loop-rest.invariant.numbered in
    record {
      parsed =
          read_on _ c.loop-rest.recs c.args.policy.now c.loop-rest.number c.loop-rest.low c.loop-rest.rest.now c.in_ok-read.read (sym c.is_empty.ensures ∙ c.loop-rest-test.true) c.loop-rest.invariant.parsed c.in_ok-read.ensures.parsed
          ∙ (λ i. onto (sym c.in_ok-push.ensures.ok i) (parse_recs c.args.policy.now (c.loop-rest.number + 1) c.in_ok-read.read.call (pieces 10 (sym c.split_at.ensures.back i))));
      numbered = omega arith;
    }

pub returns : goal.returns
returns c = read_end _ c.loop-rest.recs c.args.policy.now c.loop-rest.number c.loop-rest.low c.loop-rest.rest.now (sym c.is_empty.ensures ∙ c.loop-rest-test.false) c.loop-rest.invariant.parsed
