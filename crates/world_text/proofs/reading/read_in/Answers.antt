use Rattle.std.proofs.Common.{◌+◌, ◌≤◌, length, refl, sym, subst, arith}
use Rattle.world_text.specs.Reading.{Reading, IsRead, read_text}
use Rattle.world_text.proofs.Accepted.{accepted_text}
use Rattle.world_text.proofs.ReadingLemmas.{read_on, read_refused, read_world, read_end, refused_for, ended_for}
use Rattle.world_text.proofs.reading.read_in.Goals as goal

pub returns-in-Refuses-clause-none : goal.returns-in-Refuses-clause-none
returns-in-Refuses-clause-none c =
    refused_for c.loop-line.number c.in-Refuses.fault _ (read_text c.args.due c.args.text.now) c.at.ensures
    (read_refused (read_text c.args.due c.args.text.now) c.loop-line.number c.loop-line.expecting c.loop-line.rest.now c.in-Some.line.now c.in-Some.after.now c.in_ok-fault.field-0 c.in-Refuses.fault c.loop-line.invariant.says c.in-Some.ensures.line
    c.in_ok-fault.ensures.says c.in-Refuses.is)

pub returns-in-Begins : goal.returns-in-Begins
returns-in-Begins c =
    let says = read_world (read_text c.args.due c.args.text.now) c.loop-line.number c.loop-line.expecting c.loop-line.rest.now c.in-Some.line.now c.in-Some.after.now c.in_ok-fault.field-0 c.in-Begins.world c.loop-line.invariant.says c.in-Some.ensures.line
    c.in_ok-fault.ensures.says c.in-Begins.is in
    record { read = subst (λ (r : Reading). IsRead r c.in-Begins.world) (sym says) refl; world = accepted_text c.args.due c.args.text.now _ _ _ says; none = tt }

pub loop-line-preserved : goal.loop-line-preserved
loop-line-preserved c =
    let shorter : length c.in-Some.line.now + length c.in-Some.after.now + 1 ≤ length c.loop-line.rest.now = c.in-Some.ensures.shorter in
    let numbered : c.loop-line.number + length c.loop-line.rest.now ≤ length c.args.text.now + 1 = c.loop-line.invariant.numbered in
    record {
      says = read_on (read_text c.args.due c.args.text.now) c.loop-line.number c.loop-line.expecting c.in-GoesOn.expecting c.loop-line.rest.now c.in-Some.line.now c.in-Some.after.now c.in_ok-fault.field-0 c.loop-line.invariant.says c.in-Some.ensures.line
          c.in_ok-fault.ensures.says c.in-GoesOn.is;
      numbered = omega arith;
    }

pub returns-clause-none : goal.returns-clause-none
returns-clause-none c =
    ended_for c.loop-line.number c.loop-line.rest.now (read_text c.args.due c.args.text.now)
    (read_end (read_text c.args.due c.args.text.now) c.loop-line.number c.loop-line.expecting c.loop-line.rest.now c.loop-line.invariant.says c.in_default.ensures.line)
