use Rattle.std.proofs.Common.{◌+◌, ◌++◌, ◌∙◌, ap, sym, arith}
use Rattle.cap_bits.proofs.Caps.{few_caps}
use Rattle.cap_bits.specs.CapSet.{has}
use Rattle.cap_clause.proofs.WriteLemmas.{names_from, name_written, name_passed, still_there, names_left, names_none, names_end, names_written}
use Rattle.cap_clause.proofs.written.put_names.Goals as goal
use Rattle.cap_clause.proofs.written.put_names.Goals.{then-has+in_ok-extend_from_slice+in_ok-extend_from_slice-2, else-has}

pub loop-cap-preserved : goal.loop-cap-preserved
loop-cap-preserved c =
    let caps = c.args.caps.now in
    let cap = c.in-Some.cap in
    let n = c.loop-cap.number in
    let small = few_caps cap in
    let same = still_there caps c.loop-cap.left cap n c.in-Some.ensures.number c.loop-cap.invariant.left in
    elim c.if-has.branch [
      | then-has+in_ok-extend_from_slice+in_ok-extend_from_slice-2 w ↦ record {
        text = rw w.mark-is (name_written c.loop-cap.text.items w.extend_from_slice.new.self.items c.if-has.text.items c.loop-cap.mark.now w.name.result.now _ caps cap n c.in-Some.ensures.number (same ∙ sym c.has.ensures ∙ w.if-has.true)
            w.name.ensures w.in_ok-extend_from_slice.ensures.items (ap (λ t. t.items) w.text-is ∙ w.in_ok-extend_from_slice-2.ensures.items) c.loop-cap.invariant.text);
        left = names_left caps c.loop-cap.left c.if-has.left cap n c.in-Some.ensures.number (w.left-is ∙ w.without-left.ensures) c.loop-cap.invariant.left;
        within = omega (arith, c.in-Some.ensures.number);
      }
      | else-has w ↦ record {
        text = (λ i. (w.text-is i).items ++ names_from (w.mark-is i).now caps (n + 1))
            ∙ name_passed c.loop-cap.text.items c.loop-cap.mark.now _ caps cap n c.in-Some.ensures.number (same ∙ sym c.has.ensures ∙ w.if-has.false) c.loop-cap.invariant.text;
        left = λ q past. ap (λ left. has left q) w.left-is ∙ c.loop-cap.invariant.left q (omega arith);
        within = omega (arith, c.in-Some.ensures.number);
      }
    ]

pub returns-then-eq : goal.returns-then-eq
returns-then-eq c =
    names_written c.args.text.now.items c.loop-cap.text.items c.loop-cap.mark.now c.args.caps.now c.loop-cap.number
    (names_none c.loop-cap.mark.now c.args.caps.now c.loop-cap.left c.none.result c.loop-cap.number c.loop-cap.invariant.left c.none.ensures (sym c.if-eq.ensures)) c.loop-cap.invariant.text

pub returns : goal.returns
returns c =
    names_written c.args.text.now.items c.loop-cap.text.items c.loop-cap.mark.now c.args.caps.now c.loop-cap.number
    (names_end c.loop-cap.mark.now c.args.caps.now c.loop-cap.number c.in_default.ensures.number) c.loop-cap.invariant.text
