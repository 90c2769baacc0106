use Rattle.std.proofs.Common.{◌++◌, [], ◌∙◌, ap, sym, subst, length, arith}
use Rattle.cap_bits.specs.CapSet.{minus_of, union_of}
use Rattle.cap_clause.proofs.WriteLemmas.{AreGroups, groups_left, groups_at_first, groups_after, firsts_next, all_groups_left, group_written, groups_written}
use Rattle.cap_clause.proofs.written.put_groups.Goals as goal

pub loop-cap-init : goal.loop-cap-init
loop-cap-init c =
    let s = c.args.state.now in
    let all = c.union-left.ensures ∙ ap (λ two. union_of two s.p) c.union.ensures in
    record {
      text = ap (λ text. c.args.text.now.items ++ text) (ap (groups_left [] s) all ∙ all_groups_left s);
      groups = subst (AreGroups s) (sym all) (groups_at_first s);
    }

pub loop-cap-smaller : goal.loop-cap-smaller
loop-cap-smaller c =
    let left = c.loop-cap.left in
    let next = ap length (firsts_next c.args.state.now left c.minus-left.result c.in-Some.cap c.loop-cap.invariant.groups c.in-Some.ensures (c.minus-left.ensures ∙ ap (minus_of left) c.group_of.ensures)) in
    omega arith

pub loop-cap-preserved : goal.loop-cap-preserved
loop-cap-preserved c =
    let s = c.args.state.now in
    let cap = c.in-Some.cap in
    let left = c.loop-cap.left in
    let rest = c.minus-left.result in
    let groups = c.loop-cap.invariant.groups in
    let rest_is = c.minus-left.ensures ∙ ap (minus_of left) c.group_of.ensures in
    record {
      text = group_written c.loop-cap.text.items c.extend_from_slice.new.self.items c.put_group.new.text.items c.loop-cap.mark.now _ s left rest cap (firsts_next s left rest cap groups c.in-Some.ensures rest_is)
          c.in_ok-extend_from_slice.ensures.items c.in_ok-put_group.ensures c.loop-cap.invariant.text;
      groups = groups_after s left rest cap groups rest_is;
    }

pub returns : goal.returns
returns c = groups_written c.loop-cap.text.items c.loop-cap.mark.now _ c.args.state.now c.loop-cap.left c.in_default.ensures c.loop-cap.invariant.text
