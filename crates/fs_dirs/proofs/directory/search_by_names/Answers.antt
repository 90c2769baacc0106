use Rattle.std.proofs.Common.{ap, sym, ◌∙◌, ◌+◌, ◌-◌, ◌/◌, arith}
use Rattle.fs_dirs.specs.Directory.{name_cmp}
use Rattle.fs_dirs.specs.declared.slot.Entry.{Entry}
use Rattle.fs_dirs.proofs.Halving.{halved, few}
use Rattle.fs_dirs.proofs.Names.{between_after, between_before}
use Rattle.fs_dirs.proofs.directory.search_by_names.Goals as goal

-- the name belongs after the middle
pub loop-from-preserved-in-Less : goal.loop-from-preserved-in-Less
loop-from-preserved-in-Less g c =
    let inv = c.loop-from.invariant in
    let from = c.loop-from.from in
    let left = c.loop-from.to - from in
    let lesser = sym (ap (λ (e : Entry). name_cmp e.name c.args.name.now) c.deref.ensures) ∙ sym c.in-Less.ensures.order in
    record {
      between = between_after c.args.entries.now c.requires.sorted c.args.name.now from c.loop-from.to inv.between (from + left / 2) (omega arith) (omega arith) c.item.result.now c.item.ensures lesser;
      counted = omega arith;
      halved = halved c.args.steps.now c.loop-from.steps c.compare.new.steps left _ inv.counted c.in-Less.ensures.counted inv.halved _ (omega arith);
      few = few c.args.steps.now c.loop-from.steps c.compare.new.steps left _ inv.counted c.in-Less.ensures.counted inv.halved (omega arith);
    }

-- it is in the middle
pub returns-in-Equal-clause-few : goal.returns-in-Equal-clause-few
returns-in-Equal-clause-few g c =
    let inv = c.loop-from.invariant in
    few c.args.steps.now c.loop-from.steps c.compare.new.steps (c.loop-from.to - c.loop-from.from) _ inv.counted c.in-Equal.ensures.counted inv.halved (omega arith)

-- it belongs before the middle
pub loop-from-preserved : goal.loop-from-preserved
loop-from-preserved g c =
    let inv = c.loop-from.invariant in
    let from = c.loop-from.from in
    let left = c.loop-from.to - from in
    let greater = sym (ap (λ (e : Entry). name_cmp e.name c.args.name.now) c.deref.ensures) ∙ sym c.in-Greater.ensures.order in
    record {
      between = between_before c.args.entries.now c.requires.sorted c.args.name.now from c.loop-from.to inv.between (from + left / 2) (omega arith) (omega arith) c.item.result.now c.item.ensures greater;
      counted = omega arith;
      halved = halved c.args.steps.now c.loop-from.steps c.compare.new.steps left _ inv.counted c.in-Greater.ensures.counted inv.halved _ (omega arith);
      few = few c.args.steps.now c.loop-from.steps c.compare.new.steps left _ inv.counted c.in-Greater.ensures.counted inv.halved (omega arith);
    }
