use Rattle.std.proofs.Common.{◌≡◌, ◌+◌, ◌-◌, ◌/◌, ◌<◌, sym, ◌∙◌, arith, length, true}
use Rattle.std.specs.Prelude.{nat_lt}
use Rattle.std.proofs.lemmas.Bool.Decides.{nat_tests}
use Rattle.fs_dirs.proofs.HeadLemmas.{less_by_head, greater_by_head, same_by_head}
use Rattle.fs_dirs.proofs.Halving.{halved, few, few_with}
use Rattle.fs_dirs.proofs.Names.{between_after, between_before, in_middle}
use Rattle.fs_dirs.proofs.directory.search.Goals as goal

-- the name belongs after the middle
pub loop-low-preserved-in-Less : goal.loop-low-preserved-in-Less
loop-low-preserved-in-Less g c =
    let inv = c.loop-low.invariant in
    let low = c.loop-low.low in
    let high = c.loop-low.high in
    let name = c.args.name.now in
    let there = c.item.result.now in
    let lesser = less_by_head there.head c.of-head.result there.entry.value.name name there.head_is c.of-head.ensures.head c.of-head.ensures.bytes c.in-Less.ensures.order in
    let most = few c.args.steps.now c.loop-low.steps c.compare.new.steps (high - low) _ inv.counted c.in-Less.ensures.counted inv.halved (omega arith) in
    record {
      between = between_after c.args.entries.now c.requires name low high inv.between (low + (high - low) / 2) (omega arith) (omega arith) there c.item.ensures lesser;
      counted = omega arith;
      halved = halved c.args.steps.now c.loop-low.steps c.compare.new.steps (high - low) _ inv.counted c.in-Less.ensures.counted inv.halved _ (omega arith);
      few = omega (arith, most);
    }

-- it is short, and its head is that of the middle
pub returns-in-Equal-clause-found : goal.returns-in-Equal-clause-found
returns-in-Equal-clause-found g c =
    let low = c.loop-low.low in
    let high = c.loop-low.high in
    let within = c.loop-low.invariant.between.within in
    let name = c.args.name.now in
    let there = c.item.result.now in
    let is_less : nat_lt (length name) 16 ≡ true = sym c.is_short.ensures ∙ c.if-is_short.true in
    let short : length name < 16 = grind (arith, nat_tests, is_less) in
    let same = same_by_head there.head c.of-head.result there.entry.value.name name there.head_is c.of-head.ensures.head there.bytes c.of-head.ensures.bytes there.name c.of-head.ensures.name short c.in-Equal.ensures.order in
    in_middle c.args.entries.now name (low + (high - low) / 2) (omega arith) there c.item.ensures same

pub returns-in-Equal-clause-counted : goal.returns-in-Equal-clause-counted
returns-in-Equal-clause-counted g c =
    let inv = c.loop-low.invariant in
    let most = few c.args.steps.now c.loop-low.steps c.compare.new.steps (c.loop-low.high - c.loop-low.low) _ inv.counted c.in-Equal.ensures.counted inv.halved (omega arith) in
    let counted = c.in-Equal.ensures.counted in
    let so_far = inv.counted in
    record {
      steps = c.compare.new.steps - c.args.steps.now;
      counted = omega arith;
      few = omega (arith, most);
    }

-- its head is that of the middle
pub returns-in-Equal-2-clause-counted : goal.returns-in-Equal-2-clause-counted
returns-in-Equal-2-clause-counted g c =
    let inv = c.loop-low.invariant in
    let rest = c.search_by_names.ensures in
    let most = few_with c.args.steps.now c.loop-low.steps c.compare.new.steps (c.loop-low.high - c.loop-low.low) _ inv.counted c.in-Equal.ensures.counted inv.halved c.search_by_names.new.steps rest.least rest.few in
    record {
      steps = c.search_by_names.new.steps - c.args.steps.now;
      counted = omega arith;
      few = omega (arith, most);
    }

-- it belongs before the middle
pub loop-low-preserved : goal.loop-low-preserved
loop-low-preserved g c =
    let inv = c.loop-low.invariant in
    let left = c.loop-low.high - c.loop-low.low in
    let there = c.item.result.now in
    let larger = greater_by_head there.head c.of-head.result there.entry.value.name c.args.name.now there.head_is c.of-head.ensures.head there.bytes c.in-Greater.ensures.order in
    let most = few c.args.steps.now c.loop-low.steps c.compare.new.steps left _ inv.counted c.in-Greater.ensures.counted inv.halved (omega arith) in
    record {
      between = between_before c.args.entries.now c.requires c.args.name.now c.loop-low.low c.loop-low.high inv.between (c.loop-low.low + left / 2) (omega arith) (omega arith) there c.item.ensures larger;
      counted = omega arith;
      halved = halved c.args.steps.now c.loop-low.steps c.compare.new.steps left _ inv.counted c.in-Greater.ensures.counted inv.halved _ (omega arith);
      few = omega (arith, most);
    }
