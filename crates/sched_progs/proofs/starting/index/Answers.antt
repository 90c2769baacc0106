use Rattle.sched_progs.proofs.StartingLemmas.{index_at_first, index_next, index_whole}
use Rattle.sched_progs.proofs.starting.index.Goals as goal

pub loop-place-init : goal.loop-place-init
loop-place-init c = index_at_first c.args.programs.now c.new-index.result c.new-index.ensures

pub loop-place-preserved : goal.loop-place-preserved
loop-place-preserved c =
    index_next c.args.programs.now c.loop-place.place c.index-programs-place.result c.loop-place-test.true c.index-programs-place.is c.loop-place.index c.add_program.new.index
    c.in_ok-add_program.ensures c.loop-place.invariant

pub returns : goal.returns
returns c = index_whole c.args.programs.now c.loop-place.place c.loop-place.index c.loop-place-test.false c.loop-place.invariant
