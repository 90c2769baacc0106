use Rattle.sched_progs.proofs.StartingLemmas.{all_started, next_started, none_started}
use Rattle.sched_progs.proofs.starting.start.Goals as goal

pub loop-who-init : goal.loop-who-init
loop-who-init c = none_started c.args.programs.now c.args.living.now c.new-standings.result c.new-standings.ensures

pub loop-who-preserved : goal.loop-who-preserved
loop-who-preserved c =
    next_started c.args.programs.now c.args.living.now c.loop-who.who-index c.who-item.result c.start_of.result c.loop-who.standings c.set.new.self c.loop-who-test.true c.who-item.is
    c.in_ok-set.ensures c.start_of.ensures c.loop-who.invariant

pub returns : goal.returns
returns c = all_started c.args.programs.now c.args.living.now c.loop-who.who-index c.loop-who.standings c.loop-who-test.false c.loop-who.invariant
