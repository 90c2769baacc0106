use Rattle.kern_model.specs.Walk.{start_of}
use Rattle.sys_lookup.specs.Walks.{place_in}
use Rattle.sys_lookup.proofs.StopLemmas.{stops_so}
use Rattle.sys_lookup.proofs.walk_stop.walk.Goals as goal

pub walk_stop-requires : goal.walk_stop-requires
walk_stop-requires c =
    let k = c.new-caller.result in
    stops_so c.args.checks.now c.walk.new.checks k.state k.process (place_in c.argument.result) 0 (start_of k.process c.args.path.now) c.args.path.now.names c.in-Err.stop c.in-Err.ensures.step
