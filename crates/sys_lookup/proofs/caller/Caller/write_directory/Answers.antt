use Rattle.chk_rules.proofs.Steps.{need_goes, need_stops}
use Rattle.sys_lookup.proofs.caller.Caller.write_directory.Goals as goal

pub returns-in_err-object : goal.returns-in_err-object
returns-in_err-object c = need_stops c.from_residual.result c.from_residual.ensures.1 c.in_err-object.ensures.step

pub returns-in_err-dac_write : goal.returns-in_err-dac_write
returns-in_err-dac_write c =
    let s = c.args.self.now.state in
    need_goes c.in_ok-object.ensures.step
    (need_stops c.from_residual-in_err-dac_write.result c.from_residual-in_err-dac_write.ensures.1 (c.in_err-dac_write.ensures s c.args.dir.now c.in_ok-object.ensures.object))

pub returns : goal.returns
returns c =
    let s = c.args.self.now.state in
    need_goes c.in_ok-object.ensures.step (need_goes (c.in_ok-dac_write.ensures s c.args.dir.now c.in_ok-object.ensures.object) c.must.ensures)
