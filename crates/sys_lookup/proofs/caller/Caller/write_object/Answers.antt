use Rattle.chk_rules.proofs.Steps.{need_goes, need_stops, gives}
use Rattle.sys_lookup.specs.Shared.{metadata_of}
use Rattle.sys_lookup.proofs.caller.Caller.write_object.Goals as goal

pub returns-in_err-mac_write-clause-step : goal.returns-in_err-mac_write-clause-step
returns-in_err-mac_write-clause-step c =
    need_stops {part = λ rest. rest (metadata_of c.args.self.now.state c.args.id.now)} c.from_residual.result c.from_residual.ensures.1 (c.in_err-mac_write.ensures c.args.self.now.state c.args.id.now c.metadata-object.ensures)

pub returns-clause-step : goal.returns-clause-step
returns-clause-step c =
    need_goes {part = λ rest. rest (metadata_of c.args.self.now.state c.args.id.now)} (c.in_ok-mac_write.ensures c.args.self.now.state c.args.id.now c.metadata-object.ensures) (gives c.metadata-object.ensures)
