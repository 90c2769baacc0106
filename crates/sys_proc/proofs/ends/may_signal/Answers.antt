use Rattle.std.proofs.Common.{◌≡◌, ap, not, rules}
use Rattle.kern_model.specs.ProcessRows.{writes_present}
use Rattle.kern_model.specs.Row.{Need}
use Rattle.kern_model.specs.Rules.{kill_rule, mac_write_process, same_label}
use Rattle.chk_rules.proofs.Steps.{equal_check, item_goes, item_stops}
use Rattle.sys_lookup.proofs.AskLemmas.{equal_asked}
use Rattle.sys_proc.proofs.ends.may_signal.Goals as goal

pub returns-in_err-must_if : goal.returns-in_err-must_if
returns-in_err-must_if c =
    let receiver = c.args.receiver.now in
    let same : c.mac_write_ok-is_other.result ≡ same_label receiver.label c.args.target.now.label = search rules in
    let check : c.mac_write.result ≡ mac_write_process c.args.sender.now.process c.args.target.now receiver.label = search rules in
    item_stops (writes_present c.args.sender.now.process c.args.target.now receiver) {part = λ rest. Need (kill_rule c.args.sender.now.process c.args.target.now receiver) (rest tt)}
    c.from_residual.result c.from_residual.ensures.1 (equal_asked (ap not same) check c.in_err-must_if.ensures)

pub returns : goal.returns
returns c =
    let receiver = c.args.receiver.now in
    let same : c.mac_write_ok-is_other.result ≡ same_label receiver.label c.args.target.now.label = search rules in
    let check : c.mac_write.result ≡ mac_write_process c.args.sender.now.process c.args.target.now receiver.label = search rules in
    item_goes (writes_present c.args.sender.now.process c.args.target.now receiver) {part = λ rest. Need (kill_rule c.args.sender.now.process c.args.target.now receiver) (rest tt)}
    (equal_asked (ap not same) check c.in_ok-must_if.ensures) (equal_check c.kill_rule.ensures c.must.ensures)
