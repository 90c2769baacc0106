use Rattle.std.proofs.Common.{◌∙◌, not, sym, ap}
use Rattle.kern_model.specs.Rules.{mac_subject, same_label}
use Rattle.chk_rules.proofs.Steps.{equal_check}
use Rattle.sys_lookup.proofs.AskLemmas.{asked, not_asked}
use Rattle.sys_proc.proofs.labels.may_get.Goals as goal

pub returns-then-mac_write_ok : goal.returns-then-mac_write_ok
returns-then-mac_write_ok c =
    not_asked c.args.checks.now (mac_subject c.args.who.now c.args.caller.now.process c.args.label.now)
    (ap not (ap (same_label c.args.label.now) (sym c.label.ensures) ∙ sym c.mac_write_ok.ensures ∙ c.if-mac_write_ok.true))

pub returns-else-mac_write_ok : goal.returns-else-mac_write_ok
returns-else-mac_write_ok c =
    asked
    (ap not (ap (same_label c.args.label.now) (sym c.label.ensures) ∙ sym c.mac_write_ok.ensures ∙ c.if-mac_write_ok.false))
    (equal_check c.mac_subject.ensures c.must.ensures)
