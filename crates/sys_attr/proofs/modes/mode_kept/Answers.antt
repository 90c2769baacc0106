use Rattle.std.proofs.Common.{cond, ap, sym}
use Rattle.kern_model.specs.Kinds.{permissions}
use Rattle.chk_rules.proofs.Steps.{then_goes, stops_there, gives}
use Rattle.sys_attr.proofs.modes.mode_kept.Goals as goal

pub returns-in_err-keeps : goal.returns-in_err-keeps
returns-in_err-keeps c = λ s id is. stops_there {next = λ keeps rest. rest (cond keeps c.args.asked.mode (permissions c.args.asked.mode))} c.from_residual.result c.from_residual.ensures.1 (c.in_err-keeps.ensures s id is)

pub returns-then-keeps : goal.returns-then-keeps
returns-then-keeps c = λ s id is.
    then_goes {next = λ keeps rest. rest (cond keeps c.args.asked.mode (permissions c.args.asked.mode))} (c.in_ok-keeps.ensures s id is) (gives (sym (ap (λ keeps. cond keeps c.args.asked.mode (permissions c.args.asked.mode)) c.if-keeps.true)))

pub returns-else-keeps : goal.returns-else-keeps
returns-else-keeps c = λ s id is.
    then_goes {next = λ keeps rest. rest (cond keeps c.args.asked.mode (permissions c.args.asked.mode))} (c.in_ok-keeps.ensures s id is) (gives (sym (ap (λ keeps. cond keeps c.args.asked.mode (permissions c.args.asked.mode)) c.if-keeps.false)))
