use Rattle.chk_rules.proofs.Steps.{need_goes, need_stops}
use Rattle.sys_proc.proofs.programs.ask_program.Goals as goal

pub returns-in_err-exec_kind : goal.returns-in_err-exec_kind
returns-in_err-exec_kind c s id is = need_stops c.from_residual.result c.from_residual.ensures.1 (c.in_err-exec_kind.ensures s id is)

pub returns : goal.returns
returns c s id is = need_goes (c.in_ok-exec_kind.ensures s id is) (c.dac_execute.ensures s id is)
