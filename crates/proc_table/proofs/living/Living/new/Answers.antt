use Rattle.std.proofs.Common.{ap, ◌∙◌}
use Rattle.kern_model.specs.State.{Process}
use Rattle.kern_model.proofs.KeyLaws.{pid_cmp_total, pid_cmp_exact}
use Rattle.kern_model.specs.ByNumber.{by_pid}
use Rattle.kern_model.proofs.ByNumber.{by_number-empty, pids}
use Rattle.proc_table.proofs.living.Living.new.Goals as goal

pub returns : goal.returns
returns c = ap (by_pid {X = Process}) c.new.ensures ∙ by_number-empty pid_cmp_total pid_cmp_exact pids
