use Rattle.std.specs.Prelude.{List}
use Rattle.std.proofs.Common.{ap, ◌∙◌}
use Rattle.kern_model.specs.declared.numbers.Pid.{Pid}
use Rattle.kern_model.proofs.KeyLaws.{pid_cmp_total, pid_cmp_exact}
use Rattle.kern_model.specs.ByNumber.{by_pid}
use Rattle.kern_model.proofs.ByNumber.{by_number-empty, pids}
use Rattle.proc_table.proofs.child_lists.ChildLists.new.Goals as goal

pub returns : goal.returns
returns c = ap (by_pid {X = List Pid}) c.new.ensures ∙ by_number-empty pid_cmp_total pid_cmp_exact pids
