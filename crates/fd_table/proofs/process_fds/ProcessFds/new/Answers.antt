use Rattle.std.specs.FinMap as map
use Rattle.std.specs.FinMap.{len-empty}
use Rattle.std.proofs.Common.{ap, sym, ◌∙◌}
use Rattle.kern_model.specs.Keys.{pid_cmp}
use Rattle.kern_model.proofs.KeyLaws.{pid_cmp_total, pid_cmp_exact}
use Rattle.kern_model.specs.ByNumber.{by_pid}
use Rattle.kern_model.proofs.ByNumber.{by_number-empty, pids}
use Rattle.fd_table.specs.Fds.{AllFds, Fds}
use Rattle.fd_table.proofs.process_fds.ProcessFds.new.Goals as goal

pub invariant_of-result : goal.invariant_of-result
invariant_of-result c = sym (ap (λ (m : AllFds). map.len m) (ap (by_pid {X = Fds}) c.new.ensures ∙ by_number-empty pid_cmp_total pid_cmp_exact pids) ∙ len-empty pid_cmp Fds)

pub returns : goal.returns
returns c = ap (by_pid {X = Fds}) c.new.ensures ∙ by_number-empty pid_cmp_total pid_cmp_exact pids
