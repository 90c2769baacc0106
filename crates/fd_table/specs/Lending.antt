-- What the descriptors of processes end as, where those of one are lent.
use Rattle.std.specs.Prelude.{◌≡◌, Option, OnSome}
use Rattle.std.specs.Borrow.{LendsSo, MutBor, Fml}
use Rattle.std.specs.FinMap as map
use Rattle.kern_model.specs.declared.numbers.Pid.{Pid}
use Rattle.fd_table.specs.Fds.{AllFds, Fds}
use Rattle.fd_table.specs.contracts.fd_slots.FdSlots as fd_slots
use Rattle.fd_table.specs.contracts.process_fds.ProcessFds as process_fds

-- they end with those that were lent as they were left, and as they were where the process is not there
abbrev pub LendsFds : MutBor AllFds → Pid → Option (MutBor Fds) → Fml
LendsFds s who r = LendsSo process_fds.the_row fd_slots.the_row s r (λ new fds. OnSome r (new ≡ map.insert s.now who fds)) (λ new. new ≡ s.now)
