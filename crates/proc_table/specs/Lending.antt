-- What a table of processes ends as, where a part of it is lent.
use Rattle.std.specs.Prelude.{◌≡◌, Option, OnSome}
use Rattle.std.specs.Borrow.{LendsIf, LendsSo, MutBor, Fml}
use Rattle.std.specs.FinMap as map
use Rattle.std.specs.FinMap.{FinMap}
use Rattle.kern_model.specs.declared.numbers.Pid.{Pid}
use Rattle.kern_model.specs.Keys.{pid_cmp}
use Rattle.kern_model.specs.State.{Process}
use Rattle.proc_creds.specs.Credentials.{Credentials}
use Rattle.proc_creds.specs.contracts.creds.Creds as creds
use Rattle.proc_table.specs.Procs.{ProcTable, under_creds}
use Rattle.proc_table.specs.contracts.living.Living as living
use Rattle.proc_table.specs.contracts.process.Proc as process
use Rattle.proc_table.specs.contracts.procs.Procs as procs

-- the processes end with the one that was lent as it was left, and as they were where there is none
abbrev pub LendsProcess : MutBor (FinMap pid_cmp Process) → Pid → Option (MutBor Process) → Fml
LendsProcess s who r = LendsSo living.the_row process.the_row s r (λ n p. OnSome r (n ≡ map.insert s.now who p)) (λ n. n ≡ s.now)

-- the processes end with the credentials that were lent as they were left, and as they were where there are none
abbrev pub LendsCreds : MutBor (FinMap pid_cmp Process) → Pid → Option (MutBor Credentials) → Fml
LendsCreds s who r = LendsIf living.the_row creds.the_row s r (under_creds s.now who) s.now

-- so does the table
abbrev pub LendsCredsOf : MutBor ProcTable → Pid → Option (MutBor Credentials) → Fml
LendsCredsOf s who r = LendsIf procs.the_row creds.the_row s r (λ c. record s.now { procs = under_creds s.now.procs who c }) s.now
