-- How the credentials of one process change.
use Rattle.std.specs.Prelude.{Bool, true}
use Rattle.kern_model.specs.declared.numbers.Pid.{Pid}
use Rattle.kern_model.specs.Rules.{may_become}
use Rattle.kern_model.specs.State.{State, Process, SetProcess, apply_change, process_at}
use Rattle.proc_creds.specs.Credentials.{Credentials}
use Rattle.sys_proc.specs.declared.changing.CredsChange.{CredsChange}
use Rattle.sys_proc.specs.declared.changing.CredsChange.TheVariants as change
use Rattle.sys_proc.specs.IdKind.{may_set, with_id}

-- the process with a number becomes another one
abbrev pub state_with_process : State → Pid → (Process → Process) → State
state_with_process s who change = apply_change s (SetProcess who (change (process_at s who)))

-- whether the rule of a change allows it
abbrev pub is_allowed : CredsChange → Credentials → Bool
is_allowed (change.Id kind id all) c = may_set kind c.ids id all
is_allowed (change.Caps caps) c = may_become c.caps caps
is_allowed (change.Label label) c = true

-- the credentials after a change
abbrev pub creds_after : CredsChange → Credentials → Credentials
creds_after (change.Id kind id all) c = record c { ids = with_id kind c.ids id all }
creds_after (change.Caps caps) c = record c { caps = caps }
creds_after (change.Label label) c = record c { label = label }
