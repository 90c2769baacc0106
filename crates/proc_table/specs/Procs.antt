-- The table of living processes.
use Rattle.std.specs.Prelude.{◌≡◌, ℕ, ◌+◌, ◌≤◌, ◌<◌, Bool, true, false, List, [], ◌∷◌, ◌++◌, cond, Option, None, Some, MatchOption, Result, Ok, Err, refl}
use Rattle.std.specs.FinMap as map
use Rattle.std.specs.FinMap.{FinMap}
use Rattle.std.specs.Coded.{Coded, code_by, coded×, coded_ℕ}
use Rattle.lab_lattice.specs.Label.{Label, label_cmp}
use Rattle.kern_model.specs.declared.calls.Ending.{Ending}
use Rattle.kern_model.specs.declared.limits.TheConstants.{MAX_PROCS}
use Rattle.kern_model.specs.declared.numbers.Oid.{Oid}
use Rattle.kern_model.specs.declared.numbers.Pid.{Pid}
use Rattle.kern_model.specs.Keys.{is_pid, pid_cmp}
use Rattle.kern_model.specs.Maps.{any_entry, select}
use Rattle.kern_model.specs.ProcessRows.{process_after_end}
use Rattle.kern_model.specs.State.{Process, last_drawn}
use Rattle.proc_creds.specs.Credentials.{Credentials}
use Rattle.proc_table.specs.declared.procs.ReapError.{ReapError}
use Rattle.proc_table.specs.declared.procs.ReapError.TheVariants.{NoChild, NoneEnded}

-- the next number of a label is given exactly where one is left
abbrev pub IsNextIn : FinMap label_cmp ℕ → Label → Option Pid → Type 0
IsNextIn numbers l next = MatchOption next (MAX_PROCS ≤ last_drawn numbers l) (λ who. (who ≡ record { label = l; n = last_drawn numbers l + 1 }) × (last_drawn numbers l < MAX_PROCS))

-- the living processes, and the last number drawn of each label
pub record ProcTable : Type 0 where
  pub procs : FinMap pid_cmp Process
  pub numbers : FinMap label_cmp ℕ

-- how a table is stored
abbrev pub table_code : Coded Pid → Coded Process → Coded Label → Coded ProcTable
table_code who process label =
    code_by (FinMap pid_cmp Process × FinMap label_cmp ℕ)
    (coded× (map.code who process) (map.code label coded_ℕ))
    (λ t. (t.procs, t.numbers))
    (λ p. record { procs = p.0; numbers = p.1 })
    (λ _. refl)

-- the table of no process
abbrev pub no_procs : ProcTable
no_procs = record { procs = map.empty; numbers = map.empty }

-- the number of the next process at a label
abbrev pub next_in : ProcTable → Label → Pid
next_in t l = record { label = l; n = last_drawn t.numbers l + 1 }

-- a process in place of the one with its number
abbrev pub with_process : ProcTable → Pid → Process → ProcTable
with_process t who p = record t { procs = map.insert t.procs who p }

-- a new process under the next number of its label
abbrev pub with_new : ProcTable → Process → ProcTable
with_new t p = record { procs = map.insert t.procs (next_in t p.label) p; numbers = map.insert t.numbers p.label (last_drawn t.numbers p.label + 1) }

-- a process that starts: its switch is on, and it has no parent, no child that ended and no descriptor
abbrev pub new_process : Credentials → Oid → Process
new_process c cwd = record { ids = c.ids; label = c.label; caps = c.caps; umask = c.umask; cwd = cwd; audited = true; parent = None; ended = []; fds = map.empty }

-- the credentials of a process
abbrev pub creds_of : Process → Credentials
creds_of p = record { ids = p.ids; label = p.label; caps = p.caps; umask = p.umask }

-- the process with other credentials
abbrev pub with_creds : Process → Credentials → Process
with_creds p c = record p { ids = c.ids; label = c.label; caps = c.caps; umask = c.umask }

abbrev pub set_creds : FinMap pid_cmp Process → Pid → Credentials → Option Process → FinMap pid_cmp Process
set_creds procs who c None = procs
set_creds procs who c (Some p) = map.insert procs who (with_creds p c)

-- the processes, where the one with a number, if there is one, has other credentials
abbrev pub under_creds : FinMap pid_cmp Process → Pid → Credentials → FinMap pid_cmp Process
under_creds procs who c = set_creds procs who c (map.get procs who)

-- whether a process has a living child
abbrev pub has_living_child : FinMap pid_cmp Process → Pid → Bool
has_living_child procs who = any_entry (λ q (child : Process). is_pid who child.parent) procs

-- children that ended, each with how it ended, the first to end first
abbrev pub EndedChildren : Type 0
EndedChildren = List (Pid × Ending)

-- what a process learns by waiting, from its list of ended children and whether it has a living one
abbrev pub wait_result : EndedChildren → Bool → Result (Pid × Ending) ReapError
wait_result [] false = Err NoChild
wait_result [] true = Err NoneEnded
wait_result (e ∷ es) living = Ok e

-- the first of the ended children of a process, if there is one, is taken off its list
pub record TakesEnded (old new : FinMap pid_cmp Process) (who : Pid) (p : Process) (first : Option (Pid × Ending)) : Type 0 where
  pub left : EndedChildren
  pub now : new ≡ map.insert old who (record p { ended = left })
  pub list : MatchOption first ((p.ended ≡ []) × (left ≡ [])) (λ e. p.ended ≡ e ∷ left)

-- the processes, where the one with a number, if there is one, is changed
abbrev pub change_process_at : FinMap pid_cmp Process → Pid → (Process → Process) → Option Process → FinMap pid_cmp Process
change_process_at procs who f None = procs
change_process_at procs who f (Some p) = map.insert procs who (f p)

abbrev pub change_process : FinMap pid_cmp Process → Pid → (Process → Process) → FinMap pid_cmp Process
change_process procs who f = change_process_at procs who f (map.get procs who)

-- a process without a parent
abbrev pub without_parent : Process → Process
without_parent p = record p { parent = None }

-- a process of which one more child ended
abbrev pub with_ended : Pid → Ending → Process → Process
with_ended child how p = record p { ended = p.ended ++ (child, how) ∷ [] }

-- a process that has lost its parent, where that was this one
abbrev pub without_parent_if : Pid → Process → Process
without_parent_if who p = record p { parent = cond (is_pid who p.parent) None p.parent }

-- the processes, where each that had this one as its parent has lost it
abbrev pub all_without_parent : Pid → FinMap pid_cmp Process → FinMap pid_cmp Process
all_without_parent who procs = select (λ q other. Some (without_parent_if who other)) procs

-- the processes, where the one with a number, if a number is given, is changed
abbrev pub change_process_if : FinMap pid_cmp Process → Option Pid → (Process → Process) → FinMap pid_cmp Process
change_process_if procs None f = procs
change_process_if procs (Some q) f = change_process procs q f

-- the processes where one is gone, and its parent, if there is one, has learnt how it ended
abbrev pub without_ended : FinMap pid_cmp Process → Pid → Process → Ending → FinMap pid_cmp Process
without_ended procs who p how = change_process_if (map.remove procs who) p.parent (with_ended who how)

-- the processes after one ends: it goes, and each other one is as `process_after_end` says
abbrev pub ended_by : FinMap pid_cmp Process → Pid → Process → Ending → FinMap pid_cmp Process
ended_by procs who p how = select (λ q other. Some (process_after_end who p how q other)) (map.remove procs who)

-- the number of each living process was drawn
abbrev pub AreDrawn : FinMap pid_cmp Process → FinMap label_cmp ℕ → Type 0
AreDrawn procs numbers = (who : Pid) (p : Process) → map.get procs who ≡ Some p → who.n ≤ last_drawn numbers who.label
