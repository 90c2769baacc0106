-- The rows of the calls on processes: their numbers, children and ends, their ids, capability sets and labels.
use Rattle.std.specs.Prelude.{ℕ, ◌+◌, ◌&&◌, ◌||◌, ◌==◌, not, nat_le, Bool, true, false, cond, List, [], ◌∷◌, ◌++◌, length, Option, None, Some}
use Rattle.std.specs.List.{flat_map}
use Rattle.std.specs.FinMap as map
use Rattle.cap_bits.specs.CapSet.{CapSet}
use Rattle.cap_bits.specs.FileCaps.{shown}
use Rattle.cap_bits.specs.declared.state.CapState.{CapState}
use Rattle.fs_path.specs.Path.{PathValue}
use Rattle.lab_lattice.specs.Label.{Label}
use Rattle.kern_model.specs.declared.limits.TheConstants.{MAX_PROCS}
use Rattle.kern_model.specs.declared.calls.Answer.{Answer}
use Rattle.kern_model.specs.declared.calls.Answer.TheVariants as answer
use Rattle.kern_model.specs.declared.calls.Ending.{Ending}
use Rattle.kern_model.specs.declared.calls.Ending.TheVariants as ending
use Rattle.kern_model.specs.declared.calls.Errno.TheVariants as errno
use Rattle.kern_model.specs.declared.calls.Signal.{Signal}
use Rattle.kern_model.specs.declared.calls.Signal.TheVariants as signal
use Rattle.kern_model.specs.declared.numbers.Ids.{Ids}
use Rattle.kern_model.specs.declared.checks.Check.{Check}
use Rattle.kern_model.specs.declared.checks.Place.{Place}
use Rattle.kern_model.specs.declared.numbers.Oid.{Oid}
use Rattle.kern_model.specs.declared.numbers.Pid.{Pid}
use Rattle.kern_model.specs.declared.objects.Attr.{Attr}
use Rattle.kern_model.specs.declared.objects.Object.{Object}
use Rattle.kern_model.specs.declared.records.Rec.{Rec}
use Rattle.kern_model.specs.declared.records.Rec.TheVariants as rec
use Rattle.kern_model.specs.Descriptors.{Descriptor, changes_of_close}
use Rattle.kern_model.specs.Exec.{exec_caps, exec_ids}
use Rattle.kern_model.specs.Keys.{same_pid, is_pid}
use Rattle.kern_model.specs.Maps.{any_entry}
use Rattle.kern_model.specs.Rules.{same_label, mac_write_process, mac_subject, dac_execute, exec_kind, kill_rule, cap_grow, setuid_rule, setgid_rule, setuid_all, setgid_all}
use Rattle.kern_model.specs.Row.{Row, Need, Soft, Refuse, Fail, Commit, need_if}
use Rattle.kern_model.specs.State.{State, Process, Change, SetProcess, DropProcess, DrawProcess, last_drawn}
use Rattle.kern_model.specs.Walk.{on_path, read_object}

-- ---- steps of several calls

-- nothing changes, and the call answers
abbrev pub reports : Answer → Row
reports answer = Commit [] answer None

-- the caller becomes another process
abbrev pub becomes : Pid → Process → Option Rec → Row
becomes who p own = Commit (SetProcess who p ∷ []) answer.Nothing own

-- ---- children

-- a child has all that its parent has, but a parent and no children
abbrev pub child_of : Pid → Process → Process
child_of who p = record p { parent = Some who; ended = [] }

-- the caller gets a child, with the number after the last one of its label
abbrev pub give_child : Pid → Process → ℕ → Row
give_child who p last =
    let child : Pid = record { label = p.label; n = last + 1 } in
    Commit (DrawProcess p.label child.n ∷ SetProcess child (child_of who p) ∷ []) (answer.Process child) (Some (rec.Fork who child))

-- `fork`
abbrev pub fork_row : State → Pid → Process → Row
fork_row s who p = Refuse errno.EAGAIN (nat_le MAX_PROCS (last_drawn s.process_numbers p.label)) (give_child who p (last_drawn s.process_numbers p.label))

-- whether a process has a living child
abbrev pub has_child : State → Pid → Bool
has_child s who = any_entry (λ q (child : Process). is_pid who child.parent) s.procs

-- the first child that ended is taken
abbrev pub take_ended : Pid → Process → List (Pid × Ending) → Row
take_ended who p [] = Fail errno.EAGAIN
take_ended who p (e ∷ es) = Commit (SetProcess who (record p { ended = es }) ∷ []) (answer.Ended e.0 e.1) None

-- a child that ended is awaited, given whether another one lives
abbrev pub await_child : Bool → Pid → Process → List (Pid × Ending) → Row
await_child living who p ended = Refuse errno.ECHILD (length ended == 0 && not living) (take_ended who p ended)

-- `wait`
abbrev pub wait_row : State → Pid → Process → Row
wait_row s who p = await_child (has_child s who) who p p.ended

-- ---- ends

-- another process, when one ends: it has no parent any more where that was it, and learns of the end where it is the parent
abbrev pub process_after_end : Pid → Process → Ending → Pid → Process → Process
process_after_end who p how q other = record other {
  parent = cond (is_pid who other.parent) None other.parent;
  ended = cond (is_pid q p.parent) (other.ended ++ (who, how) ∷ []) other.ended;
}

abbrev pub changes_after_end : Pid → Process → Ending → Pid × Process → List Change
changes_after_end who p how e = cond (not (same_pid e.0 who) && (is_pid who e.1.parent || is_pid e.0 p.parent)) (SetProcess e.0 (process_after_end who p how e.0 e.1) ∷ []) []

-- a process ends: it goes, its descriptors close, its children lose their parent, and its parent learns how it ended
unfoldable pub ending_of : State → Pid → Process → Ending → List Change
ending_of s who p how = DropProcess who ∷ (changes_of_close s (λ (d : Descriptor). same_pid d.who who) ++ flat_map (changes_after_end who p how) (map.entries s.procs))

-- a process ends, and the call records how
abbrev pub kill_with : State → Pid → Process → Ending → Row
kill_with s target t how = Commit (ending_of s target t how) answer.Nothing (Some (rec.Exit target how))

-- `exit N`
abbrev pub exit_row : State → Pid → Process → ℕ → Row
exit_row s who p code = kill_with s who p (ending.Exit code)

-- a living process is written by its present label, where that is not the label of its number
abbrev pub writes_present : Process → Pid → Process → Row → Row
writes_present p target t rest = need_if (not (same_label t.label target.label)) (mac_write_process p target t.label) rest

-- a signal to a living process is asked for
abbrev pub asks_signal : Process → Pid → Process → Row → Row
asks_signal p target t rest = writes_present p target t (Need (kill_rule p target t) rest)

-- what a signal does
abbrev pub signal_row : State → Pid → Process → Signal → Row
signal_row s target t signal.Zero = reports answer.Nothing
signal_row s target t signal.Term = kill_with s target t ending.Term
signal_row s target t signal.Kill = kill_with s target t ending.Kill

-- a signal goes to a living process, if the caller may send it one
abbrev pub send : State → Process → Pid → Signal → Option Process → Row
send s p target sig None = Fail errno.ESRCH
send s p target sig (Some t) = asks_signal p target t (signal_row s target t sig)

-- `kill PID 0|TERM|KILL`
abbrev pub kill_row : State → Pid → Process → Pid → Signal → Row
kill_row s who p target sig = Need (mac_write_process p target target.label) (send s p target sig (map.get s.procs target))

-- ---- programs

-- the caller takes on the credentials that a program gives
abbrev pub run : CapSet → Pid → Process → Oid → Attr → Row
run bound who p id attr =
    let caps : CapState = exec_caps p.caps (shown attr.caps) bound in
    becomes who (record p { ids = exec_ids p.ids attr; caps = caps }) (Some (rec.Exec who id (shown attr.caps) caps))

-- a program is asked for: it is a regular file, and its mode lets the caller execute it
abbrev pub asks_program : Process → Oid → Place → Object → Row → Row
asks_program p id place o rest = Need (exec_kind id o place) (Need (dac_execute p id o place) rest)

-- a program that was read is executed
abbrev pub take_on : CapSet → Pid → Process → Oid → Place → Object → Row
take_on bound who p id place o = asks_program p id place o (run bound who p id o.attr)

-- a program is read and executed
abbrev pub execute : State → Pid → Process → Oid → Place → Row
execute s who p id place = read_object s p id place (take_on s.bound who p id place)

-- `exec PATH`
abbrev pub exec_row : State → Pid → Process → PathValue → Row
exec_row s who p path = on_path s p path (execute s who p)

-- ---- what a process reports of itself

-- `getpid`
abbrev pub getpid_row : State → Pid → Process → Row
getpid_row s who p = reports (answer.Process who)

-- `getppid`
abbrev pub getppid_row : State → Pid → Process → Row
getppid_row s who p = reports (answer.Parent p.parent)

-- `getids`
abbrev pub getids_row : State → Pid → Process → Row
getids_row s who p = reports (answer.Ids p.ids)

-- `cap_get_proc`
abbrev pub cap_get_proc_row : State → Pid → Process → Row
cap_get_proc_row s who p = reports (answer.Caps p.caps)

-- `mac_get_proc`
abbrev pub mac_get_proc_row : State → Pid → Process → Row
mac_get_proc_row s who p = reports (answer.Mark p.label)

-- ---- what a process sets of itself

-- the effective id alone is asked for, where not all were granted
abbrev pub or_effective : Check → Bool → (Bool → Row) → Row
or_effective one true rest = rest true
or_effective one false rest = Need one (rest false)

-- the real, effective and saved id are asked for, by a soft check, and else the effective one alone
abbrev pub asks_ids : Check → Check → (Bool → Row) → Row
asks_ids all one rest = Soft all (or_effective one true rest) (or_effective one false rest)

-- the caller gets other ids
abbrev pub set_ids : Pid → Process → Ids → Row
set_ids who p ids = becomes who (record p { ids = ids }) None

-- the ids with a user: as the real, effective and saved one, or as the effective one alone
abbrev pub with_user : Ids → ℕ → Bool → Ids
with_user ids user true = record ids { ruid = user; euid = user; suid = user }
with_user ids user false = record ids { euid = user }

-- a user is asked for
abbrev pub asks_user : Pid → Process → ℕ → (Bool → Row) → Row
asks_user who p user rest = asks_ids (setuid_all who p user) (setuid_rule who p user) rest

-- the caller gets a user
abbrev pub set_user : Pid → Process → ℕ → Bool → Row
set_user who p user all = set_ids who p (with_user p.ids user all)

-- `setuid UID`
abbrev pub setuid_row : State → Pid → Process → ℕ → Row
setuid_row s who p user = asks_user who p user (set_user who p user)

-- the ids with a group: as the real, effective and saved one, or as the effective one alone
abbrev pub with_group : Ids → ℕ → Bool → Ids
with_group ids group true = record ids { rgid = group; egid = group; sgid = group }
with_group ids group false = record ids { egid = group }

-- a group is asked for
abbrev pub asks_group : Pid → Process → ℕ → (Bool → Row) → Row
asks_group who p group rest = asks_ids (setgid_all who p group) (setgid_rule who p group) rest

-- the caller gets a group
abbrev pub set_group : Pid → Process → ℕ → Bool → Row
set_group who p group all = set_ids who p (with_group p.ids group all)

-- `setgid GID`
abbrev pub setgid_row : State → Pid → Process → ℕ → Row
setgid_row s who p group = asks_group who p group (set_group who p group)

-- `umask MODE`
abbrev pub umask_row : State → Pid → Process → ℕ → Row
umask_row s who p mode = Commit (SetProcess who (record p { umask = mode }) ∷ []) (answer.Bits p.umask) None

-- the caller gets capability sets
abbrev pub set_own_caps : Pid → Process → CapState → Row
set_own_caps who p caps = becomes who (record p { caps = caps }) (Some (rec.CapSetProc who caps))

-- `cap_set_proc CAPS`
abbrev pub cap_set_proc_row : State → Pid → Process → CapState → Row
cap_set_proc_row s who p caps = Need (cap_grow who p caps) (set_own_caps who p caps)

-- a label is asked for: to get another one than it has takes the caller a capability
abbrev pub asks_own_label : Pid → Process → Label → Row → Row
asks_own_label who p new rest = need_if (not (same_label new p.label)) (mac_subject who p new) rest

-- the caller gets a label
abbrev pub set_own_label : Pid → Process → Label → Row
set_own_label who p new = becomes who (record p { label = new }) (Some (rec.MacSetProc who p.label new))

-- `mac_set_proc LABEL`
abbrev pub mac_set_proc_row : State → Pid → Process → Label → Row
mac_set_proc_row s who p new = asks_own_label who p new (set_own_label who p new)
