-- The kinds of ids that a process has three of, and the rule by which a call sets one.
use Rattle.std.specs.Prelude.{ℕ, ◌==◌, ◌&&◌, ◌||◌, Bool, None}
use Rattle.kern_model.specs.declared.checks.Check.{Check}
use Rattle.kern_model.specs.declared.checks.CheckName.{CheckName}
use Rattle.kern_model.specs.declared.checks.CheckName.TheVariants as check
use Rattle.kern_model.specs.declared.numbers.Ids.{Ids}
use Rattle.kern_model.specs.declared.numbers.Pid.{Pid}
use Rattle.kern_model.specs.ProcessRows.{asks_ids, setgid_row, setuid_row, with_group, with_user}
use Rattle.kern_model.specs.Row.{Row}
use Rattle.kern_model.specs.Rules.{on_caller}
use Rattle.kern_model.specs.State.{State, Process}
use Rattle.sys_proc.specs.declared.id_kind.HeldIds.{HeldIds}
use Rattle.sys_proc.specs.declared.id_kind.IdKind.{IdKind}
use Rattle.sys_proc.specs.declared.id_kind.IdKind.TheVariants as kind

-- the row of the call that sets an id of a kind
abbrev pub set_id_row : IdKind → State → Pid → Process → ℕ → Row
set_id_row kind.User s who p id = setuid_row s who p id
set_id_row kind.Group s who p id = setgid_row s who p id

-- the ids of a kind that a process has
abbrev pub held_ids : IdKind → Ids → HeldIds
held_ids kind.User ids = record { real = ids.ruid; effective = ids.euid; saved = ids.suid }
held_ids kind.Group ids = record { real = ids.rgid; effective = ids.egid; saved = ids.sgid }

-- the ids with one of a kind: as the real, effective and saved one, or as the effective one alone
abbrev pub with_id : IdKind → Ids → ℕ → Bool → Ids
with_id kind.User ids id all = with_user ids id all
with_id kind.Group ids id all = with_group ids id all

-- the soft check of a call that sets all three ids of a kind
abbrev pub all_check_name : IdKind → CheckName
all_check_name kind.User = check.SetuidAll
all_check_name kind.Group = check.SetgidAll

-- the check of a call that sets the effective id of a kind alone
abbrev pub effective_check_name : IdKind → CheckName
effective_check_name kind.User = check.Setuid
effective_check_name kind.Group = check.Setgid

-- whether all three ids are this one
abbrev pub are_all : HeldIds → ℕ → Bool
are_all held id = held.real == id && held.effective == id && held.saved == id

-- whether a process may have an id as its effective one: it is the real or the saved one
abbrev pub may_be_effective : HeldIds → ℕ → Bool
may_be_effective held id = id == held.real || id == held.saved

-- whether a process may have an id of a kind: as all three, or as its effective one where that may be
abbrev pub may_set : IdKind → Ids → ℕ → Bool → Bool
may_set k ids id all = all || may_be_effective (held_ids k ids) id

-- soft: the real, effective and saved id of a kind are the one asked for
abbrev pub all_check : IdKind → Pid → Process → ℕ → Check
all_check k who p id = on_caller (all_check_name k) (are_all (held_ids k p.ids) id) None who p

-- the real or the saved id of a kind is the one asked for
abbrev pub effective_check : IdKind → Pid → Process → ℕ → Check
effective_check k who p id = on_caller (effective_check_name k) (may_be_effective (held_ids k p.ids) id) None who p

-- an id of a kind is asked for
abbrev pub asks_id : IdKind → Pid → Process → ℕ → (Bool → Row) → Row
asks_id k who p id rest = asks_ids (all_check k who p id) (effective_check k who p id) rest
