-- Ids of a kind that are asked for and set.
use Rattle.std.specs.Prelude.{◌≡◌, ℕ, Bool, None, Result, refl}
use Rattle.kern_model.specs.declared.numbers.Pid.{Pid}
use Rattle.kern_model.specs.ProcessRows.{set_ids}
use Rattle.kern_model.specs.Row.{Row}
use Rattle.kern_model.specs.Rules.{cap_of}
use Rattle.kern_model.specs.State.{State, Process}
use Rattle.chk_rules.specs.CheckLog.{CheckLog}
use Rattle.chk_rules.specs.declared.stop.Stop.{Stop}
use Rattle.sys_lookup.specs.declared.effect.Effect.{Effect}
use Rattle.sys_lookup.specs.PlaysRow.{PlaysRow}
use Rattle.sys_proc.specs.declared.id_kind.IdKind.{IdKind}
use Rattle.sys_proc.specs.declared.id_kind.IdKind.TheVariants as kind
use Rattle.sys_proc.specs.IdKind.{asks_id, effective_check_name, set_id_row, with_id}

-- the caller gets an id of a kind
abbrev pub set_id : IdKind → Pid → Process → ℕ → Bool → Row
set_id k who p id all = set_ids who p (with_id k p.ids id all)

-- an id that is asked for and then set is the row of the call
pub plays_set_id : (k : IdKind) (who : Pid) (p : Process) (id : ℕ) {s t : State} {a b : CheckLog} {r : Result Effect Stop} → PlaysRow s a (asks_id k who p id (set_id k who p id)) r t b → PlaysRow s a (set_id_row k s who p id) r t b
plays_set_id kind.User who p id plays = plays
plays_set_id kind.Group who p id plays = plays

-- no capability lets a call set an effective id that it may not have
pub no_capability : (k : IdKind) → cap_of (effective_check_name k) ≡ None
no_capability kind.User = refl
no_capability kind.Group = refl
