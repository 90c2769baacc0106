-- A call is played as the one that it is.
use Rattle.std.specs.Prelude.{◌≡◌, true, Result}
use Rattle.std.proofs.Common.{ap, sym, ◌∙◌, subst}
use Rattle.kern_model.specs.Arguments.{has_names}
use Rattle.kern_model.specs.declared.calls.Call.{Call}
use Rattle.kern_model.specs.declared.numbers.Pid.{Pid}
use Rattle.kern_model.specs.State.{State, Process}
use Rattle.kern_model.specs.Table.{row}
use Rattle.chk_rules.specs.CheckLog.{CheckLog}
use Rattle.chk_rules.specs.declared.stop.Stop.{Stop}
use Rattle.sys_lookup.specs.declared.effect.Effect.{Effect}
use Rattle.sys_lookup.specs.PlaysRow.{PlaysRow}

-- a body plays the row of a call that is this one
pub plays_as : (s : State) (who : Pid) (p : Process) {a b : Call} → a ≡ b → {before after : CheckLog} {r : Result Effect Stop} {t : State} → PlaysRow s before (row s who p b) r t after → PlaysRow s before (row s who p a) r t after
plays_as s who p same {before} {after} {r} {t} plays = subst (λ (k : Call). PlaysRow s before (row s who p k) r t after) (sym same) plays

-- what it may name an entry by is a name
pub names_as : {a b : Call} → a ≡ b → has_names b ≡ true → has_names a ≡ true
names_as same names = ap has_names same ∙ names
