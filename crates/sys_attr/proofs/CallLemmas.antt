-- What is known of the state of a caller that was made from a state is known of this state.
use Rattle.std.specs.Prelude.{◌≡◌, Ok, Err, Result}
use Rattle.std.specs.Result.{IsErrAnd}
use Rattle.std.proofs.Common.{ap, sym, ◌∙◌, subst}
use Rattle.kern_model.specs.declared.numbers.Oid.{Oid}
use Rattle.kern_model.specs.declared.numbers.Pid.{Pid}
use Rattle.kern_model.specs.AttrRows.{write_object_then}
use Rattle.kern_model.specs.declared.checks.Place.{Place}
use Rattle.kern_model.specs.declared.objects.Object.{Object}
use Rattle.kern_model.specs.Row.{Row}
use Rattle.kern_model.specs.State.{State, Change, apply_change, object_at}
use Rattle.kern_model.specs.Valid.{IsThere}
use Rattle.chk_rules.specs.CheckLog.{CheckLog}
use Rattle.chk_rules.specs.declared.stop.Stop.{Stop}
use Rattle.chk_rules.specs.RowSteps.{GoesOn}
use Rattle.sys_lookup.specs.Callers.{CallerView, caller_in}
use Rattle.sys_lookup.specs.declared.effect.Effect.{Effect}
use Rattle.sys_lookup.specs.declared.shared.Metadata.{Metadata}
use Rattle.sys_lookup.specs.PlaysRow.{PlaysRow}
use Rattle.sys_lookup.proofs.PlayLemmas.{called, stops_row, then_plays}
use Rattle.sys_attr.specs.declared.objects.ObjectArgument.{ObjectArgument}
use Rattle.sys_attr.specs.Objects.{on_argument, on_written, write_argument}

-- the row of a call that changes an object which an argument names, and which is written
abbrev changing : (CallerView → Oid → Place → Object → Row) → ObjectArgument → CallerView → Row
changing change object x = on_argument x.state x.process object (write_object_then x.state x.process (change x))

module _ {s : State} {who : Pid} {k : CallerView} (same : k ≡ caller_in s who) where
  -- the state is that of the caller
  pub state_is : s ≡ k.state
  state_is = sym (ap (λ (x : CallerView). x.state) same)

  -- an object of the caller's state is there
  pub object_there : {id : Oid} → IsThere k.state.objects id → IsThere s.objects id
  object_there {id = id} there = subst (λ (t : State). IsThere t.objects id) (sym state_is) there

  -- a change of the state is one of the caller's
  pub change_is : {t : State} (change : State → Change) → t ≡ apply_change s (change s) → t ≡ apply_change k.state (change k.state)
  change_is change made = made ∙ ap (λ x. apply_change x (change x)) state_is

  -- such a row is played
  module _ (object : ObjectArgument) (change : CallerView → Oid → Place → Object → Row) {r : Result Effect Stop} {a b : CheckLog} where
    pub write_stops : {how : Stop} → IsErrAnd r (λ e. e ≡ how) → GoesOn a (write_argument k.state k.process object) (Err how) b → PlaysRow s a (changing change object (caller_in s who)) r s b
    write_stops is step = called (changing change object) same (stops_row {rest = on_written k.state (change k)} r is state_is step)

    pub write_plays : {m : Metadata} {place : Place} {t : State} {c : CheckLog} → GoesOn a (write_argument k.state k.process object) (Ok (m, place)) b → PlaysRow k.state b (change k m.id place (object_at k.state m.id)) r t c → PlaysRow s a (changing change object (caller_in s who)) r t c
    write_plays step plays = called (changing change object) same (then_plays {rest = on_written k.state (change k)} step plays)
