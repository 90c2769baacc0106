-- What a step keeps.
use Rattle.std.specs.Prelude.{◌≡◌, refl, true, false, [], Option, Some, None, Result, Ok, Err, IfOk, OnOk, IsSome, is_some}
use Rattle.std.specs.Result.{is_err}
use Rattle.std.specs.FinMap as map
use Rattle.std.proofs.Common.{ap, sym, ◌∙◌, subst, arith}
use Rattle.std.proofs.Math.Bridge.{le_prop}
use Rattle.std.proofs.Math.Logic.{∥∥₁_map, ∥∥₁_elim}
use Rattle.std.proofs.lemmas.Bool.{true≢false}
use Rattle.std.proofs.lemmas.Result.{IfOk-weaker}
use Rattle.kern_model.specs.declared.calls.Call.{Call}
use Rattle.kern_model.specs.declared.calls.CallName.{CallName}
use Rattle.kern_model.specs.declared.numbers.Pid.{Pid}
use Rattle.kern_model.specs.declared.records.Outcome as reported
use Rattle.kern_model.specs.declared.world.World.{World}
use Rattle.kern_model.specs.Arguments.{has_names, is_call}
use Rattle.kern_model.specs.Boot.{objects_loaded}
use Rattle.kern_model.specs.Drawing.{NumbersGoOn}
use Rattle.kern_model.specs.Names.{name_of}
use Rattle.kern_model.specs.Refusals.{IsNamed}
use Rattle.kern_model.specs.Row.{CheckOutcome, End, Stopped, Refused, Done, judge}
use Rattle.kern_model.specs.State.{State, Process}
use Rattle.kern_model.specs.Step.{StepResult, IsPlayed, step, step_by, step_result, subject, reply_of, state_after}
use Rattle.kern_model.specs.Table.{row}
use Rattle.kern_model.specs.Valid.{IsValid}
use Rattle.kern_model.specs.World.{IsWorld}
use Rattle.iso_laws.specs.Unnamed.{NeedsOnlyNamed}
use Rattle.iso_laws.proofs.Laws.{numbers_step, refusals_are_named, unnamed_capability, valid_boot, valid_step}
use Rattle.kern_core.specs.Kernel.{IsStopped}
use Rattle.kern_core.proofs.StepLemmas.{no_process}

-- ---- a call that stopped
kept_at : (s : State) (who : Pid) (p : Process) (name : CallName) (j : CheckOutcome) → IsStopped (step_result s who p name j).reply → (step_result s who p name j).state ≡ s
kept_at s who p name j = kept j.end
  where
    kept : (e : End) → IsStopped (reply_of e) → state_after s e ≡ s
    kept (Stopped check place) h = refl
    kept (Refused n) h = refl
    kept (Done changes answer own) h = absurd h

kept_by : (s : State) (who : Pid) (c : Call) (o : Option Process) → IsStopped (step_by s who c o).reply → (step_by s who c o).state ≡ s
kept_by s who c None h = refl
kept_by s who c (Some p) h = kept_at s who p (name_of c) (judge (subject who p) [] (row s who p c)) h

-- leaves the state as it was
pub kept_played : (s t : State) (who : Pid) (c : Call) (o : reported.Outcome) → IsPlayed s who c o t → IsStopped o.reply → t ≡ s
unfolding step
kept_played s t who c o is h = sym (ap (λ (u : StepResult). u.state) is) ∙ kept_by s who c (map.get s.procs who) (subst IsStopped (sym (ap (λ (u : StepResult). u.reply) is)) h)

-- ---- a call that was played
go_on_prop : (s t : State) → IsProp (NumbersGoOn s t)
go_on_prop s t = hlevel le_prop

module _ {E : Type 0} (s t : State) (who : Pid) (c : Call) (r : Result reported.Outcome E) (is : IfOk r (λ o. IsPlayed s who c o t)) where
  -- names what refused it
  pub named_played : IfOk r (λ o. IsNamed o.reply)
  named_played = IfOk-weaker r _ _ (λ o e. subst IsNamed (ap (λ (u : StepResult). u.reply) e) (refusals_are_named s who c)) is

  -- needs no capability that no exercise of it names
  pub needs_only_named : IfOk r (λ o. NeedsOnlyNamed s who c o.reply o.recs t)
  needs_only_named = IfOk-weaker r _ _ (λ o e. subst (λ (u : StepResult). NeedsOnlyNamed s who c u.reply u.recs u.state) e (unnamed_capability s who c)) is

  -- leaves a valid state valid
  pub valid_played : is_call s.top c ≡ true → (IsSome (map.get s.procs who) → has_names c ≡ true) → ∥ IsValid s ∥₁ → OnOk r (∥ IsValid t ∥₁)
  valid_played arguments names valid =
      let after : IsValid s → IsValid (step s who c).state = λ v. elim (map.get s.procs who) as (λ w. map.get s.procs who ≡ w → IsValid (step s who c).state) [
        | None ↦ λ none. subst IsValid (sym (ap (λ (u : StepResult). u.state) (no_process s who c none))) v
        | Some p ↦ λ some. valid_step s who c arguments (names (ap is_some some)) v
      ] refl in
      IfOk-weaker r _ _ (λ o e. ∥∥₁_map valid (λ v. subst IsValid (ap (λ (u : StepResult). u.state) e) (after v))) is

  -- lets numbers go on
  pub go_on_played : ∥ IsValid s ∥₁ → OnOk r (NumbersGoOn s t)
  go_on_played valid = IfOk-weaker r _ _ (λ o e. ∥∥₁_elim valid (go_on_prop s t) (λ v. subst (NumbersGoOn s) (ap (λ (u : StepResult). u.state) e) (numbers_step s who c v))) is

-- what holds where a result is Ok, holds where it is no error
pub where_no_error : {X E P : Type 0} (r : Result X E) → OnOk r P → is_err r ≡ false → P
where_no_error (Ok x) h e = h
where_no_error (Err x) h e = absurd (true≢false e)

-- ---- the first state
-- is valid without its processes, since it is that of the world without them
pub valid_objects_loaded : (w : World) → IsWorld w → IsValid (objects_loaded w)
valid_objects_loaded w is = valid_boot (record w { procs = [] }) (record {
  first = is.first;
  others = is.others;
  objects_are = is.objects_are;
  no_names = is.no_names;
  root_body = is.root_body;
  root_label = is.root_label;
  others_placed = is.others_placed;
  objects = is.objects;
  procs = tt;
  room = record { objects = is.room.objects; procs = λ l. omega arith };
})
