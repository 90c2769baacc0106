-- A step in a state without some capabilities: as the step in the state that has them, unless it exercises one of them.
use Rattle.std.specs.Prelude.{◌≡◌, true, false, [], ◌∷◌, Option, None, Some, refl, cond}
use Rattle.std.specs.Option.{option_map}
use Rattle.std.specs.FinMap as map
use Rattle.std.proofs.Common.{sym, ◌∙◌, ap, subst}
use Rattle.cap_bits.specs.CapSet.{CapSet}
use Rattle.kern_model.specs.declared.calls.Call.{Call}
use Rattle.kern_model.specs.declared.calls.CallName.{CallName}
use Rattle.kern_model.specs.declared.numbers.Pid.{Pid}
use Rattle.kern_model.specs.declared.records.Rec.{Rec}
use Rattle.kern_model.specs.declared.records.Rec.TheVariants as rec
use Rattle.kern_model.specs.Names.{name_of}
use Rattle.kern_model.specs.Row.{End, Stopped, Refused, Done, CheckOutcome, judge}
use Rattle.kern_model.specs.Rules.{denial_of}
use Rattle.kern_model.specs.State.{State, Process}
use Rattle.kern_model.specs.Step.{StepResult, step, step_by, step_result, subject, reply_of, own_of, state_after}
use Rattle.kern_model.specs.Table.{row}
use Rattle.kern_model.specs.Valid.{IsValid}
use Rattle.least_caps.specs.Asks.{asks}
use Rattle.least_caps.specs.NarrowedStates.{process_without, record_without, state_without}
use Rattle.least_caps.proofs.CallsWithout.{row_follows}
use Rattle.least_caps.proofs.RowsWithout.{LessWithout, NoneOf, OutcomeFollows, end_without, less_itself, less_more, none_parts}
use Rattle.least_caps.proofs.StatesWithout.{apply_changes-without, modes_are, process-without}

module _ (d : CapSet) where
  -- the same reply, the same records but for some exercises, and the same state, without the capabilities
  pub record StepFollows (o o' : StepResult) : Type 0 where
    pub reply : o'.reply ≡ o.reply
    pub state : o'.state ≡ state_without d o.state
    pub recs : LessWithout d o.recs o'.recs

  reply_without : (e : End) → reply_of (end_without d e) ≡ reply_of e
  reply_without (Stopped name place) = refl
  reply_without (Refused n) = refl
  reply_without (Done changes answer own) = refl

  state_after-without : (s : State) (e : End) → state_after (state_without d s) (end_without d e) ≡ state_without d (state_after s e)
  state_after-without s (Stopped name place) = refl
  state_after-without s (Refused n) = refl
  state_after-without s (Done changes answer own) = apply_changes-without d changes s

  module _ (who : Pid) (p : Process) (name : CallName) where
    own_without : (e : End) → LessWithout d (own_of who p name e) (own_of who (process_without d p) name (end_without d e))
    own_without (Stopped check place) =
        let denied : Rec = rec.Deny who name (denial_of check) check place in
        elim p.audited as (λ b. LessWithout d (cond b (denied ∷ []) []) (cond b (denied ∷ []) [])) [
          | true ↦ less_itself (denied ∷ [])
          | false ↦ refl
        ]
    own_without (Refused n) = refl
    own_without (Done changes answer None) = refl
    own_without (Done changes answer (Some r)) = less_itself (record_without d r ∷ [])

    result_follows : (s : State) (j j' : CheckOutcome) → OutcomeFollows d j j'
        → StepFollows (step_result s who p name j) (step_result (state_without d s) who (process_without d p) name j')
    result_follows s j j' h = record {
      reply = ap reply_of h.end ∙ reply_without j.end;
      state = ap (state_after (state_without d s)) h.end ∙ state_after-without s j.end;
      recs =
          less_more d j.used j'.used _ _ h.used
          (subst (λ e. LessWithout d (own_of who p name j.end) (own_of who (process_without d p) name e)) (sym h.end) (own_without j.end));
    }

  -- a step of a valid state, by a call that asks for no capability sets
  pub step_follows : (s : State) (who : Pid) (called : Call) → IsValid s → asks called ≡ false → NoneOf d (step s who called).recs
      → StepFollows (step s who called) (step (state_without d s) who called)
  unfolding step
  step_follows s who called valid other =
      let s' : State = state_without d s in
      let Follow : Option Process → Option Process → Type 0 = λ w w'.
      NoneOf d (step_by s who called w).recs → StepFollows (step_by s who called w) (step_by s' who called w') in
      subst (λ w. Follow (map.get s.procs who) w) (sym (process-without d s who))
      (elim (map.get s.procs who) as (λ w. Follow w (option_map (process_without d) w)) [
        | None ↦ λ _. record { reply = refl; state = refl; recs = refl }
        | Some p ↦ λ none.
            let j : CheckOutcome = judge (subject who p) [] (row s who p called) in
            result_follows who p (name_of called) s j (judge (subject who (process_without d p)) [] (row s' who (process_without d p) called))
            ((row_follows d s (modes_are s valid) who p called other).ends [] [] refl (none_parts d j.used _ none).0)
      ])
