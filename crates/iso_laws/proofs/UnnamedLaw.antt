-- A capability that no exercise of a step names is not needed for the step.
use Rattle.std.specs.Prelude.{◌≡◌, ◌||◌, Bool, true, false, [], ◌++◌, None, Some, refl}
use Rattle.std.specs.FinMap as map
use Rattle.std.proofs.Common.{sym, ◌∙◌, ap, subst}
use Rattle.std.proofs.lemmas.Bool.{or_right, true≢false}
use Rattle.cap_bits.specs.declared.cap.Cap.{Cap}
use Rattle.kern_model.specs.declared.calls.Call.{Call}
use Rattle.kern_model.specs.declared.calls.Call.TheVariants as call
use Rattle.kern_model.specs.declared.calls.CallName.{CallName}
use Rattle.kern_model.specs.declared.numbers.Pid.{Pid}
use Rattle.kern_model.specs.Keys.{same_pid}
use Rattle.kern_model.specs.Names.{name_of}
use Rattle.kern_model.specs.Row.{End, Stopped, Refused, Done, CheckOutcome, judge}
use Rattle.kern_model.specs.State.{State, Process, next_process}
use Rattle.kern_model.specs.Step.{StepResult, step, step_by, step_result, reply_of, own_of, state_after}
use Rattle.kern_model.specs.Table.{row}
use Rattle.kern_model.proofs.KeyLaws.{pid_cmp_total}
use Rattle.iso_laws.specs.Laws.{UnnamedCapability}
use Rattle.iso_laws.specs.Unnamed.{IsUnnamed, is_exercise_of, process_without, state_without, is_caller, is_next_child, is_caller_or_child, reports_own_sets}
use Rattle.iso_laws.proofs.Rows.{EndMatches, OutcomeMatches, none_before}
use Rattle.iso_laws.proofs.Steps.{step_cases, row_outcome}
use Rattle.iso_laws.proofs.WithoutCap.{SameWithout, caller_without, row_simulates, state_without_after, there_without, absent_without}
use Rattle.iso_laws.proofs.WithoutCapRows.{same_row}
use Rattle.std.proofs.lemmas.Cmp.{eq_by_cmp_equiv}

module _ (c : Cap) (s : State) (who : Pid) (picks : Pid → Bool) (covers : (q : Pid) → is_caller who q ≡ true → picks q ≡ true) where
  abbrev s' : State
  s' = caller_without c s who picks covers

  -- how a call ends, and how it ends without the capability
  reply_same : (e e' : End) → EndMatches (SameWithout c picks) e e' → reply_of e' ≡ reply_of e
  reply_same (Stopped name place) e' h = ap reply_of h
  reply_same (Refused n) e' h = ap reply_of h
  reply_same (Done changes answer own) e' h = ap reply_of h.1

  own_same : (p : Process) (name : CallName) (e e' : End) → EndMatches (SameWithout c picks) e e' → own_of who (process_without c p) name e' ≡ own_of who p name e
  own_same p name (Stopped check place) e' h = ap (own_of who p name) h
  own_same p name (Refused n) e' h = ap (own_of who p name) h
  own_same p name (Done changes answer own) e' h = ap (own_of who p name) h.1

  state_same : (e e' : End) → EndMatches (SameWithout c picks) e e' → state_without c picks (state_after s' e') ≡ state_without c picks (state_after s e)
  state_same (Stopped name place) e' h = ap (λ x. state_without c picks (state_after s' x)) h ∙ state_without_after c s who picks covers [] [] refl
  state_same (Refused n) e' h = ap (λ x. state_without c picks (state_after s' x)) h ∙ state_without_after c s who picks covers [] [] refl
  state_same (Done changes answer own) e' h = ap (λ x. state_without c picks (state_after s' x)) h.1 ∙ state_without_after c s who picks covers changes h.0 h.2

  -- a step and one without the capability; for a call that reports the caller's own sets the replies differ
  record StepsAgree (reports : Bool) (o o' : StepResult) : Type 0 where
    pub reply : reports ≡ false → o'.reply ≡ o.reply
    pub recs : o'.recs ≡ o.recs
    pub state : state_without c picks o'.state ≡ state_without c picks o.state

  same_settled : (p : Process) (name : CallName) (j j' : CheckOutcome) → OutcomeMatches (SameWithout c picks) j j' → StepsAgree false (step_result s who p name j) (step_result s' who (process_without c p) name j')
  same_settled p name j j' h = record {
    reply = λ _. reply_same j.end j'.end h.end;
    recs = λ i. h.used i ++ own_same p name j.end j'.end h.end i;
    state = state_same j.end j'.end h.end;
  }

  -- the row follows, and so does what is settled
  same_judged : (called : Call) (p : Process) → map.get s.procs who ≡ Some p → (called ≡ call.Fork → picks (next_process s p.label) ≡ true) → IsUnnamed c (step_result s who p (name_of called) (row_outcome s who called p)).recs
      → StepsAgree (reports_own_sets called) (step_result s who p (name_of called) (row_outcome s who called p)) (step_result s' who (process_without c p) (name_of called) (row_outcome s' who called (process_without c p)))
  unfolding judge
  same_judged call.CapGetProc p is child unnamed = record { reply = λ h. absurd (true≢false h); recs = refl; state = state_without_after c s who picks covers [] [] refl }
  same_judged called p is child unnamed =
      let j : CheckOutcome = row_outcome s who called p in
      let same = same_settled p (name_of called) j (row_outcome s' who called (process_without c p))
      ((row_simulates c who p picks (row s who p called) (row s' who (process_without c p) called) (same_row c s who p picks covers called refl child)).ends [] (none_before (is_exercise_of c) j.used (own_of who p (name_of called) j.end) unnamed)) in
      record { reply = λ _. same.reply refl; recs = same.recs; state = same.state }

  same_step : (called : Call) → ((p : Process) → map.get s.procs who ≡ Some p → called ≡ call.Fork → picks (next_process s p.label) ≡ true) → IsUnnamed c (step s who called).recs → StepsAgree (reports_own_sets called) (step s who called) (step s' who called)
  unfolding step
  same_step called child = step_cases s who called (λ o. IsUnnamed c o.recs → StepsAgree (reports_own_sets called) o (step s' who called))
      (λ none _. subst (λ w. StepsAgree (reports_own_sets called) (step_by s who called None) (step_by s' who called w)) (sym (absent_without c s who picks covers none)) (record { reply = λ _. refl; recs = refl; state = state_without_after c s who picks covers [] [] refl }))
      (λ p is unnamed. subst (λ w. StepsAgree (reports_own_sets called) (step_result s who p (name_of called) (row_outcome s who called p)) (step_by s' who called w)) (sym (there_without c s who picks covers p is)) (same_judged called p is (child p is) unnamed))

-- ---- the caller, and the child of a fork
covers_caller : (s : State) (who : Pid) (called : Call) (q : Pid) → is_caller who q ≡ true → is_caller_or_child s who called q ≡ true
covers_caller s who call.Fork q h = ap (λ b. b || is_next_child s (map.get s.procs who) q) h
covers_caller s who called q h = h

covers_child : (s : State) (who : Pid) (called : Call) (p : Process) → map.get s.procs who ≡ Some p → called ≡ call.Fork → is_caller_or_child s who called (next_process s p.label) ≡ true
covers_child s who called p is fork =
    let child : Pid = next_process s p.label in
    ap (λ x. is_caller_or_child s who x child) fork ∙ ap (λ w. same_pid child who || is_next_child s w child) is ∙ or_right (same_pid child who) _ ((eq_by_cmp_equiv pid_cmp_total).refl child)

pub unnamed_capability : UnnamedCapability
unnamed_capability s who called c unnamed =
    let same = same_step c s who (is_caller_or_child s who called) (covers_caller s who called) called (covers_child s who called) unnamed in
    record { reply_same = same.reply; recs_same = same.recs; state_same = same.state }
