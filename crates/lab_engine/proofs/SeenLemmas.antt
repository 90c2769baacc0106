-- Calls that are seen one after another.
use Rattle.std.proofs.Common.{◌≡◌, ℕ, ◌+◌, List, [], ◌∷◌, ◌++◌, length, refl, sym, ◌∙◌, ap, subst, append_assoc, arith}
use Rattle.std.proofs.lemmas.List.{append-nil, length-append, map-append}
use Rattle.std.specs.Prelude.{IsErrAnd, Result, Ok, Err}
use Rattle.kern_model.specs.declared.numbers.Pid.{Pid}
use Rattle.kern_model.specs.declared.records.Outcome.{Outcome}
use Rattle.kern_model.specs.declared.world.ScriptItem.{ScriptItem}
use Rattle.kern_model.specs.Run.{CallRecord, run, state_after_run}
use Rattle.kern_model.specs.State.{State}
use Rattle.kern_model.specs.Step.{step}
use Rattle.lab_engine.specs.declared.ending.Fault.{Fault}
use Rattle.lab_engine.specs.declared.replying.CallHead.{CallHead}
use Rattle.lab_engine.specs.declared.replying.ReplyLine.{ReplyLine}
use Rattle.lab_engine.specs.Report.{call_record}
use Rattle.lab_engine.specs.Reporter.{SawCalls, SawPart, call_on, calls_seen, head_of, head_seen, who_of}

-- ---- one call

module _ (r : ReplyLine) (who : Pid) (head : CallHead) (o : Outcome) (who_is : who ≡ who_of r) (head_is : head_seen head ≡ head_of r) (seen seen' : List (Pid × (CallHead × Outcome))) (is : seen' ≡ seen ++ (who, (head, o)) ∷ []) where
  -- a list with one more call
  pub one_more : calls_seen seen' ≡ calls_seen seen ++ call_on r o ∷ []
  one_more =
      ap calls_seen is
      ∙ map-append (λ (c : Pid × (CallHead × Outcome)). call_record c.0 (head_seen c.1.0) c.1.1) seen ((who, (head, o)) ∷ [])
      ∙ (λ i. calls_seen seen ++ call_record (who_is i) (head_is i) o ∷ [])

  -- the same where no call was there
  pub only_one : calls_seen seen ≡ [] → calls_seen seen' ≡ call_on r o ∷ []
  only_one none = one_more ∙ ap (λ (cs : List CallRecord). cs ++ call_on r o ∷ []) none

-- no call was seen
pub none_seen : {T : Type 0} (r : Result T Fault) (P : Fault → Type 0) (calls seen stopped : List CallRecord) → stopped ≡ [] → IsErrAnd r P → SawCalls r calls seen seen stopped
none_seen (Ok x) P calls seen stopped none is = absurd is
none_seen (Err x) P calls seen stopped none is = record { added = []; rest = calls; calls_are = ap (λ (cs : List CallRecord). cs ++ calls) (sym none); seen_is = sym (append-nil seen) }

-- equal calls
pub saw_equal : {T : Type 0} (r : Result T Fault) (calls calls' seen seen' stopped : List CallRecord) → calls ≡ calls' → SawCalls r calls seen seen' stopped → SawCalls r calls' seen seen' stopped
saw_equal r calls calls' seen seen' stopped is saw = subst (λ (cs : List CallRecord). SawCalls r cs seen seen' stopped) is saw

-- a function stops where its step does
pub part_passes : {T : Type 0} (r : Result T Fault) (P : Fault → Type 0) (calls seen seen' stopped : List CallRecord) → SawPart calls seen seen' stopped → IsErrAnd r P → SawCalls r calls seen seen' stopped
part_passes (Ok x) P calls seen seen' stopped part is = absurd is
part_passes (Err x) P calls seen seen' stopped part is = part

-- ---- calls one after another

-- some calls were seen, and these are left
pub record SeenSoFar (calls left seen now : List CallRecord) : Type 0 where
  pub added : List CallRecord
  pub calls_are : calls ≡ added ++ left
  pub seen_is : now ≡ seen ++ added

pub so_far_begins : (calls seen : List CallRecord) → SeenSoFar calls calls seen seen
so_far_begins calls seen = record { added = []; calls_are = refl; seen_is = sym (append-nil seen) }

module _ (calls left seen now : List CallRecord) (u : SeenSoFar calls left seen now) where
  -- all were seen
  pub so_far_ends : left ≡ [] → now ≡ seen ++ calls
  so_far_ends none = u.seen_is ∙ ap (λ (cs : List CallRecord). seen ++ cs) (sym (append-nil u.added) ∙ ap (λ (cs : List CallRecord). u.added ++ cs) (sym none) ∙ sym u.calls_are)

  module _ (more left' : List CallRecord) (goes : left ≡ more ++ left') (now' : List CallRecord) where
    -- more of them were seen
    pub so_far_more : now' ≡ now ++ more → SeenSoFar calls left' seen now'
    so_far_more is = record {
      added = u.added ++ more;
      calls_are = u.calls_are ∙ ap (λ (cs : List CallRecord). u.added ++ cs) goes ∙ sym (append_assoc u.added more left');
      seen_is = is ∙ ap (λ (cs : List CallRecord). cs ++ more) u.seen_is ∙ append_assoc seen u.added more;
    }

    -- a part of them was seen
    pub so_far_part : (stopped : List CallRecord) → SawPart more now now' stopped → SawPart calls seen now' stopped
    so_far_part stopped part = record {
      added = u.added ++ part.added;
      rest = part.rest ++ left';
      calls_are =
          u.calls_are
          ∙ ap (λ (cs : List CallRecord). u.added ++ cs) goes
          ∙ ap (λ (cs : List CallRecord). u.added ++ (cs ++ left')) part.calls_are
          ∙ ap (λ (cs : List CallRecord). u.added ++ cs) (append_assoc part.added (stopped ++ part.rest) left')
          ∙ ap (λ (cs : List CallRecord). u.added ++ (part.added ++ cs)) (append_assoc stopped part.rest left')
          ∙ sym (append_assoc u.added part.added (stopped ++ (part.rest ++ left')));
      seen_is = part.seen_is ∙ ap (λ (cs : List CallRecord). cs ++ part.added) u.seen_is ∙ append_assoc seen u.added part.added;
    }

-- what is played of some items, and of those after them
pub run_append : (s : State) (is more : List ScriptItem) → run s (is ++ more) ≡ run s is ++ run (state_after_run s is) more
run_append s [] more = refl
run_append s (i ∷ is) more = ap (λ (cs : List CallRecord). record { who = i.who; head = i.head; reply = (step s i.who i.call).reply; recs = (step s i.who i.call).recs } ∷ cs) (run_append (step s i.who i.call).state is more)

run_length : (s : State) (is : List ScriptItem) → length (run s is) ≡ length is
run_length s [] = refl
run_length s (i ∷ is) = let more = run_length (step s i.who i.call).state is in omega (arith, more)

-- so many calls and these ones were seen
pub more_counted : (n k : ℕ) (s : State) (is : List ScriptItem) (seen seen' : List CallRecord) → length seen ≡ n → seen' ≡ seen ++ run s is → k ≡ n + length is → length seen' ≡ k
more_counted n k s is seen seen' before added after = omega (arith, ap length added, length-append seen (run s is), run_length s is, before, after)
