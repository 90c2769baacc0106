-- Calls that a watch saw, one after another.
use Rattle.std.specs.Prelude.{◌≡◌, List, [], ◌∷◌, ◌++◌, Result, IsErrAnd, Ok, Err, refl}
use Rattle.std.proofs.Common.{ap, append_assoc, sym, ◌∙◌}
use Rattle.std.proofs.lemmas.List.{append-nil}
use Rattle.kern_model.specs.declared.calls.Call.{Call}
use Rattle.kern_model.specs.declared.numbers.Pid.{Pid}
use Rattle.kern_model.specs.declared.records.Outcome.{Outcome}
use Rattle.kern_model.specs.State.{State}
use Rattle.kern_model.specs.Step.{IsPlayed, StepResult}
use Rattle.sched_progs.specs.Running.{item_of_step}
use Rattle.sched_progs.specs.Turns.{LoopItem}
use Rattle.sched_progs.specs.Watching.{SawCalls, SawPart, item_of}

-- no call was seen
pub none_seen : {T E : Type 0} (r : Result T E) (P : E → Type 0) (items seen refused : List LoopItem) → refused ≡ [] → IsErrAnd r P → SawCalls r items seen seen refused
none_seen (Ok x) P items seen refused none is = absurd is
none_seen (Err x) P items seen refused none is = record {
  part = record { added = []; rest = items; items_are = ap (λ (r : List LoopItem). r ++ items) (sym none); seen_is = sym (append-nil seen) };
  whole = tt;
}

-- a call was refused
pub one_refused : {T E : Type 0} (r : Result T E) (P : E → Type 0) (i : LoopItem) (seen now refused : List LoopItem) → (now ≡ seen) × (refused ≡ i ∷ []) → IsErrAnd r P
    → SawCalls r (i ∷ []) seen now refused
one_refused (Ok x) P i seen now refused told is = absurd is
one_refused (Err x) P i seen now refused told is = record {
  part = record { added = []; rest = []; items_are = sym (append-nil refused ∙ told.1); seen_is = told.0 ∙ sym (append-nil seen) };
  whole = tt;
}

-- a call was seen, whatever came after it
pub one_seen : {T E : Type 0} (r : Result T E) (P : E → Type 0) (i : LoopItem) (seen now refused : List LoopItem) → (now ≡ seen ++ i ∷ []) × (refused ≡ []) → IsErrAnd r P
    → SawCalls r (i ∷ []) seen now refused
one_seen (Ok x) P i seen now refused told is = absurd is
one_seen (Err x) P i seen now refused told is = record {
  part = record { added = i ∷ []; rest = []; items_are = ap (λ (r : List LoopItem). i ∷ (r ++ [])) (sym told.1); seen_is = told.0 };
  whole = tt;
}

-- all calls were seen
pub all_seen : {T E : Type 0} (x : T) (items seen now refused : List LoopItem) → (now ≡ seen ++ items) × (refused ≡ []) → SawCalls {T = T} {E = E} (Ok x) items seen now refused
all_seen x items seen now refused told = record {
  part = record { added = items; rest = []; items_are = sym (append-nil items) ∙ ap (λ (r : List LoopItem). items ++ (r ++ [])) (sym told.1); seen_is = told.0 };
  whole = told;
}

-- ---- several
-- some calls were seen, and these are left
pub record Underway (items left seen now : List LoopItem) : Type 0 where
  pub added : List LoopItem
  pub items_are : items ≡ added ++ left
  pub seen_is : now ≡ seen ++ added

pub starts : (items seen : List LoopItem) → Underway items items seen seen
starts items seen = record { added = []; items_are = refl; seen_is = sym (append-nil seen) }

-- the next ones were seen
pub more_seen : (items left here next seen before now : List LoopItem) → Underway items left seen before → left ≡ here ++ next → now ≡ before ++ here → Underway items next seen now
more_seen items left here next seen before now u split told = record {
  added = u.added ++ here;
  items_are = u.items_are ∙ ap (λ (r : List LoopItem). u.added ++ r) split ∙ sym (append_assoc u.added here next);
  seen_is = told ∙ ap (λ (r : List LoopItem). r ++ here) u.seen_is ∙ append_assoc seen u.added here;
}

-- only some of the next ones were seen
pub part_seen : {T E : Type 0} (r : Result T E) (P : E → Type 0) (items left here next seen before now refused : List LoopItem) → Underway items left seen before → left ≡ here ++ next
    → SawPart here before now refused → IsErrAnd r P → SawCalls r items seen now refused
part_seen (Ok x) P items left here next seen before now refused u split p is = absurd is
part_seen (Err x) P items left here next seen before now refused u split p is = record {
  part = record {
    added = u.added ++ p.added;
    rest = p.rest ++ next;
    items_are =
        u.items_are
        ∙ ap (λ (r : List LoopItem). u.added ++ r) (split ∙ ap (λ (r : List LoopItem). r ++ next) p.items_are ∙ append_assoc p.added (refused ++ p.rest) next ∙ ap (λ (r : List LoopItem). p.added ++ r) (append_assoc refused p.rest next))
        ∙ sym (append_assoc u.added p.added (refused ++ (p.rest ++ next)));
    seen_is = p.seen_is ∙ ap (λ (r : List LoopItem). r ++ p.added) u.seen_is ∙ append_assoc seen u.added p.added;
  };
  whole = tt;
}

-- the last of them were seen
pub whole_seen : {E : Type 0} (items left seen now refused : List LoopItem) → Underway items left seen now → left ≡ [] → refused ≡ [] → SawCalls {T = Unit {0}} {E = E} (Ok tt) items seen now refused
whole_seen items left seen now refused u none going =
    all_seen tt items seen now refused
    (u.seen_is ∙ ap (λ (r : List LoopItem). seen ++ r) (sym (u.items_are ∙ ap (λ (r : List LoopItem). u.added ++ r) none ∙ append-nil u.added)), going)

-- what a call reported is the step
pub item_is : (s : State) (who : Pid) (c : Call) (o : Outcome) (t : State) → IsPlayed s who c o t → item_of who c o ≡ item_of_step s who c
item_is s who c o t played = ap (λ (r : StepResult). record { who = who; call = c; reply = r.reply; recs = r.recs }) (sym played)
