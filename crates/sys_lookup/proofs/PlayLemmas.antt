-- The body of a call along its row, step by step.
use Rattle.std.specs.Prelude.{◌≡◌, Bool, List, Option, Result, Ok, Err, IfErr, refl}
use Rattle.std.specs.Result.{IsErrAnd}
use Rattle.std.specs.declared.alloc.AllocError.{AllocError}
use Rattle.std.proofs.Common.{sym, ◌∙◌, subst}
use Rattle.kern_model.specs.declared.calls.Answer.{Answer}
use Rattle.kern_model.specs.declared.calls.Errno.{Errno}
use Rattle.kern_model.specs.declared.numbers.Pid.{Pid}
use Rattle.kern_model.specs.declared.records.Rec.{Rec}
use Rattle.kern_model.specs.declared.checks.Check.{Check}
use Rattle.kern_model.specs.Row.{Row, Need, Refuse, Fail, Commit}
use Rattle.kern_model.specs.State.{State, Change, apply_changes}
use Rattle.kern_model.proofs.RowLemmas.{judge-fail, judge-give}
use Rattle.chk_rules.specs.CheckLog.{CheckLog, judge_from}
use Rattle.chk_rules.specs.RowSteps.{EndsBy, GoesOn}
use Rattle.chk_rules.specs.declared.stop.Stop.{Stop}
use Rattle.chk_rules.specs.declared.stop.Stop.TheVariants as stop
use Rattle.chk_rules.proofs.Steps.{ends_over}
use Rattle.sys_lookup.specs.declared.effect.Effect.{Effect}
use Rattle.sys_lookup.specs.Callers.{CallerView, caller_in}
use Rattle.sys_lookup.specs.PlaysRow.{PlaysRow, Keeps}

-- the state is as it was, however the call stopped
pub keeps_same : (how : Stop) (s t : State) → t ≡ s → Keeps how s t
unfolding Keeps
keeps_same (stop.Denied name place) s t e = e
keeps_same (stop.Refused n) s t e = e
keeps_same (stop.NoMemory m) s t e = tt

-- the same of what may have stopped it
pub kept_same : {X : Type 0} (r : Result X Stop) (s : State) → IfErr r (λ how. Keeps how s s)
kept_same (Ok x) s = tt
kept_same (Err how) s = keeps_same how s s refl

module _ {X : Type 0} {a b : CheckLog} {part : (X → Row) → Row} {s t : State} where
  -- a step goes on, and the rest of the row is played
  pub then_plays : {c : CheckLog} {x : X} {rest : X → Row} {r : Result Effect Stop} → GoesOn a part (Ok x) b → PlaysRow s b (rest x) r t c → PlaysRow s a (part rest) r t c
  then_plays {c = c} {x = x} {rest = rest} {r = Ok effect} step plays = record {
    completes = record { changes = plays.completes.changes; ends = step.continues rest ∙ plays.completes.ends; state = plays.completes.state };
    ends = tt;
    keeps = tt;
  }
  then_plays {c = c} {x = x} {rest = rest} {r = Err how} step plays = record {
    completes = tt;
    ends = ends_over c how (step.continues rest) plays.ends;
    keeps = plays.keeps;
  }

  -- a step stops, and with it the body, which keeps the state
  pub stops_keeping : {rest : X → Row} {how : Stop} (r : Result Effect Stop) → IsErrAnd r (λ e. e ≡ how) → Keeps how s t → GoesOn a part (Err how) b → PlaysRow s a (part rest) r t b
  stops_keeping {rest = rest} (Ok effect) is keeps step = absurd is
  stops_keeping {rest = rest} {how = how} (Err e) is keeps step = record {
    completes = tt;
    ends = subst (EndsBy _ b) (sym is) (step.stops rest);
    keeps = subst (λ h. Keeps h s t) (sym is) keeps;
  }

  -- the same of a body that has changed nothing
  pub stops_row : {rest : X → Row} {how : Stop} (r : Result Effect Stop) → IsErrAnd r (λ e. e ≡ how) → t ≡ s → GoesOn a part (Err how) b → PlaysRow s a (part rest) r t b
  stops_row {rest = rest} {how = how} r is same step = stops_keeping {rest = rest} r is (keeps_same how s t same) step

-- An item of a row, as `Need check` or `Refuse errno holds`, is a step with one value.
module _ {X : Type 0} {a b : CheckLog} (item : Row → Row) {y : X} {s t : State} {row : Row} where
  -- the item lets the row go on, and the rest is played
  pub item_plays : {c : CheckLog} {x : X} {r : Result Effect Stop} → GoesOn a (λ (rest : X → Row). item (rest y)) (Ok x) b → PlaysRow s b row r t c → PlaysRow s a (item row) r t c
  item_plays step plays = then_plays {rest = λ _. row} step plays

  -- the item stops the row, and the body has changed nothing
  pub item_stops_row : {how : Stop} (r : Result Effect Stop) → IsErrAnd r (λ e. e ≡ how) → t ≡ s → GoesOn a (λ (rest : X → Row). item (rest y)) (Err how) b → PlaysRow s a (item row) r t b
  item_stops_row r is same step = stops_row {rest = λ _. row} r is same step

module _ {X : Type 0} {a b : CheckLog} {check : Check} {y : X} {s t : State} {row : Row} where
  pub need_plays : {c : CheckLog} {x : X} {r : Result Effect Stop} → GoesOn a (λ (rest : X → Row). Need check (rest y)) (Ok x) b → PlaysRow s b row r t c → PlaysRow s a (Need check row) r t c
  need_plays step plays = item_plays (Need check) step plays

  pub need_stops_row : {how : Stop} (r : Result Effect Stop) → IsErrAnd r (λ e. e ≡ how) → t ≡ s → GoesOn a (λ (rest : X → Row). Need check (rest y)) (Err how) b → PlaysRow s a (Need check row) r t b
  need_stops_row r is same step = item_stops_row (Need check) r is same step

module _ {X : Type 0} {a b : CheckLog} {errno : Errno} {holds : Bool} {y : X} {s t : State} {row : Row} where
  pub refuse_plays : {c : CheckLog} {x : X} {r : Result Effect Stop} → GoesOn a (λ (rest : X → Row). Refuse errno holds (rest y)) (Ok x) b → PlaysRow s b row r t c → PlaysRow s a (Refuse errno holds row) r t c
  refuse_plays step plays = item_plays (Refuse errno holds) step plays

  pub refuse_stops_row : {how : Stop} (r : Result Effect Stop) → IsErrAnd r (λ e. e ≡ how) → t ≡ s → GoesOn a (λ (rest : X → Row). Refuse errno holds (rest y)) (Err how) b → PlaysRow s a (Refuse errno holds row) r t b
  refuse_stops_row r is same step = item_stops_row (Refuse errno holds) r is same step

-- memory runs out
pub no_memory_row : {s t : State} {a b : CheckLog} {row : Row} {m : AllocError} (r : Result Effect Stop) → IsErrAnd r (λ e. e ≡ stop.NoMemory m) → PlaysRow s a row r t b
unfolding EndsBy Keeps
no_memory_row (Ok effect) is = absurd is
no_memory_row {s = s} {t = t} {a = a} {b = b} {row = row} (Err how) is = record {
  completes = tt;
  ends = subst (λ h. EndsBy (judge_from a row) b h) (sym is) tt;
  keeps = subst (λ h. Keeps h s t) (sym is) tt;
}

-- the row only refuses
pub fails_row : (s t : State) (log : CheckLog) (e : Errno) → t ≡ s → PlaysRow s log (Fail e) (Err (stop.Refused e)) t log
unfolding EndsBy Keeps
fails_row s t log e same = record { completes = tt; ends = judge-fail log.subject log.used e; keeps = same }

-- the row ends, and its changes are made
pub commits : (s t : State) (log : CheckLog) (changes : List Change) (answer : Answer) (own : Option Rec) → t ≡ apply_changes s changes → PlaysRow s log (Commit changes answer own) (Ok (record { answer = answer; own = own })) t log
commits s t log changes answer own made = record {
  completes = record { changes = changes; ends = judge-give _ _ _ _ _; state = made };
  ends = tt;
  keeps = tt;
}

-- the same with an equal answer
pub equal_answer : {s t : State} {a b : CheckLog} {r : Result Effect Stop} {changes : List Change} {own : Option Rec} {given answer : Answer} → given ≡ answer → PlaysRow s a (Commit changes given own) r t b → PlaysRow s a (Commit changes answer own) r t b
equal_answer {s = s} {t = t} {a = a} {b = b} {r = r} {changes = changes} {own = own} same plays = subst (λ x. PlaysRow s a (Commit changes x own) r t b) same plays

-- the same with an equal record
pub equal_record : {s t : State} {a b : CheckLog} {r : Result Effect Stop} {changes : List Change} {answer : Answer} {given own : Option Rec} → given ≡ own → PlaysRow s a (Commit changes answer given) r t b → PlaysRow s a (Commit changes answer own) r t b
equal_record {s = s} {t = t} {a = a} {b = b} {r = r} {changes = changes} {answer = answer} same plays = subst (λ x. PlaysRow s a (Commit changes answer x) r t b) same plays

-- the row ends with this effect, and its changes are made
pub commits_as : {s t : State} {log : CheckLog} {changes : List Change} {answer : Answer} {own : Option Rec} {effect : Effect} → effect ≡ record { answer = answer; own = own } → t ≡ apply_changes s changes → PlaysRow s log (Commit changes answer own) (Ok effect) t log
commits_as {s = s} {t = t} {log = log} {changes = changes} {answer = answer} {own = own} same made = subst (λ e. PlaysRow s log (Commit changes answer own) (Ok e) t log) (sym same) (commits s t log changes answer own made)

-- a caller is the living process with its number, and so its row is that of this process
pub called : {s t : State} {a b : CheckLog} {r : Result Effect Stop} {who : Pid} {k : CallerView} (row : CallerView → Row) → k ≡ caller_in s who → PlaysRow k.state a (row k) r t b → PlaysRow s a (row (caller_in s who)) r t b
called {t = t} {a = a} {b = b} {r = r} row same plays = subst (λ (x : CallerView). PlaysRow x.state a (row x) r t b) same plays

-- the same of a step
pub step_called : {X : Type 0} {s : State} {a b : CheckLog} {r : Result X Stop} {who : Pid} {k : CallerView} (part : CallerView → (X → Row) → Row) → k ≡ caller_in s who → GoesOn a (part k) r b → GoesOn a (part (caller_in s who)) r b
step_called {a = a} {b = b} {r = r} part same step = subst (λ (x : CallerView). GoesOn a (part x) r b) same step
