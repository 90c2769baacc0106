-- The names of a path but the last are passed, one after the other, and then the last one is looked up.
use Rattle.std.specs.Prelude.{◌≡◌, ℕ, ◌+◌, ◌-◌, ◌<◌, ◌≤◌, List, [], ◌∷◌, ◌++◌, Result, Ok, Err, length, take, drop, get_or, refl}
use Rattle.std.specs.Result.{IsErrAnd}
use Rattle.std.proofs.Common.{ap, arith, sym, ◌∙◌, subst}
use Rattle.std.proofs.lemmas.List.{at_drop_all, at_drop_more, take_all, take_more}
use Rattle.fs_path.specs.Name.{Name}
use Rattle.fs_path.specs.Path.{PathValue}
use Rattle.kern_model.specs.declared.checks.Place.{Place}
use Rattle.kern_model.specs.declared.numbers.Oid.{Oid}
use Rattle.kern_model.specs.Row.{Row}
use Rattle.kern_model.specs.State.{State, Process}
use Rattle.kern_model.specs.Walk.{Found, start_of, walk, walk_from}
use Rattle.chk_rules.specs.CheckLog.{CheckLog, judge_from}
use Rattle.chk_rules.specs.RowSteps.{EndsBy, GoesOn}
use Rattle.chk_rules.specs.declared.stop.Stop.{Stop}
use Rattle.chk_rules.proofs.Steps.{ends_over, stops_there, then_goes}
use Rattle.sys_lookup.specs.Walks.{find_name, pass_name, pass_names}

module _ (s : State) (p : Process) (place : ℕ → Place) where
  -- so many names were passed: the row goes on from the directory reached with the names that are left
  pub record HasPassed (start : Oid) (names : List Name) (before : CheckLog) (passed : ℕ) (dir : Oid) (now : CheckLog) : Type 0 where
    pub so_far : (rest : Oid → Row) → judge_from before (pass_names s p place 0 start names rest) ≡ judge_from now (pass_names s p place passed dir (drop passed names) rest)
    pub subject : now.subject ≡ before.subject

  module _ {start : Oid} {names : List Name} {before now : CheckLog} {passed : ℕ} {dir : Oid} (so : HasPassed start names before passed dir now) where
    -- where all were, the row goes on from the directory reached
    pub all_passed : length names ≤ passed → GoesOn before (pass_names s p place 0 start names) (Ok dir) now
    all_passed all = record {
      continues = λ rest. so.so_far rest ∙ at_drop_all (λ ns. judge_from now (pass_names s p place passed dir ns rest)) names passed all;
      stops = tt;
      subject = so.subject;
    }

    module _ {name : Name} (within : passed < length names) (is : name ≡ get_or names passed name) where
      next_left : (rest : Oid → Row) → judge_from before (pass_names s p place 0 start names rest) ≡ judge_from now (pass_name s p (place passed) dir name (λ id. pass_names s p place (passed + 1) id (drop (passed + 1) names) rest))
      next_left rest =
          so.so_far rest
          ∙ at_drop_more (λ ns. judge_from now (pass_names s p place passed dir ns rest)) names passed name within
          ∙ ap (λ (n : Name). judge_from now (pass_name s p (place passed) dir n (λ id. pass_names s p place (passed + 1) id (drop (passed + 1) names) rest))) (sym is)

      -- one more is passed
      pub one_more : {after : CheckLog} {id : Oid} → GoesOn now (pass_name s p (place passed) dir name) (Ok id) after → HasPassed start names before (passed + 1) id after
      one_more step = record {
        so_far = λ rest. next_left rest ∙ step.continues (λ id. pass_names s p place (passed + 1) id (drop (passed + 1) names) rest);
        subject = step.subject ∙ so.subject;
      }

      -- or the walk stops there
      pub passing_stops : {after : CheckLog} {how : Stop} (r : Result Oid Stop) → IsErrAnd r (λ e. e ≡ how) → GoesOn now (pass_name s p (place passed) dir name) (Err how) after → GoesOn before (pass_names s p place 0 start names) r after
      passing_stops (Ok id) stopped step = absurd stopped
      passing_stops {after = after} {how = how} (Err e) stopped step = record {
        continues = tt;
        stops = λ rest.
            let left = λ (id : Oid). pass_names s p place (passed + 1) id (drop (passed + 1) names) rest in
            ends_over after e (next_left rest) (subst (EndsBy (judge_from now (pass_name s p (place passed) dir name left)) after) (sym stopped) (step.stops left));
        subject = step.subject ∙ so.subject;
      }

  -- nothing is passed yet
  pub none_passed : (start : Oid) (names : List Name) (before : CheckLog) → HasPassed start names before 0 start before
  none_passed start names before = record { so_far = λ rest. refl; subject = refl }

  -- ---- the last name

  one_first : (at : ℕ) (dir : Oid) (name : Name) (names : List Name) (last : Name) (k : Found → Row)
      → walk_from s p place at dir (name ∷ (names ++ last ∷ [])) k ≡ pass_name s p (place at) dir name (λ id. walk_from s p place (at + 1) id (names ++ last ∷ []) k)
  one_first at dir name [] last k = refl
  one_first at dir name (next ∷ names) last k = refl

  -- a walk passes the names before the last one, and then looks that up
  pub last_found : (at : ℕ) (dir : Oid) (names : List Name) (last : Name) (k : Found → Row)
      → walk_from s p place at dir (names ++ last ∷ []) k ≡ pass_names s p place at dir names (λ id. find_name s p (place (at + length names)) id last k)
  last_found at dir [] last k = ap (λ n. find_name s p (place n) dir last k) (omega arith)
  last_found at dir (name ∷ names) last k =
      one_first at dir name names last k
      ∙ (λ i. pass_name s p (place at) dir name (λ id. last_found (at + 1) id names last k i))
      ∙ ap (λ n. pass_name s p (place at) dir name (λ id. pass_names s p place (at + 1) id names (λ id. find_name s p (place n) id last k))) (omega arith)

  -- the walk of a path, whose names are these and a last one
  module _ (start : Oid) (path : PathValue) (names : List Name) (last : Name) (starts : start ≡ start_of p path) (are : path.names ≡ names ++ last ∷ []) where
    in_parts : (k : Found → Row) → pass_names s p place 0 start names (λ id. find_name s p (place (length names)) id last k) ≡ walk s p place path k
    in_parts k =
        ap (λ n. pass_names s p place 0 start names (λ id. find_name s p (place n) id last k)) (omega arith)
        ∙ sym (last_found 0 start names last k)
        ∙ (λ i. walk_from s p place 0 (starts i) (sym are i) k)

    -- a walk goes on to the last name
    pub goes_to_last : {before now after : CheckLog} {dir : Oid} {r : Result Found Stop} → GoesOn before (pass_names s p place 0 start names) (Ok dir) now → GoesOn now (find_name s p (place (length names)) dir last) r after → GoesOn before (walk s p place path) r after
    goes_to_last {before = before} {after = after} {r = r} first second = subst (λ part. GoesOn before part r after) (λ i k. in_parts k i) (then_goes {next = λ id k. find_name s p (place (length names)) id last k} first second)

    -- or it stops before
    pub stops_before_last : {before now : CheckLog} {how : Stop} (r : Result Found Stop) → IsErrAnd r (λ e. e ≡ how) → GoesOn before (pass_names s p place 0 start names) (Err how) now → GoesOn before (walk s p place path) r now
    stops_before_last {before = before} {now = now} r stopped step = subst (λ part. GoesOn before part r now) (λ i k. in_parts k i) (stops_there {next = λ id k. find_name s p (place (length names)) id last k} r stopped step)

-- a list is all but its last one, and then that
pub but_last : (all : List Name) (last : Name) → 1 ≤ length all → last ≡ get_or all (length all - 1) last → all ≡ take (length all - 1) all ++ last ∷ []
but_last all last some is =
    let more : length all - 1 + 1 ≡ length all = omega (arith, some) in
    sym (take_all (length all) all (omega arith))
    ∙ ap (λ n. take n all) (sym more)
    ∙ take_more all (length all - 1) last (omega (arith, some))
    ∙ ap (λ (x : Name). take (length all - 1) all ++ x ∷ []) (sym is)
