-- Where processes are after a call, by its records: where each living process is.
use Rattle.std.specs.Prelude.{◌≡◌, ⊤, not, ◌&&◌, ◌||◌, Bool, true, false, List, [], ◌∷◌, Option, Some, None, refl, cond, is_some, option_to_list, unwrap_or}
use Rattle.std.specs.List.{AllByRecursion}
use Rattle.std.specs.Option.{option_map}
use Rattle.std.specs.FinMap as map
use Rattle.std.specs.FinMap.{get-insert, get-remove, same_map}
use Rattle.std.proofs.Common.{sym, ◌∙◌, ap}
use Rattle.std.proofs.lemmas.Bool.{true≢false, false_from_ne_true}
use Rattle.cap_bits.specs.CapSet.{CapSet}
use Rattle.kern_model.specs.declared.calls.Call.{Call}
use Rattle.kern_model.specs.declared.calls.CallName.{CallName}
use Rattle.kern_model.specs.declared.checks.Check.{Check}
use Rattle.kern_model.specs.declared.checks.CheckName.{CheckName}
use Rattle.kern_model.specs.declared.checks.Place.{Place}
use Rattle.kern_model.specs.declared.numbers.Pid.{Pid}
use Rattle.kern_model.specs.declared.records.Rec.{Rec}
use Rattle.kern_model.specs.declared.records.Rec.TheVariants as rec
use Rattle.kern_model.specs.Keys.{same_pid}
use Rattle.kern_model.specs.Names.{name_of}
use Rattle.kern_model.specs.Row.{Row, Subject, judge}
use Rattle.kern_model.specs.Rules.{denial_of}
use Rattle.kern_model.specs.State.{State, Process, Change}
use Rattle.kern_model.specs.Step.{StepResult, step, subject, own_of}
use Rattle.kern_model.specs.Table.{row}
use Rattle.kern_model.specs.Valid.{IsValid}
use Rattle.kern_model.proofs.KeyLaws.{pid_cmp_total, pid_cmp_exact}
use Rattle.kern_model.proofs.MapLemmas.{same_key}
use Rattle.kern_model.proofs.Selections.{get-select_each}
use Rattle.iso_laws.proofs.AllLemmas.{all-append}
use Rattle.iso_laws.proofs.Along.{NothingKnown, along_each_commit}
use Rattle.iso_laws.proofs.Effects.{Premise, PremiseHolds, Effect, Note, SetSwitch, SetCaps, Execute, SetLabel, SetFileCaps, KeepLabel, Relabel, MakeChild, EndProcess}
use Rattle.iso_laws.proofs.RowKinds.{row_kinds}
use Rattle.iso_laws.proofs.Rows.{EachCommit, end_satisfies}
use Rattle.iso_laws.proofs.Steps.{step_cases}
use Rattle.iso_laws.proofs.Trails.{IsExerciseBy, used_exercises}
use Rattle.iso_laws.proofs.processes.Forking.{next_process_absent}
use Rattle.sched_progs.specs.declared.last_reply.LastReply.TheVariants.{Fresh}
use Rattle.sched_progs.specs.declared.standing.Standing.{Standing}
use Rattle.sched_progs.specs.Programs.{Programs, Progress}
use Rattle.sched_progs.specs.Standings.{Standings, progress_at, progress_of, standings_after, standings_after_one}
use Rattle.sched_progs.specs.Turns.{child_of, progress_after, progress_of_living}
use Rattle.sched_progs.proofs.Living.{Live, living_after, living_after_one, live_after_step}
use Rattle.sched_progs.proofs.Processes.{get-each_at}

-- ---- a child of a fork is new
-- a child that a record names does not live yet
abbrev pub IsNewChild : (Pid → Bool) → Rec → Type 0
IsNewChild live (rec.Fork who child) = live child ≡ false
IsNewChild live _ = ⊤

module _ (s : State) (valid : IsValid s) (live : Pid → Bool) (lives : Live s live) where
  used_new : (who : Pid) (effective : CapSet) (used : List Rec) → AllByRecursion (IsExerciseBy who effective) used → AllByRecursion (IsNewChild live) used
  used_new who effective [] h = tt
  used_new who effective (rec.Exercise e ∷ used) h = (tt, used_new who effective used h.1)
  used_new who effective (r ∷ used) h = absurd h.0

  denial_new : (b : Bool) (who : Pid) (name : CallName) (check : CheckName) (place : Place) → AllByRecursion (IsNewChild live) (cond b (rec.Deny who name (denial_of check) check place ∷ []) [])
  denial_new true who name check place = (tt, tt)
  denial_new false who name check place = tt

  abbrev OwnIsNew : List Change → Option Rec → Type 0
  OwnIsNew cs own = AllByRecursion (IsNewChild live) (option_to_list own)

  module _ (who : Pid) (p : Process) (is : map.get s.procs who ≡ Some p) (Known : Check → Type 0) (Not : Bool → Type 0) (Given : Premise → Type 0) where
    own_new : (cs : List Change) (own : Option Rec) → Effect Known Not Given s who p cs own → OwnIsNew cs own
    own_new cs own (MakeChild few) = (sym (lives _) ∙ ap is_some (next_process_absent s valid who p is), tt)
    own_new cs own (SetCaps caps passes) = (tt, tt)
    own_new cs own (Execute id walked) = (tt, tt)
    own_new cs own (EndProcess q x how at may) = (tt, tt)
    own_new cs own (Note bytes) = (tt, tt)
    own_new cs own (SetSwitch on) = (tt, tt)
    own_new cs own (SetLabel new allowed args) = (tt, tt)
    own_new cs own (SetFileCaps id caps place reaches written file) = (tt, tt)
    own_new cs own (KeepLabel id new place reaches written equal args) = (tt, tt)
    own_new cs own (Relabel id new place reaches written relabel args) = (tt, tt)
    own_new cs own e = tt

  row_new : (who : Pid) (p : Process) → map.get s.procs who ≡ Some p → (c : Call) → EachCommit OwnIsNew (row s who p c)
  row_new who p is c =
      along_each_commit _ _ _ (own_new who p is NothingKnown NothingKnown (PremiseHolds s c)) (row s who p c)
      (row_kinds NothingKnown NothingKnown (PremiseHolds s c) s who p is c (λ x h. h))

  end_new : (who : Pid) (p : Process) (name : CallName) (a : Subject) (r : Row) → EachCommit OwnIsNew r → AllByRecursion (IsNewChild live) (own_of who p name (judge a [] r).end)
  end_new who p name a r h =
      end_satisfies (λ e. AllByRecursion (IsNewChild live) (own_of who p name e)) OwnIsNew (λ check place. denial_new p.audited who name check place) (λ e _. tt) (λ cs answer own h. h) a [] r h

  children_new : (who : Pid) (c : Call) → AllByRecursion (IsNewChild live) (step s who c).recs
  children_new who c = step_cases s who c (λ o. AllByRecursion (IsNewChild live) o.recs) (λ _. tt) (λ p is.
      all-append (IsNewChild live) (judge (subject who p) [] (row s who p c)).used _
      (used_new who p.caps.e _ (used_exercises (subject who p) [] (row s who p c) tt))
      (end_new who p (name_of c) (subject who p) (row s who p c) (row_new who p is c)))

-- ---- where processes are
module _ (who : Pid) (mine : Standing) (before : Standings) where
  abbrev pub child : Standing
  child = record mine { last = Fresh }

  -- where a process is after the call, if it lives
  abbrev pub at : Pid → Standing
  at q = cond (same_pid q who) mine (unwrap_or (map.get before q) child)

  -- the processes that live are there
  abbrev pub AreAt : Standings → (Pid → Bool) → Type 0
  AreAt m live = (q : Pid) → map.get m q ≡ cond (live q) (Some (at q)) None

  module _ (first : Pid → Bool) (there : (q : Pid) → is_some (map.get before q) ≡ first q) (who_lives : first who ≡ true) where
    -- a new child is where its parent is
    child_at : (q : Pid) → first q ≡ false → at q ≡ child
    child_at q new =
        let other : same_pid q who ≡ false = false_from_ne_true _ (λ t. true≢false (sym who_lives ∙ ap first (sym (same_key pid_cmp_exact q who t)) ∙ new)) in
        ap (λ b. cond b mine (unwrap_or (map.get before q) child)) other
        ∙ elim (map.get before q) as (λ w. is_some w ≡ false → unwrap_or w child ≡ child) [ None ↦ λ _. refl | Some a ↦ λ e. absurd (true≢false e) ] (there q ∙ new)

    at_first : AreAt (map.insert before who mine) first
    at_first q =
        get-insert pid_cmp_total before who mine q
        ∙ elim (same_pid q who) as (λ b. same_pid q who ≡ b → cond b (Some mine) (map.get before q) ≡ cond (first q) (Some (cond b mine (unwrap_or (map.get before q) child))) None) [
          | true ↦ λ t. ap (λ b. cond b (Some mine) None) (sym (ap first (same_key pid_cmp_exact q who t) ∙ who_lives))
          | false ↦ λ _.
              elim (map.get before q) as (λ w. is_some w ≡ first q → w ≡ cond (first q) (Some (unwrap_or w child)) None) [
                | None ↦ λ e. ap (λ b. cond b (Some child) None) e
                | Some a ↦ λ e. ap (λ b. cond b (Some a) None) e
              ] (there q)
        ] refl

    at_after_one : (m : Standings) (live : Pid → Bool) (r : Rec) → AreAt m live → IsNewChild first r → AreAt (standings_after_one mine m r) (living_after_one live r)
    at_after_one m live (rec.Fork w born) are new q =
        get-insert pid_cmp_total m born child q
        ∙ elim (same_pid q born) as (λ b. same_pid q born ≡ b → cond b (Some child) (map.get m q) ≡ cond (b || live q) (Some (at q)) None) [
          | true ↦ λ t. ap (λ a. Some a) (sym (child_at q (ap first (same_key pid_cmp_exact q born t) ∙ new)))
          | false ↦ λ _. are q
        ] refl
    at_after_one m live (rec.Exit gone how) are new q =
        get-remove pid_cmp_total m gone q
        ∙ elim (same_pid q gone) as (λ b. cond b None (map.get m q) ≡ cond (not b && live q) (Some (at q)) None) [ true ↦ refl | false ↦ are q ]
    at_after_one m live r are new q = are q

    at_after : (m : Standings) (live : Pid → Bool) (rs : List Rec) → AreAt m live → AllByRecursion (IsNewChild first) rs → AreAt (standings_after mine m rs) (living_after live rs)
    at_after m live [] are new = are
    at_after m live (r ∷ rs) are new = at_after (standings_after_one mine m r) (living_after_one live r) rs (at_after_one m live r are new.0) new.1

pub get-progress : (programs : Programs) (standings : Standings) (q : Pid) → map.get (progress_of programs standings) q ≡ option_map (progress_at programs) (map.get standings q)
get-progress programs standings q = get-select_each pid_cmp_total pid_cmp_exact (λ q (a : Standing). progress_at programs a) standings q

-- ---- after a step
module _ (programs : Programs) (s : State) (valid : IsValid s) (before : Standings) (living : (q : Pid) → is_some (map.get before q) ≡ is_some (map.get s.procs q))
    (who : Pid) (mine : Standing) (lives : is_some (map.get before who) ≡ true) (c : Call) where
  abbrev first_live : Pid → Bool
  first_live q = is_some (map.get s.procs q)

  abbrev after : StepResult
  after = step s who c

  abbrev then_standings : Standings
  then_standings = standings_after mine (map.insert before who mine) after.recs

  are_at : AreAt who mine before then_standings (living_after first_live after.recs)
  are_at = at_after who mine before first_live living (sym (living who) ∙ lives) (map.insert before who mine) first_live after.recs
      (at_first who mine before first_live living (sym (living who) ∙ lives)) (children_new s valid first_live (λ q. refl) who c)

  live_then : Live after.state (living_after first_live after.recs)
  live_then = live_after_step s who c first_live (λ q. refl)

  some_at : (b : Bool) (a : Standing) → is_some (cond {A = Option Standing} b (Some a) None) ≡ b
  some_at true a = refl
  some_at false a = refl

  -- those are there that live
  pub living_then : (q : Pid) → is_some (map.get then_standings q) ≡ is_some (map.get after.state.procs q)
  living_then q = ap is_some (are_at q) ∙ some_at _ _ ∙ sym (live_then q)

  -- a process is at its place in its program
  progress_there : (q : Pid) → progress_after who (progress_at programs mine) (progress_of programs before) q ≡ progress_at programs (at who mine before q)
  progress_there q =
      ap (λ w. cond (same_pid q who) (progress_at programs mine) (unwrap_or w (child_of (progress_at programs mine)))) (get-progress programs before q)
      ∙ elim (same_pid q who) as (λ b. cond b (progress_at programs mine) (unwrap_or (option_map (progress_at programs) (map.get before q)) (child_of (progress_at programs mine)))
      ≡ progress_at programs (cond b mine (unwrap_or (map.get before q) (child who mine before)))) [
        | true ↦ refl
        | false ↦ elim (map.get before q) as (λ w. unwrap_or (option_map (progress_at programs) w) (child_of (progress_at programs mine)) ≡ progress_at programs (unwrap_or w (child who mine before))) [
          | None ↦ refl
          | Some a ↦ refl
        ]
      ]

  by_living : (w : Option Process) (b : Bool) (a : Progress) → is_some w ≡ b → option_map (λ (p : Process). a) w ≡ cond {A = Option Progress} b (Some a) None
  by_living None b a e = ap (λ b. cond {A = Option Progress} b (Some a) None) e
  by_living (Some p) b a e = ap (λ b. cond {A = Option Progress} b (Some a) None) e

  by_standing : (b : Bool) (a : Standing) → option_map (progress_at programs) (cond b (Some a) None) ≡ cond {A = Option Progress} b (Some (progress_at programs a)) None
  by_standing true a = refl
  by_standing false a = refl

  pub progress_then : progress_of programs then_standings ≡ progress_of_living after.state who (progress_at programs mine) (progress_of programs before)
  progress_then = same_map pid_cmp_total pid_cmp_exact _ _ (λ q.
      get-progress programs then_standings q
      ∙ ap (option_map (progress_at programs)) (are_at q)
      ∙ by_standing (living_after first_live after.recs q) (at who mine before q)
      ∙ ap (λ a. cond {A = Option Progress} (living_after first_live after.recs q) (Some a) None) (sym (progress_there q))
      ∙ sym (by_living (map.get after.state.procs q) (living_after first_live after.recs q) _ (live_then q))
      ∙ sym (get-each_at (progress_after who (progress_at programs mine) (progress_of programs before)) after.state.procs q))
