-- A turn in the standings, and in the state of the loop.
use Rattle.std.specs.Prelude.{◌≡◌, ℕ, zero, suc, Bool, true, false, List, [], ◌∷◌, Option, Some, None, Result, Ok, Err, OnOk, refl, cond, find, is_some, option_to_list}
use Rattle.std.specs.List.{list_all}
use Rattle.std.specs.Option.{option_map, option_or}
use Rattle.std.specs.FinMap as map
use Rattle.std.specs.FinMap.{FinMap, get-insert}
use Rattle.std.proofs.Common.{sym, ◌∙◌, ap, subst}
use Rattle.std.proofs.lemmas.Bool.{and_parts, true≢false}
use Rattle.lab_lattice.specs.Label.{Label, dominates, label_cmp}
use Rattle.kern_model.specs.declared.calls.Call.{Call}
use Rattle.kern_model.specs.declared.numbers.Pid.{Pid}
use Rattle.kern_model.specs.Arguments.{has_names, is_call}
use Rattle.kern_model.specs.Keys.{same_pid}
use Rattle.kern_model.specs.Maps.{get_or, selected}
use Rattle.kern_model.specs.State.{State, Process}
use Rattle.kern_model.specs.Step.{StepResult, step}
use Rattle.kern_model.specs.Valid.{IsValid}
use Rattle.kern_model.proofs.KeyLaws.{pid_cmp_total, pid_cmp_exact}
use Rattle.kern_model.proofs.MapLemmas.{same_key}
use Rattle.kern_model.proofs.Selections.{entries-select, select-insert_each}
use Rattle.iso_laws.proofs.Laws.{call_below, caller_below, records_below, reply_below, top_step, valid_step}
use Rattle.script_text.specs.declared.step.ProgStep.{ProgStep}
use Rattle.sched_progs.specs.declared.standing.Standing.{Standing}
use Rattle.sched_progs.specs.Programs.{Programs, Progress, are_programs, call_passes, max_jumps, move, move_from}
use Rattle.sched_progs.specs.Running.{IsRunning, item_of_step, replied, standings_after_call}
use Rattle.sched_progs.specs.Standings.{Standings, first_standing, loop_state, progress_at, progress_of, steps_at}
use Rattle.sched_progs.specs.Turns.{LoopState, TurnResult, call_result, is_above, is_of, least, next_in_turn, turn, turn_by, turn_of, turn_of_process}
use Rattle.sched_progs.specs.Watching.{IsWithin}
use Rattle.sched_progs.proofs.Followed.{living_then, progress_then}
use Rattle.sched_progs.proofs.LowParts.{entry_found}
use Rattle.sched_progs.proofs.Moves.{Passes, move_passes}

-- ---- the steps of each program
-- the calls of the steps at each place of the table are in their ranges
steps_may : (programs : Programs) (s : State) → are_programs s.top programs ≡ true → (place : ℕ) → list_all (call_passes (is_call s.top)) (steps_at programs place) ≡ true
steps_may [] s all place = refl
steps_may (p ∷ ps) s all zero = (and_parts (list_all (call_passes (is_call s.top)) p.1.steps) (are_programs s.top ps) all).0
steps_may (p ∷ ps) s all (suc place) = steps_may ps s (and_parts (list_all (call_passes (is_call s.top)) p.1.steps) (are_programs s.top ps) all).1 place

-- a number that a process lives at is below the highest label
living_below : (s : State) → IsValid s → (who : Pid) (o : Option Process) → map.get s.procs who ≡ o → is_some o ≡ true → dominates s.top who.label ≡ true
living_below s valid who None is lives = absurd (true≢false (sym lives))
living_below s valid who (Some p) is lives = caller_below s who p valid is

module _ (programs : Programs) (s : State) (standings : Standings) (last_turns : FinMap label_cmp ℕ) (top : Label) (running : IsRunning s programs standings top)
    (who : Pid) (a : Standing) (there : map.get standings who ≡ Some a) where
  abbrev state : LoopState
  state = loop_state s programs standings last_turns

  abbrev p : Progress
  p = progress_at programs a

  abbrev result : TurnResult
  result = turn_of_process state who p

  lives : is_some (map.get standings who) ≡ true
  lives = ap is_some there

  -- what the program calls may be called
  pub may_call : (c : Call) → (move p).call ≡ Some c → is_call s.top c ≡ true
  may_call c is = subst (Passes (is_call s.top)) is (move_passes (is_call s.top) p (steps_may programs s running.programs_are a.program))

  -- and each label in its step is below the watch's
  pub step_within : (c : Call) → (move p).call ≡ Some c → IsWithin top (item_of_step s who c)
  step_within c is =
      let may = may_call c is in
      subst (λ top. IsWithin top (item_of_step s who c)) (sym running.top_is) (record {
        who = living_below s running.valid who (map.get s.procs who) refl (sym (running.living who) ∙ lives);
        call = call_below s.top c may;
        reply = reply_below s who c running.valid;
        recs = records_below s who c may running.valid;
      })

  module _ (place : ℕ) (at : place ≡ (move p).place) where
    abbrev mine : Standing
    mine = record a { place = place }

    -- ---- a turn without a call
    module _ (none : (move p).call ≡ None) where
      without : result ≡ turn_by state who (progress_at programs mine) None
      without = λ i. turn_by state who (record p { place = sym at i }) (none i)

      pub no_items : option_to_list result.item ≡ []
      no_items = ap (λ (t : TurnResult). option_to_list t.item) without

      pub state_without : (next : Standings) → next ≡ map.insert standings who mine → loop_state s programs next last_turns ≡ result.state
      state_without next is =
          ap (λ m. loop_state s programs m last_turns) is
          ∙ ap (λ progress. record state { progress = progress }) (select-insert_each pid_cmp_total pid_cmp_exact (λ q (a : Standing). progress_at programs a) standings who mine)
          ∙ sym (ap (λ (t : TurnResult). t.state) without)

      pub running_without : (next : Standings) → next ≡ map.insert standings who mine → IsRunning s programs next top
      running_without next is = record {
        valid = running.valid;
        programs_are = running.programs_are;
        top_is = running.top_is;
        living = λ q.
            ap (λ m. is_some (map.get m q)) is
            ∙ ap is_some (get-insert pid_cmp_total standings who mine q)
            ∙ elim (same_pid q who) as (λ b. same_pid q who ≡ b → is_some (cond b (Some mine) (map.get standings q)) ≡ is_some (map.get s.procs q)) [
              | true ↦ λ t. sym (ap (λ (k : Pid). is_some (map.get standings k)) (same_key pid_cmp_exact q who t) ∙ lives) ∙ running.living q
              | false ↦ λ _. running.living q
            ] refl;
      }

    -- ---- a turn with a call
    module _ (c : Call) (some : (move p).call ≡ Some c) where
      abbrev after : StepResult
      after = step s who c

      with_it : result ≡ call_result state who (progress_at programs mine) c after
      with_it = λ i. turn_by state who (record p { place = sym at i }) (some i)

      pub one_item : option_to_list result.item ≡ item_of_step s who c ∷ []
      one_item = ap (λ (t : TurnResult). option_to_list t.item) with_it

      pub state_with : (t : State) (next : Standings) → t ≡ after.state → next ≡ standings_after_call s who mine c standings → loop_state t programs next last_turns ≡ result.state
      state_with t next same is =
          (λ i. loop_state (same i) programs (is i) last_turns)
          ∙ ap (λ progress. record { kernel = after.state; progress = progress; last_turns = last_turns })
          (progress_then programs s running.valid standings running.living who (replied mine after.reply) lives c)
          ∙ sym (ap (λ (t : TurnResult). t.state) with_it)

      pub running_with : has_names c ≡ true → (after_top : Label) → after_top ≡ top → (t : State) (next : Standings) → t ≡ after.state → next ≡ standings_after_call s who mine c standings
          → IsRunning t programs next after_top
      running_with names after_top same_top t next same is =
          subst (λ (t : State). IsRunning t programs next after_top) (sym same) (record {
            valid = valid_step s who c (may_call c some) names running.valid;
            programs_are = ap (λ top. are_programs top programs) (top_step s who c) ∙ running.programs_are;
            top_is = same_top ∙ running.top_is ∙ sym (top_step s who c);
            living = λ q. ap (λ m. is_some (map.get m q)) is ∙ living_then programs s running.valid standings running.living who (replied mine after.reply) lives c q;
          })

-- what a turn comes to, by the steps of the program
pub place_at : (programs : Programs) (a : Standing) (steps : List ProgStep) (place : ℕ) → place ≡ (move_from steps a.last max_jumps a.place).place → steps ≡ steps_at programs a.program
    → place ≡ (move (progress_at programs a)).place
place_at programs a steps place is same = is ∙ ap (λ steps. (move_from steps a.last max_jumps a.place).place) same

pub call_at : (programs : Programs) (a : Standing) (steps : List ProgStep) (call : Option Call) → call ≡ (move_from steps a.last max_jumps a.place).call → steps ≡ steps_at programs a.program
    → (move (progress_at programs a)).call ≡ call
call_at programs a steps call is same = sym (is ∙ ap (λ steps. (move_from steps a.last max_jumps a.place).call) same)

-- what follows from two facts at Ok
pub on_both : {T E : Type 0} {P Q S : Type 0} (r : Result T E) → (P → Q → S) → OnOk r P → OnOk r Q → OnOk r S
on_both (Ok x) f p q = f p q
on_both (Err x) f p q = tt

-- ---- who is next
module _ (programs : Programs) (s : State) (standings : Standings) (last_turns : FinMap label_cmp ℕ) where
  -- a process with where it is in its program
  abbrev shown : Pid × Standing → Pid × Progress
  shown e = (e.0, progress_at programs e.1)

  find_shown : (test : Pid → Bool) (es : List (Pid × Standing)) → find (λ (e : Pid × Progress). test e.0) (selected (λ q (a : Standing). Some (progress_at programs a)) es) ≡ option_map shown (find (λ (e : Pid × Standing). test e.0) es)
  find_shown test [] = refl
  find_shown test (e ∷ es) =
      let rest = find_shown test es in
      elim (test e.0) as (λ b. cond b (Some (shown e)) (find (λ (e : Pid × Progress). test e.0) (selected (λ q (a : Standing). Some (progress_at programs a)) es)) ≡ option_map shown (cond b (Some e) (find (λ (e : Pid × Standing). test e.0) es))) [
        | true ↦ refl
        | false ↦ rest
      ]

  least_shown : (test : Pid → Bool) → least test (progress_of programs standings) ≡ option_map shown (first_standing test standings)
  least_shown test =
      ap (find (λ (e : Pid × Progress). test e.0)) (entries-select pid_cmp_total pid_cmp_exact (λ q (a : Standing). Some (progress_at programs a)) standings)
      ∙ find_shown test (map.entries standings)

  or_shown : (w v : Option (Pid × Standing)) → option_or (option_map shown w) (option_map shown v) ≡ option_map shown (option_or w v)
  or_shown None v = refl
  or_shown (Some e) v = refl

  module _ (k : Label) where
    abbrev next_standing : Option (Pid × Standing)
    next_standing = option_or (first_standing (is_above k (get_or last_turns k 0)) standings) (first_standing (is_of k) standings)

    next_shown : next_in_turn (loop_state s programs standings last_turns) k ≡ option_map shown next_standing
    next_shown =
        (λ i. option_or (least_shown (is_above k (get_or last_turns k 0)) i) (least_shown (is_of k) i))
        ∙ or_shown (first_standing (is_above k (get_or last_turns k 0)) standings) (first_standing (is_of k) standings)

    -- the turn of a label is that of the process that is next
    pub turn_is : (o : Option (Pid × Standing)) → o ≡ next_standing → turn (loop_state s programs standings last_turns) k ≡ turn_of (loop_state s programs standings last_turns) k (option_map shown o)
    unfolding turn
    turn_is o is = ap (turn_of (loop_state s programs standings last_turns) k) (next_shown ∙ ap (option_map shown) (sym is))

    pub turn_of_next : (e : Pid × Standing) (noted : FinMap label_cmp ℕ) → Some e ≡ next_standing → noted ≡ map.insert last_turns k e.0.n
        → turn (loop_state s programs standings last_turns) k ≡ turn_of_process (loop_state s programs standings noted) e.0 (progress_at programs e.1)
    turn_of_next e noted is same = turn_is (Some e) is ∙ ap (λ m. turn_of_process (loop_state s programs standings m) e.0 (progress_at programs e.1)) (sym same)

  found : (test : Pid → Bool) (e : Pid × Standing) → first_standing test standings ≡ Some e → map.get standings e.0 ≡ Some e.1
  found test e is = (entry_found pid_cmp_total pid_cmp_exact test standings e is).1

  -- the process that is next lives
  pub next_there : (k : Label) (n : ℕ) (e : Pid × Standing) → option_or (first_standing (is_above k n) standings) (first_standing (is_of k) standings) ≡ Some e → map.get standings e.0 ≡ Some e.1
  next_there k n e is =
      elim (first_standing (is_above k n) standings) as (λ w. first_standing (is_above k n) standings ≡ w → option_or w (first_standing (is_of k) standings) ≡ Some e → map.get standings e.0 ≡ Some e.1) [
        | None ↦ λ _ f. found (is_of k) e f
        | Some d ↦ λ w f. found (is_above k n) e (w ∙ f)
      ] refl is
