-- The script that programs choose may be played, and its run is the loop.
use Rattle.std.proofs.Common.{◌≡◌, ◌≤◌, true, false, cond, List, [], ◌∷◌, ◌++◌, refl, sym, ◌∙◌, ap, subst, Option, Some, None, arith}
use Rattle.std.specs.Prelude.{is_some, nat_le, option_to_list, unwrap_or, ◌&&◌}
use Rattle.std.specs.List.{repeat}
use Rattle.std.specs.FinMap as map
use Rattle.std.specs.FinMap.{get-insert}
use Rattle.std.proofs.lemmas.Bool.{and_from, le-leb}
use Rattle.lab_lattice.specs.Label.{Label, bottom, dominates}
use Rattle.kern_model.specs.declared.calls.Call.{Call}
use Rattle.kern_model.specs.declared.limits.TheConstants.{MAX_PROCS}
use Rattle.kern_model.specs.declared.numbers.Pid.{Pid}
use Rattle.kern_model.specs.Arguments.{has_names, is_call, is_item, is_number, is_script}
use Rattle.kern_model.specs.Boot.{boot}
use Rattle.kern_model.specs.Keys.{same_pid}
use Rattle.kern_model.specs.State.{Process, State, last_drawn}
use Rattle.kern_model.specs.Step.{StepResult, step}
use Rattle.kern_model.specs.Valid.{IsValid}
use Rattle.kern_model.proofs.KeyLaws.{pid_cmp_total, pid_cmp_exact}
use Rattle.kern_model.proofs.MapLemmas.{each-insert, same_key}
use Rattle.iso_laws.proofs.Laws.{top_boot, top_step, valid_step}
use Rattle.lab_engine.specs.Input.{Accepted}
use Rattle.lab_engine.specs.Session.{session_of}
use Rattle.sched_engine.specs.declared.schedule.Schedule.{Schedule}
use Rattle.sched_progs.specs.Chosen.{chosen_item, chosen_script}
use Rattle.sched_progs.specs.Laws.{IsLoop}
use Rattle.sched_progs.specs.Loop.{items_of_turns, loop_start}
use Rattle.sched_progs.specs.Programs.{Progress, last_of, move}
use Rattle.sched_progs.specs.Turns.{LoopItem, LoopState, TurnResult, child_of, next_in_turn, progress_after, progress_of_living, turn, turn_by, turn_of, with_turn}
use Rattle.sched_progs.proofs.ChosenLaws.{loop_is_run}
use Rattle.sched_progs.proofs.Loops.{going_at_start}
use Rattle.sched_progs.proofs.Moves.{move_passes}
use Rattle.sched_progs.proofs.NextTurns.{next_is}
use Rattle.sched_progs.proofs.Processes.{each_is, living_each}
use Rattle.sched_progs.proofs.TurnLaws.{MayMake, MayRun}
use Rattle.labsys.specs.Scheduling.{chosen, session_by}

-- what holds of each state of a loop: the kernel's state is valid, each living process has a program that may be played, and no other process has one
record IsRunnable (top : Label) (x : LoopState) : Type 0 where
  valid : IsValid x.kernel
  top_is : x.kernel.top ≡ top
  steps : (q : Pid) (p : Progress) → map.get x.progress q ≡ Some p → MayRun top p.steps
  living : (q : Pid) → is_some (map.get x.progress q) ≡ is_some (map.get x.kernel.procs q)

-- the number of a living process is one
number_is : (s : State) (who : Pid) → IsValid s → is_some (map.get s.procs who) ≡ true → is_number s.top who ≡ true
number_is s who valid = by_process (map.get s.procs who) refl
  where
    by_process : (w : Option Process) → map.get s.procs who ≡ w → is_some w ≡ true → is_number s.top who ≡ true
    by_process None is lives = absurd (cc)
    by_process (Some p) is lives =
        let drawn = (valid.procs who p is).drawn_already in
        let few = valid.process_numbers.few who.label in
        let some : 1 ≤ last_drawn s.process_numbers who.label = omega (arith, drawn.0, drawn.1) in
        let most : who.n ≤ MAX_PROCS = omega (arith, drawn.1, few) in
        and_from (nat_le 1 who.n && nat_le who.n MAX_PROCS) (dominates s.top who.label) (and_from (nat_le 1 who.n) (nat_le who.n MAX_PROCS) (le-leb 1 who.n drawn.0) (le-leb who.n MAX_PROCS most))
        (valid.process_numbers.below who.label some)

-- ---- a turn

-- what a turn does
record TurnRuns (top : Label) (t : TurnResult) : Type 0 where
  next : IsRunnable top t.state
  plays : (i : LoopItem) → t.item ≡ Some i → is_item top (chosen_item i) ≡ true

module _ (top : Label) (x : LoopState) (runs : IsRunnable top x) (who : Pid) (mine : Progress) (own : MayRun top mine.steps) (lives : is_some (map.get x.progress who) ≡ true) where
  living_there : (q : Pid) → is_some (map.get (map.insert x.progress who mine) q) ≡ is_some (map.get x.kernel.procs q)
  living_there q =
      ap is_some (get-insert pid_cmp_total x.progress who mine q)
      ∙ elim (same_pid q who) as (λ b. same_pid q who ≡ b → is_some (cond b (Some mine) (map.get x.progress q)) ≡ is_some (map.get x.kernel.procs q)) [
        | true ↦ λ t. sym lives ∙ ap (λ p. is_some (map.get x.progress p)) (sym (same_key pid_cmp_exact q who t)) ∙ runs.living q
        | false ↦ λ _. runs.living q
      ] refl

  -- after a call each process has the steps of its own, or those of the caller
  steps_after : (s : State) (replied : Progress) → MayRun top replied.steps → (q : Pid) (p : Progress) → map.get (progress_of_living s who replied x.progress) q ≡ Some p → MayRun top p.steps
  steps_after s replied its q p is =
      subst (λ (p : Progress). MayRun top p.steps) (each_is (progress_after who replied x.progress) s.procs q p is)
      (elim (same_pid q who) as (λ b. MayRun top (cond b replied (unwrap_or (map.get x.progress q) (child_of replied))).steps) [
        | true ↦ its
        | false ↦ elim (map.get x.progress q) as (λ w. map.get x.progress q ≡ w → MayRun top (unwrap_or w (child_of replied)).steps) [
          | None ↦ λ _. its
          | Some r ↦ λ e. runs.steps q r e
        ] refl
      ])

  runs_call : (c : Call) → MayMake top (Some c) → TurnRuns top (turn_by x who mine (Some c))
  runs_call c may =
      let after : StepResult = step x.kernel who c in
      let replied : Progress = record mine { last = last_of after.reply } in
      let fits : is_call x.kernel.top c ≡ true = ap (λ (t : Label). is_call t c) runs.top_is ∙ may.0 in
      record {
        next = record {
          valid = valid_step x.kernel who c fits may.1 runs.valid;
          top_is = top_step x.kernel who c ∙ runs.top_is;
          steps = steps_after after.state replied own;
          living = living_each (progress_after who replied x.progress) after.state.procs;
        };
        plays = λ i is.
            let made : LoopItem = record { who = who; call = c; reply = after.reply; recs = after.recs } in
            let same : made ≡ i = cc in
            subst (λ (j : LoopItem). is_item top (chosen_item j) ≡ true) same
            (and_from (is_number top who && is_call top c) (has_names c)
            (and_from (is_number top who) (is_call top c) (ap (λ (t : Label). is_number t who) (sym runs.top_is) ∙ number_is x.kernel who runs.valid (sym (runs.living who) ∙ lives)) may.0)
            may.1);
      }

  runs_by : (c : Option Call) → MayMake top c → TurnRuns top (turn_by x who mine c)
  runs_by None may = record {
    next = record {
      valid = runs.valid;
      top_is = runs.top_is;
      steps = each-insert pid_cmp_total pid_cmp_exact (λ q (p : Progress). MayRun top p.steps) x.progress runs.steps who mine own;
      living = living_there;
    };
    plays = λ i is. absurd (cc);
  }
  runs_by (Some c) may = runs_call c may

module _ (top : Label) where
  runs_next : (x : LoopState) → IsRunnable top x → (l : Label) (o : Option (Pid × Progress)) → next_in_turn x l ≡ o → TurnRuns top (turn_of x l o)
  runs_next x runs l None is = record { next = runs; plays = λ i e. absurd (cc) }
  runs_next x runs l (Some e) is =
      let found = next_is x l e is in
      let own : MayRun top e.1.steps = runs.steps e.0 e.1 found.1 in
      let noted : IsRunnable top (with_turn x l e.0.n) = record { valid = runs.valid; top_is = runs.top_is; steps = runs.steps; living = runs.living } in
      runs_by top (with_turn x l e.0.n) noted e.0 (record e.1 { place = (move e.1).place }) own (ap is_some found.1) (move e.1).call (move_passes (is_call top) e.1 own.0, move_passes has_names e.1 own.1)

  runs_turn : (x : LoopState) → IsRunnable top x → (l : Label) → TurnRuns top (turn x l)
  unfolding turn
  runs_turn x runs l = runs_next x runs l (next_in_turn x l) refl

  -- ---- turns

  first_plays : (o : Option LoopItem) (items : List LoopItem) → ((i : LoopItem) → o ≡ Some i → is_item top (chosen_item i) ≡ true) → is_script top (chosen_script items) ≡ true
      → is_script top (chosen_script (option_to_list o ++ items)) ≡ true
  first_plays None items plays rest = rest
  first_plays (Some i) items plays rest = and_from (is_item top (chosen_item i)) (is_script top (chosen_script items)) (plays i refl) rest

  turns_play : (x : LoopState) → IsRunnable top x → (ls : List Label) → is_script top (chosen_script (items_of_turns x ls)) ≡ true
  turns_play x runs [] = refl
  turns_play x runs (l ∷ ls) = let t = runs_turn x runs l in first_plays (turn x l).item (items_of_turns (turn x l).state ls) t.plays (turns_play (turn x l).state t.next ls)

-- the script that programs choose may be played
pub chosen_plays : (a : Accepted) (s : Schedule) → IsLoop bottom (boot a.world) s.programs → is_script a.world.top (chosen a s).items ≡ true
chosen_plays a s is =
    let going = going_at_start bottom (boot a.world) s.programs is in
    let same : (boot a.world).top ≡ a.world.top = top_boot a.world in
    turns_play a.world.top (loop_start (boot a.world) s.programs) (record {
      valid = going.valid;
      top_is = same;
      steps = λ q p e. subst (λ (top : Label). MayRun top p.steps) same (going.steps q p e);
      living = going.living;
    }) (repeat s.rounds s.slices)

-- ---- what is played

-- what is played of programs is what is played of the script that they choose
pub session_is : (a : Accepted) (s : Schedule) → session_of a (chosen a s) ≡ session_by a s
session_is a s =
    let is = loop_is_run (boot a.world) s.programs s.slices s.rounds in
    λ i. record (session_by a s) { calls = is.calls i; last_state = is.state i }
