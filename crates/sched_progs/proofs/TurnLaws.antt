-- One turn of a process: what stays true of a loop, and what the part does.
use Rattle.std.specs.Prelude.{◌≡◌, Bool, true, false, List, Option, Some, None, refl, cond, is_some, option_to_list, unwrap_or}
use Rattle.std.specs.List.{list_all, list_any}
use Rattle.std.specs.FinMap as map
use Rattle.std.proofs.Common.{sym, ◌∙◌, ap, subst}
use Rattle.std.proofs.lemmas.Bool.{or_parts}
use Rattle.lab_lattice.specs.Label.{Label}
use Rattle.kern_model.specs.declared.calls.Call.{Call}
use Rattle.kern_model.specs.declared.numbers.Pid.{Pid}
use Rattle.kern_model.specs.Arguments.{has_names, is_call}
use Rattle.kern_model.specs.Isolation.{low, any_crosses, part, Kept}
use Rattle.kern_model.specs.Keys.{same_pid}
use Rattle.kern_model.specs.State.{State}
use Rattle.kern_model.specs.Step.{StepResult, step}
use Rattle.kern_model.specs.Valid.{IsValid}
use Rattle.kern_model.proofs.KeyLaws.{pid_cmp_total, pid_cmp_exact}
use Rattle.kern_model.proofs.MapLemmas.{each-insert, same_key}
use Rattle.std.specs.FinMap.{get-insert}
use Rattle.iso_laws.proofs.Part.{low_pid}
use Rattle.iso_laws.proofs.Steps.{low_step, other_step, kept_step, valid_step, top_step}
use Rattle.script_text.specs.declared.step.ProgStep.{ProgStep}
use Rattle.sched_progs.specs.Programs.{Progress, call_passes, last_of}
use Rattle.sched_progs.specs.Turns.{LoopItem, LoopState, TurnResult, call_result, child_of, progress_after, progress_of_living, turn_by}
use Rattle.sched_progs.specs.Laws.{item_crosses}
use Rattle.sched_progs.proofs.LowParts.{part-insert, part-insert_other}
use Rattle.sched_progs.proofs.Moves.{Passes}
use Rattle.sched_progs.proofs.NextTurns.{low_progress, part_loop}
use Rattle.sched_progs.proofs.Processes.{after_in_part, after_of_other, each_is, living_each}

-- the arguments of each call of these steps are in their ranges, and what it may name an entry by is a name
abbrev pub MayRun : Label → List ProgStep → Type 0
MayRun top steps = (list_all (call_passes (is_call top)) steps ≡ true) × (list_all (call_passes has_names) steps ≡ true)

-- so are those of a call, if there is one
abbrev pub MayMake : Label → Option Call → Type 0
MayMake top c = Passes (is_call top) c × Passes has_names c

-- what holds of each state of a loop until something crosses: the kernel's state is valid and kept, each living process has a program that may be played,
-- and no other process has one
pub record IsGoing (l : Label) (x : LoopState) : Type 0 where
  pub valid : IsValid x.kernel
  pub kept : Kept l x.kernel
  pub steps : (q : Pid) (p : Progress) → map.get x.progress q ≡ Some p → MayRun x.kernel.top p.steps
  pub living : (q : Pid) → is_some (map.get x.progress q) ≡ is_some (map.get x.kernel.procs q)

-- what a turn by a process does to a state of a loop and to its part
pub record TurnsBeside (l : Label) (is_low : Bool) (x : LoopState) (part_turn t : TurnResult) : Type 0 where
  pub going : IsGoing l t.state
  pub low_same : is_low ≡ true → part_turn ≡ record { state = part_loop l t.state; item = t.item }
  pub other_same : is_low ≡ false → part_loop l t.state ≡ part_loop l x
  pub by : (i : LoopItem) → t.item ≡ Some i → low l i.who.label ≡ is_low

-- after a call each process has the steps of its own, or those of the caller
steps_after : (top : Label) (x : LoopState) (s : State) (who : Pid) (mine : Progress)
    → ((q : Pid) (p : Progress) → map.get x.progress q ≡ Some p → MayRun top p.steps) → MayRun top mine.steps
    → (q : Pid) (p : Progress) → map.get (progress_of_living s who mine x.progress) q ≡ Some p → MayRun top p.steps
steps_after top x s who mine steps own q p is =
    subst (λ (p : Progress). MayRun top p.steps) (each_is (progress_after who mine x.progress) s.procs q p is)
    (elim (same_pid q who) as (λ b. MayRun top (cond b mine (unwrap_or (map.get x.progress q) (child_of mine))).steps) [
      | true ↦ own
      | false ↦ elim (map.get x.progress q) as (λ w. map.get x.progress q ≡ w → MayRun top (unwrap_or w (child_of mine)).steps) [
        | None ↦ λ _. own
        | Some r ↦ λ e. steps q r e
      ] refl
    ])

module _ (l : Label) (x : LoopState) (going : IsGoing l x) (who : Pid) (mine : Progress) (own : MayRun x.kernel.top mine.steps) where
  -- a turn without a call
  module _ (lives : is_some (map.get x.progress who) ≡ true) where
    living_there : (q : Pid) → is_some (map.get (map.insert x.progress who mine) q) ≡ is_some (map.get x.kernel.procs q)
    living_there q =
        ap is_some (get-insert pid_cmp_total x.progress who mine q)
        ∙ elim (same_pid q who) as (λ b. same_pid q who ≡ b → is_some (cond b (Some mine) (map.get x.progress q)) ≡ is_some (map.get x.kernel.procs q)) [
          | true ↦ λ t. sym lives ∙ ap (λ p. is_some (map.get x.progress p)) (sym (same_key pid_cmp_exact q who t)) ∙ going.living q
          | false ↦ λ _. going.living q
        ] refl

    no_call : TurnsBeside l (low l who.label) x (turn_by (part_loop l x) who mine None) (turn_by x who mine None)
    no_call = record {
      going = record {
        valid = going.valid;
        kept = going.kept;
        steps = each-insert pid_cmp_total pid_cmp_exact (λ q (p : Progress). MayRun x.kernel.top p.steps) x.progress going.steps who mine own;
        living = living_there;
      };
      low_same = λ is. ap (λ progress. record { state = record (part_loop l x) { progress = progress }; item = None })
          (sym (part-insert pid_cmp_total pid_cmp_exact (low_pid l) x.progress who mine is));
      other_same = λ high. ap (λ progress. record (part_loop l x) { progress = progress }) (part-insert_other pid_cmp_total pid_cmp_exact (low_pid l) x.progress who mine high);
      by = λ i e. absurd (cc);
    }

  -- a turn with a call that crosses nothing
  module _ (c : Call) (may : MayMake x.kernel.top (Some c)) (inside : any_crosses l (step x.kernel who c).recs ≡ false) where
    abbrev after : StepResult
    after = step x.kernel who c

    abbrev replied : Progress
    replied = record mine { last = last_of after.reply }

    kept_after : Kept l after.state
    kept_after = kept_step l x.kernel who c may.0 going.valid going.kept inside

    going_after : IsGoing l (call_result x who mine c after).state
    going_after =
        let same_top : after.state.top ≡ x.kernel.top = top_step x.kernel who c in
        record {
          valid = valid_step x.kernel who c may.0 may.1 going.valid;
          kept = kept_after;
          steps = λ q p is. subst (λ top. MayRun top p.steps) (sym same_top) (steps_after x.kernel.top x after.state who replied going.steps own q p is);
          living = λ q. living_each (progress_after who replied x.progress) after.state.procs q;
        }

    with_call : TurnsBeside l (low l who.label) x (turn_by (part_loop l x) who mine (Some c)) (turn_by x who mine (Some c))
    with_call = record {
      going = going_after;
      low_same = λ is.
          ap (λ (o : StepResult). call_result (part_loop l x) who mine c o) (low_step l x.kernel who c (record { arguments = may.0; valid = going.valid; kept = going.kept; is_low = is; inside = inside }))
          ∙ ap (λ progress. record {
            state = record { kernel = part l after.state; progress = progress; last_turns = (part_loop l x).last_turns };
            item = Some (record { who = who; call = c; reply = after.reply; recs = after.recs });
          }) (after_in_part l after.state who replied x.progress kept_after);
      other_same = λ high.
          let same : part l after.state ≡ part l x.kernel = other_step l x.kernel who c may.0 going.valid going.kept high inside in
          let there : low_progress l (progress_of_living after.state who replied x.progress) ≡ low_progress l x.progress =
          after_of_other l x.kernel after.state who replied x.progress going.kept kept_after high same going.living in
          λ i. record { kernel = same i; progress = there i; last_turns = (part_loop l x).last_turns };
      by = λ i e. let same : who ≡ i.who = cc in ap (λ (q : Pid). low l q.label) (sym same);
    }

  -- a turn that crosses nothing
  pub turn_beside : is_some (map.get x.progress who) ≡ true → (c : Option Call) → MayMake x.kernel.top c
      → list_any (item_crosses l) (option_to_list (turn_by x who mine c).item) ≡ false → TurnsBeside l (low l who.label) x (turn_by (part_loop l x) who mine c) (turn_by x who mine c)
  turn_beside lives None may inside = no_call lives
  turn_beside lives (Some c) may inside = with_call c may (or_parts (any_crosses l (step x.kernel who c).recs) false inside).0
