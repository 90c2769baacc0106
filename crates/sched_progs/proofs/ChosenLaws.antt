-- A loop is the run of the script that its programs choose.
use Rattle.std.specs.Prelude.{◌≡◌, List, [], ◌∷◌, ◌++◌, map, Option, Some, None, refl, option_to_list}
use Rattle.std.specs.List.{repeat}
use Rattle.std.proofs.Common.{sym, ◌∙◌, ap, subst}
use Rattle.lab_lattice.specs.Label.{Label}
use Rattle.kern_model.specs.declared.calls.Call.{Call}
use Rattle.kern_model.specs.declared.numbers.Pid.{Pid}
use Rattle.kern_model.specs.Run.{CallRecord, item_record, run, state_after_run}
use Rattle.kern_model.specs.State.{State}
use Rattle.kern_model.specs.Step.{step}
use Rattle.sched_progs.specs.Chosen.{IsRunOf, LoopIsRun, chosen_item, chosen_script, record_of_item}
use Rattle.sched_progs.specs.Loop.{items_of_turns, loop_start, state_after_turns}
use Rattle.sched_progs.specs.Programs.{Progress, move}
use Rattle.sched_progs.specs.Turns.{LoopItem, LoopState, next_in_turn, turn, turn_by, turn_of, with_turn}

-- a turn made this call from one state to another, or none
abbrev IsStep : State → Option LoopItem → State → Type 0
IsStep s None after = s ≡ after
IsStep s (Some i) after = (item_record s (chosen_item i) ≡ record_of_item i) × ((step s i.who i.call).state ≡ after)

of_call : (x : LoopState) (who : Pid) (mine : Progress) (c : Option Call) → IsStep x.kernel (turn_by x who mine c).item (turn_by x who mine c).state.kernel
of_call x who mine None = refl
of_call x who mine (Some c) = (refl, refl)

of_next : (x : LoopState) (l : Label) (o : Option (Pid × Progress)) → IsStep x.kernel (turn_of x l o).item (turn_of x l o).state.kernel
of_next x l None = refl
of_next x l (Some e) = of_call (with_turn x l e.0.n) e.0 (record e.1 { place = (move e.1).place }) (move e.1).call

of_turn : (x : LoopState) (l : Label) → IsStep x.kernel (turn x l).item (turn x l).state.kernel
unfolding turn
of_turn x l = of_next x l (next_in_turn x l)

-- a call before others, which are a run from the state after it
after_step : (s : State) (o : Option LoopItem) (after : State) (items : List LoopItem) (last : State) → IsStep s o after → IsRunOf after items last
    → IsRunOf s (option_to_list o ++ items) last
after_step s None after items last same later = let P : State → Type 0 = λ x. IsRunOf x items last in subst P (sym same) later
after_step s (Some i) after items last is later =
    let rest : run (step s i.who i.call).state (chosen_script items) ≡ map record_of_item items = ap (λ x. run x (chosen_script items)) is.1 ∙ later.calls in
    record {
      calls = ap (λ (p : CallRecord). p ∷ run (step s i.who i.call).state (chosen_script items)) is.0 ∙ ap (λ (ps : List CallRecord). record_of_item i ∷ ps) rest;
      state = ap (λ x. state_after_run x (chosen_script items)) is.1 ∙ later.state;
    }

of_turns : (x : LoopState) (ls : List Label) → IsRunOf x.kernel (items_of_turns x ls) (state_after_turns x ls).kernel
of_turns x [] = record { calls = refl; state = refl }
of_turns x (l ∷ ls) = after_step x.kernel (turn x l).item (turn x l).state.kernel (items_of_turns (turn x l).state ls) (state_after_turns (turn x l).state ls).kernel (of_turn x l) (of_turns (turn x l).state ls)

pub loop_is_run : LoopIsRun
loop_is_run s programs slices rounds = of_turns (loop_start s programs) (repeat rounds slices)
