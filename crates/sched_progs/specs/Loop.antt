-- Loops: turns of labels, one after another.
use Rattle.std.specs.Prelude.{ℕ, List, [], ◌∷◌, ◌++◌, Some, option_to_list}
use Rattle.std.specs.List.{repeat}
use Rattle.std.specs.FinMap as map
use Rattle.lab_lattice.specs.Label.{Label}
use Rattle.kern_model.specs.Maps.{select}
use Rattle.kern_model.specs.State.{State, Process}
use Rattle.sched_progs.specs.Programs.{Programs, steps_of, first_step}
use Rattle.sched_progs.specs.Turns.{LoopItem, LoopState, turn}

-- the calls that are made in turns of these labels
abbrev pub items_of_turns : LoopState → List Label → List LoopItem
items_of_turns x [] = []
items_of_turns x (l ∷ ls) = option_to_list (turn x l).item ++ items_of_turns (turn x l).state ls

-- the state after these turns
abbrev pub state_after_turns : LoopState → List Label → LoopState
state_after_turns x [] = x
state_after_turns x (l ∷ ls) = state_after_turns (turn x l).state ls

-- each living process is at the first step of its program, and no label has had a turn
abbrev pub loop_start : State → Programs → LoopState
loop_start s programs = record {
  kernel = s;
  progress = select (λ who (p : Process). Some (first_step (steps_of programs who))) s.procs;
  last_turns = map.empty;
}

-- the calls of a loop, which goes round the labels so many times
abbrev pub loop : State → Programs → List Label → ℕ → List LoopItem
loop s programs slices rounds = items_of_turns (loop_start s programs) (repeat rounds slices)

-- the state in which it ends
abbrev pub loop_end : State → Programs → List Label → ℕ → State
loop_end s programs slices rounds = (state_after_turns (loop_start s programs) (repeat rounds slices)).kernel
