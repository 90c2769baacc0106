-- The law of loops: what a label sees of one is the loop of what it sees, until something crosses.
use Rattle.std.specs.Prelude.{◌≡◌, ℕ, Bool, true, false, cond, List, [], ◌∷◌, filter}
use Rattle.std.specs.List.{list_any}
use Rattle.lab_lattice.specs.Label.{Label}
use Rattle.kern_model.specs.declared.numbers.Pid.{Pid}
use Rattle.kern_model.specs.declared.world.World.{World}
use Rattle.kern_model.specs.Boot.{boot}
use Rattle.kern_model.specs.Isolation.{low, any_crosses, part, Kept}
use Rattle.kern_model.specs.Prefixes.{IsPrefix, Agree}
use Rattle.kern_model.specs.State.{State}
use Rattle.kern_model.specs.Valid.{IsValid}
use Rattle.kern_model.specs.World.{IsWorld}
use Rattle.sched_progs.specs.declared.program.Program.{Program}
use Rattle.sched_progs.specs.Programs.{Programs, are_programs, have_names}
use Rattle.sched_progs.specs.Turns.{LoopItem}
use Rattle.sched_progs.specs.Loop.{loop, loop_end}

-- ---- what a label sees

-- the programs of Low tags
abbrev pub part_programs : Label → Programs → Programs
part_programs l programs = filter (λ (p : Pid × Program). low l p.0.label) programs

-- the turns of Low labels
abbrev pub part_slices : Label → List Label → List Label
part_slices l slices = filter (low l) slices

-- the calls of Low numbers
abbrev pub low_items : Label → List LoopItem → List LoopItem
low_items l items = filter (λ (i : LoopItem). low l i.who.label) items

-- whether a call has a record that crosses l
abbrev pub item_crosses : Label → LoopItem → Bool
item_crosses l i = any_crosses l i.recs

-- the calls before the first one that has such a record
abbrev pub before_crossing : Label → List LoopItem → List LoopItem
before_crossing l [] = []
before_crossing l (i ∷ is) = cond (item_crosses l i) [] (i ∷ before_crossing l is)

-- what the part of a loop does, with nothing else there
abbrev pub loop_alone : Label → State → Programs → List Label → ℕ → List LoopItem
loop_alone l s programs slices rounds = loop (part l s) (part_programs l programs) (part_slices l slices) rounds

-- ---- the law

-- a valid state that is kept, and programs that may be played on it: the names that their calls give are names, without which a state that they lead to is
-- not valid
pub record IsLoop (l : Label) (s : State) (programs : Programs) : Type 0 where
  pub valid : IsValid s
  pub kept : Kept l s
  pub programs_are : are_programs s.top programs ≡ true
  pub names : have_names programs ≡ true

-- the calls of Low numbers before the first one that crosses are a prefix of the part alone: the same calls, replies and records
abbrev pub ClosedLoopPrefix : Type 0
ClosedLoopPrefix = (l : Label) (s : State) (programs : Programs) (slices : List Label) (rounds : ℕ) → IsLoop l s programs
    → IsPrefix (low_items l (before_crossing l (loop s programs slices rounds))) (loop_alone l s programs slices rounds)

-- where no call crosses, they are all of it
abbrev pub ClosedLoopWhole : Type 0
ClosedLoopWhole = (l : Label) (s : State) (programs : Programs) (slices : List Label) (rounds : ℕ) → IsLoop l s programs
    → list_any (item_crosses l) (loop s programs slices rounds) ≡ false → low_items l (loop s programs slices rounds) ≡ loop_alone l s programs slices rounds

-- where no call crosses, the last state is kept, and its part is the last state of the part alone
abbrev pub ClosedLoopEnd : Type 0
ClosedLoopEnd = (l : Label) (s : State) (programs : Programs) (slices : List Label) (rounds : ℕ) → IsLoop l s programs
    → list_any (item_crosses l) (loop s programs slices rounds) ≡ false
    → Kept l (loop_end s programs slices rounds) × (part l (loop_end s programs slices rounds) ≡ loop_end (part l s) (part_programs l programs) (part_slices l slices) rounds)

-- the first state of a world that is accepted has all of this, for every label
abbrev pub LoopOfWorld : Type 0
LoopOfWorld = (l : Label) (w : World) (programs : Programs) → IsWorld w → are_programs w.top programs ≡ true → have_names programs ≡ true → IsLoop l (boot w) programs

-- on two states with the same part, two loops with the same Low programs and Low slices make the same calls of Low numbers, before the first that crosses:
-- one list is a prefix of the other
abbrev pub TwoLoopsAgree : Type 0
TwoLoopsAgree = (l : Label) (s t : State) (programs others : Programs) (slices turns : List Label) (rounds : ℕ) → IsLoop l s programs → IsLoop l t others
    → part l s ≡ part l t → part_programs l programs ≡ part_programs l others → part_slices l slices ≡ part_slices l turns
    → Agree (low_items l (before_crossing l (loop s programs slices rounds))) (low_items l (before_crossing l (loop t others turns rounds)))
