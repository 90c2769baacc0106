-- Programs, as their lines are read.
use Rattle.std.specs.Prelude.{◌≡◌, ◌&&◌, Bool, true, cond, not, nat_lt, List, [], ◌∷◌, ◌++◌, length, Option, Some, None, option_map, option_to_list}
use Rattle.std.specs.BTreeSet.{BTreeSet, contains}
use Rattle.std.specs.List.{list_any}
use Rattle.kern_model.specs.declared.numbers.Pid.{Pid}
use Rattle.kern_model.specs.Keys.{pid_cmp, same_pid}
use Rattle.script_text.specs.declared.step.ProgStep.{ProgStep}
use Rattle.sched_progs.specs.declared.program.Program.{Program}
use Rattle.sched_progs.specs.Programs.{Programs}
use Rattle.sched_engine.specs.declared.programs.TheConstants.{MAX_STEPS}

-- whether a process has one of these programs
abbrev pub has_program : Programs → Pid → Bool
has_program programs who = list_any (λ (p : Pid × Program). same_pid p.0 who) programs

-- no process has two of these programs
abbrev pub are_distinct : Programs → Bool
are_distinct [] = true
are_distinct (p ∷ ps) = not (has_program ps p.0) && are_distinct ps

-- a process with these steps
abbrev pub program_of : Pid → List ProgStep → Pid × Program
program_of who steps = (who, record { steps = steps })

-- with the empty program of a process, unless it has one
abbrev pub with_program : Programs → Pid → Option Programs
with_program programs who = cond (has_program programs who) None (Some (programs ++ program_of who [] ∷ []))

-- with a step at the end of the last program, where there is one that has room for it
abbrev pub with_step : Programs → ProgStep → Option Programs
with_step [] made = None
with_step (p ∷ []) made = cond (nat_lt (length p.1.steps) MAX_STEPS) (Some (program_of p.0 (p.1.steps ++ made ∷ []) ∷ [])) None
with_step (p ∷ q ∷ ps) made = option_map (λ (more : Programs). p ∷ more) (with_step (q ∷ ps) made)

-- these are the processes that have a program: one of the earlier ones, or the last one, without which there is no earlier one
pub record AreOwners (earlier : Programs) (last : Option (Pid × Program)) (owners : BTreeSet Pid) : Type 0 where
  pub first : last ≡ None → earlier ≡ []
  pub have : (q : Pid) → contains pid_cmp owners q ≡ has_program (earlier ++ option_to_list last) q
