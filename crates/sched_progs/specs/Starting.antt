-- Processes at the first steps of their programs.
use Rattle.std.specs.Prelude.{◌≡◌, ℕ, List, Option, Some, None, cond}
use Rattle.std.specs.List.{list_any}
use Rattle.std.specs.Option.{option_map}
use Rattle.std.specs.FinMap as map
use Rattle.kern_model.specs.declared.numbers.Pid.{Pid}
use Rattle.kern_model.specs.Keys.{same_pid}
use Rattle.script_text.specs.declared.step.ProgStep.{ProgStep}
use Rattle.sched_progs.specs.declared.last_reply.LastReply.TheVariants.{Fresh}
use Rattle.sched_progs.specs.declared.standing.Standing.{Standing}
use Rattle.sched_progs.specs.Programs.{Programs, Progress, first_step, steps_of}
use Rattle.sched_progs.specs.Standings.{Standings, progress_at}

-- the first step of the program at a place of the table
abbrev pub standing_at : ℕ → Standing
standing_at program = record { program = program; place = 0; last = Fresh }

-- a process is put at a place, unless it is there
abbrev pub set_if_absent : Option Standing → Standings → Pid → Standing → Standings
set_if_absent None standings who a = map.insert standings who a
set_if_absent (Some b) standings who a = standings

-- where a process starts: at a standing, or without one at the first of some steps
abbrev pub start_at : Programs → Option Standing → List ProgStep → Progress
start_at programs None steps = first_step steps
start_at programs (Some a) steps = progress_at programs a

-- the index has each program that is before the ones that are left, at its first step
abbrev pub IsIndex : Programs → Standings → Programs → Type 0
IsIndex programs index left = (q : Pid) → start_at programs (map.get index q) (steps_of left q) ≡ first_step (steps_of programs q)

-- a process of the list, at the first step of its program; no other one is there
abbrev pub started : Programs → List Pid → Pid → Option Progress
started programs living q = cond (list_any (λ (who : Pid). same_pid q who) living) (Some (first_step (steps_of programs q))) None

-- each process of the list is at the first step of its program, and no other is there
abbrev pub AreStarted : Programs → List Pid → Standings → Type 0
AreStarted programs living standings = (q : Pid) → option_map (progress_at programs) (map.get standings q) ≡ started programs living q
