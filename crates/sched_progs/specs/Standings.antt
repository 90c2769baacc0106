-- Where processes are, as the turns keep it: each program by its place in the table.
use Rattle.std.specs.Prelude.{◌≡◌, ℕ, ◌≤◌, Bool, List, [], ◌∷◌, Option, Some, None, find, slice_get}
use Rattle.std.specs.FinMap as map
use Rattle.std.specs.FinMap.{FinMap}
use Rattle.kern_model.specs.declared.numbers.Pid.{Pid}
use Rattle.kern_model.specs.declared.records.Rec.{Rec}
use Rattle.kern_model.specs.declared.records.Rec.TheVariants as rec
use Rattle.kern_model.specs.Keys.{pid_cmp}
use Rattle.kern_model.specs.Maps.{select}
use Rattle.kern_model.specs.State.{State}
use Rattle.lab_lattice.specs.Label.{label_cmp}
use Rattle.script_text.specs.declared.step.ProgStep.{ProgStep}
use Rattle.sched_progs.specs.declared.last_reply.LastReply.TheVariants.{Fresh}
use Rattle.sched_progs.specs.declared.program.Program.{Program}
use Rattle.sched_progs.specs.declared.standing.Standing.{Standing}
use Rattle.sched_progs.specs.Programs.{Programs, Progress}
use Rattle.sched_progs.specs.Turns.{LoopState}

-- where each process is
abbrev pub Standings : Type 0
Standings = FinMap pid_cmp Standing

-- the steps of the program at a place of the table; there are none past its end
abbrev pub steps_in : Option (Pid × Program) → List ProgStep
steps_in None = []
steps_in (Some p) = p.1.steps

abbrev pub steps_at : Programs → ℕ → List ProgStep
steps_at programs place = steps_in (slice_get programs place)

-- where a process is in its program
abbrev pub progress_at : Programs → Standing → Progress
progress_at programs a = record { steps = steps_at programs a.program; place = a.place; last = a.last }

abbrev pub progress_of : Programs → Standings → FinMap pid_cmp Progress
progress_of programs standings = select (λ q (a : Standing). Some (progress_at programs a)) standings

-- the state of a loop
abbrev pub loop_state : State → Programs → Standings → FinMap label_cmp ℕ → LoopState
loop_state s programs standings last_turns = record { kernel = s; progress = progress_of programs standings; last_turns = last_turns }

-- the process with the least number that passes a test, and where it is
abbrev pub first_standing : (Pid → Bool) → Standings → Option (Pid × Standing)
first_standing test standings = find (λ (e : Pid × Standing). test e.0) (map.entries standings)

-- each number is one that two bytes hold
abbrev pub AreSmall : Standings → Type 0
AreSmall standings = (q : Pid) (a : Standing) → map.get standings q ≡ Some a → q.n ≤ 65535

-- where processes are after a record of a call by a process that is at `mine`
abbrev pub standings_after_one : Standing → Standings → Rec → Standings
standings_after_one mine standings (rec.Fork who child) = map.insert standings child (record mine { last = Fresh })
standings_after_one mine standings (rec.Exit who how) = map.remove standings who
standings_after_one mine standings _ = standings

abbrev pub standings_after : Standing → Standings → List Rec → Standings
standings_after mine standings [] = standings
standings_after mine standings (r ∷ rs) = standings_after mine (standings_after_one mine standings r) rs
