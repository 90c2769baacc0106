-- Programs that run on a kernel: what holds while they do, and what one call does.
use Rattle.std.specs.Prelude.{◌≡◌, true, is_some}
use Rattle.std.specs.FinMap as map
use Rattle.lab_lattice.specs.Label.{Label}
use Rattle.kern_model.specs.declared.calls.Call.{Call}
use Rattle.kern_model.specs.declared.calls.Reply.{Reply}
use Rattle.kern_model.specs.declared.numbers.Pid.{Pid}
use Rattle.kern_model.specs.State.{State}
use Rattle.kern_model.specs.Step.{step}
use Rattle.kern_model.specs.Valid.{IsValid}
use Rattle.sched_progs.specs.declared.standing.Standing.{Standing}
use Rattle.sched_progs.specs.Programs.{Programs, are_programs, last_of}
use Rattle.sched_progs.specs.Standings.{Standings, standings_after}
use Rattle.sched_progs.specs.Turns.{LoopItem}

-- the kernel's state is valid, the programs may be played on it, it is known of each living process where it is, and of no other, and the watch has the
-- highest label of the state
pub record IsRunning (s : State) (programs : Programs) (standings : Standings) (top : Label) : Type 0 where
  pub valid : IsValid s
  pub programs_are : are_programs s.top programs ≡ true
  pub living : (q : Pid) → is_some (map.get standings q) ≡ is_some (map.get s.procs q)
  pub top_is : top ≡ s.top

-- a step as the item of a loop
abbrev pub item_of_step : State → Pid → Call → LoopItem
item_of_step s who c = record { who = who; call = c; reply = (step s who c).reply; recs = (step s who c).recs }

-- where a process is after a reply
abbrev pub replied : Standing → Reply → Standing
replied mine reply = record mine { last = last_of reply }

-- where processes are after a call by a process that is at `mine` then
abbrev pub standings_after_call : State → Pid → Standing → Call → Standings → Standings
standings_after_call s who mine c standings =
    standings_after (replied mine (step s who c).reply) (map.insert standings who (replied mine (step s who c).reply)) (step s who c).recs
