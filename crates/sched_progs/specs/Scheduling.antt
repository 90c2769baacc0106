-- The state of a loop, as a kernel and a schedule have it.
use Rattle.kern_model.specs.State.{State}
use Rattle.sched_progs.specs.declared.schedule.Schedule.{Schedule}
use Rattle.sched_progs.specs.Programs.{Programs}
use Rattle.sched_progs.specs.Standings.{loop_state}
use Rattle.sched_progs.specs.Turns.{LoopState}

abbrev pub state_of : State → Programs → Schedule → LoopState
state_of s programs schedule = loop_state s programs schedule.standings schedule.last_turns
