-- What is written of an input of programs, which are played in turns by label.
use Rattle.std.specs.Prelude.{ℕ, List, map}
use Rattle.kern_model.specs.Boot.{boot, boot_recs}
use Rattle.lab_engine.specs.declared.ending.InputEnd.{InputEnd}
use Rattle.lab_engine.specs.declared.ending.InputEnd.TheVariants.{Whole}
use Rattle.lab_engine.specs.Input.{Accepted, Begun, HasWorld, NoWorld, Script, begun_in, script}
use Rattle.lab_engine.specs.Order.{Sent, session_order, to_out}
use Rattle.lab_engine.specs.Session.{Session}
use Rattle.lab_engine.specs.Texts.{last_text}
use Rattle.sched_engine.specs.declared.reading.ReadSchedule.{ReadSchedule}
use Rattle.sched_engine.specs.declared.reading.ReadSchedule.TheVariants as read_is
use Rattle.sched_engine.specs.declared.schedule.Expecting.TheVariants as at
use Rattle.sched_engine.specs.declared.schedule.Schedule.{Schedule}
use Rattle.sched_engine.specs.Reading.{schedule_from}
use Rattle.sched_progs.specs.Chosen.{chosen_script, record_of_item}
use Rattle.sched_progs.specs.Loop.{loop, loop_end}
use Rattle.sched_progs.specs.Turns.{LoopItem}
use Rattle.world_text.specs.declared.format.Format.TheVariants.{Two}

-- ---- an input of programs

pub data ProgramInput : Type 0 where
  -- a world, with the programs that are played on it and their turns
  HasSchedule : (world : Accepted) (schedule : Schedule) → ProgramInput
  -- without these it ends so
  NoSchedule : (ending : InputEnd) → ProgramInput

-- the input of an accepted world, by the schedule after it, or by how it ends without one
abbrev pub with_schedule : Accepted → ReadSchedule → ProgramInput
with_schedule a (read_is.Schedule s) = HasSchedule a s
with_schedule a (read_is.Ended ending) = NoSchedule ending

-- the same by what the input is at the end of its world
abbrev pub programs_by : Begun → ProgramInput
programs_by (HasWorld w over n lines) = with_schedule w (schedule_from over w.policy n at.Slices lines)
programs_by (NoWorld ending) = NoSchedule ending

-- the input of programs that bytes are
unfoldable pub programs_of : List ℕ → ProgramInput
programs_of text = programs_by (begun_in Two text)

-- ---- what is played

-- the calls of the programs in turns by label, from the first state of the world
abbrev pub loop_of : Accepted → Schedule → List LoopItem
loop_of a s = loop (boot a.world) s.programs s.slices s.rounds

-- what is played of them
abbrev pub session_by : Accepted → Schedule → Session
session_by a s = record {
  policy = a.policy;
  bound = a.world.bound;
  boot_recs = boot_recs a.world;
  calls = map record_of_item (loop_of a s);
  last_state = loop_end (boot a.world) s.programs s.slices s.rounds;
  ending = Whole;
}

-- the script that the programs choose
abbrev pub chosen : Accepted → Schedule → Script
chosen a s = script (chosen_script (loop_of a s)) Whole

-- ---- what is written

-- the order of an input of programs; without a schedule it is the last line alone
abbrev pub order_of_programs : ProgramInput → List Sent
order_of_programs (HasSchedule a s) = session_order (session_by a s)
order_of_programs (NoSchedule ending) = to_out (last_text 0 ending)

-- how it ends
abbrev pub ending_of_programs : ProgramInput → InputEnd
ending_of_programs (HasSchedule a s) = Whole
ending_of_programs (NoSchedule ending) = ending
