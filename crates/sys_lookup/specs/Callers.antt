-- What a caller is.
use Rattle.std.specs.Prelude.{◌≡◌, Some, refl}
use Rattle.std.specs.FinMap as map
use Rattle.std.specs.Coded.{Coded, code_by, coded×}
use Rattle.kern_model.specs.declared.numbers.Pid.{Pid}
use Rattle.kern_model.specs.State.{State, Process, process_at}

-- a process that makes a call, and the state in which it makes it
pub record CallerView : Type 0 where
  pub state : State
  pub who : Pid
  pub process : Process

-- how a caller is stored
abbrev pub caller_code : Coded State → Coded Pid → Coded Process → Coded CallerView
caller_code state who process =
    code_by (State × (Pid × Process))
    (coded× state (coded× who process))
    (λ k. (k.state, (k.who, k.process)))
    (λ t. record { state = t.0; who = t.1.0; process = t.1.1 })
    (λ _. refl)

-- the process with a number, as the caller in a state
abbrev pub caller_in : State → Pid → CallerView
caller_in s who = record { state = s; who = who; process = process_at s who }

-- the caller lives in its state
abbrev pub IsLiving : CallerView → Type 0
IsLiving k = map.get k.state.procs k.who ≡ Some k.process
