-- The receiver of a signal.
use Rattle.std.specs.Prelude.{◌≡◌, ⊤, Option, None, Some, IsSome, Result, option_map, refl}
use Rattle.std.specs.FinMap as map
use Rattle.std.proofs.Common.{ap, sym, ◌∙◌, subst}
use Rattle.kern_model.specs.declared.calls.Signal.{Signal}
use Rattle.kern_model.specs.declared.numbers.Pid.{Pid}
use Rattle.kern_model.specs.ProcessRows.{asks_signal, send}
use Rattle.kern_model.specs.State.{State, Process, process_at, root}
use Rattle.kern_model.proofs.MapLemmas.{some_same}
use Rattle.kern_model.proofs.StateLemmas.{process_there}
use Rattle.chk_rules.specs.CheckLog.{CheckLog}
use Rattle.chk_rules.specs.RowSteps.{GoesOn}
use Rattle.chk_rules.specs.declared.stop.Stop.{Stop}
use Rattle.proc_creds.specs.Credentials.{Credentials}
use Rattle.proc_table.specs.Procs.{creds_of, new_process}
use Rattle.sys_lookup.specs.declared.effect.Effect.{Effect}
use Rattle.sys_lookup.specs.PlaysRow.{PlaysRow}

-- there is none where there are no credentials
pub none_there : (w : Option Process) → None ≡ option_map creds_of w → w ≡ None
none_there None is = refl
none_there (Some t) is = let no : None ≡ Some (creds_of t) = is in absurd cc

-- there is one where there are some
some_there : (w : Option Process) (c : Credentials) → Some c ≡ option_map creds_of w → IsSome w
some_there None c is = let no : Some c ≡ None = is in absurd cc
some_there (Some t) c is = refl

module _ (s : State) (target : Pid) (receiver : Process) (is : Some (creds_of receiver) ≡ option_map creds_of (map.get s.procs target)) where
  pub receiver_lives : IsSome (map.get s.procs target)
  receiver_lives = some_there (map.get s.procs target) (creds_of receiver) is

  there : map.get s.procs target ≡ Some (process_at s target)
  there = process_there s target receiver_lives

  -- what is asked of its credentials is asked of the receiver
  pub asks_receiver : (p : Process) {a b : CheckLog} {r : Result ⊤ Stop} → GoesOn a (λ rest. asks_signal p target receiver (rest tt)) r b → GoesOn a (λ rest. asks_signal p target (process_at s target) (rest tt)) r b
  asks_receiver p {a} {b} {r} step =
      subst (λ (c : Credentials). GoesOn a (λ rest. asks_signal p target (new_process c root) (rest tt)) r b) (some_same _ _ (is ∙ ap (option_map creds_of) there)) step

  -- the signal is sent to it
  pub sends : (p : Process) (sig : Signal) {a b : CheckLog} {r : Result Effect Stop} {t : State} → PlaysRow s a (send s p target sig (Some (process_at s target))) r t b → PlaysRow s a (send s p target sig (map.get s.procs target)) r t b
  sends p sig {a} {b} {r} {t} plays = subst (λ w. PlaysRow s a (send s p target sig w) r t b) (sym there) plays
