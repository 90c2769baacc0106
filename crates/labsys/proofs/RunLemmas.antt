-- What is promised of a run, from what its command did.
use Rattle.std.proofs.Common.{◌≡◌, ℕ, true, List, refl, sym, ◌∙◌, subst}
use Rattle.std.specs.Prelude.{Option, None, Some, Result, Ok, Err, IfSome}
use Rattle.std.specs.declared.string.String.{String}
use Rattle.std.specs.declared.alloc.Global.{Global}
use Rattle.lab_engine.specs.declared.ending.Fault.{Fault}
use Rattle.lab_engine.specs.declared.ending.Fault.TheVariants.{Read, Write, Trail, NoMemory as Memory}
use Rattle.lab_engine.specs.declared.ending.InputEnd.{InputEnd}
use Rattle.lab_engine.specs.declared.ending.InputEnd.TheVariants.{Whole, Refused as IsRefused, RefusedWord, TooMuch}
use Rattle.io_ends.specs.Ends.{sink_view}
use Rattle.lab_engine.specs.Playing.{Ends, ends}
use Rattle.labsys.specs.declared.command.Command.{Command}
use Rattle.labsys.specs.declared.command.Command.TheVariants.{OnInput, Gen, Drill, Select, Lineage}
use Rattle.labsys.specs.declared.command.InputCommand.TheVariants.{Play, Sched, Check, View, Upgrade, Least, Never}
use Rattle.labsys.specs.declared.status.Status.{Status}
use Rattle.labsys.specs.declared.status.Status.TheVariants.{Usage, NoMemory}
use Rattle.labsys.specs.Clauses.{reports, status_of}
use Rattle.labsys.specs.Commands.{command_of, reads_source, writes_trail}
use Rattle.labsys.specs.Playing.{CommandDid}
use Rattle.labsys.specs.Promises.{PromisedBy}
use Rattle.labsys.specs.Running.{RunEnds, Runs}
use Rattle.labsys.proofs.ClauseLemmas.{of_command, run_counts, run_ending, run_few, run_order, run_play, run_read_fault, run_to_the_end, run_trail_fault, run_upgrade, run_view, run_whole}
use Rattle.labsys.proofs.InputLemmas.{reads_nothing}
use Rattle.labsys.proofs.LineageAnswers.{run_lineage}
use Rattle.labsys.proofs.NarrowedLemmas.{run_least}
use Rattle.labsys.proofs.NeverLemmas.{run_never}
use Rattle.labsys.proofs.ScheduleAnswers.{run_schedules}
use Rattle.labsys.proofs.UntouchedLemmas.{did_nothing, untouched_order, untouched_read_fault, untouched_to_the_end, untouched_trail_fault, where_named}

-- a command does not end as words that name none
named_status : (r : Result InputEnd Fault) → status_of r ≡ Usage → ⊥
named_status (Ok Whole) is = cc
named_status (Ok (IsRefused n part why)) is = cc
named_status (Ok (RefusedWord word why)) is = cc
named_status (Ok TooMuch) is = cc
named_status (Err Read) is = cc
named_status (Err Write) is = cc
named_status (Err Trail) is = cc
named_status (Err Memory) is = cc

-- what a command that was performed promises besides
promise_kept : (c : Command) (r : Result InputEnd Fault) (l l' : Option (List ℕ)) (entry exit : Ends) → CommandDid c r l l' entry exit → (s : Status) → s ≡ status_of r
    → PromisedBy c s (reports l entry.out.held entry.trail.held) (reports l' exit.out.held exit.trail.held)
promise_kept (OnInput Play) r l l' entry exit did s is = run_play r l l' entry exit did s is
promise_kept (OnInput Sched) r l l' entry exit did s is = run_schedules r l l' entry exit did s is
promise_kept (OnInput Check) r l l' entry exit did s is = tt
promise_kept (OnInput (View word)) r l l' entry exit did s is = run_view word r l l' entry exit did s is
promise_kept (OnInput Upgrade) r l l' entry exit did s is = run_upgrade r l l' entry exit did s is
promise_kept (OnInput Least) r l l' entry exit did s is = run_least r l l' entry exit did s is
promise_kept (OnInput Never) r l l' entry exit did s is = run_never r l l' entry exit did s is
promise_kept (Gen n) r l l' entry exit did s is = tt
promise_kept (Drill n) r l l' entry exit did s is = tt
promise_kept (Select word) r l l' entry exit did s is = tt
promise_kept Lineage r l l' entry exit did s is = run_lineage r l l' entry exit did s is

module _ (words : List (String Global)) where
  abbrev o : Option Command
  o = command_of words

  -- the words name a command, which was performed
  pub command_ran : (c : Command) → o ≡ Some c → (r : Result InputEnd Fault) (s : Status) → s ≡ status_of r → (old now : RunEnds)
      → CommandDid c r old.source.left now.source.left (ends old.source.faults old.out old.trail) (ends now.source.faults now.out now.trail) → (r ≡ Err Read → reads_source c ≡ true) → (r ≡ Err Trail → writes_trail c ≡ true) → Runs words s old now
  command_ran c named r s is old now did reads writes = record {
    usage = λ other. (λ used. absurd (named_status r (sym is ∙ used)), λ none. let no : Some c ≡ None = sym named ∙ none in absurd (cc));
    counts = run_counts c r _ _ _ _ did s is;
    read_fault = run_read_fault c r s is o named reads;
    trail_fault = run_trail_fault c r s is o named writes;
    order = run_order c r _ _ _ _ did o named;
    whole = run_whole c r _ _ _ _ did s is o named;
    ending = run_ending c r _ _ _ _ did s is o named;
    promised = of_command o c _ named (promise_kept c r _ _ _ _ did s is);
    to_the_end = run_to_the_end c r _ _ _ _ did s is o named;
    few = run_few c r _ _ _ _ did;
  }

  -- they name none
  module _ (none : o ≡ None) (e : RunEnds) where
    unnamed : (P : Command → Type 0) → IfSome o P
    unnamed P = subst (λ (x : Option Command). IfSome x P) (sym none) tt

    pub no_command : Runs words Usage e e
    no_command = record {
      usage = λ other. (λ used. none, λ is. refl);
      counts = refl;
      read_fault = unnamed _;
      trail_fault = unnamed _;
      order = unnamed _;
      whole = unnamed _;
      ending = unnamed _;
      promised = unnamed _;
      to_the_end = unnamed _;
      few = reads_nothing _ _;
    }

  -- ends that have counted no fault
  abbrev still : RunEnds → Ends
  still e = ends 0 (sink_view e.out.held 0) (sink_view e.trail.held 0)

  -- memory ran out before a command was known
  pub no_memory : (e : RunEnds) → Runs words NoMemory e e
  no_memory e = record {
    usage = λ other. absurd (other refl);
    counts = refl;
    read_fault = untouched_read_fault o;
    trail_fault = untouched_trail_fault o;
    order = untouched_order e.source.left e.out.held e.trail.held o;
    whole = where_named o _ (λ command. tt);
    ending = where_named o _ (λ command. tt);
    promised = where_named o _ (λ command. promise_kept command (Err Memory) _ _ (still e) (still e) (did_nothing command e.source.left (still e)) NoMemory refl);
    to_the_end = untouched_to_the_end o _;
    few = reads_nothing _ _;
  }
