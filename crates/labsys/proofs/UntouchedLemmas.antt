-- The clauses of the top call where memory runs out before a command is known.
use Rattle.std.proofs.Common.{◌≡◌, ℕ, List, [], refl, arith}
use Rattle.std.proofs.KnownBytes.{Consumes-nil}
use Rattle.std.specs.Prelude.{Bool, true, false, IfSome, Option, None, Some, Err}
use Rattle.io_ends.specs.Ends.{sink_view}
use Rattle.lab_engine.specs.declared.ending.Fault.TheVariants.{NoMemory}
use Rattle.lab_engine.specs.Order.{IsInOrder}
use Rattle.lab_engine.specs.Playing.{Ends, ends}
use Rattle.lab_engine.proofs.Sending.{stops_at_once}
use Rattle.labsys.specs.declared.command.Command.{Command}
use Rattle.labsys.specs.declared.status.Status.TheVariants as status
use Rattle.labsys.specs.Clauses.{WhereReported, reports, reports_used}
use Rattle.labsys.specs.Commands.{LeavesAlone, Unless, due, reads_source, writes_trail}
use Rattle.labsys.specs.Playing.{CommandDid}
use Rattle.labsys.proofs.ClauseLemmas.{run_order}
use Rattle.labsys.proofs.CommandRows.{besides_failed}

-- what holds of each command holds of that which the words name
pub where_named : (o : Option Command) (P : Command → Type 0) → ((c : Command) → P c) → IfSome o P
where_named None P f = tt
where_named (Some c) P f = f c

-- what holds is so unless a test is
unless : (b : Bool) (P : Type 0) → P → Unless b P
unless true P p = tt
unless false P p = p

-- all ends are as they were
pub untouched_alone : (o : Option Command) (source out trail : Type 0) → source → out → trail → LeavesAlone o source out trail
untouched_alone None source out trail s o t = (s, o, t)
untouched_alone (Some c) source out trail s o t = (unless (reads_source c) source s, unless (writes_trail c) trail t)

-- a command for which memory runs out at once does nothing
pub did_nothing : (c : Command) (l : Option (List ℕ)) (e : Ends) → CommandDid c (Err NoMemory) l l e e
did_nothing c l e = record {
  taken = [];
  took = Consumes-nil l;
  few = omega arith;
  writes = stops_at_once _ e;
  status = tt;
  to_the_end = λ reads. tt;
  by_line = λ play read. absurd (cc);
  besides = besides_failed (Err NoMemory) NoMemory refl e.source e.source e.out e.trail c _;
}

-- status 6 is not that of a whole input
pub untouched_to_the_end : (o : Option Command) (Q : Type 0) → IfSome o (λ command. reads_source command ≡ true → status.NoMemory ≡ status.Done → Q)
untouched_to_the_end o Q = where_named o (λ command. reads_source command ≡ true → status.NoMemory ≡ status.Done → Q) (λ command reads done. cc)

-- nor is it that of a fault
pub untouched_read_fault : (o : Option Command) → IfSome o (λ command. status.NoMemory ≡ status.ReadFault → reads_source command ≡ true)
untouched_read_fault o = where_named o (λ command. status.NoMemory ≡ status.ReadFault → reads_source command ≡ true) (λ command fault. cc)

pub untouched_trail_fault : (o : Option Command) → IfSome o (λ command. status.NoMemory ≡ status.TrailFault → writes_trail command ≡ true)
untouched_trail_fault o = where_named o (λ command. status.NoMemory ≡ status.TrailFault → writes_trail command ≡ true) (λ command fault. cc)

module _ (l out trail : Option (List ℕ)) where
  abbrev still : Ends
  still = ends 0 (sink_view out 0) (sink_view trail 0)

  pub untouched_order : (o : Option Command) → IfSome o (λ command. WhereReported (reports_used command (reports l out trail)) (reports_used command (reports l out trail)) (λ text out trail. IsInOrder (due command text).order out trail))
  untouched_order None = tt
  untouched_order (Some c) = run_order c (Err NoMemory) l l still still (did_nothing c l still) (Some c) refl
