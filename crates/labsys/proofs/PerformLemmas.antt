-- What a command did that reads nothing, and which faults a command reports.
use Rattle.std.proofs.Common.{◌≡◌, ℕ, Bool, true, false, List, [], ◌++◌, refl, sym, ◌∙◌, ap, subst, arith}
use Rattle.std.proofs.KnownBytes.{Consumes-nil}
use Rattle.std.specs.Prelude.{Option, Some, None, Result, Ok, Err, IsErrAnd, IfOk}
use Rattle.gen_world.specs.Text.{gen_text}
use Rattle.io_ends.specs.Ends.{SinkView, sink_view}
use Rattle.lab_engine.specs.declared.ending.Fault.{Fault}
use Rattle.lab_engine.specs.declared.ending.Fault.TheVariants.{Read, Trail}
use Rattle.lab_engine.specs.declared.ending.InputEnd.{InputEnd}
use Rattle.lab_engine.specs.declared.ending.InputEnd.TheVariants.{Whole}
use Rattle.lab_engine.specs.Counts.{Counts, counted_by}
use Rattle.lab_engine.specs.Order.{Sent, to_out}
use Rattle.lab_engine.specs.Reading.{left_of}
use Rattle.lab_engine.specs.Playing.{Ends, ends, SendsAll, StopsBy, Writes, faults_of}
use Rattle.lab_engine.proofs.Sending.{in_order, not_a_read, passes_on}
use Rattle.labsys.specs.declared.command.Command.{Command}
use Rattle.labsys.specs.declared.command.Command.TheVariants.{OnInput, Gen, Drill}
use Rattle.labsys.specs.declared.command.InputCommand.TheVariants.{Play}
use Rattle.labsys.specs.declared.status.Status.TheVariants.{Done}
use Rattle.labsys.specs.Commands.{LeavesAlone, due, reads_source, Due, ends_with}
use Rattle.labsys.specs.Drilling.{drilled_text}
use Rattle.labsys.specs.Playing.{CommandDid}
use Rattle.labsys.proofs.TrailLemmas.{HasNoMore}
use Rattle.labsys.proofs.InputLemmas.{failed_ending}

-- a command that reads nothing, and writes these bytes whatever a source has
pub record WritesAlone (c : Command) (text : List ℕ) : Type 0 where
  pub is_due : (bytes : List ℕ) → due c bytes ≡ record { order = to_out text; status = Done }
  pub reads_nothing : reads_source c ≡ false
  pub is_not_play : c ≡ OnInput Play → ⊥
  pub no_more : HasNoMore c

no_read : (reads : Bool) → reads ≡ false → reads ≡ true → ⊥
no_read reads none some = let no : true ≡ false = sym some ∙ none in absurd (cc)

module _ (c : Command) (text : List ℕ) (alone : WritesAlone c text) (r : Result InputEnd Fault) (left : Option (List ℕ)) (before after : Ends) where
  abbrev bytes : List ℕ
  bytes = [] ++ left_of left

  -- a fault cut the bytes off
  pub alone_fails : (fault : Fault) → StopsBy fault (to_out text) before after → IsErrAnd r (λ q. q ≡ fault) → CommandDid c r left left before after
  alone_fails fault stop is = record {
    taken = [];
    took = Consumes-nil left;
    few = omega arith;
    writes = in_order r _ _ before after (sym (ap (λ (d : Due). d.order) (alone.is_due bytes))) (passes_on r fault (to_out text) before after stop is);
    status = failed_ending r fault is _;
    to_the_end = λ reads. absurd (no_read _ alone.reads_nothing reads);
    by_line = λ play. absurd (alone.is_not_play play);
    besides = alone.no_more _ r before after;
  }

  -- all of them were written
  pub alone_written : r ≡ Ok Whole → SendsAll (to_out text) before after → CommandDid c r left left before after
  alone_written is sends = record {
    taken = [];
    took = Consumes-nil left;
    few = omega arith;
    writes = in_order r _ _ before after (sym (ap (λ (d : Due). d.order) (alone.is_due bytes))) (subst (λ (x : Result InputEnd Fault). Writes x (to_out text) before after) (sym is) sends);
    status = subst (λ (x : Result InputEnd Fault). IfOk x (λ e. ends_with e ≡ (due c bytes).status)) (sym is) (sym (ap (λ (d : Due). d.status) (alone.is_due bytes)));
    to_the_end = λ reads. absurd (no_read _ alone.reads_nothing reads);
    by_line = λ play. absurd (alone.is_not_play play);
    besides = alone.no_more _ r before after;
  }

module _ (c : Command) (n : ℕ) where
  pub generates : c ≡ Gen n → WritesAlone c (gen_text n)
  generates is = subst (λ (k : Command). WritesAlone k (gen_text n)) (sym is) (record { is_due = λ bytes. refl; reads_nothing = refl; is_not_play = λ play. absurd (cc); no_more = λ bytes r before after. tt })

  pub drills : c ≡ Drill n → WritesAlone c (drilled_text n)
  drills is = subst (λ (k : Command). WritesAlone k (drilled_text n)) (sym is) (record { is_due = λ bytes. refl; reads_nothing = refl; is_not_play = λ play. absurd (cc); no_more = λ bytes r before after. tt })

pub left_alone : (o : Option Command) (c : Command) (source out trail : Type 0) → o ≡ Some c → LeavesAlone (Some c) source out trail → LeavesAlone o source out trail
left_alone o c source out trail is alone = subst (λ (x : Option Command). LeavesAlone x source out trail) (sym is) alone

-- ---- faults

-- a fault that leaves the count of the trail as it was is no failed write to the trail
not_of_trail : (fault : Fault) (order : List Sent) (n n' : ℕ) (out out' : SinkView) → StopsBy fault order (ends n out (sink_view None 0)) (ends n' out' (sink_view None 0)) → fault ≡ Trail → ⊥
unfolding counted_by
not_of_trail fault order n n' out out' stop is =
    let once = subst (λ q. faults_of (ends n' out' (sink_view None 0)) ≡ counted_by q (faults_of (ends n out (sink_view None 0)))) is stop.one_fault in
    let zero : 0 ≡ 1 = ap (λ (c : Counts). c.trail) once in
    absurd (omega (arith, zero))

-- a command that leaves the count of the trail as it was reports no fault of the trail
pub no_trail_fault : (r : Result InputEnd Fault) (order : List Sent) (n n' : ℕ) (out out' : SinkView) → Writes r order (ends n out (sink_view None 0)) (ends n' out' (sink_view None 0)) → r ≡ Err Trail → ⊥
no_trail_fault r order n n' out out' w is =
    not_of_trail Trail order n n' out out' (subst (λ (q : Result InputEnd Fault). Writes q order (ends n out (sink_view None 0)) (ends n' out' (sink_view None 0))) is w) refl

-- the same by what it did beside a trail that has counted none
pub no_trail_did : (c : Command) (r : Result InputEnd Fault) (l l' : Option (List ℕ)) (n n' : ℕ) (out out' : SinkView) → CommandDid c r l l' (ends n out (sink_view None 0)) (ends n' out' (sink_view None 0)) → r ≡ Err Trail → ⊥
no_trail_did c r l l' n n' out out' did = no_trail_fault r _ n n' out out' did.writes

-- a command that writes to the output alone reports no fault of the other ends
module _ (r : Result InputEnd Fault) (fault : Fault) (bytes : List ℕ) (out out' : SinkView) (stops : (source : ℕ) (trail : SinkView) → StopsBy fault (to_out bytes) (ends source out trail) (ends source out' trail)) (by : IsErrAnd r (λ q. q ≡ fault)) where
  failed_by : (why : Fault) → r ≡ Err why → fault ≡ why
  failed_by why is = sym (subst (λ (q : Result InputEnd Fault). IsErrAnd q (λ k. k ≡ fault)) is by)

  pub no_read_beside : r ≡ Err Read → ⊥
  no_read_beside is = not_a_read fault (to_out bytes) out out' (sink_view None 0) (sink_view None 0) (stops 0 (sink_view None 0)) (failed_by Read is)

  pub no_trail_beside : r ≡ Err Trail → ⊥
  no_trail_beside is = not_of_trail fault (to_out bytes) 0 0 out out' (stops 0 (sink_view None 0)) (failed_by Trail is)
