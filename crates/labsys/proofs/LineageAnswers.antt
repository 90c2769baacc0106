-- What `lineage` says of a trail.
use Rattle.std.proofs.Common.{◌≡◌, ◌⊎◌, inl, inr, ℕ, Bool, true, false, cond, nat_lt, List, length, refl, sym, ◌∙◌, ap, subst}
use Rattle.std.specs.Prelude.{Option, Result, Ok, Err}
use Rattle.kern_model.specs.declared.limits.TheConstants.{MAX_INPUT}
use Rattle.aud_red.specs.declared.lineage.Lineage.{Lineage as Answer}
use Rattle.aud_red.specs.declared.lineage.Lineage.TheVariants.{Yes, No}
use Rattle.aud_red.specs.declared.lineage.Why.{Why}
use Rattle.aud_red.specs.declared.trail.Trail.{Trail}
use Rattle.aud_red.specs.declared.trail.TrailError.{TrailError}
use Rattle.aud_red.specs.Lineage.{FailsAt, IfNo, lineage_of, recs_of}
use Rattle.aud_red.specs.Trail.{parse_trail}
use Rattle.aud_red.proofs.LineageLemmas.{no_found, yes_found}
use Rattle.aud_red.proofs.TrailLemmas.{trail_is}
use Rattle.lab_engine.specs.declared.ending.Fault.{Fault}
use Rattle.lab_engine.specs.declared.ending.InputEnd.{InputEnd}
use Rattle.lab_engine.specs.declared.ending.InputEnd.TheVariants.{TooMuch}
use Rattle.lab_engine.specs.Playing.{Ends}
use Rattle.lab_engine.proofs.Sending.{out_of-to_out}
use Rattle.labsys.specs.declared.command.Command.TheVariants.{Lineage}
use Rattle.labsys.specs.declared.status.Status.{Status}
use Rattle.labsys.specs.declared.status.Status.TheVariants.{Done}
use Rattle.labsys.specs.Clauses.{reports, status_of}
use Rattle.labsys.specs.declared.trails.ReadTrail.{ReadTrail}
use Rattle.labsys.specs.declared.trails.ReadTrail.TheVariants as read_is
use Rattle.labsys.specs.Commands.{ends_with}
use Rattle.labsys.specs.LineageText.{SaysLineage, SaysNo, SaysYes, ending_of_lineage, lineage_text, line_for, text_of_lineage}
use Rattle.labsys.specs.Playing.{CommandDid}
use Rattle.labsys.specs.Promises.{ChecksLineage}
use Rattle.labsys.specs.Trails.{trail_by, trail_in}
use Rattle.labsys.proofs.ClauseLemmas.{done_wrote, ends_whole, reported_gives}
use Rattle.labsys.proofs.TrailLemmas.{not_whole}

-- ---- a trail

read_by : (r : Result Trail TrailError) (t : Trail) → trail_by r ≡ read_is.Trail t → r ≡ Ok t
read_by (Ok u) t is = cc
read_by (Err e) t is = absurd (cc)

-- bytes that are a trail are read as it
trail_parsed : (text : List ℕ) (t : Trail) → trail_in text ≡ read_is.Trail t → parse_trail text ≡ Ok t
unfolding trail_in
trail_parsed text t is = by_test (nat_lt MAX_INPUT (length text)) is
  where
    by_test : (b : Bool) → cond b (read_is.Ended TooMuch) (trail_by (parse_trail text)) ≡ read_is.Trail t → parse_trail text ≡ Ok t
    by_test true e = absurd (cc)
    by_test false e = read_by (parse_trail text) t e

-- the line of a trail says what the answer means
module _ (t : Trail) where
  abbrev answer : Result Answer Fault
  answer = Ok (lineage_of t.bound (recs_of t))

  says_yes : lineage_of t.bound (recs_of t) ≡ Yes → SaysYes t (lineage_text t)
  says_yes is = record { line = ap (line_for t) is; follow = (yes_found t.bound (recs_of t) answer refl).0 is }

  says_no : (at : ℕ) (why : Why) → lineage_of t.bound (recs_of t) ≡ No at why → SaysNo t (lineage_text t)
  says_no at why is = record {
    at = at;
    why = why;
    line = ap (line_for t) is;
    fails = subst (λ l. IfNo l (FailsAt t.bound (recs_of t))) is (no_found t.bound (recs_of t) answer refl);
  }

  says_either : (l : Answer) → lineage_of t.bound (recs_of t) ≡ l → SaysYes t (lineage_text t) ⊎ SaysNo t (lineage_text t)
  says_either Yes is = inl (says_yes is)
  says_either (No at why) is = inr (says_no at why is)

-- ---- a run

says_lineage : (text out : List ℕ) (found : ReadTrail) → trail_in text ≡ found → Done ≡ ends_with (ending_of_lineage found) → out ≡ text_of_lineage found → SaysLineage text out
says_lineage text out (read_is.Trail t) is done writes = record {
  trail = t;
  text_is = trail_is text t (trail_parsed text t is);
  says = subst (λ (z : List ℕ). SaysYes t z ⊎ SaysNo t z) (sym writes) (says_either t (lineage_of t.bound (recs_of t)) refl);
}
says_lineage text out (read_is.Ended ending) is done writes = absurd (not_whole text ending is (ends_whole ending done))

-- all that `lineage` promises
pub run_lineage : (r : Result InputEnd Fault) (l l' : Option (List ℕ)) (entry exit : Ends) → CommandDid Lineage r l l' entry exit → (s : Status) → s ≡ status_of r
    → ChecksLineage s (reports l entry.out.held entry.trail.held) (reports l' exit.out.held exit.trail.held)
run_lineage r l l' entry exit x s is = record {
  answers = λ done. reported_gives _ _ _ _
      (λ text out trail w. says_lineage text out (trail_in text) refl w.1.0 (w.0 ∙ out_of-to_out (text_of_lineage (trail_in text)))) (done_wrote Lineage r l l' entry exit x s is done);
}
