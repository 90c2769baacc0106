-- What `lineage` has to write of the trail of a whole run.
use Rattle.std.proofs.Common.{◌≡◌, ℕ, ◌+◌, ◌≤◌, ◌<◌, cond, List, [], ◌∷◌, ◌++◌, length, map, sym, ◌∙◌, ap, subst, arith}
use Rattle.std.specs.Prelude.{Bool, None, Ok}
use Rattle.std.proofs.lemmas.Bool.{le-ltb}
use Rattle.std.proofs.lemmas.List.{length-append, length-map}
use Rattle.fs_path.specs.Words.{line_text}
use Rattle.kern_model.specs.declared.limits.TheConstants.{MAX_INPUT}
use Rattle.kern_model.specs.declared.records.Rec.{Rec}
use Rattle.kern_model.specs.Run.{CallRecord}
use Rattle.lab_text.specs.Policy.{PolicyNames}
use Rattle.iso_laws.specs.Follows.{AllFollow}
use Rattle.iso_laws.proofs.Laws.{own_trail}
use Rattle.aud_record.specs.Parsed.{read_of}
use Rattle.aud_red.specs.declared.trail.Trail.{Trail}
use Rattle.aud_red.specs.Trail.{NeverFall, parse_trail}
use Rattle.aud_red.proofs.WrittenTrail.{lines_read, trail_written, written_read, written_yes}
use Rattle.lab_engine.specs.declared.ending.InputEnd.{InputEnd}
use Rattle.lab_engine.specs.declared.ending.InputEnd.TheVariants.{TooMuch}
use Rattle.lab_engine.specs.Input.{Accepted, Script}
use Rattle.lab_engine.specs.Order.{to_out}
use Rattle.lab_engine.specs.Session.{Session, bytes_of, numbered_from, numbered_recs, replies_of, session_of, tail_text}
use Rattle.lab_engine.specs.Texts.{ends_text, last_text, last_words}
use Rattle.labsys.specs.Commands.{due_of_lineage}
use Rattle.labsys.specs.Lineage.{AnsweredYes, IsTrailOf, yes_text}
use Rattle.labsys.specs.LineageText.{lineage_line, lineage_text, line_for}
use Rattle.labsys.specs.Trails.{trail_by, trail_in}
use Rattle.labsys.specs.declared.trails.ReadTrail.{ReadTrail}
use Rattle.labsys.specs.declared.trails.ReadTrail.TheVariants as read_is
use Rattle.labsys.proofs.AcceptedLemmas.{IsPlayable}
use Rattle.labsys.proofs.Printing.{all_numbered}

-- ---- the numbers of calls never fall

-- those of the records of one call, and of what comes after it
one_call : (p : PolicyNames) (low n : ℕ) (rs : List Rec) (more : List (ℕ × Rec)) → low ≤ n → ((m : ℕ) → m ≤ n → NeverFall m (lines_read p more)) → NeverFall low (lines_read p (map (λ (r : Rec). (n, r)) rs ++ more))
one_call p low n [] more le after = after low le
one_call p low n (r ∷ rs) more le after = (le, one_call p n n rs more (omega arith) after)

from_call : (p : PolicyNames) (low n : ℕ) (cs : List CallRecord) → low ≤ n → NeverFall low (lines_read p (numbered_from n cs))
from_call p low n [] le = tt
from_call p low n (c ∷ cs) le = one_call p low n c.recs (numbered_from (n + 1) cs) le (λ m less. from_call p m (n + 1) cs (omega arith))

never_fall : (s : Session) → NeverFall 0 (lines_read s.policy (numbered_recs s))
never_fall s = one_call s.policy 0 0 s.boot_recs (numbered_from 1 s.calls) (omega arith) (λ m none. from_call s.policy m 1 s.calls (omega arith))

-- ---- a trail that is not too long

short_trail : (text : List ℕ) (t : Trail) → length text ≤ MAX_INPUT → parse_trail text ≡ Ok t → trail_in text ≡ read_is.Trail t
unfolding trail_in
short_trail text t few is =
    ap (λ (b : Bool). cond b (read_is.Ended TooMuch) (trail_by (parse_trail text))) (le-ltb MAX_INPUT (length text) few)
    ∙ ap trail_by is

-- ---- the output of a whole run goes on after the replies

last_some : (count : ℕ) (ending : InputEnd) → 0 < length (last_text count ending)
unfolding last_text
last_some count ending = omega (arith, length-append (line_text (last_words count ending)) (10 ∷ []))

pub goes_on : (s : Session) (out : List ℕ) → out ≡ replies_of (bytes_of s) ++ tail_text s → length (replies_of (bytes_of s)) < length out
unfolding tail_text
goes_on s out is =
    let last = last_text (length s.calls) s.ending in
    let ends = ends_text None s.policy s.last_state in
    omega (arith, ap length is, length-append (replies_of (bytes_of s)) (ends ++ last), length-append ends last, last_some (length s.calls) s.ending)

-- ---- a run

module _ (a : Accepted) (m : Script) (playable : IsPlayable a m) where
  abbrev s : Session
  s = session_of a m

  abbrev trail_is : Trail
  trail_is = trail_written s.policy s.bound (numbered_recs s)

  yes_line : lineage_text trail_is ≡ yes_text (length (numbered_recs s))
  unfolding lineage_line
  yes_line =
      ap (line_for trail_is) (written_yes s.policy s.bound (numbered_recs s) (subst (AllFollow s.bound) (sym (all_numbered a m)) (own_trail a.world m.items)))
      ∙ ap yes_text (length-map (numbered_recs s) (λ (r : ℕ × Rec). read_of s.policy r.0 r.1))

  -- `lineage` says `yes` of the trail of the run's records
  pub answered_yes : (trail : List ℕ) → IsTrailOf s (numbered_recs s) trail → length trail ≤ MAX_INPUT → AnsweredYes s trail
  answered_yes trail is few =
      let read : parse_trail trail ≡ Ok trail_is =
      ap parse_trail is.trail_is ∙ written_read s.policy s.bound (numbered_recs s) playable.policy is.have_lines (never_fall s) in
      let found : trail_in trail ≡ read_is.Trail trail_is = short_trail trail trail_is few read in
      record {
        line = ap (λ (t : ReadTrail). (due_of_lineage t).order) found ∙ ap to_out yes_line;
        status = ap (λ (t : ReadTrail). (due_of_lineage t).status) found;
      }
