-- The trail is of one list of records, and these are the run's.
use Rattle.std.proofs.Common.{◌≡◌, ℕ, ◌<◌, true, List, [], ◌∷◌, ◌++◌, length, refl, sym, ◌∙◌, ap, subst, arith}
use Rattle.std.specs.Fmt.{decimal}
use Rattle.std.specs.List.{AllByRecursion, flat_map, list_all}
use Rattle.std.proofs.lemmas.Bool.{and_from}
use Rattle.std.proofs.lemmas.List.{append_cancel_left, length-append}
use Rattle.fs_path.specs.Words.{line_text}
use Rattle.lab_lattice.specs.Label.{Label, dominates}
use Rattle.lab_text.specs.Policy.{PolicyNames, MakePolicy, top_of, is_valid}
use Rattle.aud_record.proofs.RoundTrip.{one_record}
use Rattle.kern_model.specs.Records.{labels_in}
use Rattle.aud_record.specs.Fits.{has_valid_labels}
use Rattle.aud_record.specs.Written.{rec_words, line_of, rec_text, header_text}
use Rattle.kern_model.specs.declared.records.Rec.{Rec}
use Rattle.iso_laws.specs.Labels.{HasLabelsBelow}
use Rattle.iso_laws.proofs.Laws.{labels_below}
use Rattle.lab_engine.specs.Input.{Accepted, Script}
use Rattle.labsys.specs.Clauses.{Printed, Dropped, recs_in}
use Rattle.lab_engine.specs.Session.{numbered_recs}
use Rattle.labsys.specs.Lineage.{IsTrailOf, GivenBy, PrintedByAny}
use Rattle.lab_engine.specs.Readable.{HasLine}
use Rattle.lab_engine.specs.Readable.{IsReadable}
use Rattle.lab_engine.specs.Session.{Session, session_of, bytes_of, replies_of}
use Rattle.labsys.proofs.AcceptedLemmas.{IsPlayable}
use Rattle.labsys.proofs.Printing.{all_numbered}

-- ---- lines determine their records
abbrev lines : PolicyNames → List (ℕ × Rec) → List ℕ
lines policy recs = flat_map (λ (r : ℕ × Rec). rec_text policy r.0 r.1) recs

-- no line is empty
not_empty : (policy : PolicyNames) (n : ℕ) (r : Rec) (rest : List ℕ) → rec_text policy n r ++ rest ≡ [] → ⊥
unfolding rec_text line_of
not_empty policy n r rest e =
    let words = line_text (decimal n ∷ rec_words policy r) in
    omega (arith, ap length e, length-append (words ++ 10 ∷ []) rest, length-append words (10 ∷ []))

module _ (policy : PolicyNames) (names : MakePolicy policy) where
  pub determined : (xs ys : List (ℕ × Rec)) → AllByRecursion (HasLine policy) xs → AllByRecursion (HasLine policy) ys → lines policy xs ≡ lines policy ys → xs ≡ ys
  determined [] [] first second e = refl
  determined [] (y ∷ ys) first second e = absurd (not_empty policy y.0 y.1 (lines policy ys) (sym e))
  determined (x ∷ xs) [] first second e = absurd (not_empty policy x.0 x.1 (lines policy xs) e)
  determined (x ∷ xs) (y ∷ ys) first second e =
      let one = one_record policy x.0 y.0 x.1 y.1 (lines policy xs) (lines policy ys) names first.0.0 second.0.0 first.0.1 second.0.1 e in
      λ i. (one.call i, one.rec i) ∷ determined xs ys first.1 second.1 one.rest i

-- ---- the labels of the run's records are valid
all_valid : (policy : PolicyNames) (labels : List Label) → AllByRecursion (λ (l : Label). dominates (top_of policy) l ≡ true) labels → list_all (is_valid policy) labels ≡ true
all_valid policy [] h = refl
all_valid policy (l ∷ ls) h = and_from _ _ h.0 (all_valid policy ls h.1)

valid_labels : (policy : PolicyNames) (r : Rec) → HasLabelsBelow (top_of policy) r → has_valid_labels policy r ≡ true
unfolding has_valid_labels
valid_labels policy r h = all_valid policy (labels_in r) h

-- readable records with valid labels have lines
all_lines : (policy : PolicyNames) (recs : List (ℕ × Rec)) → AllByRecursion (HasLabelsBelow (top_of policy)) (recs_in recs) → AllByRecursion (IsReadable policy) recs → AllByRecursion (HasLine policy) recs
all_lines policy [] below all = tt
all_lines policy (r ∷ rs) below all = (all.0 (valid_labels policy r.1 below.0), all_lines policy rs below.1 all.1)

-- ---- a run
module _ (a : Accepted) (m : Script) (playable : IsPlayable a m) where
  abbrev s : Session
  s = session_of a m

  -- the run's own records, where each is readable
  own_lines : AllByRecursion (IsReadable s.policy) (numbered_recs s) → AllByRecursion (HasLine s.policy) (numbered_recs s)
  own_lines all =
      all_lines s.policy (numbered_recs s)
      (subst (λ (top : Label). AllByRecursion (HasLabelsBelow top) (recs_in (numbered_recs s))) playable.top
      (subst (AllByRecursion (HasLabelsBelow a.world.top)) (sym (all_numbered a m)) (labels_below a.world m.items playable.world playable.script)))
      all

  -- what the trail of a run gives, where each of its records is readable by then
  pub printed_by_any : (out trail : List ℕ) → (length (replies_of (bytes_of s)) < length out → AllByRecursion (IsReadable s.policy) (numbered_recs s)) → Printed s out trail → Dropped s trail → PrintedByAny s out trail
  printed_by_any out trail readable printed dropped =
      let own : length (replies_of (bytes_of s)) < length out → IsTrailOf s (numbered_recs s) trail = λ more. record { have_lines = own_lines (readable more); trail_is = printed.recorded more } in
      record {
        own = own;
        by_any = λ more recs is.
            let same : numbered_recs s ≡ recs =
            determined s.policy playable.policy (numbered_recs s) recs (own more).have_lines is.have_lines (append_cancel_left (header_text s.policy s.bound) _ _ (sym (own more).trail_is ∙ is.trail_is)) in
            subst (λ (rs : List (ℕ × Rec)). GivenBy s (recs_in rs) out) same (record { printed = printed.by_records; drops = dropped.drops; grows = dropped.grows });
      }
