-- The trail that records with the numbers of their calls are written as is read back.
use Rattle.std.specs.Prelude.{◌≡◌, ℕ, ◌^◌, ◌<◌, true, List, [], ◌∷◌, ◌++◌, map, Ok, refl}
use Rattle.std.specs.List.{AllByRecursion, flat_map}
use Rattle.std.proofs.Common.{ap, ◌∙◌}
use Rattle.cap_bits.specs.CapSet.{CapSet}
use Rattle.kern_model.specs.declared.records.Rec.{Rec}
use Rattle.lab_text.specs.Policy.{PolicyNames, MakePolicy}
use Rattle.iso_laws.specs.Follows.{AllFollow}
use Rattle.aud_record.specs.Fits.{rec_fits}
use Rattle.aud_record.specs.Parsed.{read_of}
use Rattle.aud_record.specs.Written.{header_text, rec_text}
use Rattle.aud_record.specs.declared.reading.ReadRec.{ReadRec}
use Rattle.aud_red.specs.Lineage.{lineage_of, recs_in, recs_of}
use Rattle.aud_red.specs.Trail.{NeverFall, parse_trail, recs_text, trail_text}
use Rattle.aud_red.specs.declared.lineage.Lineage.TheVariants.{Yes}
use Rattle.aud_red.specs.declared.trail.Trail.{Trail}
use Rattle.aud_red.specs.declared.trail.TrailError.{TrailError}
use Rattle.aud_red.proofs.LineageLemmas.{yes_found}
use Rattle.aud_red.proofs.TrailLemmas.{IsReadBack, trail_read_back}

-- ---- the trail

-- what is read of the lines of records
abbrev pub lines_read : PolicyNames → List (ℕ × Rec) → List ReadRec
lines_read p recs = map (λ (r : ℕ × Rec). read_of p r.0 r.1) recs

-- the trail of a policy, a bound and records
abbrev pub trail_written : PolicyNames → CapSet → List (ℕ × Rec) → Trail
trail_written p bound recs = record { policy = p; bound = bound; recs = lines_read p recs }

-- the number of a call and its record have the sizes of their types, and the labels of the record are valid
abbrev pub Fit : PolicyNames → ℕ × Rec → Type 0
Fit p r = (r.0 < 2 ^ 64) × (rec_fits p r.1 ≡ true)

-- ---- it is read back

same_text : (p : PolicyNames) (recs : List (ℕ × Rec)) → flat_map (λ (r : ℕ × Rec). rec_text p r.0 r.1) recs ≡ recs_text p (lines_read p recs)
same_text p [] = refl
same_text p (r ∷ rs) = ap (λ (t : List ℕ). rec_text p r.0 r.1 ++ t) (same_text p rs)

same_recs : (p : PolicyNames) (recs : List (ℕ × Rec)) → recs_in (lines_read p recs) ≡ map (λ (r : ℕ × Rec). r.1) recs
same_recs p [] = refl
same_recs p (r ∷ rs) = ap (λ (xs : List Rec). r.1 ∷ xs) (same_recs p rs)

each_read : (p : PolicyNames) (recs : List (ℕ × Rec)) → AllByRecursion (Fit p) recs → AllByRecursion (IsReadBack p) (lines_read p recs)
each_read p [] fit = tt
each_read p (r ∷ rs) fit = (record { call = fit.0.0; fit = fit.0.1; used = refl }, each_read p rs fit.1)

-- the header and the lines of records, whose call numbers never fall, are read as their trail
pub written_read : (p : PolicyNames) (bound : CapSet) (recs : List (ℕ × Rec)) → MakePolicy p → AllByRecursion (Fit p) recs → NeverFall 0 (lines_read p recs)
    → parse_trail (header_text p bound ++ flat_map (λ (r : ℕ × Rec). rec_text p r.0 r.1) recs) ≡ Ok (trail_written p bound recs)
unfolding trail_text
written_read p bound recs makes fit order =
    ap (λ (t : List ℕ). parse_trail (header_text p bound ++ t)) (same_text p recs)
    ∙ trail_read_back (trail_written p bound recs) makes (each_read p recs fit) order

-- ---- its lineage

-- where each of the records may come after those before it, the answer is Yes
pub written_yes : (p : PolicyNames) (bound : CapSet) (recs : List (ℕ × Rec)) → AllFollow bound (map (λ (r : ℕ × Rec). r.1) recs) → lineage_of bound (recs_of (trail_written p bound recs)) ≡ Yes
written_yes p bound recs follow =
    ap (lineage_of bound) (same_recs p recs)
    ∙ (yes_found bound (map (λ (r : ℕ × Rec). r.1) recs) {E = TrailError} (Ok (lineage_of bound (map (λ (r : ℕ × Rec). r.1) recs))) refl).1 follow
