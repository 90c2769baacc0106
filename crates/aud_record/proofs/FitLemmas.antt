-- A record fits where its labels are valid and its numbers and bytes are in range; one that fits has valid labels.
use Rattle.std.specs.Prelude.{◌≡◌, ℕ, ◌^◌, ◌<◌, ◌&&◌, Bool, true, List, [], ◌∷◌, Option, None, Some, refl}
use Rattle.std.specs.List.{list_all}
use Rattle.std.proofs.lemmas.Bool.{and_parts, and_from, lt-ltb}
use Rattle.lab_lattice.specs.Label.{Label}
use Rattle.lab_text.specs.Policy.{PolicyNames, is_valid}
use Rattle.kern_model.specs.declared.calls.Ending.{Ending}
use Rattle.kern_model.specs.declared.calls.Ending.TheVariants as ending
use Rattle.kern_model.specs.declared.checks.Place.{Place}
use Rattle.kern_model.specs.declared.checks.Place.TheVariants as place
use Rattle.kern_model.specs.declared.checks.Thing.{Thing}
use Rattle.kern_model.specs.declared.checks.Thing.TheVariants as thing
use Rattle.kern_model.specs.declared.records.Rec.{Rec}
use Rattle.kern_model.specs.declared.records.Rec.TheVariants as rec
use Rattle.line_text.specs.Ranges.{count_of, PlaceInRange, EndingInRange}
use Rattle.kern_model.specs.Records.{who_of, label_of, label_if, rest_labels}
use Rattle.aud_record.specs.Fits.{has_valid_labels, RestInRange, IsInRange, numbered_fits, pid_fits, thing_fits, new_label_fits, place_fits, ending_fits, rest_tests, all_hold, rec_fits}

-- ---- from labels and ranges

numbered_fit : (p : PolicyNames) (n : ℕ) (label : Label) → is_valid p label ≡ true → n < 2 ^ 16 → numbered_fits p n label ≡ true
numbered_fit p n label valid small = and_from _ _ (lt-ltb n (2 ^ 16) small) valid

thing_fit : (p : PolicyNames) (t : Thing) → is_valid p (label_of t) ≡ true → count_of t < 2 ^ 16 → thing_fits p t ≡ true
thing_fit p (thing.Object oid) valid small = numbered_fit p oid.n oid.label valid small
thing_fit p (thing.Process pid) valid small = numbered_fit p pid.n pid.label valid small

new_label_fit : (p : PolicyNames) (o : Option Label) → list_all (is_valid p) (label_if o) ≡ true → new_label_fits p o ≡ true
new_label_fit p None valid = refl
new_label_fit p (Some label) valid = (and_parts (is_valid p label) true valid).0

place_fit : (at : Place) → PlaceInRange at → place_fits at ≡ true
place_fit (place.First n) small = lt-ltb n (2 ^ 8) small
place_fit (place.Second n) small = lt-ltb n (2 ^ 8) small
place_fit place.Handle small = refl
place_fit place.Target small = refl
place_fit place.Caller small = refl

ending_fit : (e : Ending) → EndingInRange e → ending_fits e ≡ true
ending_fit (ending.Exit code) small = lt-ltb code (2 ^ 8) small
ending_fit ending.Term small = refl
ending_fit ending.Kill small = refl

rest_fit : (p : PolicyNames) (r : Rec) → list_all (is_valid p) (rest_labels r) ≡ true → RestInRange r → all_hold (rest_tests p r) ≡ true
rest_fit p (rec.Boot who label caps) valid range = valid
rest_fit p (rec.Fork who child) valid range = and_from _ _ (numbered_fit p child.n child.label (and_parts (is_valid p child.label) true valid).0 range) refl
rest_fit p (rec.Exec who file file_caps caps) valid range = and_from _ _ (numbered_fit p file.n file.label (and_parts (is_valid p file.label) true valid).0 range) refl
rest_fit p (rec.Exit who e) valid range = and_from _ _ (ending_fit e range) refl
rest_fit p (rec.CapSetProc who caps) valid range = refl
rest_fit p (rec.CapSetFile who file caps) valid range = and_from _ _ (numbered_fit p file.n file.label (and_parts (is_valid p file.label) true valid).0 range) refl
rest_fit p (rec.MacSetProc who old new) valid range = valid
rest_fit p (rec.MacSetFile who object old new) valid range =
    let parts = and_parts (is_valid p object.label) (list_all (is_valid p) (rest_labels (rec.MacSetProc who old new))) valid in
    and_from _ _ (numbered_fit p object.n object.label parts.0 range) parts.1
rest_fit p (rec.Exercise e) valid range =
    let one = and_parts (is_valid p e.label) (is_valid p (label_of e.thing) && (is_valid p e.thing_label && list_all (is_valid p) (label_if e.new_label))) valid in
    let two = and_parts (is_valid p (label_of e.thing)) (is_valid p e.thing_label && list_all (is_valid p) (label_if e.new_label)) one.1 in
    let three = and_parts (is_valid p e.thing_label) (list_all (is_valid p) (label_if e.new_label)) two.1 in
    and_from _ _ one.0
    (and_from _ _ (thing_fit p e.thing two.0 range.0)
    (and_from _ _ three.0 (and_from _ _ (new_label_fit p e.new_label three.1) (and_from _ _ (place_fit e.place range.1) refl))))
rest_fit p (rec.Deny who call errno check at) valid range = and_from _ _ (place_fit at range) refl
rest_fit p (rec.Switch who on) valid range = refl
rest_fit p (rec.Note who bytes) valid range = and_from _ _ range refl

pub fits_from : (p : PolicyNames) (call : ℕ) (r : Rec) → has_valid_labels p r ≡ true → IsInRange call r → rec_fits p r ≡ true
unfolding has_valid_labels rec_fits
fits_from p call r valid range =
    let parts = and_parts (is_valid p (who_of r).label) (list_all (is_valid p) (rest_labels r)) valid in
    and_from _ _ (numbered_fit p (who_of r).n (who_of r).label parts.0 range.count) (rest_fit p r parts.1 range.rest)

-- ---- labels alone

numbered_valid : (p : PolicyNames) (n : ℕ) (label : Label) → numbered_fits p n label ≡ true → is_valid p label ≡ true
numbered_valid p n label fits = (and_parts _ (is_valid p label) fits).1

thing_valid : (p : PolicyNames) (t : Thing) → thing_fits p t ≡ true → is_valid p (label_of t) ≡ true
thing_valid p (thing.Object oid) fits = numbered_valid p oid.n oid.label fits
thing_valid p (thing.Process pid) fits = numbered_valid p pid.n pid.label fits

new_label_valid : (p : PolicyNames) (o : Option Label) → new_label_fits p o ≡ true → list_all (is_valid p) (label_if o) ≡ true
new_label_valid p None fits = refl
new_label_valid p (Some label) fits = and_from _ _ fits refl

-- the first of some tests, where all of them hold
first_holds : (p : PolicyNames) (n : ℕ) (label : Label) (more : List Bool) → all_hold (numbered_fits p n label ∷ more) ≡ true → is_valid p label ≡ true
first_holds p n label more fits = numbered_valid p n label (and_parts (numbered_fits p n label) (all_hold more) fits).0

rest_valid : (p : PolicyNames) (r : Rec) → all_hold (rest_tests p r) ≡ true → list_all (is_valid p) (rest_labels r) ≡ true
rest_valid p (rec.Boot who label caps) fits = fits
rest_valid p (rec.Fork who child) fits = and_from _ _ (first_holds p child.n child.label [] fits) refl
rest_valid p (rec.Exec who file file_caps caps) fits = and_from _ _ (first_holds p file.n file.label [] fits) refl
rest_valid p (rec.Exit who e) fits = refl
rest_valid p (rec.CapSetProc who caps) fits = refl
rest_valid p (rec.CapSetFile who file caps) fits = and_from _ _ (first_holds p file.n file.label [] fits) refl
rest_valid p (rec.MacSetProc who old new) fits = fits
rest_valid p (rec.MacSetFile who object old new) fits =
    let parts = and_parts (numbered_fits p object.n object.label) (all_hold (is_valid p old ∷ is_valid p new ∷ [])) fits in
    and_from _ _ (numbered_valid p object.n object.label parts.0) parts.1
rest_valid p (rec.Exercise e) fits =
    let last : List Bool = place_fits e.place ∷ [] in
    let one = and_parts (is_valid p e.label) (all_hold (thing_fits p e.thing ∷ is_valid p e.thing_label ∷ new_label_fits p e.new_label ∷ last)) fits in
    let two = and_parts (thing_fits p e.thing) (all_hold (is_valid p e.thing_label ∷ new_label_fits p e.new_label ∷ last)) one.1 in
    let three = and_parts (is_valid p e.thing_label) (all_hold (new_label_fits p e.new_label ∷ last)) two.1 in
    let four = and_parts (new_label_fits p e.new_label) (all_hold last) three.1 in
    and_from _ _ one.0 (and_from _ _ (thing_valid p e.thing two.0) (and_from _ _ three.0 (new_label_valid p e.new_label four.0)))
rest_valid p (rec.Deny who call errno check at) fits = refl
rest_valid p (rec.Switch who on) fits = refl
rest_valid p (rec.Note who bytes) fits = refl

pub labels_from : (p : PolicyNames) (r : Rec) → rec_fits p r ≡ true → has_valid_labels p r ≡ true
unfolding has_valid_labels rec_fits
labels_from p r fits =
    let parts = and_parts (pid_fits p (who_of r)) (all_hold (rest_tests p r)) fits in
    and_from _ _ (numbered_valid p (who_of r).n (who_of r).label parts.0) (rest_valid p r parts.1)
