-- Which records have a line that is read again.
use Rattle.std.specs.Prelude.{◌≡◌, ℕ, ◌^◌, ◌<◌, ◌&&◌, nat_lt, Bool, true, List, [], ◌∷◌, Option, None, Some}
use Rattle.std.specs.List.{list_all}
use Rattle.lab_lattice.specs.Label.{Label}
use Rattle.lab_text.specs.Policy.{PolicyNames, is_valid}
use Rattle.kern_model.specs.declared.calls.Ending.{Ending}
use Rattle.kern_model.specs.declared.calls.Ending.TheVariants as ending
use Rattle.kern_model.specs.declared.checks.Place.{Place}
use Rattle.kern_model.specs.declared.checks.Place.TheVariants as place
use Rattle.kern_model.specs.declared.checks.Thing.{Thing}
use Rattle.kern_model.specs.declared.checks.Thing.TheVariants as thing
use Rattle.kern_model.specs.declared.numbers.Oid.{Oid}
use Rattle.kern_model.specs.declared.numbers.Pid.{Pid}
use Rattle.kern_model.specs.declared.records.Exercise.{Exercise}
use Rattle.kern_model.specs.declared.records.Rec.{Rec}
use Rattle.kern_model.specs.declared.records.Rec.TheVariants as rec
use Rattle.kern_model.specs.Records.{who_of, labels_in}
use Rattle.line_text.specs.Ranges.{are_bytes, count_of, PlaceInRange, EndingInRange}

-- ---- labels

-- each label of a record is valid in the policy, those of its numbers too
unfoldable pub has_valid_labels : PolicyNames → Rec → Bool
has_valid_labels p r = list_all (is_valid p) (labels_in r)

-- ---- numbers and bytes

-- the numbers of an exercise after that of the process are in the ranges of their types
abbrev pub ExerciseInRange : Exercise → Type 0
ExerciseInRange e = (count_of e.thing < 2 ^ 16) × PlaceInRange e.place

-- the numbers and bytes after the number of the process are in the ranges of their types
abbrev pub RestInRange : Rec → Type 0
RestInRange (rec.Boot who label caps) = Unit {0}
RestInRange (rec.Fork who child) = child.n < 2 ^ 16
RestInRange (rec.Exec who file file_caps caps) = file.n < 2 ^ 16
RestInRange (rec.Exit who ending) = EndingInRange ending
RestInRange (rec.CapSetProc who caps) = Unit {0}
RestInRange (rec.CapSetFile who file caps) = file.n < 2 ^ 16
RestInRange (rec.MacSetProc who old new) = Unit {0}
RestInRange (rec.MacSetFile who object old new) = object.n < 2 ^ 16
RestInRange (rec.Exercise exercise) = ExerciseInRange exercise
RestInRange (rec.Deny who call errno check place) = PlaceInRange place
RestInRange (rec.Switch who on) = Unit {0}
RestInRange (rec.Note who bytes) = are_bytes bytes ≡ true

-- the number of a call, and the numbers and bytes of its record, are in the ranges of their types, as those of every value in a program are
pub record IsInRange (call : ℕ) (r : Rec) : Type 0 where
  pub call_is : call < 2 ^ 64
  pub count : (who_of r).n < 2 ^ 16
  pub rest : RestInRange r

-- ---- both, value by value

-- a number of 16 bits, and a label that is valid
abbrev pub numbered_fits : PolicyNames → ℕ → Label → Bool
numbered_fits p n label = nat_lt n (2 ^ 16) && is_valid p label

abbrev pub pid_fits : PolicyNames → Pid → Bool
pid_fits p pid = numbered_fits p pid.n pid.label

abbrev pub oid_fits : PolicyNames → Oid → Bool
oid_fits p oid = numbered_fits p oid.n oid.label

abbrev pub thing_fits : PolicyNames → Thing → Bool
thing_fits p (thing.Object oid) = oid_fits p oid
thing_fits p (thing.Process pid) = pid_fits p pid

abbrev pub new_label_fits : PolicyNames → Option Label → Bool
new_label_fits p None = true
new_label_fits p (Some label) = is_valid p label

-- a place in a path is a number of 8 bits; each other place fits
abbrev pub place_fits : Place → Bool
place_fits (place.First n) = nat_lt n (2 ^ 8)
place_fits (place.Second n) = nat_lt n (2 ^ 8)
place_fits _ = true

abbrev pub ending_fits : Ending → Bool
ending_fits (ending.Exit code) = nat_lt code (2 ^ 8)
ending_fits _ = true

-- what has to hold of a record after the process that it is about
abbrev pub rest_tests : PolicyNames → Rec → List Bool
rest_tests p (rec.Boot who label caps) = is_valid p label ∷ []
rest_tests p (rec.Fork who child) = pid_fits p child ∷ []
rest_tests p (rec.Exec who file file_caps caps) = oid_fits p file ∷ []
rest_tests p (rec.Exit who ending) = ending_fits ending ∷ []
rest_tests p (rec.CapSetProc who caps) = []
rest_tests p (rec.CapSetFile who file caps) = oid_fits p file ∷ []
rest_tests p (rec.MacSetProc who old new) = is_valid p old ∷ is_valid p new ∷ []
rest_tests p (rec.MacSetFile who object old new) = oid_fits p object ∷ is_valid p old ∷ is_valid p new ∷ []
rest_tests p (rec.Exercise e) = is_valid p e.label ∷ thing_fits p e.thing ∷ is_valid p e.thing_label ∷ new_label_fits p e.new_label ∷ place_fits e.place ∷ []
rest_tests p (rec.Deny who call errno check place) = place_fits place ∷ []
rest_tests p (rec.Switch who on) = []
rest_tests p (rec.Note who bytes) = are_bytes bytes ∷ []

abbrev pub all_hold : List Bool → Bool
all_hold tests = list_all (λ test. test) tests

-- a record's labels are valid in the policy, and its numbers and bytes have the sizes of their types
unfoldable pub rec_fits : PolicyNames → Rec → Bool
rec_fits p r = all_hold (pid_fits p (who_of r) ∷ rest_tests p r)
