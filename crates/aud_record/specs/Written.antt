-- The texts of the audit trail: its header, and one line for each record.
use Rattle.std.specs.Prelude.{ℕ, Bool, cond, List, [], ◌∷◌, ◌++◌, codes}
use Rattle.std.specs.Fmt.{decimal}
use Rattle.std.specs.List.{flat_map}
use Rattle.cap_bits.specs.Cap.{cap_name}
use Rattle.cap_bits.specs.CapSet.{CapSet}
use Rattle.cap_clause.specs.Written.{set_text}
use Rattle.fs_path.specs.Words.{quoted_text, line_text}
use Rattle.lab_lattice.specs.Label.{Label}
use Rattle.lab_text.specs.Policy.{PolicyNames}
use Rattle.lab_text.specs.Text.{label_text}
use Rattle.kern_model.specs.Names.{word_of, check_word, errno_word, place_text, ending_text}
use Rattle.kern_model.specs.Records.{who_of}
use Rattle.kern_model.specs.declared.numbers.Oid.{Oid}
use Rattle.kern_model.specs.declared.records.Exercise.{Exercise}
use Rattle.kern_model.specs.declared.records.Rec.{Rec}
use Rattle.kern_model.specs.declared.records.Rec.TheVariants as rec
use Rattle.line_text.specs.Words.{pid_text, oid_text, caps_word, thing_text, new_label_text, names_lines}
use Rattle.aud_record.specs.Events.{event_of, event_word}

-- whether the trail is on
abbrev pub switch_word : Bool → List ℕ
switch_word on = cond on (codes "on") (codes "off")

-- words with one space between them, and a line feed
unfoldable pub line_of : List (List ℕ) → List ℕ
line_of words = line_text words ++ 10 ∷ []

-- the words of an exercise after the number of the process
abbrev pub exercise_words : PolicyNames → Exercise → List (List ℕ)
exercise_words p e =
    label_text p e.label
    ∷ cap_name e.cap
    ∷ check_word e.check
    ∷ thing_text p e.thing
    ∷ label_text p e.thing_label
    ∷ new_label_text p e.new_label
    ∷ place_text e.place
    ∷ []

-- the words of a change of the label of an object: the object, its label before the change and the one after it
abbrev pub relabel_words : PolicyNames → Oid → Label → Label → List (List ℕ)
relabel_words p object old new = oid_text p object ∷ label_text p old ∷ label_text p new ∷ []

-- the words after the number of the process that a record is about; an ending is two words
abbrev pub rest_words : PolicyNames → Rec → List (List ℕ)
rest_words p (rec.Boot who label caps) = label_text p label ∷ caps_word caps ∷ []
rest_words p (rec.Fork who child) = pid_text p child ∷ []
rest_words p (rec.Exec who file file_caps caps) = oid_text p file ∷ caps_word file_caps ∷ caps_word caps ∷ []
rest_words p (rec.Exit who ending) = ending_text ending ∷ []
rest_words p (rec.CapSetProc who caps) = caps_word caps ∷ []
rest_words p (rec.CapSetFile who file caps) = oid_text p file ∷ caps_word caps ∷ []
rest_words p (rec.MacSetProc who old new) = label_text p old ∷ label_text p new ∷ []
rest_words p (rec.MacSetFile who object old new) = relabel_words p object old new
rest_words p (rec.Exercise exercise) = exercise_words p exercise
rest_words p (rec.Deny who call errno check place) = word_of call ∷ errno_word errno ∷ check_word check ∷ place_text place ∷ []
rest_words p (rec.Switch who on) = switch_word on ∷ []
rest_words p (rec.Note who bytes) = quoted_text bytes ∷ []

-- the words of a record: its kind, the process that it is about, and the rest
abbrev pub rec_words : PolicyNames → Rec → List (List ℕ)
rec_words p r = event_word (event_of r) ∷ pid_text p (who_of r) ∷ rest_words p r

-- a record after the number of its call
unfoldable pub rec_text : PolicyNames → ℕ → Rec → List ℕ
rec_text p call r = line_of (decimal call ∷ rec_words p r)

-- the words of the lines before the records: the format, the names of the world list by list, and its bound
abbrev pub header_words : PolicyNames → CapSet → List (List (List ℕ))
header_words p bound = (codes "trail" ∷ codes "1" ∷ []) ∷ (names_lines p ++ (codes "bound" ∷ set_text bound ∷ []) ∷ [])

unfoldable pub header_text : PolicyNames → CapSet → List ℕ
header_text p bound = flat_map line_of (header_words p bound)
