-- The JSON text of a record: an object on one line, whose members stand in the order of the bytes of their keys.
use Rattle.std.specs.Prelude.{ℕ, Bool, ◌==◌, ◌&&◌, ◌||◌, nat_le, cond, List, [], ◌∷◌, ◌++◌, map, Option, None, Some, codes}
use Rattle.std.specs.Cmp.Lexicographic.{slice_cmp}
use Rattle.std.specs.Fmt.{decimal}
use Rattle.std.specs.List.{flat_map, join_with_byte, list_all}
use Rattle.std.specs.Ordering.{nat_cmp, is_lt}
use Rattle.cap_bits.specs.Cap.{cap_name}
use Rattle.cap_bits.specs.declared.state.CapState.{CapState}
use Rattle.cap_clause.specs.Written.{caps_text}
use Rattle.fs_path.specs.Words.{item_text}
use Rattle.lab_lattice.specs.Label.{Label}
use Rattle.lab_text.specs.Policy.{PolicyNames}
use Rattle.lab_text.specs.Text.{label_text}
use Rattle.kern_model.specs.Names.{word_of, check_word, errno_word, place_text}
use Rattle.kern_model.specs.Records.{who_of}
use Rattle.kern_model.specs.declared.calls.Ending.{Ending}
use Rattle.kern_model.specs.declared.calls.Ending.TheVariants as ending
use Rattle.kern_model.specs.declared.calls.CallName.{CallName}
use Rattle.kern_model.specs.declared.calls.Errno.{Errno}
use Rattle.kern_model.specs.declared.checks.CheckName.{CheckName}
use Rattle.kern_model.specs.declared.checks.Place.{Place}
use Rattle.kern_model.specs.declared.numbers.Oid.{Oid}
use Rattle.kern_model.specs.declared.records.Exercise.{Exercise}
use Rattle.kern_model.specs.declared.records.Rec.{Rec}
use Rattle.kern_model.specs.declared.records.Rec.TheVariants as rec
use Rattle.line_text.specs.Words.{pid_text, oid_text, thing_text}
use Rattle.aud_record.specs.Events.{event_of, event_word}
use Rattle.aud_record.specs.Written.{switch_word}
use Rattle.aud_record.specs.declared.reading.ReadRec.{ReadRec}

-- ---- objects

-- the value of a member: null, a number or a text
pub data JsonValue : Type 0 where
  Null : JsonValue
  Number : (n : ℕ) → JsonValue
  Text : (bytes : List ℕ) → JsonValue

-- a member of an object: its key and its value
abbrev pub Member : Type 0
Member = List ℕ × JsonValue

-- a printable byte between quotes: `"` and `\` stand after a backslash
abbrev pub escaped_byte : ℕ → List ℕ
escaped_byte b = cond (b == 34 || b == 92) (92 ∷ b ∷ []) (b ∷ [])

-- a printable text between quotes
abbrev pub json_string : List ℕ → List ℕ
json_string text = 34 ∷ flat_map escaped_byte text ++ 34 ∷ []

-- the text of a value
abbrev pub value_text : JsonValue → List ℕ
value_text Null = codes "null"
value_text (Number n) = decimal n
value_text (Text bytes) = json_string bytes

-- the text of a member: its key, a colon and its value
abbrev pub member_text : Member → List ℕ
member_text m = json_string m.0 ++ 58 ∷ value_text m.1

-- the text of an object: its members between braces, with a comma between each and the next
abbrev pub object_text : List Member → List ℕ
object_text members = 123 ∷ join_with_byte 44 (map member_text members) ++ 125 ∷ []

-- a byte from a space to `~`; of these JSON has only `"` and `\` escaped
abbrev pub is_printable : ℕ → Bool
is_printable b = nat_le 32 b && nat_le b 126

-- all bytes are printable
abbrev pub are_printable : List ℕ → Bool
are_printable text = list_all is_printable text

-- ---- the order of members

-- members in the order of the bytes of their keys, with one more at its place
abbrev pub with_member : Member → List Member → List Member
with_member m [] = m ∷ []
with_member m (n ∷ ns) = cond (is_lt (slice_cmp nat_cmp m.0 n.0)) (m ∷ n ∷ ns) (n ∷ with_member m ns)

-- the same members in the order of the bytes of their keys
abbrev pub in_key_order : List Member → List Member
in_key_order [] = []
in_key_order (m ∷ ms) = with_member m (in_key_order ms)

-- ---- records

-- the word for how a process ended: by itself or by a signal
abbrev pub ending_kind : Ending → List ℕ
ending_kind (ending.Exit code) = codes "exit"
ending_kind ending.Term = codes "kill"
ending_kind ending.Kill = codes "kill"

-- the exit status of a process or the name of the signal
abbrev pub ending_value : Ending → List ℕ
ending_value (ending.Exit code) = decimal code
ending_value ending.Term = codes "TERM"
ending_value ending.Kill = codes "KILL"

-- the new label of a check, null where it has none
abbrev pub new_label_value : PolicyNames → Option Label → JsonValue
new_label_value p None = Null
new_label_value p (Some label) = Text (label_text p label)

-- the labels before and after a change
abbrev pub label_members : PolicyNames → Label → Label → List Member
label_members p old new = (codes "old", Text (label_text p old)) ∷ (codes "new", Text (label_text p new)) ∷ []

-- an object, and its labels before and after a change
abbrev pub relabel_members : PolicyNames → Oid → Label → Label → List Member
relabel_members p object old new = (codes "object", Text (oid_text p object)) ∷ label_members p old new

-- a file, and its capability sets after a change
abbrev pub file_members : PolicyNames → Oid → CapState → List Member
file_members p file caps = (codes "object", Text (oid_text p file)) ∷ (codes "caps", Text (caps_text caps)) ∷ []

-- how a process ended
abbrev pub ending_members : Ending → List Member
ending_members ending = (codes "kind", Text (ending_kind ending)) ∷ (codes "value", Text (ending_value ending)) ∷ []

-- the file that a process executes, the capability sets of the file, and those of the process after it
abbrev pub exec_members : PolicyNames → Oid → CapState → CapState → List Member
exec_members p file file_caps caps = (codes "object", Text (oid_text p file)) ∷ (codes "file", Text (caps_text file_caps)) ∷ (codes "caps", Text (caps_text caps)) ∷ []

-- the call that is denied, the error, the check that denies it and its place
abbrev pub denial_members : CallName → Errno → CheckName → Place → List Member
denial_members call errno check place =
    (codes "name", Text (word_of call))
    ∷ (codes "errno", Text (errno_word errno))
    ∷ (codes "check", Text (check_word check))
    ∷ (codes "place", Text (place_text place))
    ∷ []

-- the members of an exercise besides those of every record
abbrev pub exercise_members : PolicyNames → Exercise → List Member
exercise_members p e =
    (codes "label", Text (label_text p e.label))
    ∷ (codes "cap", Text (cap_name e.cap))
    ∷ (codes "check", Text (check_word e.check))
    ∷ (codes "thing", Text (thing_text p e.thing))
    ∷ (codes "thing_label", Text (label_text p e.thing_label))
    ∷ (codes "new", new_label_value p e.new_label)
    ∷ (codes "place", Text (place_text e.place))
    ∷ []

-- the members that a kind of records has besides those of every record; the bytes of a note are as the trail writes them between quotes
abbrev pub rest_members : PolicyNames → Rec → List Member
rest_members p (rec.Boot who label caps) = (codes "label", Text (label_text p label)) ∷ (codes "caps", Text (caps_text caps)) ∷ []
rest_members p (rec.Fork who child) = (codes "child", Text (pid_text p child)) ∷ []
rest_members p (rec.Exec who file file_caps caps) = exec_members p file file_caps caps
rest_members p (rec.Exit who ending) = ending_members ending
rest_members p (rec.CapSetProc who caps) = (codes "caps", Text (caps_text caps)) ∷ []
rest_members p (rec.CapSetFile who file caps) = file_members p file caps
rest_members p (rec.MacSetProc who old new) = label_members p old new
rest_members p (rec.MacSetFile who object old new) = relabel_members p object old new
rest_members p (rec.Exercise exercise) = exercise_members p exercise
rest_members p (rec.Deny who call errno check place) = denial_members call errno check place
rest_members p (rec.Switch who on) = (codes "state", Text (switch_word on)) ∷ []
rest_members p (rec.Note who bytes) = (codes "bytes", Text (flat_map item_text bytes)) ∷ []

-- the members of a record: the number of its call, its kind, the process that it is about, and those of its kind
abbrev pub rec_members : PolicyNames → ReadRec → List Member
rec_members p read = (codes "call", Number read.call) ∷ (codes "event", Text (event_word (event_of read.rec))) ∷ (codes "pid", Text (pid_text p (who_of read.rec))) ∷ rest_members p read.rec

-- the JSON text of a record, without a line feed
unfoldable pub json_line : PolicyNames → ReadRec → List ℕ
json_line p read = object_text (in_key_order (rec_members p read))
