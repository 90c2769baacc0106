-- The record with which a text begins.
use Rattle.std.specs.Prelude.{◌≡◌, ℕ, ◌+◌, ◌-◌, ◌^◌, Bool, true, false, List, ◌++◌, length, take, Option, None, Some, Result, Ok, Err}
use Rattle.fs_path.specs.Split.{split_once}
use Rattle.lab_text.specs.Policy.{PolicyNames}
use Rattle.kern_model.specs.declared.records.Rec.{Rec}
use Rattle.kern_model.specs.Named.{find_named}
use Rattle.aud_record.specs.Events.{event_word, all_events}
use Rattle.aud_record.specs.Fits.{has_valid_labels}
use Rattle.aud_record.specs.Forms.{form_of, parse_form}
use Rattle.aud_record.specs.Canonical.{canonical_number, canonical_pid}
use Rattle.aud_record.specs.Words.{◌>>=◌, parse_word, parse_field}
use Rattle.aud_record.specs.Written.{rec_text}
use Rattle.aud_record.specs.declared.fault.Fault.{Fault}
use Rattle.aud_record.specs.declared.fault.Fault.TheVariants as fault
use Rattle.aud_record.specs.declared.reading.ReadRec.{ReadRec}
use Rattle.aud_record.specs.declared.reading.RecError.{RecError}
use Rattle.aud_record.specs.declared.reading.RecError.TheVariants as error

-- the number of a call and a record, where a line is their text, or the first fault from the left
unfoldable pub parse_line : PolicyNames → List ℕ → Result (ℕ × Rec) Fault
parse_line p line = do
  call ← parse_word false (canonical_number (2 ^ 64)) line
  kind ← parse_field true (find_named event_word all_events) call.1
  who ← parse_field false (canonical_pid p) kind.1
  r ← parse_form p (form_of kind.0 who.0) who.1
  Ok (call.0, r)

-- the place of a fault in a line of so many bytes
abbrev pub error_of_fault : ℕ → Fault → RecError
error_of_fault len (fault.Syntax left) = error.Syntax (len - left)
error_of_fault len (fault.UnknownWord left) = error.UnknownWord (len - left)
error_of_fault len (fault.NoMemory e) = error.NoMemory e

-- what a line with so many bytes gives
abbrev pub line_read : ℕ → Result (ℕ × Rec) Fault → Result ReadRec RecError
line_read len (Ok x) = Ok (record { call = x.0; rec = x.1; used = len + 1 })
line_read len (Err f) = Err (error_of_fault len f)

abbrev pub read_by : PolicyNames → Option (List ℕ × List ℕ) → Result ReadRec RecError
read_by p None = Err error.Truncated
read_by p (Some parts) = line_read (length parts.0) (parse_line p parts.0)

-- the record whose text a text begins with, or why there is none
unfoldable pub parse_rec : PolicyNames → List ℕ → Result ReadRec RecError
parse_rec p text = read_by p (split_once 10 text)

-- whether an error is that memory ran out
abbrev pub is_no_memory : RecError → Bool
is_no_memory (error.NoMemory _) = true
is_no_memory _ = false

-- what is read of the line of this record
abbrev pub read_of : PolicyNames → ℕ → Rec → ReadRec
read_of p call r = record { call = call; rec = r; used = length (rec_text p call r) }

-- a line is read as this record, whatever follows it
abbrev pub IsReadAs : PolicyNames → List ℕ → ℕ → Rec → Type 0
IsReadAs p line call r = (rest : List ℕ) → parse_rec p (line ++ rest) ≡ Ok (record { call = call; rec = r; used = length line })

-- a text begins with the line of a record that was read, and the labels of the record are valid
abbrev pub BeginsWithRec : PolicyNames → List ℕ → ReadRec → Type 0
BeginsWithRec p text read = (take read.used text ≡ rec_text p read.call read.rec) × (has_valid_labels p read.rec ≡ true)
