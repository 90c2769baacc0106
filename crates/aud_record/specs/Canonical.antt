-- What a word of a record stands for. Each value has one spelling, which is the one that is written.
use Rattle.std.specs.Prelude.{ℕ, ◌^◌, ◌==◌, ◌&&◌, nat_lt, cond, List, [], ◌∷◌, Option, None, Some, codes}
use Rattle.std.specs.Fmt.{decimal}
use Rattle.std.specs.Option.{option_and_then, option_map, option_or}
use Rattle.std.specs.Result.{result_ok}
use Rattle.std.specs.Str.Parse.{digits_value}
use Rattle.cap_bits.specs.declared.state.CapState.{CapState}
use Rattle.cap_clause.specs.Parsed.{parse_caps}
use Rattle.fs_path.specs.Split.{split_once}
use Rattle.fs_path.specs.Options.{keep_if}
use Rattle.fs_path.specs.Words.{words_of, quoted_text}
use Rattle.fs_path.specs.declared.words.LineWord.{LineWord}
use Rattle.lab_lattice.specs.Label.{Label}
use Rattle.lab_text.specs.Names.{same_bytes}
use Rattle.lab_text.specs.Policy.{PolicyNames, is_valid}
use Rattle.lab_text.specs.Text.{label_text, parse_label}
use Rattle.kern_model.specs.declared.checks.Place.{Place}
use Rattle.kern_model.specs.declared.checks.Place.TheVariants as place
use Rattle.kern_model.specs.declared.checks.Thing.{Thing}
use Rattle.kern_model.specs.declared.checks.Thing.TheVariants as thing
use Rattle.kern_model.specs.declared.numbers.Oid.{Oid}
use Rattle.kern_model.specs.declared.numbers.Pid.{Pid}
use Rattle.line_text.specs.Words.{caps_word}
use Rattle.aud_record.specs.declared.canonical.NewLabel.{NewLabel}
use Rattle.aud_record.specs.declared.canonical.NewLabel.TheVariants as new

-- the number below a bound with these decimal digits
unfoldable pub canonical_number : ℕ → List ℕ → Option ℕ
canonical_number bound word = keep_if (nat_lt (digits_value 10 word) bound && same_bytes (decimal (digits_value 10 word)) word) (digits_value 10 word)

-- the valid label with this text
unfoldable pub canonical_label : PolicyNames → List ℕ → Option Label
canonical_label p word = option_and_then (λ label. keep_if (is_valid p label && same_bytes (label_text p label) word) label) (parse_label p word)

-- the number and the label in `n@label`
unfoldable pub canonical_numbered : PolicyNames → List ℕ → Option (ℕ × Label)
canonical_numbered p word =
    option_and_then (λ (parts : List ℕ × List ℕ). option_and_then (λ n. option_map (λ label. (n, label)) (canonical_label p parts.1)) (canonical_number (2 ^ 16) parts.0)) (split_once 64 word)

abbrev pub canonical_pid : PolicyNames → List ℕ → Option Pid
canonical_pid p word = option_map (λ (x : ℕ × Label). record { label = x.1; n = x.0 }) (canonical_numbered p word)

abbrev pub canonical_oid : PolicyNames → List ℕ → Option Oid
canonical_oid p word = option_map (λ (x : ℕ × Label). record { label = x.1; n = x.0 }) (canonical_numbered p word)

-- what stands after a prefix, where it is there
abbrev pub after_prefix : List ℕ → List ℕ → Option (List ℕ)
after_prefix [] word = Some word
after_prefix (f ∷ fs) [] = None
after_prefix (f ∷ fs) (b ∷ bs) = cond (f == b) (after_prefix fs bs) None

-- the object in `obj:n@label`, or the process in `proc:n@label`
unfoldable pub canonical_thing : PolicyNames → List ℕ → Option Thing
canonical_thing p word =
    option_or (option_and_then (λ w. option_map thing.Object (canonical_oid p w)) (after_prefix (codes "obj:") word))
    (option_and_then (λ w. option_map thing.Process (canonical_pid p w)) (after_prefix (codes "proc:") word))

-- the new label of a check, if there is one
abbrev pub label_given : NewLabel → Option Label
label_given new.Absent = None
label_given (new.Given label) = Some label

-- the new label of a check, or `-`
unfoldable pub canonical_new_label : PolicyNames → List ℕ → Option NewLabel
canonical_new_label p word = cond (same_bytes word (codes "-")) (Some new.Absent) (option_map new.Given (canonical_label p word))

-- the place in a path, by its letter and its number
abbrev pub canonical_step : List ℕ → Option Place
canonical_step [] = None
canonical_step (b ∷ bs) =
    cond (b == 112) (option_map place.First (canonical_number (2 ^ 8) bs))
    (cond (b == 113) (option_map place.Second (canonical_number (2 ^ 8) bs)) None)

-- a place outside of paths by its word, or a place in one
unfoldable pub canonical_place : List ℕ → Option Place
canonical_place word =
    cond (same_bytes word (codes "fd")) (Some place.Handle)
    (cond (same_bytes word (codes "pid")) (Some place.Target)
    (cond (same_bytes word (codes "self")) (Some place.Caller) (canonical_step word)))

-- the bytes that the only word stands for, where it is quoted
abbrev pub only_quoted : List LineWord → Option (List ℕ)
only_quoted [] = None
only_quoted (w ∷ []) = keep_if w.quoted w.bytes
only_quoted (w ∷ v ∷ ws) = None

-- the bytes that a quoted word stands for
unfoldable pub bytes_of_quoted : List ℕ → Option (List ℕ)
bytes_of_quoted word = option_and_then only_quoted (words_of word)

-- the bytes of which a quoted word is the one spelling
unfoldable pub canonical_bytes : List ℕ → Option (List ℕ)
canonical_bytes word = option_and_then (λ bytes. keep_if (same_bytes (quoted_text bytes) word) bytes) (bytes_of_quoted word)

-- the capability state of which a quoted word is the one spelling
unfoldable pub canonical_caps : List ℕ → Option CapState
canonical_caps word = option_and_then (λ caps. keep_if (same_bytes (caps_word caps) word) caps) (option_and_then (λ bytes. result_ok (parse_caps bytes)) (bytes_of_quoted word))
