-- The words of a line of a script: its tag, and the arguments of its call.
use Rattle.std.specs.Prelude.{ℕ, ◌==◌, ◌&&◌, Bool, cond, drop, List, Option, None, Some, Result, Ok, Err, is_some, ℤ, pos, neg_ℤ, codes}
use Rattle.std.specs.Bool.{beq}
use Rattle.std.specs.List.{filter, list_any, starts_with}
use Rattle.std.specs.Option.{ok_or, option_and_then, option_map}
use Rattle.cap_bits.specs.declared.state.CapState.{CapState}
use Rattle.cap_clause.specs.Parsed.{parse_caps}
use Rattle.cap_clause.specs.declared.error.CapTextError.{CapTextError}
use Rattle.fs_path.specs.Split.{split_once}
use Rattle.fs_path.specs.Path.{PathValue}
use Rattle.fs_path.specs.Options.{keep_if}
use Rattle.fs_path.specs.Values.{numeral, number_of, mode_of}
use Rattle.kern_model.specs.Arguments.{are_flags}
use Rattle.kern_model.specs.declared.limits.TheConstants.{MAX_PERMISSIONS, MAX_PROCS}
use Rattle.kern_model.specs.declared.calls.OpenFlags.{OpenFlags}
use Rattle.kern_model.specs.declared.calls.Signal.{Signal}
use Rattle.kern_model.specs.declared.calls.Signal.TheVariants as sent
use Rattle.kern_model.specs.declared.calls.Whence.{Whence}
use Rattle.kern_model.specs.declared.calls.Whence.TheVariants as from
use Rattle.kern_model.specs.declared.numbers.Pid.{Pid}
use Rattle.lab_lattice.specs.Label.{Label}
use Rattle.lab_text.specs.Names.{same_bytes}
use Rattle.lab_text.specs.Policy.{PolicyNames}
use Rattle.lab_text.specs.Text.{parse_label}
use Rattle.line_text.specs.Reading.{choice, path_of}
use Rattle.script_text.specs.declared.fault.LineError.TheVariants as error
use Rattle.script_text.specs.Reading.{Reading}

-- the value of a word, or `syntax` where it has none
abbrev pub value_or_syntax : {X : Type 0} → Option X → Reading X
value_or_syntax parsed = ok_or parsed error.Syntax

-- ---- paths, labels and capabilities

-- a path
unfoldable pub path : List ℕ → Reading PathValue
path word = ok_or (path_of word) error.BadPath

-- a label
unfoldable pub label : PolicyNames → List ℕ → Reading Label
label policy word = ok_or (parse_label policy word) error.BadLabel

abbrev pub caps_by : Result CapState CapTextError → Reading CapState
caps_by (Ok parsed) = Ok parsed
caps_by (Err fault) = Err error.BadCaps

-- capability sets
unfoldable pub caps : List ℕ → Reading CapState
caps word = caps_by (parse_caps word)

-- ---- numbers of processes

-- the number of a process, from 1 to MAX_PROCS, from the texts before and after its `@`
abbrev pub process : PolicyNames → List ℕ × List ℕ → Option Pid
process policy parts = option_and_then (λ n. option_map (λ at. record { label = at; n = n }) (parse_label policy parts.1)) (numeral 10 10 1 MAX_PROCS parts.0)

-- the process of a tag: `n@label`
abbrev pub process_of_tag : PolicyNames → List ℕ → Option Pid
process_of_tag policy word = option_and_then (process policy) (split_once 64 word)

-- a tag
unfoldable pub tag : PolicyNames → List ℕ → Reading Pid
tag policy word = ok_or (process_of_tag policy word) error.BadTag

-- a number, `@` and a rest
abbrev pub number_and_rest : List ℕ → Option (List ℕ × List ℕ)
number_and_rest word = option_and_then (λ (parts : List ℕ × List ℕ). keep_if (is_some (number_of parts.0)) parts) (split_once 64 word)

abbrev pub pid_by : PolicyNames → Option (List ℕ × List ℕ) → Reading Pid
pid_by policy None = Err error.Syntax
pid_by policy (Some parts) = ok_or (process policy parts) error.BadLabel

-- the number of a process: of the form of a number, `@` and a rest
unfoldable pub pid : PolicyNames → List ℕ → Reading Pid
pid policy word = pid_by policy (number_and_rest word)

-- ---- values

-- a number
unfoldable pub number : List ℕ → Reading ℕ
number word = value_or_syntax (number_of word)

-- a number up to a limit
unfoldable pub up_to : ℕ → List ℕ → Reading ℕ
up_to high word = value_or_syntax (numeral 10 10 0 high word)

-- a mode
unfoldable pub mode : List ℕ → Reading ℕ
mode word = value_or_syntax (mode_of word)

-- a mode of permission bits alone
unfoldable pub permissions : List ℕ → Reading ℕ
permissions word = value_or_syntax (numeral 8 4 0 MAX_PERMISSIONS word)

-- bytes
unfoldable pub bytes : List ℕ → Reading (List ℕ)
bytes word = Ok word

-- a number, before which `-` may stand
abbrev pub signed_number : List ℕ → Option ℤ
signed_number word =
    cond (starts_with ◌==◌ word (codes "-")) (option_map (λ n. neg_ℤ (pos n)) (number_of (drop 1 word)))
    (option_map (λ n. pos n) (number_of word))

-- an offset
unfoldable pub offset : List ℕ → Reading ℤ
offset word = value_or_syntax (signed_number word)

-- ---- words of a list

-- from where an offset is counted
unfoldable pub whence : List ℕ → Reading Whence
whence word =
    cond (same_bytes word (codes "set")) (Ok from.Set)
    (cond (same_bytes word (codes "cur")) (Ok from.Cur)
    (cond (same_bytes word (codes "end")) (Ok from.End) (Err error.Syntax)))

unfoldable pub signal : List ℕ → Reading Signal
signal word =
    cond (same_bytes word (codes "0")) (Ok sent.Zero)
    (cond (same_bytes word (codes "TERM")) (Ok sent.Term)
    (cond (same_bytes word (codes "KILL")) (Ok sent.Kill) (Err error.Syntax)))

unfoldable pub switch : List ℕ → Reading Bool
switch word = value_or_syntax (choice (codes "on") (codes "off") word)

-- ---- flags

-- the letters of the flags, in their order
abbrev pub flag_letters : List ℕ
flag_letters = codes "rwcxta"

-- whether a letter stands in a word
abbrev pub stands_in : List ℕ → ℕ → Bool
stands_in word letter = list_any (λ b. b == letter) word

-- the flags whose letters stand in a word
abbrev pub flags_in : List ℕ → OpenFlags
flags_in word = record { r = stands_in word 114; w = stands_in word 119; c = stands_in word 99; x = stands_in word 120; t = stands_in word 116; a = stands_in word 97 }

-- a word consists of letters of flags, in their order and each at most once
abbrev pub is_in_order : List ℕ → Bool
is_in_order word = same_bytes (filter (stands_in word) flag_letters) word

-- flags that may stand together, with `c` exactly where a file may be created
unfoldable pub flags : Bool → List ℕ → Reading OpenFlags
flags creates word = value_or_syntax (keep_if (is_in_order word && are_flags (flags_in word) && beq (flags_in word).c creates) (flags_in word))
