-- A selection of records: what its text denotes, and which records it picks.
use Rattle.std.specs.Prelude.{◌≡◌, ℕ, ◌&&◌, nat_le, Bool, true, false, cond, List, [], ◌∷◌, Option, None, Some, Result, Ok, Err, IfSome, codes, is_some, count_by}
use Rattle.std.specs.List.{list_all, list_any}
use Rattle.std.specs.Option.{ok_or, option_and_then, option_map, option_map_or, option_or}
use Rattle.cap_bits.specs.Cap.{cap_named}
use Rattle.cap_bits.specs.CapSet.{same_cap}
use Rattle.cap_bits.specs.declared.cap.Cap.{Cap}
use Rattle.fs_path.specs.Split.{pieces, split_once}
use Rattle.fs_path.specs.Values.{numeral}
use Rattle.kern_model.specs.Keys.{same_pid}
use Rattle.kern_model.specs.Named.{find_named}
use Rattle.kern_model.specs.Records.{who_of}
use Rattle.kern_model.specs.declared.limits.TheConstants.{MAX_PROCS}
use Rattle.kern_model.specs.declared.numbers.Pid.{Pid}
use Rattle.kern_model.specs.declared.records.Rec.{Rec}
use Rattle.kern_model.specs.declared.records.Rec.TheVariants as rec
use Rattle.lab_lattice.specs.Label.{dominates}
use Rattle.lab_text.specs.Names.{same_bytes}
use Rattle.lab_text.specs.Policy.{PolicyNames}
use Rattle.lab_text.specs.Text.{is_label_text, parse_label}
use Rattle.aud_record.specs.Canonical.{after_prefix}
use Rattle.aud_record.specs.Events.{event_of, event_word, all_events}
use Rattle.aud_record.specs.Words.{◌>>=◌}
use Rattle.aud_red.specs.declared.select.Select.{Select}
use Rattle.aud_red.specs.declared.select.SelectError.{SelectError}
use Rattle.aud_red.specs.declared.select.SelectError.TheVariants as error
use Rattle.aud_red.specs.declared.term.TermKind.{TermKind}
use Rattle.aud_red.specs.declared.term.TermKind.TheVariants as kind

-- ---- the form of terms

-- the kinds of terms
abbrev pub all_kinds : List TermKind
all_kinds = kind.Pid ∷ kind.Label ∷ kind.Event ∷ kind.Cap ∷ []

-- the text after the keyword of a kind and `=`, in a term of this kind
abbrev pub value_of : TermKind → List ℕ → Option (List ℕ)
value_of kind.Pid term = after_prefix (codes "pid=") term
value_of kind.Label term = after_prefix (codes "label=") term
value_of kind.Event term = after_prefix (codes "event=") term
value_of kind.Cap term = after_prefix (codes "cap=") term

-- the number of a process, from 1 to the highest
abbrev pub process_number : List ℕ → Option ℕ
process_number word = numeral 10 10 1 MAX_PROCS word

-- whether a text is the number of a process, `@` and a text with the form of a label's
abbrev pub is_process_text : List ℕ → Bool
is_process_text text = option_map_or (λ (parts : List ℕ × List ℕ). is_some (process_number parts.0) && is_label_text parts.1) (split_once 64 text) false

-- whether the value of a term of this kind has its form; a word may have any
abbrev pub has_form : TermKind → List ℕ → Bool
has_form kind.Pid value = is_process_text value
has_form kind.Label value = is_label_text value
has_form kind.Event value = true
has_form kind.Cap value = true

-- whether a text is a term of this kind
abbrev pub is_term_of : TermKind → List ℕ → Bool
is_term_of kind term = option_map_or (has_form kind) (value_of kind term) false

-- whether each text is a term, and no kind of terms stands twice
abbrev pub are_terms : List (List ℕ) → Bool
are_terms terms = list_all (λ term. list_any (λ kind. is_term_of kind term) all_kinds) terms && list_all (λ kind. nat_le (count_by (is_term_of kind) terms) 1) all_kinds

-- ---- the selection that a text denotes

-- the value of the term of this kind, if there is one
abbrev pub value_in : TermKind → List (List ℕ) → Option (List ℕ)
value_in kind [] = None
value_in kind (term ∷ terms) = option_or (value_of kind term) (value_in kind terms)

-- the process that a text denotes
abbrev pub parse_process : PolicyNames → List ℕ → Option Pid
parse_process p text = option_and_then (λ (parts : List ℕ × List ℕ). option_and_then (λ n. option_map (λ label. record { label = label; n = n }) (parse_label p parts.1)) (process_number parts.0)) (split_once 64 text)

-- what a value denotes, if there is one; a name in it is unknown where it denotes nothing
abbrev pub value_if_known : {X : Type 0} → (List ℕ → Option X) → Option (List ℕ) → Result (Option X) SelectError
value_if_known parse None = Ok None
value_if_known parse (Some value) = ok_or (option_map Some (parse value)) error.UnknownName

-- the selection of terms
unfoldable pub select_of : PolicyNames → List (List ℕ) → Result Select SelectError
select_of p terms = do
  pid ← value_if_known (parse_process p) (value_in kind.Pid terms)
  label ← value_if_known (parse_label p) (value_in kind.Label terms)
  event ← value_if_known (find_named event_word all_events) (value_in kind.Event terms)
  cap ← value_if_known cap_named (value_in kind.Cap terms)
  Ok (record { pid = pid; label = label; event = event; cap = cap })

-- the selection without terms
abbrev pub every_record : Select
every_record = record { pid = None; label = None; event = None; cap = None }

-- the selection of a text: `all`, or terms with `;` between them
unfoldable pub parse_select : PolicyNames → List ℕ → Result Select SelectError
parse_select p text =
    cond (same_bytes text (codes "all")) (Ok every_record)
    (cond (are_terms (pieces 59 text)) (select_of p (pieces 59 text)) (Err error.Syntax))

-- ---- the records that it picks

-- the capability of an exercise
abbrev pub exercised_cap : Rec → Option Cap
exercised_cap (rec.Exercise e) = Some e.cap
exercised_cap _ = None

-- whether a test holds of what is there, if anything is
abbrev pub holds_of : {X : Type 0} → (X → Bool) → Option X → Bool
holds_of test None = true
holds_of test (Some x) = test x

-- whether a record is an exercise of a capability
abbrev pub is_exercise_of : Rec → Cap → Bool
is_exercise_of (rec.Exercise e) cap = same_cap e.cap cap
is_exercise_of _ cap = false

-- whether a record is picked: a test for each term that is there
abbrev pub picks : Select → Rec → Bool
picks s r =
    holds_of (same_pid (who_of r)) s.pid
    && holds_of (λ label. dominates label (who_of r).label) s.label
    && holds_of (λ event. same_bytes (event_word (event_of r)) (event_word event)) s.event
    && holds_of (is_exercise_of r) s.cap

-- a record is picked where each term that is there holds of it
pub record Picks (s : Select) (r : Rec) : Type 0 where
  -- it is about the process
  pub pid : IfSome s.pid (λ pid. who_of r ≡ pid)
  -- it is about a process whose number was drawn at a label that the label dominates
  pub label : IfSome s.label (λ label. dominates label (who_of r).label ≡ true)
  -- it is of the kind
  pub event : IfSome s.event (λ event. event_of r ≡ event)
  -- it is an exercise of the capability
  pub cap : IfSome s.cap (λ cap. exercised_cap r ≡ Some cap)
