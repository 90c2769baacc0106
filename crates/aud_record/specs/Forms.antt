-- The form of each kind of record: its words one after another, and the record that they make.
use Rattle.std.specs.Prelude.{ℕ, ◌^◌, Bool, true, false, cond, List, Option, Result, codes}
use Rattle.cap_bits.specs.Cap.{cap_name, all_caps}
use Rattle.cap_bits.specs.declared.cap.Cap.{Cap}
use Rattle.cap_bits.specs.declared.state.CapState.{CapState}
use Rattle.lab_lattice.specs.Label.{Label}
use Rattle.lab_text.specs.Policy.{PolicyNames}
use Rattle.kern_model.specs.Named.{find_named, call_named, check_named, errno_named}
use Rattle.kern_model.specs.declared.calls.CallName.{CallName}
use Rattle.kern_model.specs.declared.calls.Ending.TheVariants as ending
use Rattle.kern_model.specs.declared.calls.Errno.{Errno}
use Rattle.kern_model.specs.declared.checks.CheckName.{CheckName}
use Rattle.kern_model.specs.declared.checks.Place.{Place}
use Rattle.kern_model.specs.declared.checks.Thing.{Thing}
use Rattle.kern_model.specs.declared.numbers.Oid.{Oid}
use Rattle.kern_model.specs.declared.numbers.Pid.{Pid}
use Rattle.kern_model.specs.declared.records.Rec.{Rec}
use Rattle.kern_model.specs.declared.records.Rec.TheVariants as rec
use Rattle.line_text.specs.Reading.{choice}
use Rattle.aud_record.specs.Events.{event_word, all_events}
use Rattle.aud_record.specs.Canonical.{canonical_number, canonical_label, canonical_pid, canonical_oid, canonical_thing, label_given, canonical_new_label, canonical_place, canonical_bytes, canonical_caps}
use Rattle.aud_record.specs.Words.{◌>>=◌, value_at_end, parse_field}
use Rattle.aud_record.specs.declared.canonical.NewLabel.{NewLabel}
use Rattle.aud_record.specs.declared.event.Event.{Event}
use Rattle.aud_record.specs.declared.event.Event.TheVariants as event
use Rattle.aud_record.specs.declared.fault.Fault.{Fault}

-- ---- fields

-- a word that is one of two
pub data Choice : Type 0 where
  OnOrOff : Choice
  ExitOrKill : Choice
  TermOrKill : Choice

abbrev pub first_of : Choice → List ℕ
first_of OnOrOff = codes "on"
first_of ExitOrKill = codes "exit"
first_of TermOrKill = codes "TERM"

abbrev pub other_of : Choice → List ℕ
other_of OnOrOff = codes "off"
other_of ExitOrKill = codes "kill"
other_of TermOrKill = codes "KILL"

-- what a word of a record may be
pub data Field : Type 0 where
  -- a number below a bound
  Number : (bound : ℕ) → Field
  -- one of two words
  Either : (choice : Choice) → Field
  -- the kind of a record, a capability, a check, an error number, a call: one of a list of words
  Kind : Field
  Capability : Field
  Check : Field
  Error : Field
  Call : Field
  -- the number of a process, the number of an object
  Process : Field
  Object : Field
  -- a label, and the new label of a check, or `-`
  Mark : Field
  NewMark : Field
  -- a capability state, and bytes, both between quotes
  Caps : Field
  Bytes : Field
  -- what a check is about, and where that stands in a call
  About : Field
  Where : Field

-- the values of a field
abbrev pub Of : Field → Type 0
Of (Number bound) = ℕ
Of (Either choice) = Bool
Of Kind = Event
Of Capability = Cap
Of Check = CheckName
Of Error = Errno
Of Call = CallName
Of Process = Pid
Of Object = Oid
Of Mark = Label
Of NewMark = NewLabel
Of Caps = CapState
Of Bytes = List ℕ
Of About = Thing
Of Where = Place

-- whether the words of a field are in a list
abbrev pub is_listed : Field → Bool
is_listed (Either choice) = true
is_listed Kind = true
is_listed Capability = true
is_listed Check = true
is_listed Error = true
is_listed Call = true
is_listed _ = false

-- what a word says in a field
abbrev pub canonical : PolicyNames → (f : Field) → List ℕ → Option (Of f)
canonical p (Number bound) = canonical_number bound
canonical p (Either c) = choice (first_of c) (other_of c)
canonical p Kind = find_named event_word all_events
canonical p Capability = find_named cap_name all_caps
canonical p Check = check_named
canonical p Error = errno_named
canonical p Call = call_named
canonical p Process = canonical_pid p
canonical p Object = canonical_oid p
canonical p Mark = canonical_label p
canonical p NewMark = canonical_new_label p
canonical p Caps = canonical_caps
canonical p Bytes = canonical_bytes
canonical p About = canonical_thing p
canonical p Where = canonical_place

-- ---- forms

pub data Form : Type 0 where
  -- the record is whole
  Done : (rec : Rec) → Form
  -- a word, and the form of what follows it
  Next : (field : Field) (more : Of field → Form) → Form

-- how a process ended, by whether it exits
abbrev pub exit_form : Pid → Bool → Form
exit_form who true = Next (Number (2 ^ 8)) (λ code. Done (rec.Exit who (ending.Exit code)))
exit_form who false = Next (Either TermOrKill) (λ term. Done (rec.Exit who (cond term ending.Term ending.Kill)))

-- what follows the kind of a record and the process that it is about
abbrev pub form_of : Event → Pid → Form
form_of event.Boot who = Next Mark (λ label. Next Caps (λ caps. Done (rec.Boot who label caps)))
form_of event.Fork who = Next Process (λ child. Done (rec.Fork who child))
form_of event.Exec who = Next Object (λ file. Next Caps (λ file_caps. Next Caps (λ caps. Done (rec.Exec who file file_caps caps))))
form_of event.Exit who = Next (Either ExitOrKill) (exit_form who)
form_of event.CapSetProc who = Next Caps (λ caps. Done (rec.CapSetProc who caps))
form_of event.CapSetFile who = Next Object (λ file. Next Caps (λ caps. Done (rec.CapSetFile who file caps)))
form_of event.MacSetProc who = Next Mark (λ old. Next Mark (λ new. Done (rec.MacSetProc who old new)))
form_of event.MacSetFile who = Next Object (λ object. Next Mark (λ old. Next Mark (λ new. Done (rec.MacSetFile who object old new))))
form_of event.Exercise who =
    Next Mark (λ label. Next Capability (λ cap. Next Check (λ check. Next About (λ thing. Next Mark (λ thing_label. Next NewMark (λ new_label. Next Where (λ place.
    Done
    (rec.Exercise (record {
      who = who;
      label = label;
      cap = cap;
      check = check;
      thing = thing;
      thing_label = thing_label;
      new_label = label_given new_label;
      place = place;
    })))))))))
form_of event.Deny who = Next Call (λ call. Next Error (λ errno. Next Check (λ check. Next Where (λ place. Done (rec.Deny who call errno check place)))))
form_of event.Switch who = Next (Either OnOrOff) (λ on. Done (rec.Switch who on))
form_of event.Note who = Next Bytes (λ bytes. Done (rec.Note who bytes))

-- the record of a form
abbrev pub parse_form : PolicyNames → Form → List ℕ → Result Rec Fault
parse_form p (Done r) left = value_at_end r left
parse_form p (Next f more) left = parse_field (is_listed f) (canonical p f) left >>= λ x. parse_form p (more x.0) x.1
