-- The kinds of records.
use Rattle.std.specs.Prelude.{ℕ, List, [], ◌∷◌, codes}
use Rattle.kern_model.specs.declared.records.Rec.{Rec}
use Rattle.kern_model.specs.declared.records.Rec.TheVariants as rec
use Rattle.aud_record.specs.declared.event.Event.{Event}
use Rattle.aud_record.specs.declared.event.Event.TheVariants as event

-- the kind of a record
abbrev pub event_of : Rec → Event
event_of (rec.Boot who label caps) = event.Boot
event_of (rec.Fork who child) = event.Fork
event_of (rec.Exec who file file_caps caps) = event.Exec
event_of (rec.Exit who ending) = event.Exit
event_of (rec.CapSetProc who caps) = event.CapSetProc
event_of (rec.CapSetFile who file caps) = event.CapSetFile
event_of (rec.MacSetProc who old new) = event.MacSetProc
event_of (rec.MacSetFile who object old new) = event.MacSetFile
event_of (rec.Exercise exercise) = event.Exercise
event_of (rec.Deny who call errno check place) = event.Deny
event_of (rec.Switch who on) = event.Switch
event_of (rec.Note who bytes) = event.Note

-- the word of a kind of records
abbrev pub event_word : Event → List ℕ
event_word event.Boot = codes "boot"
event_word event.Fork = codes "fork"
event_word event.Exec = codes "exec"
event_word event.Exit = codes "exit"
event_word event.CapSetProc = codes "cap_set_proc"
event_word event.CapSetFile = codes "cap_set_file"
event_word event.MacSetProc = codes "mac_set_proc"
event_word event.MacSetFile = codes "mac_set_file"
event_word event.Exercise = codes "exercise"
event_word event.Deny = codes "deny"
event_word event.Switch = codes "switch"
event_word event.Note = codes "note"

-- all of them
abbrev pub all_events : List Event
all_events =
    event.Boot ∷ event.Fork ∷ event.Exec ∷ event.Exit ∷ event.CapSetProc ∷ event.CapSetFile ∷ event.MacSetProc ∷ event.MacSetFile ∷ event.Exercise ∷ event.Deny ∷ event.Switch ∷ event.Note ∷ []
