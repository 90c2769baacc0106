-- Each kind of records and each capability has a word of its own.
use Rattle.std.specs.Prelude.{◌≡◌, Some, refl}
use Rattle.cap_bits.specs.Cap.{cap_name, all_caps}
use Rattle.cap_bits.specs.declared.cap.Cap.{Cap}
use Rattle.cap_bits.specs.declared.cap.Cap.TheVariants as cap
use Rattle.kern_model.specs.Named.{find_named}
use Rattle.aud_record.specs.Events.{event_word, all_events}
use Rattle.aud_record.specs.declared.event.Event.{Event}
use Rattle.aud_record.specs.declared.event.Event.TheVariants as event

pub event_round_trip : (e : Event) → find_named event_word all_events (event_word e) ≡ Some e
unfolding find_named
event_round_trip event.Boot = refl
event_round_trip _ = refl

pub cap_round_trip : (c : Cap) → find_named cap_name all_caps (cap_name c) ≡ Some c
unfolding find_named
cap_round_trip cap.Chown = refl
cap_round_trip _ = refl
