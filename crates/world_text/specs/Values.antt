-- What words with names in them stand for, and what a line says by the values of its words.
use Rattle.std.specs.Prelude.{ℕ, Bool, cond, List, map, Option, None, Some, Result, Ok, Err}
use Rattle.cap_bits.specs.declared.state.CapState.{CapState}
use Rattle.cap_clause.specs.declared.error.CapTextError.{CapTextError}
use Rattle.cap_clause.specs.declared.error.CapTextError.TheVariants as error
use Rattle.cap_clause.specs.Parsed.{parse_caps}
use Rattle.fs_path.specs.declared.words.LineWord.{LineWord}
use Rattle.lab_lattice.specs.Label.{Label}
use Rattle.lab_text.specs.Names.{Names}
use Rattle.lab_text.specs.Policy.{PolicyNames}
use Rattle.lab_text.specs.Text.{is_label_text, parse_label}
use Rattle.line_text.specs.declared.fault.LineFault.{LineFault}
use Rattle.line_text.specs.declared.fault.LineFault.TheVariants.{Syntax, UnknownName}
use Rattle.world_text.specs.declared.values.WordValue.{WordValue}
use Rattle.world_text.specs.declared.values.WordValue.TheVariants as value
use Rattle.world_text.specs.declared.expecting.Expecting.TheVariants as at
use Rattle.world_text.specs.declared.expecting.PartialWorld.{PartialWorld}
use Rattle.world_text.specs.declared.expecting.Parsed.{Parsed}
use Rattle.world_text.specs.declared.expecting.Parsed.TheVariants.{Refuses, GoesOn}

-- the fault where a line has it, and else what follows
abbrev pub unless : Bool → LineFault → Parsed → Parsed
unless faulty fault parsed = cond faulty (Refuses fault) parsed

-- the fault if there is one, and else what follows
abbrev pub refuse_or : Option LineFault → Parsed → Parsed
refuse_or None parsed = parsed
refuse_or (Some fault) parsed = Refuses fault

-- what comes of a tree line: its fault if it has one, and else another line is due after this part of the world
abbrev pub goes_on_unless : Option LineFault → PartialWorld → Parsed
goes_on_unless fault w = refuse_or fault (GoesOn (at.Tree w))

-- what follows from a value; `syntax` where there is none
abbrev pub with_form : {X : Type 0} → Option X → (X → Parsed) → Parsed
with_form None k = Refuses Syntax
with_form (Some x) k = k x

-- what follows from the value of a word; `syntax` or `unknown_name` where it has none
abbrev pub with_value : {X : Type 0} → WordValue X → (X → Parsed) → Parsed
with_value value.Malformed k = Refuses Syntax
with_value value.UnknownName k = Refuses UnknownName
with_value (value.Known x) k = k x

-- words by the bytes that they stand for
abbrev pub bytes_in : List LineWord → Names
bytes_in ws = map (λ (w : LineWord). w.bytes) ws

-- what a capability text says; its first fault decides
abbrev pub caps_value : {X : Type 0} → Result X CapTextError → WordValue X
caps_value (Ok x) = value.Known x
caps_value (Err (error.UnknownName at)) = value.UnknownName
caps_value (Err _) = value.Malformed

-- the state of a capability text
abbrev pub caps_of : List ℕ → WordValue CapState
caps_of text = caps_value (parse_caps text)

-- the value of a text that has the form of a label's
abbrev pub label_value : Option Label → WordValue Label
label_value None = value.UnknownName
label_value (Some label) = value.Known label

-- the label of a label's text
abbrev pub label_of : PolicyNames → List ℕ → WordValue Label
label_of policy text = cond (is_label_text text) (label_value (parse_label policy text)) value.Malformed

-- two values; the form of both words counts before the names in either
abbrev pub both : {A B : Type 0} → WordValue A → WordValue B → WordValue (A × B)
both value.Malformed b = value.Malformed
both value.UnknownName value.Malformed = value.Malformed
both value.UnknownName value.UnknownName = value.UnknownName
both value.UnknownName (value.Known b) = value.UnknownName
both (value.Known a) value.Malformed = value.Malformed
both (value.Known a) value.UnknownName = value.UnknownName
both (value.Known a) (value.Known b) = value.Known (a, b)
