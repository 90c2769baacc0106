-- The value of `serde_json` that a record is.
use Rattle.std.specs.Prelude.{List, [], ◌∷◌}
use Rattle.lab_text.specs.Policy.{PolicyNames}
use Rattle.serde_json.specs.Data as json
use Rattle.serde_json.specs.Data.{Data, Members, no_members, member}
use Rattle.aud_record.specs.declared.reading.ReadRec.{ReadRec}
use Rattle.aud_red.specs.Json.{JsonValue, Null, Number, Text, Member, in_key_order, rec_members}

-- the value of a member
abbrev pub data_of : JsonValue → Data
data_of Null = json.null
data_of (Number n) = json.number (json.unsigned n)
data_of (Text bytes) = json.string bytes

-- members in the order in which they stand
abbrev pub members_of : List Member → Members
members_of [] = no_members
members_of (m ∷ ms) = member m.0 (data_of m.1) (members_of ms)

-- the object of the members of a record
unfoldable pub json_of : PolicyNames → ReadRec → Data
json_of p read = json.object (members_of (in_key_order (rec_members p read)))
