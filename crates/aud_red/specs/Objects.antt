-- A value of `serde_json` under construction. Only private clauses cite these.
use Rattle.std.specs.Prelude.{ℕ, ◌^◌, ◌&&◌, nat_lt, Bool, true, false, List, [], ◌∷◌, String}
use Rattle.std.specs.List.{list_all}
use Rattle.std.specs.declared.alloc.Global.{Global}
use Rattle.fs_path.specs.Words.{is_plain}
use Rattle.serde_json.specs.Data as json
use Rattle.serde_json.specs.Data.{Data, Members, no_members, member, put}
use Rattle.serde_json.specs.declared.value.Value.{Value}
use Rattle.aud_red.specs.Json.{Member, are_printable}
use Rattle.aud_red.specs.JsonValue.{data_of}

-- a member as it is kept
abbrev pub Entry : Type 0
Entry = String Global × Value

-- an object with further members, each put at its key
abbrev pub with_members : Members → List Member → Members
with_members ms [] = ms
with_members ms (n ∷ ns) = with_members (put n.0 (data_of n.1) ms) ns

-- printable bytes without `"` and `\`
abbrev pub are_plain : List ℕ → Bool
are_plain text = list_all is_plain text

-- a value that a record may have: null, a number of 64 bits or a printable text
abbrev pub is_simple : Data → Bool
is_simple json.null = true
is_simple (json.number (json.unsigned n)) = nat_lt n (2 ^ 64)
is_simple (json.string text) = are_printable text
is_simple _ = false

-- the keys are printable, and the values are those that a record may have
abbrev pub are_simple : Members → Bool
are_simple no_members = true
are_simple (member key value ms) = are_printable key && (is_simple value && are_simple ms)
