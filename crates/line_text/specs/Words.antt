-- The words of lines that several kinds of text share.
use Rattle.std.specs.Prelude.{ℕ, Bool, true, false, ◌&&◌, cond, List, [], ◌∷◌, ◌++◌, Option, None, Some, codes}
use Rattle.std.specs.List.{flat_map}
use Rattle.cap_bits.specs.declared.state.CapState.{CapState}
use Rattle.cap_clause.specs.Written.{caps_text}
use Rattle.fs_path.specs.Words.{quoted_text, line_text}
use Rattle.lab_lattice.specs.Label.{Label}
use Rattle.lab_text.specs.Lists.{all_lists, keyword_of, line_is_optional}
use Rattle.lab_text.specs.Names.{Names}
use Rattle.lab_text.specs.Numbered.{numbered_text}
use Rattle.lab_text.specs.Policy.{PolicyNames, names_of}
use Rattle.lab_text.specs.Text.{label_text}
use Rattle.lab_text.specs.declared.lists.NameList.{NameList}
use Rattle.kern_model.specs.declared.checks.Thing.{Thing}
use Rattle.kern_model.specs.declared.checks.Thing.TheVariants as thing
use Rattle.kern_model.specs.declared.numbers.Oid.{Oid}
use Rattle.kern_model.specs.declared.numbers.Pid.{Pid}

-- the number of a process: `n@label`
abbrev pub pid_text : PolicyNames → Pid → List ℕ
pid_text policy pid = numbered_text policy pid.n pid.label

-- the number of an object: `n@label`
abbrev pub oid_text : PolicyNames → Oid → List ℕ
oid_text policy oid = numbered_text policy oid.n oid.label

-- a capability state between quotes
abbrev pub caps_word : CapState → List ℕ
caps_word caps = quoted_text (caps_text caps)

-- the object or process of a check: `obj:` or `proc:`, and its number
abbrev pub thing_text : PolicyNames → Thing → List ℕ
thing_text policy (thing.Object oid) = codes "obj:" ++ oid_text policy oid
thing_text policy (thing.Process pid) = codes "proc:" ++ pid_text policy pid

-- the new label of a check, `-` where it has none
abbrev pub new_label_text : PolicyNames → Option Label → List ℕ
new_label_text policy None = codes "-"
new_label_text policy (Some label) = label_text policy label

-- whether there is no name
abbrev pub are_none : Names → Bool
are_none [] = true
are_none (name ∷ names) = false

-- whether a list of names has no line: it has no names, and its line is optional
abbrev pub is_left_out : PolicyNames → NameList → Bool
is_left_out policy list = line_is_optional list && are_none (names_of policy list)

-- the words of the line of a list of names: its keyword, and the names in it
abbrev pub list_words : PolicyNames → NameList → List (List ℕ)
list_words policy list = keyword_of list ∷ names_of policy list

-- the line of a list of names word by word, where it has one
abbrev pub list_lines : PolicyNames → NameList → List (List (List ℕ))
list_lines policy list = cond (is_left_out policy list) [] (list_words policy list ∷ [])

-- the lines of the lists of names word by word
abbrev pub names_lines : PolicyNames → List (List (List ℕ))
names_lines policy = flat_map (list_lines policy) all_lists

-- the line of a list of names, with its line feed, where it has one
abbrev pub list_text : PolicyNames → NameList → List ℕ
list_text policy list = cond (is_left_out policy list) [] (line_text (list_words policy list) ++ 10 ∷ [])
