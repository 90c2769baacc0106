-- The one written form of a world.
use Rattle.std.specs.Prelude.{ℕ, ◌+◌, true, false, cond, List, [], ◌∷◌, ◌++◌, length, map, codes}
use Rattle.std.specs.Fmt.{decimal}
use Rattle.std.specs.List.{flat_map}
use Rattle.cap_bits.specs.declared.state.CapState.{CapState}
use Rattle.cap_bits.specs.CapSet.{CapSet}
use Rattle.cap_bits.specs.FileCaps.{shown}
use Rattle.cap_clause.specs.Written.{caps_text, set_text}
use Rattle.fs_path.specs.declared.words.LineWord.{LineWord}
use Rattle.fs_path.specs.Name.{Name}
use Rattle.fs_path.specs.Values.{mode_text, groups_text}
use Rattle.fs_path.specs.Words.{with_quotes_if_needed, spelling, line_text}
use Rattle.lab_text.specs.Names.{same_bytes}
use Rattle.lab_text.specs.Policy.{PolicyNames}
use Rattle.lab_text.specs.Text.{label_text}
use Rattle.line_text.specs.Words.{names_lines}
use Rattle.kern_model.specs.declared.objects.Body.{Body}
use Rattle.kern_model.specs.declared.objects.Body.TheVariants as body
use Rattle.kern_model.specs.declared.world.WorldObject.{WorldObject}
use Rattle.kern_model.specs.declared.world.WorldProc.{WorldProc}
use Rattle.world_text.specs.declared.format.Format.{Format}
use Rattle.world_text.specs.declared.format.Format.TheVariants.{Two}
use Rattle.world_text.specs.declared.world.WorldText.{WorldText}
use Rattle.world_text.specs.Formats.{format_word}

-- ---- words

-- a word without quotes
abbrev pub bare : List ℕ → LineWord
bare bytes = record { quoted = false; bytes = bytes }

-- a word between quotes
abbrev pub quoted_form : List ℕ → LineWord
quoted_form bytes = record { quoted = true; bytes = bytes }

-- the text of a path: `/`, or each name after a `/`
abbrev pub path_text : List Name → List ℕ
path_text [] = codes "/"
path_text (name ∷ names) = flat_map (λ (name : Name). 47 ∷ name) (name ∷ names)

-- ---- lines

-- words with one space between them, and a line feed
unfoldable pub line_of : List LineWord → List ℕ
line_of words = line_text (map spelling words) ++ 10 ∷ []

-- a keyword and names
abbrev pub names_words : List ℕ → List (List ℕ) → List LineWord
names_words keyword names = bare keyword ∷ map bare names

-- the format, the names and the bound
abbrev pub head_words : Format → PolicyNames → CapSet → List (List LineWord)
head_words format policy bound =
    names_words (codes "world") (format_word format ∷ []) ∷ (map (map bare) (names_lines policy) ++ names_words (codes "bound") (set_text bound ∷ []) ∷ [])

-- the keyword of an object; no tree line makes a pipe
abbrev pub body_keyword : Body → List ℕ
body_keyword body.Dir = codes "dir"
body_keyword (body.File bytes) = codes "file"
body_keyword body.Fifo = codes "fifo"
body_keyword body.Pipe = codes "pipe"

-- capabilities after a file's content, where their text is not `=`
abbrev pub caps_words : CapState → List LineWord
caps_words caps = cond (same_bytes (caps_text caps) (codes "=")) [] (quoted_form (caps_text caps) ∷ [])

-- the content of a file, and its capabilities
abbrev pub body_words : Body → CapState → List LineWord
body_words (body.File bytes) caps = quoted_form bytes ∷ caps_words caps
body_words _ caps = []

-- a tree line: the keyword, the path, the mode, the owner, the group, the label, and what a file holds
unfoldable pub object_words : PolicyNames → WorldObject → List LineWord
object_words policy o =
    bare (body_keyword o.body) ∷ with_quotes_if_needed (path_text o.path.names) ∷ bare (mode_text o.attr.mode) ∷ bare (decimal o.attr.owner) ∷ bare (decimal o.attr.group)
    ∷ bare (label_text policy o.label) ∷ body_words o.body (shown o.attr.caps)

-- a process line: the label, the user, the group, the supplementary groups and the capabilities
unfoldable pub process_words : PolicyNames → WorldProc → List LineWord
process_words policy p =
    bare (codes "proc") ∷ bare (label_text policy p.label) ∷ bare (decimal p.ids.euid) ∷ bare (decimal p.ids.egid) ∷ bare (groups_text p.ids.groups) ∷ quoted_form (caps_text p.caps) ∷ []

-- the lines of objects
abbrev pub objects_text : PolicyNames → List WorldObject → List ℕ
objects_text policy objects = flat_map (λ object. line_of (object_words policy object)) objects

-- the lines of processes
abbrev pub processes_text : PolicyNames → List WorldProc → List ℕ
processes_text policy processes = flat_map (λ process. line_of (process_words policy process)) processes

-- the line after which the script begins
abbrev pub script_words : List LineWord
script_words = names_words (codes "script") []

-- the lines of a world: its head, objects and processes in their order, and the beginning of the script
abbrev pub lines_of : WorldText → List (List LineWord)
lines_of w =
    head_words Two w.policy w.world.bound ++ (map (object_words w.policy) w.world.objects ++ (map (process_words w.policy) w.world.procs ++ script_words ∷ []))

-- the number of the line after these
abbrev pub next_number : WorldText → ℕ
next_number w = length (lines_of w) + 1

-- the text of a world
unfoldable pub text_of_world : WorldText → List ℕ
text_of_world w = flat_map line_of (lines_of w)
