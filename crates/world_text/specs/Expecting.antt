-- What each line of a world says, by which line is due.
use Rattle.std.specs.Prelude.{◌≡◌, ℕ, ◌==◌, ◌&&◌, not, nat_lt, Bool, true, false, cond, List, [], ◌∷◌, length, Option, None, Some, codes}
use Rattle.fs_path.specs.declared.words.LineWord.{LineWord}
use Rattle.fs_path.specs.Words.{words_of, is_blank}
use Rattle.lab_text.specs.Lists.{keyword_of as list_keyword}
use Rattle.lab_text.specs.declared.lists.NameList.TheVariants.{Grades}
use Rattle.lab_text.specs.Names.{Names, same_bytes}
use Rattle.lab_text.specs.Policy.{PolicyNames, top_of}
use Rattle.fs_path.specs.declared.words.TheConstants.{MAX_LINE}
use Rattle.kern_model.specs.declared.objects.Body.TheVariants as body
use Rattle.line_text.specs.declared.fault.LineFault.{LineFault}
use Rattle.line_text.specs.declared.fault.LineFault.TheVariants.{OldFormat, Syntax, UnknownName, Repeated, NoParent, RootLabel, LabelOrder, TooMany, MixedCaps}
use Rattle.world_text.specs.declared.expecting.Expecting.{Expecting}
use Rattle.world_text.specs.declared.expecting.Expecting.TheVariants as at
use Rattle.world_text.specs.declared.expecting.PartialWorld.{PartialWorld}
use Rattle.world_text.specs.declared.expecting.Parsed.{Parsed}
use Rattle.world_text.specs.declared.expecting.Parsed.TheVariants.{Refuses, GoesOn, Begins}
use Rattle.world_text.specs.declared.format.Format.{Format}
use Rattle.world_text.specs.declared.keyword.Keyword.{Keyword}
use Rattle.world_text.specs.declared.keyword.Keyword.TheVariants as key
use Rattle.world_text.specs.declared.world.WorldText.{WorldText}
use Rattle.world_text.specs.Values.{unless, with_form, bytes_in}
use Rattle.world_text.specs.Head.{parse_format, parse_names, parse_bound}
use Rattle.world_text.specs.TreeLines.{parse_plain, parse_file}
use Rattle.world_text.specs.Processes.{parse_proc_line}
use Rattle.world_text.specs.Keywords.{keyword_of}

-- the world that was read
abbrev pub world_of : PartialWorld → WorldText
world_of w = record { policy = w.policy; world = record { top = top_of w.policy; bound = w.bound; objects = w.builder.objects; procs = w.builder.procs } }

-- the words after a keyword, which is bare
abbrev pub after_keyword : List ℕ → List LineWord → Option Names
after_keyword keyword [] = None
after_keyword keyword (w ∷ ws) = cond (not w.quoted && same_bytes w.bytes keyword) (Some (bytes_in ws)) None

-- `bound SET`
abbrev pub parse_bound_line : Format → PolicyNames → List LineWord → Parsed
parse_bound_line format policy ws = with_form (after_keyword (codes "bound") ws) (parse_bound format policy)

-- `grades NAME ...` by the names after the keyword; a line without them has to be that of the bound
abbrev pub parse_grades : Format → PolicyNames → Option Names → List LineWord → Parsed
parse_grades format policy (Some (name ∷ names)) ws = parse_names format Grades policy (name ∷ names)
parse_grades format policy _ ws = parse_bound_line format policy ws

-- `script`, once the root is there
abbrev pub parse_script : PartialWorld → Names → Parsed
parse_script w [] = unless (length w.builder.objects == 0) Syntax (Begins (world_of w))
parse_script w _ = Refuses Syntax

-- what a line with this keyword says by the words after it
abbrev pub parse_after : Keyword → PartialWorld → Names → Parsed
parse_after key.Dir w names = parse_plain w body.Dir names
parse_after key.File w names = parse_file w names
parse_after key.Fifo w names = parse_plain w body.Fifo names
parse_after key.Proc w names = parse_proc_line w names
parse_after key.Script w names = parse_script w names

-- a line of the tree, a process or the beginning of the script
abbrev pub parse_tree_line : PartialWorld → List LineWord → Parsed
parse_tree_line w [] = Refuses Syntax
parse_tree_line w (first ∷ ws) = with_form (keyword_of first) (λ keyword. parse_after keyword w (bytes_in ws))

-- what the words of a line say
unfoldable pub parse_words : Expecting → List LineWord → Parsed
parse_words (at.Format due) ws = with_form (after_keyword (codes "world") ws) (parse_format due)
parse_words (at.Names format list names) ws = with_form (after_keyword (list_keyword list) ws) (parse_names format list names)
parse_words (at.Grades format policy) ws = parse_grades format policy (after_keyword (list_keyword Grades) ws) ws
parse_words (at.Bound format policy) ws = parse_bound_line format policy ws
parse_words (at.Tree w) ws = parse_tree_line w ws

-- what a line says: one that is too long is refused, a blank one changes nothing, and else its words decide
unfoldable pub parse_line : Expecting → List ℕ → Parsed
parse_line expecting line =
    unless (nat_lt MAX_LINE (length line)) Syntax
    (cond (is_blank line) (GoesOn expecting)
    (with_form (words_of line) (parse_words expecting)))

-- whether a line of a world can have a fault
abbrev pub is_of_world : LineFault → Bool
is_of_world OldFormat = true
is_of_world Syntax = true
is_of_world UnknownName = true
is_of_world Repeated = true
is_of_world NoParent = true
is_of_world RootLabel = true
is_of_world LabelOrder = true
is_of_world TooMany = true
is_of_world MixedCaps = true
is_of_world _ = false

-- a line that is refused has a fault that a line of a world can have
pub record HasFaultOfWorld (parsed : Parsed) : Type 0 where
  pub of_world : (fault : LineFault) → parsed ≡ Refuses fault → is_of_world fault ≡ true
