-- What the head lines of a world say: its format, its names and its bound.
use Rattle.std.specs.Prelude.{ℕ, not, List, [], ◌∷◌, Option, None, Some}
use Rattle.std.specs.List.{list_all}
use Rattle.cap_bits.specs.CapSet.{CapSet}
use Rattle.cap_clause.specs.Parsed.{parse_set}
use Rattle.lab_text.specs.Lists.{next_list}
use Rattle.lab_text.specs.Names.{Names, is_label_name}
use Rattle.lab_text.specs.Policy.{PolicyNames, with_names, no_names, names_fault}
use Rattle.lab_text.specs.declared.lists.NameList.{NameList}
use Rattle.lab_text.specs.declared.lists.NameList.TheVariants.{Levels, Grades}
use Rattle.line_text.specs.declared.fault.LineFault.{LineFault}
use Rattle.line_text.specs.declared.fault.LineFault.TheVariants.{OldFormat, Syntax, Repeated, TooMany}
use Rattle.world_text.specs.declared.expecting.Expecting.{Expecting}
use Rattle.world_text.specs.declared.expecting.Expecting.TheVariants as at
use Rattle.world_text.specs.declared.values.WordValue.{WordValue}
use Rattle.world_text.specs.declared.expecting.Parsed.{Parsed}
use Rattle.world_text.specs.declared.expecting.Parsed.TheVariants.{Refuses, GoesOn}
use Rattle.lab_text.specs.declared.policy.PolicyError.{PolicyError}
use Rattle.lab_text.specs.declared.policy.PolicyError.TheVariants as error
use Rattle.world_text.specs.declared.format.Format.{Format}
use Rattle.world_text.specs.declared.format.Format.TheVariants.{One, Two}
use Rattle.world_text.specs.Formats.{format_named}
use Rattle.world_text.specs.Values.{unless, with_form, with_value, caps_value}

-- a line that names a format, by the one that is due
abbrev pub after_format : (due format : Format) → Parsed
after_format One One = GoesOn (at.Names One Levels no_names)
after_format One Two = Refuses Syntax
after_format Two One = Refuses OldFormat
after_format Two Two = GoesOn (at.Names Two Levels no_names)

-- `world FORMAT`, where a format is due
abbrev pub parse_format : Format → Names → Parsed
parse_format due (w ∷ []) = with_form (format_named w) (after_format due)
parse_format due _ = Refuses Syntax

-- the fault of a line whose names make no policy
abbrev pub fault_for : PolicyError → LineFault
fault_for error.TooMany = TooMany
fault_for error.Repeated = Repeated
fault_for _ = Syntax

-- the fault of a line that gives names, and else what follows
abbrev pub unless_fault : Option PolicyError → Parsed → Parsed
unless_fault None parsed = parsed
unless_fault (Some e) parsed = Refuses (fault_for e)

-- what is due after names: those of the next list, or the bound; grades may be left out
abbrev pub due_after : Format → PolicyNames → Option NameList → Expecting
due_after format names (Some Grades) = at.Grades format names
due_after format names (Some list) = at.Names format list names
due_after format names None = at.Bound format names

-- the line of a list of names, as `levels NAME NAME ...`, after the names of the lists before it
abbrev pub parse_names : Format → NameList → PolicyNames → Names → Parsed
parse_names format list before names =
    let known = with_names before list names in
    unless (not (list_all is_label_name names)) Syntax
    (unless_fault (names_fault known) (GoesOn (due_after format known (next_list list))))

-- the set of a set text
abbrev pub set_of : List ℕ → WordValue CapSet
set_of text = caps_value (parse_set text)

-- `bound SET`
abbrev pub parse_bound : Format → PolicyNames → Names → Parsed
parse_bound format policy (w ∷ []) = with_value (set_of w) (λ bound. GoesOn (at.Tree (record { format = format; policy = policy; bound = bound; builder = record { objects = []; procs = [] } })))
parse_bound format policy _ = Refuses Syntax
