-- What the lines of processes say.
use Rattle.std.specs.Prelude.{ℕ, cond, List, [], ◌∷◌, ◌++◌, Option, None, Some}
use Rattle.cap_bits.specs.declared.state.CapState.{CapState}
use Rattle.cap_bits.specs.CapSet.{is_within}
use Rattle.fs_path.specs.Options.{then}
use Rattle.fs_path.specs.Values.{number_of, groups_of}
use Rattle.lab_text.specs.Names.{Names}
use Rattle.lab_text.specs.Policy.{PolicyNames}
use Rattle.kern_model.specs.declared.numbers.Ids.{Ids}
use Rattle.kern_model.specs.declared.world.WorldProc.{WorldProc}
use Rattle.line_text.specs.declared.fault.LineFault.TheVariants.{Syntax}
use Rattle.world_text.specs.declared.expecting.Expecting.TheVariants as at
use Rattle.world_text.specs.declared.expecting.PartialWorld.{PartialWorld}
use Rattle.world_text.specs.declared.processes.ProcFields.{ProcFields}
use Rattle.world_text.specs.declared.values.WordValue.{WordValue}
use Rattle.world_text.specs.declared.values.WordValue.TheVariants as value
use Rattle.world_text.specs.declared.expecting.Parsed.{Parsed}
use Rattle.world_text.specs.declared.expecting.Parsed.TheVariants.{Refuses, GoesOn}
use Rattle.world_text.specs.Placing.{process_fault}
use Rattle.world_text.specs.Values.{refuse_or, with_form, with_value, caps_of, label_of, both}

-- `LABEL UID GID GROUPS`
unfoldable pub proc_fields_of : PolicyNames → (label uid gid groups : List ℕ) → Option ProcFields
proc_fields_of policy label uid gid groups =
    then (number_of uid) (λ user. then (number_of gid) (λ group. then (groups_of groups) (λ groups.
    Some (record { label = label_of policy label; user = user; group = group; groups = groups }))))

-- the first four words of a process line
abbrev pub proc_fields_in : PolicyNames → Names → Option ProcFields
proc_fields_in policy (label ∷ uid ∷ gid ∷ groups ∷ more) = proc_fields_of policy label uid gid groups
proc_fields_in policy _ = None

-- a state that a process may have: what is effective is permitted
abbrev pub proc_caps : WordValue CapState → WordValue CapState
proc_caps (value.Known caps) = cond (is_within caps.e caps.p) (value.Known caps) value.Malformed
proc_caps other = other

-- the state of a capability text that a process may have
abbrev pub proc_caps_of : List ℕ → WordValue CapState
proc_caps_of text = proc_caps (caps_of text)

-- the ids of a process: its user and its group are real, effective and saved
abbrev pub ids_of : ProcFields → Ids
ids_of f = record { ruid = f.user; euid = f.user; suid = f.user; rgid = f.group; egid = f.group; sgid = f.group; groups = f.groups }

-- a process comes after those before it, if it can
abbrev pub parse_process : PartialWorld → WorldProc → Parsed
parse_process w p = refuse_or (process_fault w.builder p) (GoesOn (at.Tree (record w { builder = record w.builder { procs = w.builder.procs ++ p ∷ [] } })))

-- a process line: its form, then its names, and then whether it may stand there
abbrev pub parse_proc : PartialWorld → Option ProcFields → WordValue CapState → Parsed
parse_proc w form caps = with_form form (λ f. with_value (both f.label caps) (λ x. parse_process w (record { label = x.0; ids = ids_of f; caps = x.1 })))

-- `proc LABEL UID GID GROUPS CAPS`
abbrev pub parse_proc_line : PartialWorld → Names → Parsed
parse_proc_line w (label ∷ uid ∷ gid ∷ groups ∷ caps ∷ []) = parse_proc w (proc_fields_of w.policy label uid gid groups) (proc_caps_of caps)
parse_proc_line w _ = Refuses Syntax
