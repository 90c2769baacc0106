-- The rules of the checks, and what stands after a check that fails.
use Rattle.std.specs.Prelude.{ℕ, ◌+◌, ◌==◌, ◌&&◌, ◌||◌, not, Bool, false, Option, Some, None, cond, unwrap_or}
use Rattle.std.specs.List.{list_any}
use Rattle.std.specs.Int.{bit_at}
use Rattle.cap_bits.specs.CapSet.{is_empty, is_within, union_of}
use Rattle.cap_bits.specs.declared.cap.Cap.{Cap}
use Rattle.cap_bits.specs.declared.cap.Cap.TheVariants as cap
use Rattle.cap_bits.specs.declared.file_caps.FileCaps.{FileCaps}
use Rattle.cap_bits.specs.declared.state.CapState.{CapState}
use Rattle.lab_lattice.specs.Label.{Label, dominates}
use Rattle.kern_model.specs.declared.calls.Errno.{Errno}
use Rattle.kern_model.specs.declared.calls.Errno.TheVariants as errno
use Rattle.kern_model.specs.declared.checks.Check.{Check}
use Rattle.kern_model.specs.declared.checks.CheckName.{CheckName}
use Rattle.kern_model.specs.declared.checks.CheckName.TheVariants as check
use Rattle.kern_model.specs.declared.checks.Place.{Place}
use Rattle.kern_model.specs.declared.checks.Place.TheVariants.{Target, Caller}
use Rattle.kern_model.specs.declared.checks.Thing.TheVariants as thing
use Rattle.kern_model.specs.declared.checks.Want.{Want}
use Rattle.kern_model.specs.declared.checks.Want.TheVariants as want
use Rattle.kern_model.specs.declared.numbers.Ids.{Ids}
use Rattle.kern_model.specs.declared.numbers.Oid.{Oid}
use Rattle.kern_model.specs.declared.numbers.Pid.{Pid}
use Rattle.kern_model.specs.declared.objects.Attr.{Attr}
use Rattle.kern_model.specs.declared.objects.Object.{Object}
use Rattle.kern_model.specs.Maps.{any_entry}
use Rattle.kern_model.specs.Keys.{Spot, same_oid}
use Rattle.kern_model.specs.Kinds.{is_dir, is_file, has_set_id}
use Rattle.kern_model.specs.State.{State, Process, object_at, root}

-- the capability that lets a call go on where the rule of the check fails
abbrev pub cap_of : CheckName → Option Cap
cap_of check.MacRead = Some cap.MacRead
cap_of check.MacWrite = Some cap.MacWrite
cap_of check.LabelOrder = None
cap_of check.MacUpgrade = Some cap.MacUpgrade
cap_of check.MacDowngrade = Some cap.MacDowngrade
cap_of check.MacSubject = Some cap.MacRelabelSubj
cap_of check.DacRead = Some cap.DacReadSearch
cap_of check.DacSearch = Some cap.DacReadSearch
cap_of check.DacWrite = Some cap.DacWrite
cap_of check.DacExecute = Some cap.DacExecute
cap_of check.ExecKind = None
cap_of check.Owner = Some cap.Fowner
cap_of check.Chown = Some cap.Chown
cap_of check.Setfcap = Some cap.Setfcap
cap_of check.CapWithin = None
cap_of check.CapGrow = None
cap_of check.Setuid = None
cap_of check.Setgid = None
cap_of check.Kill = Some cap.Kill
cap_of check.LinkDir = None
cap_of check.UnlinkDir = None
cap_of check.AudWrite = Some cap.AuditWrite
cap_of check.AudSwitch = Some cap.AuditControl
cap_of check.SetuidAll = Some cap.Setuid
cap_of check.SetgidAll = Some cap.Setgid
cap_of check.Fsetid = Some cap.Fsetid

-- what a call answers that the check denied; a soft check denies nothing
abbrev pub errno_of : CheckName → Option Errno
errno_of check.MacRead = Some errno.EACCES
errno_of check.MacWrite = Some errno.EACCES
errno_of check.LabelOrder = Some errno.EPERM
errno_of check.MacUpgrade = Some errno.EPERM
errno_of check.MacDowngrade = Some errno.EPERM
errno_of check.MacSubject = Some errno.EPERM
errno_of check.DacRead = Some errno.EACCES
errno_of check.DacSearch = Some errno.EACCES
errno_of check.DacWrite = Some errno.EACCES
errno_of check.DacExecute = Some errno.EACCES
errno_of check.ExecKind = Some errno.EACCES
errno_of check.Owner = Some errno.EPERM
errno_of check.Chown = Some errno.EPERM
errno_of check.Setfcap = Some errno.EPERM
errno_of check.CapWithin = Some errno.EPERM
errno_of check.CapGrow = Some errno.EPERM
errno_of check.Setuid = Some errno.EPERM
errno_of check.Setgid = Some errno.EPERM
errno_of check.Kill = Some errno.EPERM
errno_of check.LinkDir = Some errno.EPERM
errno_of check.UnlinkDir = Some errno.EPERM
errno_of check.AudWrite = Some errno.EPERM
errno_of check.AudSwitch = Some errno.EPERM
errno_of check.SetuidAll = None
errno_of check.SetgidAll = None
errno_of check.Fsetid = None

-- the error of a denial; no row asks that of a soft check
abbrev pub denial_of : CheckName → Errno
denial_of name = unwrap_or (errno_of name) errno.EPERM

-- whether two labels are equal
abbrev pub same_label : Label → Label → Bool
same_label a b = dominates a b && dominates b a

-- ---- the mode class

-- whether a group is the effective or a supplementary one
abbrev pub is_member : Ids → ℕ → Bool
is_member ids group = ids.egid == group || list_any (λ g. g == group) ids.groups

-- where the bits stand that count: the owner's, else the group's, else the others'
abbrev pub class_shift : Attr → Ids → ℕ
class_shift attr ids = cond (ids.euid == attr.owner) 6 (cond (is_member ids attr.group) 3 0)

-- the bit of a class that answers what is wanted
abbrev pub want_bit : Want → ℕ
want_bit want.Read = 2
want_bit want.Write = 1
want_bit want.Execute = 0

-- whether the class's bits allow what is wanted
unfoldable pub mode_allows : Attr → Ids → Want → Bool
mode_allows attr ids w = bit_at attr.mode (class_shift attr ids + want_bit w) == 1

-- ---- checks of an object, with its present label

-- of an object as it is
abbrev pub of_object : CheckName → Bool → Option Label → Oid → Object → Place → Check
of_object name holds new id o place = record { name = name; holds = holds; thing = thing.Object id; thing_label = o.label; new_label = new; place = place }

-- of the object with a number
abbrev pub on_object : State → CheckName → Bool → Option Label → Oid → Place → Check
on_object s name holds new id place = of_object name holds new id (object_at s id) place

-- the caller's label dominates the object's
abbrev pub mac_read_of : Process → Oid → Object → Place → Check
mac_read_of p id o place = of_object check.MacRead (dominates p.label o.label) None id o place

abbrev pub mac_read : State → Process → Oid → Place → Check
mac_read s p id place = mac_read_of p id (object_at s id) place

-- the caller's label is the object's
abbrev pub mac_write_of : Process → Oid → Object → Place → Check
mac_write_of p id o place = of_object check.MacWrite (same_label p.label o.label) None id o place

abbrev pub mac_write : State → Process → Oid → Place → Check
mac_write s p id place = mac_write_of p id (object_at s id) place

-- of a directory in which an object is made: the caller's label dominates the directory's
abbrev pub created_order : State → Process → Oid → Place → Check
created_order s p dir place = on_object s check.LabelOrder (dominates p.label (object_at s dir).label) None dir place

-- of a directory that gets an entry for an object: the object's label dominates the directory's
abbrev pub held_order : State → Oid → Oid → Place → Check
held_order s id dir place = on_object s check.LabelOrder (dominates (object_at s id).label (object_at s dir).label) None dir place

-- whether a label dominates that of each directory that holds an object
unfoldable pub is_above_holders : State → Oid → Label → Bool
is_above_holders s id label = not (any_entry (λ (spot : Spot) at. same_oid at id && not (dominates label (object_at s spot.0).label)) s.entries)

-- of an object that gets a label: it dominates that of each directory that holds the object, and the object is not the root
abbrev pub relabelled_order : State → Oid → Label → Place → Check
relabelled_order s id new place = on_object s check.LabelOrder (is_above_holders s id new && not (same_oid id root)) None id place

-- an object gets a label that dominates its own
abbrev pub mac_upgrade_of : Label → Oid → Object → Place → Check
mac_upgrade_of new id o place = of_object check.MacUpgrade false (Some new) id o place

abbrev pub mac_upgrade : State → Oid → Label → Place → Check
mac_upgrade s id new place = mac_upgrade_of new id (object_at s id) place

-- an object gets a label that does not dominate its own
abbrev pub mac_downgrade_of : Label → Oid → Object → Place → Check
mac_downgrade_of new id o place = of_object check.MacDowngrade false (Some new) id o place

abbrev pub mac_downgrade : State → Oid → Label → Place → Check
mac_downgrade s id new place = mac_downgrade_of new id (object_at s id) place

-- an object gets a label that is not its own
abbrev pub mac_change_of : Label → Oid → Object → Place → Check
mac_change_of new id o place = cond (dominates new o.label) (mac_upgrade_of new id o place) (mac_downgrade_of new id o place)

-- the class has the read bit
abbrev pub dac_read_of : Process → Oid → Object → Place → Check
dac_read_of p id o place = of_object check.DacRead (mode_allows o.attr p.ids want.Read) None id o place

abbrev pub dac_read : State → Process → Oid → Place → Check
dac_read s p id place = dac_read_of p id (object_at s id) place

-- the class has the execute bit of the directory
abbrev pub dac_search : State → Process → Oid → Place → Check
dac_search s p id place = on_object s check.DacSearch (mode_allows (object_at s id).attr p.ids want.Execute) None id place

-- the class has the write bit
abbrev pub dac_write_of : Process → Oid → Object → Place → Check
dac_write_of p id o place = of_object check.DacWrite (mode_allows o.attr p.ids want.Write) None id o place

abbrev pub dac_write : State → Process → Oid → Place → Check
dac_write s p id place = dac_write_of p id (object_at s id) place

-- the class has the execute bit of the file
abbrev pub dac_execute : Process → Oid → Object → Place → Check
dac_execute p id o place = of_object check.DacExecute (mode_allows o.attr p.ids want.Execute) None id o place

-- the object is a regular file
abbrev pub exec_kind : Oid → Object → Place → Check
exec_kind id o place = of_object check.ExecKind (is_file o.kind) None id o place

-- the effective user is the owner
abbrev pub is_owner_of : Process → Object → Bool
is_owner_of p o = p.ids.euid == o.attr.owner

abbrev pub is_owner : State → Process → Oid → Bool
is_owner s p id = is_owner_of p (object_at s id)

abbrev pub owner_of : Process → Oid → Object → Place → Check
owner_of p id o place = of_object check.Owner (is_owner_of p o) None id o place

abbrev pub owner : State → Process → Oid → Place → Check
owner s p id place = owner_of p id (object_at s id) place

-- the owner stays, the effective user is the owner, and the new group is the effective or a supplementary one
abbrev pub chown_of : Process → ℕ → ℕ → Oid → Object → Place → Check
chown_of p user group id o place = of_object check.Chown (user == o.attr.owner && is_owner_of p o && is_member p.ids group) None id o place

abbrev pub chown_rule : State → Process → Oid → ℕ → ℕ → Place → Check
chown_rule s p id user group place = chown_of p user group id (object_at s id) place

-- the sets of a file are set
abbrev pub setfcap_of : Oid → Object → Place → Check
setfcap_of id o place = of_object check.Setfcap false None id o place

abbrev pub setfcap : State → Oid → Place → Check
setfcap s id place = setfcap_of id (object_at s id) place

-- the object is no directory
abbrev pub link_dir : State → Oid → Place → Check
link_dir s id place = on_object s check.LinkDir (not (is_dir (object_at s id).kind)) None id place

abbrev pub unlink_dir : State → Oid → Place → Check
unlink_dir s id place = on_object s check.UnlinkDir (not (is_dir (object_at s id).kind)) None id place

-- ---- soft checks of an object: whether nothing has to be cleared

abbrev pub fsetid_of : Bool → Oid → Object → Place → Check
fsetid_of holds id o place = of_object check.Fsetid holds None id o place

abbrev pub fsetid : State → Bool → Oid → Place → Check
fsetid s holds id place = fsetid_of holds id (object_at s id) place

-- whether a file has no capability in either set
abbrev pub has_no_caps : FileCaps → Bool
has_no_caps caps = is_empty caps.p && is_empty caps.i

-- of a file whose content changes: it has no set-id bit and no capabilities
abbrev pub is_plain : Attr → Bool
is_plain attr = not (has_set_id attr.mode) && has_no_caps attr.caps

-- ---- checks of a process

abbrev pub on_process : CheckName → Bool → Option Label → Pid → Label → Place → Check
on_process name holds new who label place = record { name = name; holds = holds; thing = thing.Process who; thing_label = label; new_label = new; place = place }

-- of a named process, with the label that is checked: it is the caller's
abbrev pub mac_write_process : Process → Pid → Label → Check
mac_write_process p who label = on_process check.MacWrite (same_label p.label label) None who label Target

-- the sender's real or effective user is the receiver's real or saved one
abbrev pub kill_rule : Process → Pid → Process → Check
kill_rule p who target = on_process check.Kill (p.ids.ruid == target.ids.ruid || p.ids.ruid == target.ids.suid || p.ids.euid == target.ids.ruid || p.ids.euid == target.ids.suid) None who target.label Target

-- ---- checks of the caller itself

abbrev pub on_caller : CheckName → Bool → Option Label → Pid → Process → Check
on_caller name holds new who p = on_process name holds new who p.label Caller

-- the caller gets another label
abbrev pub mac_subject : Pid → Process → Label → Check
mac_subject who p new = on_caller check.MacSubject false (Some new) who p

-- each flag that is asked for is on a permitted capability of the caller
abbrev pub cap_within : Pid → Process → CapState → Check
cap_within who p caps = on_caller check.CapWithin (is_within caps.e p.caps.p && is_within caps.i p.caps.p && is_within caps.p p.caps.p) None who p

-- whether a state can be had from another: what is permitted was, what is effective is permitted, what is inheritable was inheritable or permitted
abbrev pub may_become : CapState → CapState → Bool
may_become old new = is_within new.p old.p && is_within new.e new.p && is_within new.i (union_of old.i old.p)

abbrev pub cap_grow : Pid → Process → CapState → Check
cap_grow who p caps = on_caller check.CapGrow (may_become p.caps caps) None who p

-- a process may have a user as its effective one that is its real or its saved one
abbrev pub may_be_user : Ids → ℕ → Bool
may_be_user ids user = user == ids.ruid || user == ids.suid

abbrev pub setuid_rule : Pid → Process → ℕ → Check
setuid_rule who p user = on_caller check.Setuid (may_be_user p.ids user) None who p

-- a process may have a group as its effective one that is its real or its saved one
abbrev pub may_be_group : Ids → ℕ → Bool
may_be_group ids group = group == ids.rgid || group == ids.sgid

abbrev pub setgid_rule : Pid → Process → ℕ → Check
setgid_rule who p group = on_caller check.Setgid (may_be_group p.ids group) None who p

-- soft: real, effective and saved user are the one asked for
abbrev pub setuid_all : Pid → Process → ℕ → Check
setuid_all who p user = on_caller check.SetuidAll (p.ids.ruid == user && p.ids.euid == user && p.ids.suid == user) None who p

-- soft: real, effective and saved group are the one asked for
abbrev pub setgid_all : Pid → Process → ℕ → Check
setgid_all who p group = on_caller check.SetgidAll (p.ids.rgid == group && p.ids.egid == group && p.ids.sgid == group) None who p

-- a note is left
abbrev pub aud_write_rule : Pid → Process → Check
aud_write_rule who p = on_caller check.AudWrite false None who p

-- the audit switch is set
abbrev pub aud_switch_rule : Pid → Process → Check
aud_switch_rule who p = on_caller check.AudSwitch false None who p
