-- What a program makes of the credentials of a process.
use Rattle.std.specs.Prelude.{cond}
use Rattle.cap_bits.specs.CapSet.{CapSet, is_empty, meet_of, no_caps, union_of}
use Rattle.cap_bits.specs.declared.state.CapState.{CapState}
use Rattle.kern_model.specs.declared.numbers.Ids.{Ids}
use Rattle.kern_model.specs.declared.objects.Attr.{Attr}
use Rattle.kern_model.specs.Kinds.{sets_user, sets_group}

-- what a process may have: what the file permits within the bound, and what file and process inherit
abbrev pub exec_permitted : CapState → CapState → CapSet → CapSet
exec_permitted old file bound = union_of (meet_of file.p bound) (meet_of file.i old.i)

-- the exec formula: I' = I, P' = (FP and X) or (FI and I), and E' = P' where the file's flag is on, else E' is empty; the flag is on where its state has anything effective
abbrev pub exec_caps : CapState → CapState → CapSet → CapState
exec_caps old file bound = record { e = cond (is_empty file.e) no_caps (exec_permitted old file bound); i = old.i; p = exec_permitted old file bound }

-- a set-user-ID program sets the effective and the saved user to the file's owner, a set-group-ID program the group
abbrev pub exec_ids : Ids → Attr → Ids
exec_ids ids attr = record ids {
  euid = cond (sets_user attr.mode) attr.owner ids.euid;
  suid = cond (sets_user attr.mode) attr.owner ids.suid;
  egid = cond (sets_group attr.mode) attr.group ids.egid;
  sgid = cond (sets_group attr.mode) attr.group ids.sgid;
}
