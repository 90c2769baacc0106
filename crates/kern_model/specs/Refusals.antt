-- How a reply names what stopped a call.
use Rattle.std.specs.Prelude.{◌≡◌, Bool, true, false}
use Rattle.kern_model.specs.declared.calls.Errno.{Errno}
use Rattle.kern_model.specs.declared.calls.Errno.TheVariants as errno
use Rattle.kern_model.specs.declared.calls.Reply.{Reply}
use Rattle.kern_model.specs.declared.calls.Reply.TheVariants as reply

-- whether an error number says that a check denied the call
abbrev pub is_denial : Errno → Bool
is_denial errno.EACCES = true
is_denial errno.EPERM = true
is_denial _ = false

-- a denial holds EACCES or EPERM, and no other refusal does
abbrev pub IsNamed : Reply → Type 0
IsNamed (reply.Done answer) = Unit {0}
IsNamed (reply.Denied errno check place) = is_denial errno ≡ true
IsNamed (reply.Refused errno) = is_denial errno ≡ false
