-- Which calls are on modes, owners, the umask, capability sets of files, and labels of objects.
use Rattle.std.specs.Prelude.{Bool, true, false}
use Rattle.kern_model.specs.declared.calls.Call.{Call}
use Rattle.kern_model.specs.declared.calls.Call.TheVariants as call

-- whether a call is `chmod`, `chown` or `umask`, or reads or sets the capability sets of a file or the label of an object, by a path or a descriptor
abbrev pub is_attr_call : Call → Bool
is_attr_call (call.Chmod path mode) = true
is_attr_call (call.Chown path user group) = true
is_attr_call (call.Umask mode) = true
is_attr_call (call.CapGetFile path) = true
is_attr_call (call.CapSetFile path caps) = true
is_attr_call (call.CapGetFd fd) = true
is_attr_call (call.CapSetFd fd caps) = true
is_attr_call (call.MacGetFile path) = true
is_attr_call (call.MacSetFile path label) = true
is_attr_call (call.MacGetFd fd) = true
is_attr_call (call.MacSetFd fd label) = true
is_attr_call _ = false
