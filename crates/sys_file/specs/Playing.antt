-- Which calls are on descriptors, or open or make what descriptors refer to.
use Rattle.std.specs.Prelude.{Bool, true, false}
use Rattle.kern_model.specs.declared.calls.Call.{Call}
use Rattle.kern_model.specs.declared.calls.Call.TheVariants as call

-- whether a call is on a descriptor, or opens or makes what descriptors refer to
abbrev pub is_file_call : Call → Bool
is_file_call (call.OpenPath path flags mode) = true
is_file_call (call.Close fd) = true
is_file_call (call.Read fd n) = true
is_file_call (call.Write fd bytes) = true
is_file_call (call.Lseek fd from offset) = true
is_file_call (call.Dup fd) = true
is_file_call call.Pipe = true
is_file_call (call.Mkfifo path mode) = true
is_file_call (call.Fstat fd) = true
is_file_call _ = false
