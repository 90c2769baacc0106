-- Calls that ask for capability sets, or set them.
use Rattle.std.specs.Prelude.{Bool, true, false}
use Rattle.kern_model.specs.declared.calls.Call.{Call}
use Rattle.kern_model.specs.declared.calls.Call.TheVariants as call

-- whether a call asks for capability sets of a file or of the caller, or sets them
abbrev pub asks : Call → Bool
asks (call.CapGetFile path) = true
asks (call.CapSetFile path caps) = true
asks (call.CapGetFd fd) = true
asks (call.CapSetFd fd caps) = true
asks call.CapGetProc = true
asks (call.CapSetProc caps) = true
asks _ = false
