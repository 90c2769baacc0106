-- The calls by their words and arguments.
use Rattle.std.specs.Prelude.{ℕ, List, [], ◌∷◌, None, Some, Ok, Err, true, false}
use Rattle.kern_model.specs.declared.limits.TheConstants.{MAX_FILE_BYTES, MAX_STATUS}
use Rattle.kern_model.specs.declared.calls.Call.{Call}
use Rattle.kern_model.specs.declared.calls.Call.TheVariants as call
use Rattle.kern_model.specs.declared.calls.CallName.{CallName}
use Rattle.kern_model.specs.declared.calls.CallName.TheVariants as name
use Rattle.lab_text.specs.Policy.{PolicyNames}
use Rattle.script_text.specs.declared.fault.LineError.TheVariants as error
use Rattle.script_text.specs.Reading.{Reading, both, map_reading}
use Rattle.script_text.specs.Argument as argument

-- ---- the table

-- a call of two values
abbrev pub two : {A B : Type 0} → (A → B → Call) → Reading A → Reading B → Reading Call
two make a b = map_reading (λ args. make args.0 args.1) (both a b)

-- a call of three values
abbrev pub three : {A B C : Type 0} → (A → B → C → Call) → Reading A → Reading B → Reading C → Reading Call
three make a b c = map_reading (λ args. make args.0 args.1.0 args.1.1) (both a (both b c))

-- the calls without arguments
unfoldable pub none_parsed : CallName → Reading Call
none_parsed name.Pipe = Ok call.Pipe
none_parsed name.Fork = Ok call.Fork
none_parsed name.Wait = Ok call.Wait
none_parsed name.Getpid = Ok call.Getpid
none_parsed name.Getppid = Ok call.Getppid
none_parsed name.Getids = Ok call.Getids
none_parsed name.CapGetProc = Ok call.CapGetProc
none_parsed name.MacGetProc = Ok call.MacGetProc
none_parsed _ = Err error.Syntax

-- the calls with one argument
unfoldable pub one_parsed : PolicyNames → CallName → List ℕ → Reading Call
one_parsed policy name.Close w = map_reading call.Close (argument.number w)
one_parsed policy name.Dup w = map_reading call.Dup (argument.number w)
one_parsed policy name.Fstat w = map_reading call.Fstat (argument.number w)
one_parsed policy name.Rmdir w = map_reading call.Rmdir (argument.path w)
one_parsed policy name.Unlink w = map_reading call.Unlink (argument.path w)
one_parsed policy name.Readdir w = map_reading call.Readdir (argument.path w)
one_parsed policy name.Stat w = map_reading call.Stat (argument.path w)
one_parsed policy name.Chdir w = map_reading call.Chdir (argument.path w)
one_parsed policy name.Umask w = map_reading call.Umask (argument.permissions w)
one_parsed policy name.CapGetFile w = map_reading call.CapGetFile (argument.path w)
one_parsed policy name.CapGetFd w = map_reading call.CapGetFd (argument.number w)
one_parsed policy name.MacGetFile w = map_reading call.MacGetFile (argument.path w)
one_parsed policy name.MacGetFd w = map_reading call.MacGetFd (argument.number w)
one_parsed policy name.Exec w = map_reading call.Exec (argument.path w)
one_parsed policy name.Exit w = map_reading call.Exit (argument.up_to MAX_STATUS w)
one_parsed policy name.Setuid w = map_reading call.Setuid (argument.number w)
one_parsed policy name.Setgid w = map_reading call.Setgid (argument.number w)
one_parsed policy name.CapSetProc w = map_reading call.CapSetProc (argument.caps w)
one_parsed policy name.MacSetProc w = map_reading call.MacSetProc (argument.label policy w)
one_parsed policy name.AudWrite w = map_reading call.AudWrite (argument.bytes w)
one_parsed policy name.AudSwitch w = map_reading call.AudSwitch (argument.switch w)
one_parsed policy _ w = Err error.Syntax

-- the calls with two arguments
unfoldable pub two_parsed : PolicyNames → CallName → List ℕ → List ℕ → Reading Call
two_parsed policy name.OpenPath v w = two (λ path flags. call.OpenPath path flags None) (argument.path v) (argument.flags false w)
two_parsed policy name.Read v w = two call.Read (argument.number v) (argument.up_to MAX_FILE_BYTES w)
two_parsed policy name.Write v w = two call.Write (argument.number v) (argument.bytes w)
two_parsed policy name.Mkfifo v w = two call.Mkfifo (argument.path v) (argument.mode w)
two_parsed policy name.Mkdir v w = two call.Mkdir (argument.path v) (argument.mode w)
two_parsed policy name.Link v w = two call.Link (argument.path v) (argument.path w)
two_parsed policy name.Rename v w = two call.Rename (argument.path v) (argument.path w)
two_parsed policy name.Chmod v w = two call.Chmod (argument.path v) (argument.mode w)
two_parsed policy name.CapSetFile v w = two call.CapSetFile (argument.path v) (argument.caps w)
two_parsed policy name.CapSetFd v w = two call.CapSetFd (argument.number v) (argument.caps w)
two_parsed policy name.MacSetFile v w = two call.MacSetFile (argument.path v) (argument.label policy w)
two_parsed policy name.MacSetFd v w = two call.MacSetFd (argument.number v) (argument.label policy w)
two_parsed policy name.Kill v w = two call.Kill (argument.pid policy v) (argument.signal w)
two_parsed policy _ v w = Err error.Syntax

-- the calls with three arguments
unfoldable pub three_parsed : CallName → List ℕ → List ℕ → List ℕ → Reading Call
three_parsed name.OpenPath u v w = three (λ path flags mode. call.OpenPath path flags (Some mode)) (argument.path u) (argument.flags true v) (argument.mode w)
three_parsed name.Lseek u v w = three call.Lseek (argument.number u) (argument.whence v) (argument.offset w)
three_parsed name.Chown u v w = three call.Chown (argument.path u) (argument.number v) (argument.number w)
three_parsed _ u v w = Err error.Syntax

-- the call of a name and its arguments, or their first fault
abbrev pub parse_call : PolicyNames → CallName → List (List ℕ) → Reading Call
parse_call policy name [] = none_parsed name
parse_call policy name (w ∷ []) = one_parsed policy name w
parse_call policy name (v ∷ w ∷ []) = two_parsed policy name v w
parse_call policy name (u ∷ v ∷ w ∷ []) = three_parsed name u v w
parse_call policy name _ = Err error.Syntax
