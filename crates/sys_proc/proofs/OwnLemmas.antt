-- The calls on processes name no entry.
use Rattle.std.specs.Prelude.{◌≡◌, true, refl}
use Rattle.kern_model.specs.declared.calls.Call.{Call}
use Rattle.kern_model.specs.declared.calls.Call.TheVariants as call
use Rattle.kern_model.specs.Arguments.{has_names}
use Rattle.sys_proc.specs.Playing.{is_own_call, is_process_call}

-- of those that ask what their caller is
pub own_names : (c : Call) → is_own_call c ≡ true → has_names c ≡ true
unfolding has_names
own_names call.Getpid h = refl
own_names call.Getppid h = refl
own_names call.Getids h = refl
own_names call.CapGetProc h = refl
own_names call.MacGetProc h = refl
own_names c h = absurd (cc)

-- of all
pub process_names : (c : Call) → is_process_call c ≡ true → has_names c ≡ true
unfolding has_names
process_names call.Fork h = refl
process_names (call.Exec path) h = refl
process_names (call.Exit code) h = refl
process_names call.Wait h = refl
process_names (call.Kill target signal) h = refl
process_names (call.Setuid user) h = refl
process_names (call.Setgid group) h = refl
process_names (call.CapSetProc caps) h = refl
process_names (call.MacSetProc label) h = refl
process_names c h = own_names c h
