-- Calls, checks and error numbers by their words.
use Rattle.std.specs.Prelude.{◌≡◌, ◌↔◌, ℕ, ◌==◌, List, [], ◌∷◌, Option, Some}
use Rattle.std.specs.Cmp.Lexicographic.{pointwise}
use Rattle.std.specs.List.{find}
use Rattle.kern_model.specs.declared.calls.CallName.{CallName}
use Rattle.kern_model.specs.declared.calls.CallName.TheVariants as name
use Rattle.kern_model.specs.declared.calls.Errno.{Errno}
use Rattle.kern_model.specs.declared.calls.Errno.TheVariants as errno
use Rattle.kern_model.specs.declared.checks.CheckName.{CheckName}
use Rattle.kern_model.specs.declared.checks.CheckName.TheVariants as check
use Rattle.kern_model.specs.Names.{word_of, check_word, errno_word}

-- the first of some values that has a word
unfoldable pub find_named : {X : Type 0} → (X → List ℕ) → List X → List ℕ → Option X
find_named word_of values word = find (λ x. pointwise ◌==◌ word (word_of x)) values

-- what is found for a word is the value that has this word, and nothing where no value has it
abbrev pub IsFoundBy : {X : Type 0} → (X → List ℕ) → List ℕ → Option X → Type 0
IsFoundBy {X} word_of word found = (x : X) → (found ≡ Some x) ↔ (word ≡ word_of x)

-- ---- calls

-- in the order of their words
abbrev pub all_calls : List CallName
all_calls =
    name.AudSwitch ∷ name.AudWrite ∷ name.CapGetFd ∷ name.CapGetFile ∷ name.CapGetProc ∷ name.CapSetFd ∷ name.CapSetFile ∷ name.CapSetProc ∷ name.Chdir ∷ name.Chmod ∷ name.Chown ∷ name.Close ∷ name.Dup ∷ name.Exec ∷ name.Exit ∷ name.Fork ∷ name.Fstat ∷ name.Getids ∷ name.Getpid ∷ name.Getppid ∷ name.Kill ∷ name.Link ∷ name.Lseek ∷ name.MacGetFd ∷ name.MacGetFile ∷ name.MacGetProc ∷ name.MacSetFd ∷ name.MacSetFile ∷ name.MacSetProc ∷ name.Mkdir ∷ name.Mkfifo ∷ name.OpenPath ∷ name.Pipe ∷ name.Read ∷ name.Readdir ∷ name.Rename ∷ name.Rmdir ∷ name.Setgid ∷ name.Setuid ∷ name.Stat ∷ name.Umask ∷ name.Unlink ∷ name.Wait ∷ name.Write ∷ []

-- the call with a word
abbrev pub call_named : List ℕ → Option CallName
call_named = find_named word_of all_calls

-- ---- checks

abbrev pub all_checks : List CheckName
all_checks =
    check.MacRead ∷ check.MacWrite ∷ check.LabelOrder ∷ check.MacUpgrade ∷ check.MacDowngrade ∷ check.MacSubject ∷ check.DacRead ∷ check.DacSearch ∷ check.DacWrite ∷ check.DacExecute ∷ check.ExecKind ∷ check.Owner ∷ check.Chown ∷ check.Setfcap ∷ check.CapWithin ∷ check.CapGrow ∷ check.Setuid ∷ check.Setgid ∷ check.Kill ∷ check.LinkDir ∷ check.UnlinkDir ∷ check.AudWrite ∷ check.AudSwitch ∷ check.SetuidAll ∷ check.SetgidAll ∷ check.Fsetid ∷ []

-- the check with a word
abbrev pub check_named : List ℕ → Option CheckName
check_named = find_named check_word all_checks

-- ---- error numbers

abbrev pub all_errnos : List Errno
all_errnos =
    errno.EACCES ∷ errno.EAGAIN ∷ errno.EBADF ∷ errno.EBUSY ∷ errno.ECHILD ∷ errno.EEXIST ∷ errno.EFBIG ∷ errno.EINVAL ∷ errno.EISDIR ∷ errno.EMFILE ∷ errno.EMLINK ∷ errno.ENFILE ∷ errno.ENOENT ∷ errno.ENOSPC ∷ errno.ENOTDIR ∷ errno.ENOTEMPTY ∷ errno.EPERM ∷ errno.EPIPE ∷ errno.ESPIPE ∷ errno.ESRCH ∷ []

-- the error number with a word
abbrev pub errno_named : List ℕ → Option Errno
errno_named = find_named errno_word all_errnos
