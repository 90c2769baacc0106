-- A call whose arguments are in their ranges opens a file only by flags that a call may have.
use Rattle.std.specs.Prelude.{◌≡◌, Bool, true, refl}
use Rattle.std.proofs.lemmas.Bool.{and_parts}
use Rattle.lab_lattice.specs.Label.{Label}
use Rattle.kern_model.specs.declared.calls.Call.{Call}
use Rattle.kern_model.specs.declared.calls.Call.TheVariants as call
use Rattle.kern_model.specs.Arguments.{are_flags, is_call}

-- whether a call that opens a file has flags that a call may have
abbrev pub has_flags : Call → Bool
has_flags (call.OpenPath path flags mode) = are_flags flags
has_flags _ = true

pub flags_of_call : (top : Label) (c : Call) → is_call top c ≡ true → has_flags c ≡ true
unfolding is_call
flags_of_call top (call.OpenPath path flags mode) h = (and_parts _ _ h).0
flags_of_call top c h = refl
