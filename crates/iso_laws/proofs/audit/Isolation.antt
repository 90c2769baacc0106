-- The calls on the audit trail: a Low process in the state and in its part.
use Rattle.std.specs.Prelude.{◌≡◌, ℕ, Bool, true, List, Some, refl}
use Rattle.std.specs.FinMap as map
use Rattle.lab_lattice.specs.Label.{Label}
use Rattle.kern_model.specs.declared.numbers.Pid.{Pid}
use Rattle.kern_model.specs.AuditRows.{aud_write_row, aud_switch_row}
use Rattle.kern_model.specs.Isolation.{low, Kept}
use Rattle.kern_model.specs.State.{State, Process}
use Rattle.kern_model.specs.Valid.{IsValid}
use Rattle.iso_laws.proofs.LowRows.{caller_visible}
use Rattle.iso_laws.proofs.Part.{part_by_number}
use Rattle.iso_laws.proofs.Rows.{SameInPart, in_part_itself}

module _ (l : Label) (s : State) (kept : Kept l s) (valid : IsValid s) (who : Pid) (p : Process) (is : map.get s.procs who ≡ Some p)
    (is_low : low l p.label ≡ true) where
  pub aud_write_low : (bytes : List ℕ) → SameInPart l s who p (aud_write_row s who p bytes) (aud_write_row (part_by_number l s) who p bytes)
  aud_write_low bytes = in_part_itself l s who p _ refl

  pub aud_switch_low : (on : Bool) → SameInPart l s who p (aud_switch_row s who p on) (aud_switch_row (part_by_number l s) who p on)
  aud_switch_low on = in_part_itself l s who p _ (caller_visible l s kept valid who p is is_low _)
