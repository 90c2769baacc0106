-- The calls on the audit trail: of which kinds the checks and the effects of their rows are.
use Rattle.std.specs.Prelude.{ℕ, Bool, List}
use Rattle.kern_model.specs.declared.checks.Check.{Check}
use Rattle.kern_model.specs.declared.numbers.Pid.{Pid}
use Rattle.kern_model.specs.AuditRows.{aud_write_row, aud_switch_row}
use Rattle.kern_model.specs.State.{State, Process}
use Rattle.iso_laws.proofs.Effects.{Premise, OfKinds, of_caller, Note, SetSwitch}

module _ (Known : Check → Type 0) (Not : Bool → Type 0) (Given : Premise → Type 0) (s : State) (who : Pid) (p : Process) where
  pub aud_write_kinds : (bytes : List ℕ) → OfKinds Known Not Given s who p (aud_write_row s who p bytes)
  aud_write_kinds bytes = (of_caller _ _, λ _. Note bytes)

  pub aud_switch_kinds : (on : Bool) → OfKinds Known Not Given s who p (aud_switch_row s who p on)
  aud_switch_kinds on = (of_caller _ _, λ _. SetSwitch on)
