-- The rows of the calls on the audit trail.
use Rattle.std.specs.Prelude.{ℕ, Bool, List, [], ◌∷◌, Some}
use Rattle.kern_model.specs.declared.calls.Answer.TheVariants as answer
use Rattle.kern_model.specs.declared.numbers.Pid.{Pid}
use Rattle.kern_model.specs.declared.records.Rec.TheVariants as rec
use Rattle.kern_model.specs.Rules.{aud_write_rule, aud_switch_rule}
use Rattle.kern_model.specs.Row.{Row, Need, Commit}
use Rattle.kern_model.specs.State.{State, Process, SetProcess}

-- `aud_write BYTES`
abbrev pub aud_write_row : State → Pid → Process → List ℕ → Row
aud_write_row s who p bytes = Need (aud_write_rule who p) (Commit [] answer.Nothing (Some (rec.Note who bytes)))

-- `aud_switch on|off`
abbrev pub aud_switch_row : State → Pid → Process → Bool → Row
aud_switch_row s who p on = Need (aud_switch_rule who p) (Commit (SetProcess who (record p { audited = on }) ∷ []) answer.Nothing (Some (rec.Switch who on)))
