-- The checks of the calls on the audit trail.
use Rattle.std.specs.Prelude.{◌≡◌, ⊤, false, None, Result}
use Rattle.std.proofs.Common.{ap, ◌∙◌}
use Rattle.kern_model.specs.declared.checks.Check.{Check}
use Rattle.kern_model.specs.declared.checks.CheckName.{CheckName}
use Rattle.kern_model.specs.declared.numbers.Pid.{Pid}
use Rattle.kern_model.specs.Row.{Row, Need}
use Rattle.kern_model.specs.Rules.{on_caller}
use Rattle.kern_model.specs.State.{State, process_at}
use Rattle.chk_rules.specs.CheckLog.{CheckLog}
use Rattle.chk_rules.specs.RowSteps.{GoesOn}
use Rattle.chk_rules.specs.declared.stop.Stop.{Stop}
use Rattle.chk_rules.proofs.Steps.{equal_check}
use Rattle.sys_lookup.specs.Callers.{CallerView, caller_in}

-- a check of a caller that only a capability passes is that of the process with its number
pub asked : {s : State} {who : Pid} {k : CallerView} {name : CheckName} {check : Check} {a b : CheckLog} {r : Result ⊤ Stop} → k ≡ caller_in s who → check ≡ on_caller name false None who k.process
    → GoesOn a (λ (rest : ⊤ → Row). Need check (rest tt)) r b → GoesOn a (λ (rest : ⊤ → Row). Need (on_caller name false None who (process_at s who)) (rest tt)) r b
asked {who = who} {name = name} same is step = equal_check (is ∙ ap (λ (x : CallerView). on_caller name false None who x.process) same) step
