-- A body that plays the row of its call makes the step of the call table.
use Rattle.std.specs.Prelude.{◌≡◌, [], Some, None, Result, Ok, Err}
use Rattle.std.specs.FinMap as map
use Rattle.std.proofs.Common.{ap, sym, ◌∙◌}
use Rattle.std.proofs.lemmas.List.{append-nil}
use Rattle.kern_model.specs.declared.calls.Call.{Call}
use Rattle.kern_model.specs.declared.calls.Errno.TheVariants as errno
use Rattle.kern_model.specs.declared.calls.Reply.TheVariants as reply
use Rattle.kern_model.specs.declared.numbers.Pid.{Pid}
use Rattle.kern_model.specs.declared.records.Outcome as reported
use Rattle.kern_model.specs.Names.{name_of}
use Rattle.kern_model.specs.Row.{CheckOutcome, Stopped, Refused, Done, check_outcome}
use Rattle.kern_model.specs.State.{State, Process}
use Rattle.kern_model.specs.Step.{IsPlayed, step, step_by, step_result}
use Rattle.kern_model.specs.Table.{row}
use Rattle.chk_rules.specs.CheckLog.{CheckLog, check_log, judge_from}
use Rattle.chk_rules.specs.RowSteps.{EndsBy}
use Rattle.chk_rules.specs.declared.stop.Stop.{Stop}
use Rattle.chk_rules.specs.declared.stop.Stop.TheVariants as stop
use Rattle.sys_lookup.specs.declared.effect.Effect.{Effect}
use Rattle.sys_lookup.specs.PlaysRow.{PlaysRow, Keeps}
use Rattle.kern_core.specs.Reports.{OutcomeOf}

module _ (s : State) (who : Pid) (c : Call) where
  -- the step where no living process has the number
  pub no_process : map.get s.procs who ≡ None → step s who c ≡ record { state = s; reply = reply.Refused errno.ESRCH; recs = [] }
  unfolding step
  no_process none = ap (step_by s who c) none

  module _ (p : Process) (is : map.get s.procs who ≡ Some p) where
    -- before the first check
    abbrev asked : CheckLog
    asked = check_log who p.label p.caps.e

    -- the step by how the row ends
    ended : (j : CheckOutcome) → judge_from asked (row s who p c) ≡ j → step s who c ≡ step_result s who p (name_of c) j
    unfolding step
    ended j ends = ap (step_by s who c) is ∙ ap (step_result s who p (name_of c)) ends

    -- the step by how the body played the row
    pub is_played : (t : State) (after : CheckLog) (r : Result Effect Stop) → PlaysRow s asked (row s who p c) r t after → (o : reported.Outcome) → OutcomeOf after who p.audited (name_of c) r o → IsPlayed s who c o t
    unfolding Keeps EndsBy
    is_played t after (Ok effect) plays o reports =
        ended (check_outcome after.used (Done plays.completes.changes effect.answer effect.own)) plays.completes.ends
        ∙ (λ i. record { state = sym plays.completes.state i; reply = sym reports.reply i; recs = sym reports.recs i })
    is_played t after (Err (stop.Denied name place)) plays o reports =
        ended (check_outcome after.used (Stopped name place)) plays.ends ∙ (λ i. record { state = sym plays.keeps i; reply = sym reports.reply i; recs = sym reports.recs i })
    is_played t after (Err (stop.Refused n)) plays o reports =
        ended (check_outcome after.used (Refused n)) plays.ends ∙ (λ i. record { state = sym plays.keeps i; reply = sym reports.reply i; recs = (append-nil after.used ∙ sym reports.recs) i })
    is_played t after (Err (stop.NoMemory m)) plays o reports = absurd reports
