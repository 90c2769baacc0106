-- Whose call is checked, and the exercises so far.
use Rattle.std.specs.Prelude.{List, []}
use Rattle.cap_bits.specs.CapSet.{CapSet}
use Rattle.lab_lattice.specs.Label.{Label}
use Rattle.kern_model.specs.declared.numbers.Pid.{Pid}
use Rattle.kern_model.specs.declared.checks.Check.{Check}
use Rattle.kern_model.specs.declared.checks.Verdict.{Verdict}
use Rattle.kern_model.specs.declared.records.Rec.{Rec}
use Rattle.kern_model.specs.Row.{Subject, Row, CheckOutcome, exercises_after, judge}

-- whose call is checked, and the exercises so far
pub record CheckLog : Type 0 where
  pub subject : Subject
  pub used : List Rec

-- the log before the first check of a call
abbrev pub check_log : Pid → Label → CapSet → CheckLog
check_log who label effective = record { subject = record { who = who; label = label; effective = effective }; used = [] }

-- the log after a check with this verdict
abbrev pub log_after : CheckLog → Check → Verdict → CheckLog
log_after log c v = record log { used = exercises_after log.subject c v log.used }

-- how a row ends from here
abbrev pub judge_from : CheckLog → Row → CheckOutcome
judge_from log r = judge log.subject log.used r
