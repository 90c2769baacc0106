-- The exit status of the program.
use Rattle.std.specs.Prelude.{ℕ, Bool, true, false}
use Rattle.labsys.specs.declared.status.Status.{Status}
use Rattle.labsys.specs.declared.status.Status.TheVariants.{Done, Usage, Refused, ReadFault, WriteFault, TrailFault, NoMemory, TooLong}

-- the number of a status
abbrev pub exit_code : Status → ℕ
exit_code Done = 0
exit_code Usage = 1
exit_code Refused = 2
exit_code ReadFault = 3
exit_code WriteFault = 4
exit_code TrailFault = 5
exit_code NoMemory = 6
exit_code TooLong = 7

-- whether the last line of the output reports the status
abbrev pub is_reported : Status → Bool
is_reported Done = true
is_reported Refused = true
is_reported TooLong = true
is_reported _ = false
