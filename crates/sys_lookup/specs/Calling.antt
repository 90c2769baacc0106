-- How a caller is kept.
use Rattle.kern_model.specs.State.{process_at}
use Rattle.sys_lookup.specs.Callers.{CallerView}
use Rattle.sys_lookup.specs.declared.caller.Caller.TheInside.{Inside}

-- the process that is kept has no descriptors: those are in the state
abbrev pub caller_of : Inside → CallerView
caller_of c = record { state = c.shared.now; who = c.who; process = record c.process.now { fds = (process_at c.shared.now c.who).fds } }
