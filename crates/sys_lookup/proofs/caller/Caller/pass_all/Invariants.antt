use Rattle.sys_lookup.proofs.PassLemmas.{HasPassed}
use Rattle.sys_lookup.specs.Walks.{place_in}
use Rattle.sys_lookup.proofs.caller.Caller.pass_all.Given as goal

abbrev pub invariant-loop-passed : goal.invariant-loop-passed
invariant-loop-passed l = HasPassed l.self.state l.self.process (place_in l.which) l.fn.start l.names l.initial.checks l.passed l.dir l.checks
