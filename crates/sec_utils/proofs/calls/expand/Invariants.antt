use Rattle.std.proofs.Common.{◌≡◌, take}
use Rattle.std.specs.Prelude.{filter_map}
use Rattle.sec_utils.specs.Calls.{call_on}
use Rattle.sec_utils.proofs.calls.expand.Given as goal

-- the calls for the paths so far
abbrev pub invariant-loop-path : goal.invariant-loop-path
invariant-loop-path l = l.calls ≡ filter_map (call_on l.fn.util) (take l.path-index l.fn.util.paths)
