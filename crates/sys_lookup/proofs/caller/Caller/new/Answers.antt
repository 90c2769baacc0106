use Rattle.std.proofs.Common.{◌≡◌, IsSome, false, subst, true}
use Rattle.sys_lookup.proofs.caller.Caller.new.Goals as goal

pub unreachable-requires : goal.unreachable-requires
unreachable-requires c = let no : false ≡ true = subst IsSome c.in_default.ensures c.requires in cc
