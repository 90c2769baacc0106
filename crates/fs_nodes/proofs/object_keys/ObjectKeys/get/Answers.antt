use Rattle.std.specs.Prelude.{◌≡◌, ◌+◌, slice_get}
use Rattle.std.proofs.Common.{◌∙◌, arith, rules}
use Rattle.std.proofs.lemmas.Grind.{common_steps}
use Rattle.std.proofs.lemmas.Option.{gets}
use Rattle.fs_nodes.proofs.Keys.{at_number}
use Rattle.fs_nodes.proofs.object_keys.ObjectKeys.get.Goals as goal

pub returns : goal.returns
returns c =
    let at : c.copied.result ≡ slice_get c.args.self.now c.in_ok-place.place = grind (arith, common_steps, gets) in
    let next : c.in_ok-place.place + 1 ≡ c.args.n = search rules in
    at ∙ at_number c.args.self.now c.in_ok-place.place c.args.n next
