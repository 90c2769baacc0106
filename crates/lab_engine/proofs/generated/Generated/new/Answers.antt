use Rattle.std.proofs.Common.{arith, refl, subst, sym}
use Rattle.gen_world.proofs.TextLaws.{pieces_joined}
use Rattle.lab_engine.specs.Generated.{NoneEmpty}
use Rattle.lab_engine.proofs.PieceLemmas.{pieces_some}
use Rattle.lab_engine.proofs.generated.Generated.new.Goals as goal

pub invariant_of-result : goal.invariant_of-result
invariant_of-result c = (omega arith, subst NoneEmpty (sym c.new.ensures) (pieces_some c.args.n))

pub returns : goal.returns
returns c = rw (c.new-2.ensures.items, c.new.ensures, pieces_joined c.args.n) refl
