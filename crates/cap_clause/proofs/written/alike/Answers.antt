use Rattle.std.proofs.Common.{Bool, true, false, ◌≡◌, refl, ap, ◌∙◌, sym}
use Rattle.std.specs.Prelude.{not, ◌&&◌}
use Rattle.std.specs.Bool.{beq}
use Rattle.cap_bits.specs.CapSet.{has, all_of_caps, minus_of}
use Rattle.cap_bits.proofs.CapSets.{has-minus_of}
use Rattle.cap_bits.specs.Laws.{has-all_of_caps}
use Rattle.cap_clause.proofs.written.alike.Goals as goal

unlike : (a b : Bool) → a ≡ false → (true && not b) ≡ beq a b
unlike true b e = cc
unlike false true e = refl
unlike false false e = refl

pub returns-else-has : goal.returns-else-has
returns-else-has c = λ q.
    ap (λ caps. has caps q) (c.minus.ensures ∙ ap (λ all. minus_of all c.args.set) c.all.ensures)
    ∙ has-minus_of all_of_caps c.args.set q ∙ ap (λ v. v && not (has c.args.set q)) (has-all_of_caps q) ∙ unlike (has c.args.set c.args.cap) (has c.args.set q) (sym c.has.ensures ∙ c.if-has.false)
