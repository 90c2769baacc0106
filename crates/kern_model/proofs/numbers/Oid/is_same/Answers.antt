use Rattle.std.proofs.Common.{◌≡◌, ◌==◌, ◌&&◌, Bool, true, false, sym, ap, ◌∙◌, arith}
use Rattle.std.proofs.lemmas.Bool.Decides.{nat_tests}
use Rattle.lab_lattice.specs.Label.{Label, dominates}
use Rattle.kern_model.proofs.KeyLaws.{oid_equal}
use Rattle.kern_model.proofs.numbers.Oid.is_same.Goals as goal

abbrev dominate_each_other : Label → Label → Bool
dominate_each_other a b = dominates a b && dominates b a

pub returns-then-self-other : goal.returns-then-self-other
returns-then-self-other c =
    let a = c.args.self.now in
    let b = c.args.other.now in
    let count : (a.n == b.n) ≡ true = grind (arith, nat_tests) in
    c.equal.ensures ∙ ap (λ t. t && dominate_each_other a.label b.label) (sym count) ∙ oid_equal a b

pub returns-else-self-other : goal.returns-else-self-other
returns-else-self-other c =
    let a = c.args.self.now in
    let b = c.args.other.now in
    let count : (a.n == b.n) ≡ false = grind (arith, nat_tests) in
    count ∙ ap (λ t. t && dominate_each_other a.label b.label) (sym count) ∙ oid_equal a b
