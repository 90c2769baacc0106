use Rattle.std.proofs.Common.{subst, ap, ◌∙◌, nat_lt, arith}
use Rattle.std.specs.Prelude.{IfSome, ◌≡◌, Option}
use Rattle.lab_lattice.specs.Cats.{CatSet, one_cat}
use Rattle.lab_text.proofs.PolicyLemmas.{none_below, more_below, all_below}
use Rattle.lab_text.proofs.policy.cats_below.Goals as goal

pub loop-i-init : goal.loop-i-init
loop-i-init c = λ q. none_below c.empty-cats.result q c.empty-cats.ensures

pub loop-i-preserved : goal.loop-i-preserved
loop-i-preserved c =
    let one = subst (λ (r : Option CatSet). IfSome r (λ cats. cats ≡ one_cat c.loop-i.i)) c.unwrap.ensures c.one.ensures.one in
    more_below c.loop-i.cats c.unwrap.result c.lub-cats.result c.loop-i.i c.loop-i.invariant one c.lub-cats.ensures

pub returns : goal.returns
returns c =
    let done : c.loop-i.i ≡ c.args.n = omega arith in
    all_below c.loop-i.cats c.args.n (λ q. c.loop-i.invariant q ∙ ap (nat_lt q) done)
