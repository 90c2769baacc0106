use Rattle.std.proofs.Common.{ap, sym, ◌∙◌, arith}
use Rattle.std.specs.Option.{option_map}
use Rattle.lab_lattice.specs.Cats.{one_cat}
use Rattle.lab_text.specs.Names.{Names, place_of}
use Rattle.lab_text.proofs.PolicyLemmas.{cat_low, answered}
use Rattle.lab_text.proofs.policy.Policy.cat_named.Goals as goal

pub overflow_cast-place : goal.overflow_cast-place
overflow_cast-place c =
    let placed = sym (c.place_of.ensures ∙ ap (λ (names : Names). place_of names c.args.name.now) c.cats.ensures.names) ∙ c.in_ok-place.was in
    let low = cat_low c.args.self.now c.args.name.now c.in_ok-place.place c.cats.ensures.policy placed in
    omega arith

pub returns : goal.returns
returns c =
    let placed = sym (c.place_of.ensures ∙ ap (λ (names : Names). place_of names c.args.name.now) c.cats.ensures.names) ∙ c.in_ok-place.was in
    let low = cat_low c.args.self.now c.args.name.now c.in_ok-place.place c.cats.ensures.policy placed in
    answered c.one.result (one_cat c.in_ok-place.place) _ c.one.ensures.some c.one.ensures.one low ∙ ap (option_map one_cat) (sym placed)
