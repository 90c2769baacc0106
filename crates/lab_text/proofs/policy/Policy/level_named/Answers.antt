use Rattle.std.proofs.Common.{ap, sym, ◌∙◌, arith}
use Rattle.lab_text.specs.Names.{Names, place_of}
use Rattle.lab_text.proofs.PolicyLemmas.{level_low, answered, if_some}
use Rattle.lab_text.proofs.PolicyFacts.{placed_name}
use Rattle.lab_text.proofs.policy.Policy.level_named.Goals as goal

pub overflow_cast-place : goal.overflow_cast-place
overflow_cast-place c =
    let placed = sym (c.place_of.ensures ∙ ap (λ (names : Names). place_of names c.args.name.now) c.levels.ensures.names) ∙ c.in_ok-place.was in
    let low = level_low c.args.self.now c.args.name.now c.in_ok-place.place c.levels.ensures.policy placed in
    omega arith

pub returns-clause-place : goal.returns-clause-place
returns-clause-place c =
    let placed = sym (c.place_of.ensures ∙ ap (λ (names : Names). place_of names c.args.name.now) c.levels.ensures.names) ∙ c.in_ok-place.was in
    let low = level_low c.args.self.now c.args.name.now c.in_ok-place.place c.levels.ensures.policy placed in
    answered c.new.result c.in_ok-place.place _ c.new.ensures.some c.new.ensures.level low ∙ sym placed

pub returns-clause-name : goal.returns-clause-name
returns-clause-name c =
    let placed = sym (c.place_of.ensures ∙ ap (λ (names : Names). place_of names c.args.name.now) c.levels.ensures.names) ∙ c.in_ok-place.was in
    if_some c.new.result (placed_name c.args.self.now c.args.name.now c.in_ok-place.place c.levels.ensures.policy placed)
