use Rattle.std.proofs.Common.{◌≤◌, ◌++◌, length, ap, sym, ◌∙◌, arith}
use Rattle.std.proofs.lemmas.List.{append-nil}
use Rattle.lab_lattice.specs.Cats.{CatSet, cats_cover}
use Rattle.lab_text.specs.Names.{Names}
use Rattle.lab_text.specs.Text.{past_mark}
use Rattle.lab_text.specs.declared.lists.NameList.TheVariants.{Categories}
use Rattle.lab_text.proofs.PolicyFacts.{policy_facts}
use Rattle.lab_text.proofs.LabelLemmas.{all_written, none_written}
use Rattle.lab_text.proofs.text.put_cats.Goals as goal

pub returns-then-dominates : goal.returns-then-dominates
returns-then-dominates c =
    let empty = ap (λ (cats : CatSet). cats_cover cats c.args.cats.now) (sym c.empty.ensures) ∙ sym c.if-dominates.ensures in
    sym (append-nil c.args.text.now.items) ∙ ap (λ (cats : Names). c.args.text.now.items ++ past_mark 58 cats) (sym (none_written c.args.cats.now 0 c.args.policy.now.cats empty))

pub overflow_cast-place : goal.overflow_cast-place
overflow_cast-place c =
    let few : length c.args.policy.now.cats ≤ 64 = (policy_facts c.args.policy.now c.cats-name-items.ensures.policy Categories).few in
    let count = ap (λ (names : Names). length names) c.cats-name-items.ensures.names in
    omega arith

pub returns : goal.returns
returns c =
    let count = ap (λ (names : Names). length names) c.cats-name-items.ensures.names in
    all_written c.loop-place.text.items _ c.loop-place.mark c.loop-place.place c.args.cats.now c.args.policy.now.cats c.loop-place.invariant (omega arith)
