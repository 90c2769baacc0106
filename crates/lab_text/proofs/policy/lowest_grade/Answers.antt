use Rattle.std.proofs.Common.{◌≤◌, length, ap, sym, ◌∙◌, arith}
use Rattle.std.proofs.lemmas.Bool.{eqb-true}
use Rattle.lab_text.specs.Names.{Names}
use Rattle.lab_text.specs.declared.lists.NameList.TheVariants.{Grades}
use Rattle.lab_text.proofs.PolicyFacts.{policy_facts}
use Rattle.lab_text.proofs.PolicyLemmas.{no_grades}
use Rattle.lab_text.proofs.policy.lowest_grade.Goals as goal

pub returns-then-is_empty : goal.returns-then-is_empty
returns-then-is_empty c =
    c.highest.ensures
    ∙ no_grades c.args.policy.now.grades (ap (λ (names : Names). length names) (sym c.grades-names.ensures.names) ∙ eqb-true (length c.grades-names.result.now) 0 (sym c.is_empty.ensures ∙ c.if-is_empty.true))

pub overflow_sub-names : goal.overflow_sub-names
overflow_sub-names c =
    let few : length c.args.policy.now.grades ≤ 16 = (policy_facts c.args.policy.now c.grades-names.ensures.policy Grades).few in
    let count = ap (λ (names : Names). length names) c.grades-names.ensures.names in
    omega arith
