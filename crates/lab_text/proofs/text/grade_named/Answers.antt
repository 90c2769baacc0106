use Rattle.std.proofs.Common.{◌≡◌, List, ℕ, Option, Bor, Some, sym, subst}
use Rattle.std.specs.Prelude.{IfErr}
use Rattle.std.specs.Option.{option_copied, option_map, option_to_list}
use Rattle.lab_text.specs.Text.{first_unknown}
use Rattle.lab_text.specs.declared.text.LabelError.TheVariants as error
use Rattle.lab_text.proofs.LabelLemmas.{grade_missing}
use Rattle.lab_text.proofs.text.grade_named.Goals as goal

pub returns-clause-unknown : goal.returns-clause-unknown
returns-clause-unknown c =
    subst (λ (name : Option (Bor (List ℕ))). IfErr c.ok_or.result (λ e. option_map error.UnknownGrade (first_unknown c.args.policy.now.grades c.args.at (option_to_list (option_copied name))) ≡ Some e)) (sym c.in-Some.is)
    (grade_missing c.args.policy.now.grades c.args.at c.in-Some.name.now c.grade_named.result c.ok_or.result c.grade_named.ensures c.ok_or.ensures.value)
