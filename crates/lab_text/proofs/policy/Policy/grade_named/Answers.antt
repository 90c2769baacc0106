use Rattle.std.proofs.Common.{◌+◌, ◌-◌, ◌≤◌, length, ap, sym, ◌∙◌, arith}
use Rattle.std.specs.Option.{option_map}
use Rattle.lab_text.specs.Names.{Names, same_bytes, place_of}
use Rattle.lab_text.specs.Policy.{grade_at}
use Rattle.lab_text.specs.declared.lists.NameList.TheVariants.{Grades}
use Rattle.fs_path.proofs.SplitLemmas.{position_found}
use Rattle.lab_text.proofs.PolicyFacts.{policy_facts}
use Rattle.lab_text.proofs.PolicyLemmas.{graded}
use Rattle.lab_text.proofs.policy.Policy.grade_named.Goals as goal
use Rattle.lab_text.proofs.policy.Policy.grade_named.Goals.{In_ok-place}

few : (c : In_ok-place) → length c.grades-names.result.now ≤ 16
few c =
    let few : length c.args.self.now.grades ≤ 16 = (policy_facts c.args.self.now c.grades-names.ensures.policy Grades).few in
    let count = ap (λ (names : Names). length names) c.grades-names.ensures.names in
    omega arith

low : (c : In_ok-place) → 16 - length c.grades-names.result.now + c.in_ok-place.place ≤ 15
low c =
    let found = position_found (same_bytes c.args.name.now) c.grades-names.result.now c.in_ok-place.place (sym c.place_of.ensures ∙ c.in_ok-place.was) in
    let few = few c in
    omega arith

pub overflow_sub-names : goal.overflow_sub-names
overflow_sub-names c = few (goal.at.overflow_sub-names c).In_ok-place

pub overflow_cast-names : goal.overflow_cast-names
overflow_cast-names c = let low = low (goal.at.overflow_cast-names c).In_ok-place in omega arith

pub returns : goal.returns
returns c =
    graded c.new.result (16 - length c.grades-names.result.now + c.in_ok-place.place) c.new.ensures.some c.new.ensures.grade (low (goal.at.returns c).In_ok-place)
    ∙ ap (option_map (grade_at c.grades-names.result.now)) (sym c.in_ok-place.was ∙ c.place_of.ensures)
    ∙ ap (λ (names : Names). option_map (grade_at names) (place_of names c.args.name.now)) c.grades-names.ensures.names
