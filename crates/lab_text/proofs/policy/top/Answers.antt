use Rattle.std.proofs.Common.{◌≡◌, ◌-◌, ◌≤◌, ℕ, length, ap, subst, arith, Option}
use Rattle.std.specs.Prelude.{IfSome}
use Rattle.lab_text.specs.Names.{Names}
use Rattle.lab_text.specs.declared.lists.NameList.TheVariants.{Levels, Categories}
use Rattle.lab_text.proofs.PolicyFacts.{policy_facts, some_level}
use Rattle.lab_text.proofs.PolicyLemmas.{is_top}
use Rattle.lab_text.proofs.policy.top.Goals as goal

pub overflow_sub-highest : goal.overflow_sub-highest
overflow_sub-highest c = let some = some_level c.args.policy.now c.levels.ensures.policy in let count = ap (λ (names : Names). length names) c.levels.ensures.names in omega arith

pub overflow_cast-highest : goal.overflow_cast-highest
overflow_cast-highest c = let few : length c.args.policy.now.levels ≤ 16 = (policy_facts c.args.policy.now c.levels.ensures.policy Levels).few in let count = ap (λ (names : Names). length names) c.levels.ensures.names in omega arith

pub unwrap-requires : goal.unwrap-requires
unwrap-requires c =
    let few : length c.args.policy.now.levels ≤ 16 = (policy_facts c.args.policy.now c.levels.ensures.policy Levels).few in
    let count = ap (λ (names : Names). length names) c.levels.ensures.names in
    c.new.ensures.some.1 (omega arith)

pub overflow_cast-cats : goal.overflow_cast-cats
overflow_cast-cats c = let few : length c.args.policy.now.cats ≤ 64 = (policy_facts c.args.policy.now c.levels.ensures.policy Categories).few in let count = ap (λ (names : Names). length names) c.cats.ensures.names in omega arith

pub cats_below-requires : goal.cats_below-requires
cats_below-requires c = let few : length c.args.policy.now.cats ≤ 64 = (policy_facts c.args.policy.now c.levels.ensures.policy Categories).few in let count = ap (λ (names : Names). length names) c.cats.ensures.names in omega arith

pub returns : goal.returns
returns c =
    let level = subst (λ (r : Option ℕ). IfSome r (λ level. level ≡ length c.levels.result.now - 1)) c.unwrap.ensures c.new.ensures.level in
    is_top c.args.policy.now c.unwrap.result c.cats_below.result c.lowest_grade.result (length c.levels.result.now) (length c.cats.result.now)
    level (ap (λ (names : Names). length names) c.levels.ensures.names) c.cats_below.ensures (ap (λ (names : Names). length names) c.cats.ensures.names) c.lowest_grade.ensures
