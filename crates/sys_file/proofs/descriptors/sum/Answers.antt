use Rattle.std.proofs.Common.{◌≡◌, ◌∙◌, ◌+ℤ◌, sym, subst, rules, pos, w64, to_z, of_z, FitsSigned}
use Rattle.std.proofs.lemmas.Int.{to_z-of_z}
use Rattle.sys_file.proofs.SumLemmas.{given, not_given, past_all}
use Rattle.sys_file.proofs.descriptors.sum.Goals as goal

pub returns-clause-some : goal.returns-clause-some
returns-clause-some c = λ z is.
    let base : to_z w64 (of_z w64 c.from.result) ≡ pos c.args.base = to_z-of_z w64 c.from.result (search rules) ∙ c.from.ensures in
    let offset : to_z w64 (of_z w64 c.args.offset) ≡ c.args.offset = to_z-of_z w64 c.args.offset (search rules) in
    given (FitsSigned w64 (to_z w64 (of_z w64 c.from.result) +ℤ to_z w64 (of_z w64 c.args.offset))) c.checked_add.result (to_z w64 (of_z w64 c.from.result) +ℤ to_z w64 (of_z w64 c.args.offset)) z c.checked_add.ensures is ∙ (λ i. base i +ℤ offset i)

pub returns-clause-none : goal.returns-clause-none
returns-clause-none c = λ size few is.
    let base : to_z w64 (of_z w64 c.from.result) ≡ pos c.args.base = to_z-of_z w64 c.from.result (search rules) ∙ c.from.ensures in
    let offset : to_z w64 (of_z w64 c.args.offset) ≡ c.args.offset = to_z-of_z w64 c.args.offset (search rules) in
    let sum : (to_z w64 (of_z w64 c.from.result) +ℤ to_z w64 (of_z w64 c.args.offset)) ≡ (pos c.args.base +ℤ c.args.offset) = (λ i. base i +ℤ offset i) in
    past_all (pos c.args.base +ℤ c.args.offset) size few
    (λ fits. not_given (FitsSigned w64 (to_z w64 (of_z w64 c.from.result) +ℤ to_z w64 (of_z w64 c.args.offset))) c.checked_add.result (to_z w64 (of_z w64 c.from.result) +ℤ to_z w64 (of_z w64 c.args.offset)) c.checked_add.ensures is (subst (FitsSigned w64) (sym sum) fits))
