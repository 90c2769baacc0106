use Rattle.std.specs.Prelude.{ℕ, List, None, Option, Some, get_or}
use Rattle.std.specs.Option.{option_copied_mut}
use Rattle.std.specs.FinMap as map
use Rattle.std.proofs.Common.{ap, sym, ◌∙◌, subst}
use Rattle.std.proofs.lemmas.Result.{on_err_weaker, on_ok_weaker}
use Rattle.kern_model.specs.LabelLists.{IsSet, Lists, items_in}
use Rattle.num_table.proofs.Lists.{same_in, set_in}
use Rattle.num_table.proofs.Outcomes.{at_some}
use Rattle.num_table.proofs.keys.Keys.set.Goals as goal

pub returns-in-Some-clause-ok : goal.returns-in-Some-clause-ok
returns-in-Some-clause-ok c =
    let is = sym (ap option_copied_mut c.in-Some.is) ∙ c.get_mut.ensures.value in
    let list = c.set.new.self in
    on_ok_weaker c.set.result
    (set_in c.self.inside.by_label c.args.label.now (Some c.in-Some.list.now) is c.args.self.now c.self.view_is c.args.n
    (c.get_mut.follows.lender list) list (at_some c.in-Some.is (c.get_mut.follows.holds list)) c.args.key)
    c.set.ensures.ok

pub returns-in-Some-clause-err : goal.returns-in-Some-clause-err
returns-in-Some-clause-err c =
    let is = sym (ap option_copied_mut c.in-Some.is) ∙ c.get_mut.ensures.value in
    let list = c.set.new.self in
    on_err_weaker c.set.result
    (λ same. same_in c.self.inside.by_label c.args.label.now (Some c.in-Some.list.now) is c.args.self.now c.self.view_is c.args.n
    (c.get_mut.follows.lender list) list (at_some c.in-Some.is (c.get_mut.follows.holds list)) (λ k. ap (λ (r : List (Option ℕ)). get_or r k None) same))
    c.set.ensures.err

pub returns-clause-ok : goal.returns-clause-ok
returns-clause-ok c =
    let is = sym (ap option_copied_mut c.in_default.is) ∙ c.get_mut.ensures.value in
    let same = c.get_mut.follows.holds-at-none in
    let label = c.args.label.now in
    let gone = is ∙ sym (ap (λ (lists : Lists (Option ℕ)). map.get lists label) same) in
    let list = c.set-2.new.self in
    set_in c.get_mut.follows.lender-at-none label None gone c.args.self.now (ap items_in same ∙ c.self.view_is) c.args.n c.insert.new.self list c.in_ok-insert.ensures.ok c.args.key
    (subst (λ (r : List (Option ℕ)). IsSet None r c.args.n (Some c.args.key) list) c.new-list.ensures c.in_ok-set.ensures.ok)
