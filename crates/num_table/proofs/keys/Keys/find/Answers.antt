use Rattle.std.specs.Prelude.{None, Some, refl}
use Rattle.std.proofs.Common.{ap, sym, ◌∙◌}
use Rattle.kern_model.specs.LabelLists.{items_in}
use Rattle.num_table.proofs.Lists.{get_in, same_in}
use Rattle.num_table.proofs.Outcomes.{at_some}
use Rattle.num_table.proofs.keys.Keys.find.Goals as goal

pub returns-in_err-get_mut-clause-key : goal.returns-in_err-get_mut-clause-key
returns-in_err-get_mut-clause-key c = c.from_residual.ensures ∙ sym (get_in c.self.inside.by_label c.args.label.now None c.in_err-get_mut.ensures.value c.args.self.now c.self.view_is c.args.n)

pub returns-in_err-get_mut-clause-same : goal.returns-in_err-get_mut-clause-same
returns-in_err-get_mut-clause-same c = ap items_in c.get_mut.follows.holds-at-none ∙ c.self.view_is

pub returns-clause-key : goal.returns-clause-key
returns-clause-key c = c.get.ensures ∙ sym (get_in c.self.inside.by_label c.args.label.now (Some c.in_ok-get_mut.field-0.now) c.in_ok-get_mut.ensures.value c.args.self.now c.self.view_is c.args.n)

pub returns-clause-same : goal.returns-clause-same
returns-clause-same c =
    let is = c.in_ok-get_mut.ensures.value in
    let list = c.in_ok-get_mut.field-0.now in
    same_in c.self.inside.by_label c.args.label.now (Some list) is c.args.self.now c.self.view_is c.args.n
    (c.get_mut.follows.lender list) list (at_some c.in_ok-get_mut.was (c.get_mut.follows.holds list)) (λ k. refl)
