use Rattle.std.specs.Prelude.{None, Some}
use Rattle.std.proofs.Common.{ap, sym, ◌∙◌}
use Rattle.kern_model.specs.LabelLists.{items_in}
use Rattle.num_table.proofs.Lists.{absent_in, cleared_in, get_in}
use Rattle.num_table.proofs.Outcomes.{at_some}
use Rattle.num_table.proofs.keys.Keys.remove.Goals as goal

pub returns-in_err-get_mut-clause-removed : goal.returns-in_err-get_mut-clause-removed
returns-in_err-get_mut-clause-removed c = c.from_residual.ensures ∙ sym (get_in c.self.inside.by_label c.args.label.now None c.in_err-get_mut.ensures.value c.args.self.now c.self.view_is c.args.n)

pub returns-in_err-get_mut-clause-left : goal.returns-in_err-get_mut-clause-left
returns-in_err-get_mut-clause-left c =
    ap items_in c.get_mut.follows.holds-at-none ∙ c.self.view_is
    ∙ absent_in c.self.inside.by_label c.args.label.now c.in_err-get_mut.ensures.value c.args.self.now c.self.view_is c.args.n

pub returns-clause-removed : goal.returns-clause-removed
returns-clause-removed c = c.remove.ensures.removed ∙ sym (get_in c.self.inside.by_label c.args.label.now (Some c.in_ok-get_mut.field-0.now) c.in_ok-get_mut.ensures.value c.args.self.now c.self.view_is c.args.n)

pub returns-clause-left : goal.returns-clause-left
returns-clause-left c =
    let is = c.in_ok-get_mut.ensures.value in
    let list = c.remove.new.self in
    cleared_in c.self.inside.by_label c.args.label.now (Some c.in_ok-get_mut.field-0.now) is c.args.self.now c.self.view_is c.args.n
    (c.get_mut.follows.lender list) list (at_some c.in_ok-get_mut.was (c.get_mut.follows.holds list)) c.remove.ensures.left
