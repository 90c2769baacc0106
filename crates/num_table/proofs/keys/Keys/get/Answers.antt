use Rattle.std.specs.Prelude.{None, Some}
use Rattle.std.proofs.Common.{sym, ◌∙◌}
use Rattle.num_table.proofs.Lists.{get_in}
use Rattle.num_table.proofs.keys.Keys.get.Goals as goal

pub returns-in_err-get : goal.returns-in_err-get
returns-in_err-get c = c.from_residual.ensures ∙ sym (get_in c.self.inside.by_label c.args.label.now None c.in_err-get.ensures c.args.self.now c.self.view_is c.args.n)

pub returns : goal.returns
returns c = c.get-2.ensures ∙ sym (get_in c.self.inside.by_label c.args.label.now (Some c.in_ok-get.field-0.now) c.in_ok-get.ensures c.args.self.now c.self.view_is c.args.n)
