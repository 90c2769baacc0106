use Rattle.std.specs.Option.{option_copied}
use Rattle.std.proofs.Common.{ap, ◌∙◌}
use Rattle.kern_model.proofs.NumberLaws.{num_cmp_exact, num_cmp_total}
use Rattle.num_table.proofs.Slots.{no_value, value_at}
use Rattle.num_table.proofs.table.Table.get.Goals as goal

pub returns-in_err-key : goal.returns-in_err-key
returns-in_err-key g c =
    ap option_copied c.from_residual.ensures
    ∙ no_value num_cmp_total num_cmp_exact c.self.inside.slots c.self.inside.keys c.args.self.now c.self.view_is (c.args.label.now, c.args.n) c.get.result c.get.ensures c.in_err-key.was

pub returns : goal.returns
returns g c =
    c.get-2.ensures
    ∙ value_at num_cmp_total num_cmp_exact c.self.inside.slots c.self.inside.keys c.args.self.now c.self.view_is (c.args.label.now, c.args.n) c.get.result c.get.ensures c.in_ok-key.key c.in_ok-key.was
