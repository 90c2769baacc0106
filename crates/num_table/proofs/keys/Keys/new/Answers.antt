use Rattle.std.proofs.Common.{ap, ◌∙◌}
use Rattle.kern_model.specs.LabelLists.{items_in}
use Rattle.kern_model.proofs.ListItems.{items_in-empty}
use Rattle.num_table.proofs.keys.Keys.new.Goals as goal

pub returns : goal.returns
returns c = ap items_in c.new.ensures ∙ items_in-empty
