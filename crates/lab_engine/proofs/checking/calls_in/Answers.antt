use Rattle.std.proofs.Common.{◌∙◌, ap, sym, length}
use Rattle.sec_utils.proofs.ItemLaws.{items_length}
use Rattle.lab_engine.specs.Input.{items_in}
use Rattle.lab_engine.proofs.checking.calls_in.Goals as goal

pub returns-in-Tool : goal.returns-in-Tool
returns-in-Tool c = ap length c.items.ensures ∙ sym (items_length c.in-Tool.util (c.requires c.in-Tool.util c.in-Tool.is)) ∙ sym (ap (λ l. length (items_in l)) c.in-Tool.is)
