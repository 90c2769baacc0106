use Rattle.std.proofs.Common.{◌≡◌, ◌++◌, take}
use Rattle.std.specs.List.{flat_map}
use Rattle.lab_text.specs.Lists.{all_lists}
use Rattle.line_text.specs.Words.{list_text}
use Rattle.line_text.proofs.writer.LineWriter.name_lists.Given as goal

abbrev pub invariant-loop-list : goal.invariant-loop-list
invariant-loop-list l = l.self ≡ l.fn.self ++ flat_map (list_text l.policy) (take l.list-index all_lists)
