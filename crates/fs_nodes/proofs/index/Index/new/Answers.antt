use Rattle.std.proofs.Common.{ap, ◌∙◌}
use Rattle.fs_nodes.specs.Keys.{keys_in, numbers_in}
use Rattle.fs_nodes.proofs.Keys.{keys_in-empty, numbers_in-empty}
use Rattle.fs_nodes.proofs.index.Index.new.Goals as goal

pub returns-clause-keys : goal.returns-clause-keys
returns-clause-keys c = ap keys_in c.new.ensures ∙ keys_in-empty

pub returns-clause-numbers : goal.returns-clause-numbers
returns-clause-numbers c = ap numbers_in c.new.ensures ∙ numbers_in-empty
