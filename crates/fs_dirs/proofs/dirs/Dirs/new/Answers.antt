use Rattle.std.proofs.Common.{ap, ◌∙◌}
use Rattle.fs_dirs.specs.Entries.{dirs_in}
use Rattle.fs_dirs.proofs.DirLemmas.{dirs_in-empty}
use Rattle.fs_dirs.proofs.dirs.Dirs.new.Goals as goal

pub returns : goal.returns
returns c = ap dirs_in c.new.ensures ∙ dirs_in-empty
