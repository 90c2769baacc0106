use Rattle.std.proofs.Common.{ap, ◌∙◌}
use Rattle.fs_dirs.specs.Directory.{directory_of}
use Rattle.fs_dirs.proofs.Names.{none}
use Rattle.fs_dirs.proofs.directory.Directory.new.Goals as goal

pub returns : goal.returns
returns c = ap directory_of c.new.ensures ∙ none
