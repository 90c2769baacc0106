use Rattle.std.proofs.Common.{ap, sym, ◌∙◌}
use Rattle.std.specs.FinMap as map
use Rattle.std.specs.FinMap.{len-empty}
use Rattle.kern_model.specs.declared.numbers.Oid.{Oid}
use Rattle.fs_dirs.specs.Directory.{name_cmp}
use Rattle.fs_dirs.proofs.DirLemmas.{directory_is}
use Rattle.fs_dirs.proofs.dirs.Dirs.len.Goals as goal

pub returns-in-Some : goal.returns-in-Some
returns-in-Some c = c.len.ensures ∙ ap map.len (directory_is c.directory.result c.in-Some.is c.directory.ensures)

pub returns-in-None : goal.returns-in-None
returns-in-None c = sym (ap map.len (sym (directory_is c.directory.result c.in-None.is c.directory.ensures)) ∙ len-empty name_cmp Oid)
