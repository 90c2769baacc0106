use Rattle.std.proofs.Common.{ap, sym, ◌∙◌, subst}
use Rattle.std.specs.Prelude.{◌≡◌, IfOk}
use Rattle.std.specs.FinMap as map
use Rattle.fs_dirs.specs.Entries.{Contents}
use Rattle.fs_dirs.proofs.DirLemmas.{directory_is, no_names}
use Rattle.fs_dirs.proofs.dirs.Dirs.names.Goals as goal

pub returns-in-Some : goal.returns-in-Some
returns-in-Some c = subst (λ (m : Contents). IfOk c.names.result (λ names. names ≡ map.keys m)) (directory_is c.directory.result c.in-Some.is c.directory.ensures) c.names.ensures

pub returns-in-None : goal.returns-in-None
returns-in-None c = c.new.ensures ∙ sym (ap (λ (m : Contents). map.keys m) (sym (directory_is c.directory.result c.in-None.is c.directory.ensures)) ∙ no_names)
