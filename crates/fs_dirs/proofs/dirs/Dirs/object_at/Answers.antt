use Rattle.std.proofs.Common.{ap, sym, ◌∙◌, slice_get}
use Rattle.std.specs.FinMap as map
use Rattle.fs_dirs.specs.Entries.{Contents}
use Rattle.fs_dirs.proofs.DirLemmas.{directory_is, no_objects}
use Rattle.fs_dirs.proofs.dirs.Dirs.object_at.Goals as goal

pub returns-in-Some : goal.returns-in-Some
returns-in-Some c = c.object_at.ensures ∙ ap (λ (m : Contents). slice_get (map.values m) c.args.place) (directory_is c.directory.result c.in-Some.is c.directory.ensures)

pub returns-in-None : goal.returns-in-None
returns-in-None c =
    sym (ap (λ (m : Contents). slice_get (map.values m) c.args.place) (sym (directory_is c.directory.result c.in-None.is c.directory.ensures)) ∙ ap (λ ids. slice_get ids c.args.place) no_objects)
