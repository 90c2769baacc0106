use Rattle.kern_model.specs.Keys.{spot_cmp}
use Rattle.kern_model.specs.declared.numbers.Oid.{Oid}
use Rattle.std.specs.FinMap.{FinMap}
use Rattle.std.proofs.Common.{ap, sym, ◌∙◌, slice_get}
use Rattle.fs_dirs.specs.Entries.{entries_alone, objects_in}
use Rattle.fs_dirs.proofs.DirLemmas.{objects_in-entries_of}
use Rattle.fs_dirs.proofs.entries.Entries.object_at.Goals as goal

pub returns : goal.returns
returns c =
    c.object_at.ensures ∙ ap (λ ids. slice_get ids c.args.place) (sym (objects_in-entries_of c.self.inside.dirs c.args.dir.now))
    ∙ ap (λ (t : FinMap spot_cmp Oid). slice_get (objects_in (entries_alone t) c.args.dir.now) c.args.place) c.self.view_is
