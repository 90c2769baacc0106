use Rattle.kern_model.specs.Keys.{spot_cmp}
use Rattle.kern_model.specs.declared.numbers.Oid.{Oid}
use Rattle.std.specs.FinMap.{FinMap}
use Rattle.std.proofs.Common.{ap, sym, ◌∙◌}
use Rattle.kern_model.specs.Entries.{entry_count}
use Rattle.fs_dirs.specs.Entries.{entries_alone}
use Rattle.fs_dirs.proofs.DirLemmas.{entry_count-entries_of}
use Rattle.fs_dirs.proofs.entries.Entries.len.Goals as goal

pub returns : goal.returns
returns c = c.len.ensures ∙ sym (entry_count-entries_of c.self.inside.dirs c.args.dir.now) ∙ ap (λ (t : FinMap spot_cmp Oid). entry_count (entries_alone t) c.args.dir.now) c.self.view_is
