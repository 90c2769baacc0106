use Rattle.std.proofs.Common.{ap, ◌∙◌}
use Rattle.std.specs.FinMap.{FinMap}
use Rattle.kern_model.specs.declared.numbers.Oid.{Oid}
use Rattle.kern_model.specs.Keys.{spot_cmp}
use Rattle.fs_dirs.specs.Entries.{entries_of, holders_at, name_count}
use Rattle.fs_dirs.proofs.LinkLemmas.{holder_count}
use Rattle.fs_dirs.proofs.entries.Entries.name_count.Goals as goal

pub returns : goal.returns
returns c =
    let id = c.args.id.now in
    c.count.ensures ∙ holder_count (entries_of c.self.inside.dirs) id (holders_at c.self.inside.names id) (c.self.invariant.holders_are id)
    ∙ ap (λ (m : FinMap spot_cmp Oid). name_count m id) c.self.view_is
