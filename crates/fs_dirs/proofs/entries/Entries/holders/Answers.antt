use Rattle.std.proofs.Common.{ap, ◌∙◌}
use Rattle.std.specs.Prelude.{List}
use Rattle.std.specs.FinMap.{FinMap}
use Rattle.kern_model.specs.declared.numbers.Oid.{Oid}
use Rattle.kern_model.specs.Keys.{spot_cmp}
use Rattle.fs_dirs.specs.declared.links.Holder.{Holder}
use Rattle.fs_dirs.specs.Entries.{count_in, names_where}
use Rattle.fs_dirs.proofs.entries.Entries.holders.Goals as goal

pub returns : goal.returns
returns c test =
    ap (λ (hs : List Holder). names_where test hs) c.holders.ensures ∙ c.self.invariant.holders_are c.args.id.now test ∙ ap (λ (m : FinMap spot_cmp Oid). count_in m c.args.id.now test) c.self.view_is
