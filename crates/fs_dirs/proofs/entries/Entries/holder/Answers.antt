use Rattle.std.specs.Prelude.{◌≤◌, List}
use Rattle.std.proofs.Common.{ap, sym, ◌∙◌, subst}
use Rattle.std.specs.FinMap.{FinMap}
use Rattle.kern_model.specs.declared.numbers.Oid.{Oid}
use Rattle.kern_model.specs.Entries.{holder}
use Rattle.kern_model.specs.Keys.{spot_cmp}
use Rattle.fs_dirs.specs.declared.links.Holder.{Holder}
use Rattle.fs_dirs.specs.Entries.{entries_alone, entries_of, name_count, names_where}
use Rattle.fs_dirs.proofs.LinkLemmas.{holder_first}
use Rattle.fs_dirs.proofs.entries.Entries.holder.Goals as goal

pub returns : goal.returns
returns c =
    let entries = entries_of c.self.inside.dirs in
    let id = c.args.id.now in
    holder_first entries id c.holders.result.now (λ test. ap (λ (hs : List Holder). names_where test hs) c.holders.ensures ∙ c.self.invariant.holders_are id test)
    (subst (λ (m : FinMap spot_cmp Oid). name_count m id ≤ 1) (sym c.self.view_is) c.requires) c.first_dir.result c.first_dir.ensures
    ∙ ap (λ (m : FinMap spot_cmp Oid). holder (entries_alone m) id) c.self.view_is
