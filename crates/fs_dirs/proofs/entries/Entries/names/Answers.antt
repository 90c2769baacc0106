use Rattle.kern_model.specs.Keys.{spot_cmp}
use Rattle.kern_model.specs.declared.numbers.Oid.{Oid}
use Rattle.std.specs.FinMap.{FinMap}
use Rattle.std.proofs.Common.{ap, sym, ◌∙◌, subst}
use Rattle.std.specs.Prelude.{◌≡◌, IfOk, List}
use Rattle.fs_path.specs.Name.{Name}
use Rattle.kern_model.specs.Entries.{names_in}
use Rattle.fs_dirs.specs.Entries.{entries_alone}
use Rattle.fs_dirs.proofs.DirLemmas.{names_in-entries_of}
use Rattle.fs_dirs.proofs.entries.Entries.names.Goals as goal

pub returns : goal.returns
returns c =
    let same = sym (names_in-entries_of c.self.inside.dirs c.args.dir.now) ∙ ap (λ (t : FinMap spot_cmp Oid). names_in (entries_alone t) c.args.dir.now) c.self.view_is in
    subst (λ (ns : List Name). IfOk c.names.result (λ names. names ≡ ns)) same c.names.ensures
