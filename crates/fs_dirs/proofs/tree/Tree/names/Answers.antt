use Rattle.std.specs.Prelude.{◌≡◌, IfOk, List}
use Rattle.std.proofs.Common.{ap, subst}
use Rattle.fs_path.specs.Name.{Name}
use Rattle.fs_dirs.specs.Entries.{entries_alone}
use Rattle.fs_dirs.specs.Tree.{TreeView, state_of_tree}
use Rattle.fs_dirs.proofs.SameEntries.{names_in-same}
use Rattle.fs_dirs.proofs.tree.Tree.names.Goals as goal

pub returns : goal.returns
returns c =
    let same = names_in-same (entries_alone c.self.inside.entries) (state_of_tree c.args.self.now) (ap (λ (t : TreeView). t.entries) c.self.view_is) c.args.dir.now in
    subst (λ (ns : List Name). IfOk c.names.result (λ names. names ≡ ns)) same c.names.ensures
