use Rattle.std.specs.FinMap as map
use Rattle.std.proofs.Common.{◌≡◌, subst}
use Rattle.fs_path.specs.Name.{Name}
use Rattle.fs_dirs.specs.Tree.{TreeView}
use Rattle.sys_tree.proofs.EntryLemmas.{entries_changed}
use Rattle.sys_tree.proofs.removing.drop_entry.Goals as goal

pub returns : goal.returns
returns c =
    let tree : TreeView = c.shared.inside.tree in
    entries_changed c.shared.inside c.shared.view_is (λ m. map.remove m (c.args.dir.now, c.args.name.now))
    (subst (λ (n : Name). c.remove.new.self ≡ record tree { entries = map.remove tree.entries (c.args.dir.now, n) }) c.name.ensures c.in-Ok.ensures.removed)
