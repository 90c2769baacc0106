use Rattle.std.specs.Prelude.{◌==◌, ℕ}
use Rattle.std.proofs.Common.{ap, sym, ◌∙◌}
use Rattle.kern_model.specs.declared.numbers.Oid.{Oid}
use Rattle.kern_model.specs.Entries.{is_empty}
use Rattle.kern_model.specs.Keys.{Spot, same_oid}
use Rattle.fs_dirs.specs.Tree.{TreeView, state_of_tree}
use Rattle.fs_dirs.proofs.CountLemmas.{no_entry-count}
use Rattle.fs_dirs.proofs.tree.Tree.is_empty.Goals as goal

pub returns : goal.returns
returns c =
    ap (λ (n : ℕ). n == 0) c.len.ensures ∙ sym (no_entry-count (λ (spot : Spot) (id : Oid). same_oid spot.0 c.args.dir.now) c.self.inside.entries)
    ∙ ap (λ (t : TreeView). is_empty (state_of_tree t) c.args.dir.now) c.self.view_is
