use Rattle.std.specs.Prelude.{◌≡◌, ◌==◌, ◌&&◌, not, ℕ, false}
use Rattle.std.proofs.Common.{ap, sym, ◌∙◌}
use Rattle.kern_model.specs.declared.numbers.Oid.{Oid}
use Rattle.kern_model.specs.Entries.{is_held, is_removed}
use Rattle.kern_model.specs.Keys.{Spot, same_oid}
use Rattle.kern_model.specs.State.{root}
use Rattle.fs_dirs.specs.Entries.{entries_alone}
use Rattle.fs_dirs.specs.Tree.{TreeView, state_of_tree}
use Rattle.fs_dirs.proofs.CountLemmas.{no_entry-count}
use Rattle.fs_dirs.proofs.tree.Tree.is_removed.Goals as goal

pub returns : goal.returns
returns c =
    let other : same_oid c.args.dir.now root ≡ false = sym (c.is_same.ensures ∙ ap (same_oid c.args.dir.now) c.root_directory.ensures) ∙ c.if-is_same.false in
    ap (λ (n : ℕ). n == 0) c.name_count.ensures ∙ sym (no_entry-count (λ (spot : Spot) (at : Oid). same_oid at c.args.dir.now) c.self.inside.entries)
    ∙ ap (λ b. not b && not (is_held (entries_alone c.self.inside.entries) c.args.dir.now)) (sym other)
    ∙ ap (λ (t : TreeView). is_removed (state_of_tree t) c.args.dir.now) c.self.view_is
