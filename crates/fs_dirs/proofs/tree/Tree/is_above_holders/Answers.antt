use Rattle.std.specs.Prelude.{◌≡◌, ◌&&◌, ◌==◌, not, Bool, List, None, Option, Some, refl}
use Rattle.std.proofs.Common.{ap, sym, ◌∙◌}
use Rattle.std.specs.List.{list_all}
use Rattle.std.specs.Option.{option_map}
use Rattle.std.specs.FinMap as map
use Rattle.std.specs.FinMap.{FinMap}
use Rattle.lab_lattice.specs.Label.{Label, dominates}
use Rattle.kern_model.specs.declared.numbers.Oid.{Oid}
use Rattle.kern_model.specs.Keys.{Spot, oid_cmp, same_oid}
use Rattle.kern_model.specs.Rules.{is_above_holders}
use Rattle.kern_model.specs.State.{State, object_at}
use Rattle.kern_model.proofs.MapLemmas.{never_some, some_same}
use Rattle.fs_dirs.specs.declared.links.Holder.{Holder}
use Rattle.fs_dirs.specs.Entries.{AreHolders, dir_of}
use Rattle.fs_dirs.specs.HolderLabels.{AreCounted, Counts, are_below, label_in, names_by_label}
use Rattle.fs_dirs.specs.Tree.{AreEntries, TreeView, state_of_tree}
use Rattle.fs_dirs.proofs.CountLemmas.{no_entry-count}
use Rattle.fs_dirs.proofs.LinkLemmas.{all_hold}
use Rattle.fs_dirs.proofs.TreeLemmas.{above_same}
use Rattle.fs_dirs.proofs.tree.Tree.is_above_holders.Goals as goal

module _ (v tree : TreeView) (view : v ≡ tree) (are : AreEntries v.nodes.table v.entries) (id : Oid) (label : Label) (s : State) (objects : s.objects ≡ tree.nodes.table.objects) (entries : s.entries ≡ tree.entries) where
  same_above : is_above_holders (state_of_tree v) id label ≡ is_above_holders s id label
  same_above = above_same s (state_of_tree v) id label v.nodes.table are (objects ∙ ap (λ (x : TreeView). x.nodes.table.objects) (sym view)) refl (entries ∙ ap (λ (x : TreeView). x.entries) (sym view))

  -- each directory is asked
  by_directories : (dirs : List Holder) → AreHolders v.entries id dirs → (b : Bool) → b ≡ list_all (λ (h : Holder). dominates label (object_at (state_of_tree tree) (dir_of h)).label) dirs → b ≡ is_above_holders s id label
  unfolding is_above_holders
  by_directories dirs hold b is =
      is ∙ ap (λ (x : TreeView). list_all (λ (h : Holder). dominates label (object_at (state_of_tree x) (dir_of h)).label) dirs) (sym view)
      ∙ all_hold v.entries id dirs hold (λ (d : Oid). dominates label (object_at (state_of_tree v) d).label)
      ∙ same_above

  -- each label is asked
  by_labels : (labels : FinMap oid_cmp Counts) → AreCounted labels (names_by_label v.nodes.table.objects v.entries) → (w : Option Counts) → map.get labels id ≡ w → (b : Bool) → Some b ≡ option_map (are_below label) w → b ≡ is_above_holders s id label
  unfolding is_above_holders
  by_labels labels counted None is b below = absurd (never_some None b refl (sym below))
  by_labels labels counted (Some counts) is b below =
      some_same b (are_below label counts) below
      ∙ ap (λ n. n == 0) (counted id counts is (λ (l : Label). not (dominates label l)))
      ∙ sym (no_entry-count (λ (spot : Spot) (at : Oid). same_oid at id && not (dominates label (label_in v.nodes.table.objects spot.0))) v.entries)
      ∙ same_above

pub returns-then-holders-lt-FEW : goal.returns-then-holders-lt-FEW
returns-then-holders-lt-FEW c s objects entries =
    by_directories (record { nodes = c.self.inside.nodes; entries = c.self.inside.entries }) c.args.self.now c.self.view_is c.self.invariant.are_entries c.args.id.now c.args.label.now s objects entries
    c.holders-holders.result.now c.holders-holders.ensures c.are_below.result c.are_below.ensures

pub returns-in-None : goal.returns-in-None
returns-in-None c s objects entries =
    by_directories (record { nodes = c.self.inside.nodes; entries = c.self.inside.entries }) c.args.self.now c.self.view_is c.self.invariant.are_entries c.args.id.now c.args.label.now s objects entries
    c.holders-holders.result.now c.holders-holders.ensures c.are_below-in-None.result c.are_below-in-None.ensures

pub returns-in-Some : goal.returns-in-Some
returns-in-Some c s objects entries =
    by_labels (record { nodes = c.self.inside.nodes; entries = c.self.inside.entries }) c.args.self.now c.self.view_is c.self.invariant.are_entries c.args.id.now c.args.label.now s objects entries
    c.self.inside.labels c.self.invariant.counted (map.get c.self.inside.labels c.args.id.now) refl c.in-Some.below (sym c.in-Some.is ∙ c.all_below.ensures)
