use Rattle.std.specs.Prelude.{◌≡◌, ◌-◌, suc, ℕ, Some, None, true, false, refl}
use Rattle.std.proofs.Common.{ap, sym, ◌∙◌, subst, arith}
use Rattle.std.specs.FinMap as map
use Rattle.std.specs.FinMap.{len-entries}
use Rattle.kern_model.specs.Entries.{holder, is_under, is_under_within}
use Rattle.kern_model.specs.Keys.{same_oid}
use Rattle.kern_model.specs.Valid.{IsDir}
use Rattle.fs_dirs.specs.Below.{IsUnderDue, LiesUnder}
use Rattle.fs_dirs.specs.Entries.{entries_alone}
use Rattle.fs_dirs.specs.Tree.{TreeView, state_of_tree}
use Rattle.fs_dirs.proofs.BelowLemmas.{none_due, under_lies}
use Rattle.fs_dirs.proofs.SameEntries.{holder-same}
use Rattle.fs_dirs.proofs.TreeLemmas.{dir_single, holder_dir, under_holder}
use Rattle.fs_dirs.proofs.tree.Tree.under.Goals as goal
use Rattle.fs_dirs.proofs.tree.Tree.under.Goals.{then-left-eq0-via-then-left-eq0, then-left-eq0-via-else-left-eq0+then-is_over}

pub up-init : goal.up-init
unfolding is_under
up-init c = record {
  is_dir = c.requires;
  same = sym (ap (λ (n : ℕ). is_under_within (state_of_tree c.args.self.now) n c.args.dir.now c.args.top.now) (c.total-left.ensures ∙ ap (λ (t : TreeView). map.len t.entries) c.self.view_is ∙ len-entries c.args.self.now.entries));
  other = λ apart. apart;
  due = λ apart under. subst (λ (t : TreeView). LiesUnder (entries_alone t.entries) c.args.dir.now c.args.top.now → IsUnderDue (entries_alone t.entries) c.new-below.result c.args.dir.now) c.self.view_is
      (λ lies. c.new-below.ensures c.args.dir.now lies apart) (under_lies (state_of_tree c.args.self.now) c.args.dir.now c.args.top.now under);
}

pub returns-then-left-eq0 : goal.returns-then-left-eq0
returns-then-left-eq0 c =
    let s = state_of_tree c.args.self.now in
    let other : same_oid c.up.current c.args.top.now ≡ false = sym c.is_same.ensures ∙ c.up-test.true in
    elim c.then-left-eq0.branch [
      | then-left-eq0-via-then-left-eq0 w ↦ sym (c.up.invariant.same ∙ ap (λ (n : ℕ). is_under_within s n c.up.current c.args.top.now) w.if-left-eq0.true ∙ other)
      | then-left-eq0-via-else-left-eq0+then-is_over w ↦
          elim (is_under s c.args.dir.now c.args.top.now) as (λ b. is_under s c.args.dir.now c.args.top.now ≡ b → false ≡ b) [
            | true ↦ λ under. absurd (none_due (entries_alone c.args.self.now.entries) c.up.below c.args.dir.now (sym w.is_over.ensures ∙ w.if-is_over.true) (c.up.invariant.due (c.up.invariant.other other) under))
            | false ↦ λ _. refl
          ] refl
    ]

pub returns-in_default : goal.returns-in_default
returns-in_default c =
    let s = state_of_tree c.args.self.now in
    let here = c.up.current in
    let held : holder s here ≡ None = sym (holder-same (entries_alone c.self.inside.entries) s (ap (λ (t : TreeView). t.entries) c.self.view_is) here) ∙ sym c.holder.ensures ∙ c.in_default.is in
    let other : same_oid here c.args.top.now ≡ false = sym c.is_same.ensures ∙ c.up-test.true in
    let left : c.up.left ≡ suc (c.up.left - 1) = omega arith in
    sym (c.up.invariant.same ∙ under_holder s c.args.top.now c.up.left (c.up.left - 1) here None left other held)

pub up-preserved : goal.up-preserved
up-preserved c =
    let s = state_of_tree c.args.self.now in
    let here = c.up.current in
    let held : holder s here ≡ Some c.in-Some.above = sym (holder-same (entries_alone c.self.inside.entries) s (ap (λ (t : TreeView). t.entries) c.self.view_is) here) ∙ sym c.holder.ensures ∙ c.in-Some.is in
    let other : same_oid here c.args.top.now ≡ false = sym c.is_same.ensures ∙ c.up-test.true in
    let left : c.up.left ≡ suc (c.up.left - 1) = omega arith in
    record {
      is_dir = subst (λ (t : TreeView). IsDir t.nodes.table.objects c.in-Some.above) c.self.view_is
          (holder_dir c.self.inside.nodes.table c.self.inside.entries c.self.invariant.are_entries here c.in-Some.above (sym c.holder.ensures ∙ c.in-Some.is));
      same = c.up.invariant.same ∙ under_holder s c.args.top.now c.up.left (c.up.left - 1) here (Some c.in-Some.above) left other held;
      other = λ _. c.up.invariant.other other;
      due = λ apart under. subst (λ (t : TreeView). IsUnderDue (entries_alone t.entries) c.up.below c.args.dir.now → IsUnderDue (entries_alone t.entries) c.step.new.self c.args.dir.now) c.self.view_is
          c.step.ensures (c.up.invariant.due apart under);
    }

pub holder-requires : goal.holder-requires
holder-requires c =
    dir_single c.self.inside.nodes.table c.self.inside.entries c.self.invariant.are_entries c.up.current
    (subst (λ (t : TreeView). IsDir t.nodes.table.objects c.up.current) (sym c.self.view_is) c.up.invariant.is_dir)
