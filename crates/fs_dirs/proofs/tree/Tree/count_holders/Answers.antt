use Rattle.std.specs.Prelude.{Bool}
use Rattle.std.proofs.Common.{◌∙◌}
use Rattle.lab_lattice.specs.Label.{Label}
use Rattle.kern_model.specs.declared.numbers.Oid.{Oid}
use Rattle.fs_dirs.specs.HolderLabels.{label_in, names_by_label}
use Rattle.fs_dirs.proofs.tree.Tree.count_holders.Goals as goal

pub invariant_of-self : goal.invariant_of-self
invariant_of-self c =
    let objects = c.self.inside.nodes.table.objects in
    record {
      are_entries = c.self.invariant.are_entries;
      counted = c.count.ensures (names_by_label objects c.self.inside.entries) c.self.invariant.counted
          (λ (test : Label → Bool). c.in-Ok.ensures test ∙ c.holders-holders.ensures (λ (d : Oid). test (label_in objects d)));
    }
