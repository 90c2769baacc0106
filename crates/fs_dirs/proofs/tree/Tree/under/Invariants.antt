use Rattle.std.proofs.Common.{◌≡◌, true, false}
use Rattle.kern_model.specs.Entries.{is_under, is_under_within}
use Rattle.kern_model.specs.Keys.{same_oid}
use Rattle.kern_model.specs.Valid.{IsDir}
use Rattle.fs_dirs.specs.Below.{IsUnderDue}
use Rattle.fs_dirs.specs.Entries.{entries_alone}
use Rattle.fs_dirs.specs.Tree.{state_of_tree}
use Rattle.fs_dirs.proofs.tree.Tree.under.Given as goal

-- the answer is that of the directory reached, with as many steps as are left; where it is yes, an entry on the way down is due
abbrev pub invariant-up : goal.invariant-up
invariant-up l = record {
  is_dir : IsDir l.self.nodes.table.objects l.current;
  same : is_under (state_of_tree l.self) l.dir l.top ≡ is_under_within (state_of_tree l.self) l.left l.current l.top;
  other : same_oid l.current l.top ≡ false → same_oid l.dir l.top ≡ false;
  due : same_oid l.dir l.top ≡ false → is_under (state_of_tree l.self) l.dir l.top ≡ true → IsUnderDue (entries_alone l.self.entries) l.below l.dir;
}

abbrev pub decreases-up : goal.decreases-up
decreases-up l = l.left
