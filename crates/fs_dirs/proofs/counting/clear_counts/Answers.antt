use Rattle.std.specs.FinMap.{FinMap}
use Rattle.std.proofs.Common.{subst, sym, ◌∙◌}
use Rattle.kern_model.specs.Keys.{oid_cmp}
use Rattle.fs_dirs.specs.HolderLabels.{AreCounted, Counts}
use Rattle.fs_dirs.proofs.HolderLabelLemmas.{empty_by_len, none_counted}
use Rattle.fs_dirs.proofs.counting.clear_counts.Goals as goal

pub returns-then-is_empty : goal.returns-then-is_empty
returns-then-is_empty c names others same are =
    subst (λ (m : FinMap oid_cmp Counts). AreCounted m others) (sym (empty_by_len c.args.labels.now (sym c.is_empty.ensures ∙ c.if-is_empty.true))) (none_counted others)

pub returns-then-len-gt0 : goal.returns-then-len-gt0
returns-then-len-gt0 c names others same are = subst (λ (m : FinMap oid_cmp Counts). AreCounted m others) (sym c.clear.ensures) (none_counted others)
