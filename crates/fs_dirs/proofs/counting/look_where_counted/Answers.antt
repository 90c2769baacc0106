use Rattle.std.proofs.Common.{inl, sym, ◌∙◌}
use Rattle.fs_dirs.proofs.HolderLabelLemmas.{empty_by_len}
use Rattle.fs_dirs.proofs.counting.look_where_counted.Goals as goal

pub returns-then-is_empty : goal.returns-then-is_empty
returns-then-is_empty c = inl (empty_by_len c.args.labels.now (sym c.is_empty.ensures ∙ c.if-is_empty.true))
