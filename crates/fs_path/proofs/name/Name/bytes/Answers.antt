use Rattle.std.proofs.Common.{subst, sym, length, ◌≤◌, List, ℕ}
use Rattle.fs_path.proofs.NameLemmas.{short_name}
use Rattle.fs_path.proofs.name.Name.bytes.Goals as goal

pub returns-clause-short : goal.returns-clause-short
returns-clause-short c = subst (λ (bs : List ℕ). length bs ≤ 63) (sym c.as_slice.ensures) (short_name c.self.inside.kept.items c.self.invariant)
