use Rattle.std.specs.Prelude.{◌≤◌, length}
use Rattle.std.proofs.Common.{ap, sym, ◌∙◌, arith}
use Rattle.std.proofs.lemmas.List.{get_or_past}
use Rattle.std.specs.FinMap as map
use Rattle.std.specs.FinMap.{get-empty}
use Rattle.fs_dirs.specs.Directory.{name_cmp}
use Rattle.fs_dirs.specs.Entries.{Contents}
use Rattle.fs_dirs.proofs.DirLemmas.{removed_past}
use Rattle.fs_dirs.proofs.dirs.DirectoryList.remove.Goals as goal

pub returns-then-place-len-clause-found : goal.returns-then-place-len-clause-found
returns-then-place-len-clause-found c =
    let len = c.len.ensures in
    let same = ap length c.self.view_is in
    let past = c.if-place-len.true in
    let short : length c.args.self.now ≤ c.args.n = omega (arith, len, same, past) in
    sym (ap (λ (m : Contents). map.get m c.args.name.now) (get_or_past c.args.self.now c.args.n map.empty short) ∙ get-empty name_cmp c.args.name.now)

pub returns-then-place-len-clause-removed : goal.returns-then-place-len-clause-removed
returns-then-place-len-clause-removed c =
    let len = c.len.ensures in
    let same = ap length c.self.view_is in
    let past = c.if-place-len.true in
    removed_past c.args.self.now c.args.n c.args.name.now (omega (arith, len, same, past))
