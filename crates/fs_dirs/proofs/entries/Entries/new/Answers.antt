use Rattle.std.proofs.Common.{ap, sym, ◌∙◌, subst}
use Rattle.std.specs.FinMap as map
use Rattle.std.specs.FinMap.{FinMap}
use Rattle.kern_model.specs.declared.numbers.Oid.{Oid}
use Rattle.kern_model.specs.Keys.{spot_cmp}
use Rattle.fs_dirs.specs.Entries.{AreIndexed, Holders, entries_of}
use Rattle.fs_dirs.proofs.DirLemmas.{entries_of-empty}
use Rattle.fs_dirs.proofs.LinkLemmas.{nothing_indexed}
use Rattle.fs_dirs.proofs.entries.Entries.new.Goals as goal

pub invariant_of-result : goal.invariant_of-result
invariant_of-result c =
    subst (λ (names : Holders). AreIndexed (entries_of c.new.result) names 0) (sym c.new-2.ensures)
    (subst (λ (entries : FinMap spot_cmp Oid). AreIndexed entries map.empty 0) (sym (ap entries_of c.new.ensures ∙ entries_of-empty)) nothing_indexed)

pub returns : goal.returns
returns c = ap entries_of c.new.ensures ∙ entries_of-empty
