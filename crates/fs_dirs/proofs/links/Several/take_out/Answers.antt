use Rattle.std.specs.Prelude.{◌<◌, List, length}
use Rattle.std.proofs.Common.{refl, sym, subst}
use Rattle.fs_dirs.specs.declared.links.Holder.{Holder}
use Rattle.fs_dirs.specs.Links.{AreSorted}
use Rattle.fs_dirs.proofs.SortedHolders.{sorted_over, sorted_removed}
use Rattle.fs_dirs.proofs.links.Several.take_out.Goals as goal

pub returns-then-holder-gt0-clause-sorted : goal.returns-then-holder-gt0-clause-sorted
returns-then-holder-gt0-clause-sorted c =
    let within = subst (λ (hs : List Holder). c.in-Ok.place < length hs) c.deref.ensures.value c.in-Ok.ensures.within in
    sorted_over c.args.self.now.holders.items c.requires.sorted c.in-Ok.place within c.index-holder.result.now _ c.index-holder.ensures refl

pub returns-else-holder-gt0-clause-sorted : goal.returns-else-holder-gt0-clause-sorted
returns-else-holder-gt0-clause-sorted c =
    let within = subst (λ (hs : List Holder). c.in-Ok.place < length hs) c.deref.ensures.value c.in-Ok.ensures.within in
    subst AreSorted (sym c.remove.ensures.items) (sorted_removed c.args.self.now.holders.items c.requires.sorted c.in-Ok.place within c.index-holder.result.now)
