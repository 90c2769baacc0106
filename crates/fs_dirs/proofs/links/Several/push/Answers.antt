use Rattle.std.specs.Prelude.{◌<◌, List, length}
use Rattle.std.specs.List.{insert}
use Rattle.std.proofs.Common.{ap, sym, ◌∙◌, subst}
use Rattle.fs_dirs.specs.declared.links.Holder.{Holder}
use Rattle.fs_dirs.specs.declared.links.Several.{Several}
use Rattle.fs_dirs.specs.Entries.{dir_of}
use Rattle.fs_dirs.specs.Links.{AreSorted, IsGap}
use Rattle.fs_dirs.proofs.SortedHolders.{sorted_added, sorted_over}
use Rattle.fs_dirs.proofs.links.Several.push.Goals as goal
use Rattle.fs_dirs.proofs.links.Several.push.Goals.{in-Ok+in_ok-self-in-Ok, in-Err+in_ok-insert-in-Err}

pub returns-clause-sorted : goal.returns-clause-sorted
returns-clause-sorted c =
    let items = c.args.self.now.holders.items in
    elim c.match-place_of.branch [
      | in-Ok+in_ok-self-in-Ok w ↦
          let within = subst (λ (hs : List Holder). w.in-Ok.place < length hs) c.deref.ensures.value w.in-Ok.ensures.within in
          subst (λ (s : Several). AreSorted s.holders.items) (sym w.self-is)
          (sorted_over items c.requires w.in-Ok.place within w.index.result.now w.in_ok-self-in-Ok.field-0 w.index.ensures (ap dir_of w.in_ok-self-in-Ok.ensures))
      | in-Err+in_ok-insert-in-Err w ↦
          let gap = subst (λ (hs : List Holder). IsGap hs c.args.dir.now w.in-Err.place) c.deref.ensures.value w.in-Err.ensures.gap in
          subst AreSorted (sym (ap (λ (s : Several). s.holders.items) w.self-is ∙ w.in_ok-insert-in-Err.ensures.items ∙ ap (insert items w.in-Err.place) w.of.ensures))
          (sorted_added items c.requires w.in-Err.place c.args.dir.now gap)
    ]
