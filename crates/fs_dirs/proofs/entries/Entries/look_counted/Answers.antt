use Rattle.kern_model.specs.Keys.{spot_cmp}
use Rattle.kern_model.specs.declared.numbers.Oid.{Oid}
use Rattle.std.specs.FinMap.{FinMap}
use Rattle.std.proofs.Common.{ap, sym, ◌∙◌, subst}
use Rattle.std.specs.FinMap as map
use Rattle.kern_model.specs.Entries.{entry_count}
use Rattle.fs_dirs.specs.Directory.{TakesFewSteps}
use Rattle.fs_dirs.specs.Entries.{entries_alone}
use Rattle.fs_dirs.proofs.DirLemmas.{entry_count-entries_of, get-entries_of}
use Rattle.fs_dirs.proofs.entries.Entries.look_counted.Goals as goal

pub returns-clause-found : goal.returns-clause-found
returns-clause-found g c =
    c.look_counted.ensures.found ∙ sym (get-entries_of c.self.inside.dirs c.args.dir.now c.args.name.now)
    ∙ ap (λ (t : FinMap spot_cmp Oid). map.get t (c.args.dir.now, c.args.name.now)) c.self.view_is

pub returns-clause-counted : goal.returns-clause-counted
returns-clause-counted g c =
    let same = sym (entry_count-entries_of c.self.inside.dirs c.args.dir.now) ∙ ap (λ (t : FinMap spot_cmp Oid). entry_count (entries_alone t) c.args.dir.now) c.self.view_is in
    subst (λ n. TakesFewSteps n c.args.steps.now c.look_counted.new.steps) same c.look_counted.ensures.counted
