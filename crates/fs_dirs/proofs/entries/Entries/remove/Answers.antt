use Rattle.std.specs.Prelude.{◌-◌, cond, is_some}
use Rattle.std.proofs.Common.{ap, sym, ◌∙◌, subst}
use Rattle.std.specs.FinMap as map
use Rattle.std.specs.FinMap.{FinMap}
use Rattle.kern_model.specs.declared.numbers.Oid.{Oid}
use Rattle.kern_model.specs.Keys.{spot_cmp}
use Rattle.fs_dirs.specs.Entries.{AreIndexed, entries_of}
use Rattle.fs_dirs.proofs.DirLemmas.{get-entries_of}
use Rattle.fs_dirs.proofs.LinkLemmas.{indexed-without, name_there, some_entry}
use Rattle.fs_dirs.proofs.entries.Entries.remove.Goals as goal

pub drop_name-requires : goal.drop_name-requires
drop_name-requires c =
    name_there (entries_of c.self.inside.dirs) c.args.dir.now c.args.name.now c.self.inside.names c.self.inside.total c.self.invariant c.remove-removed.result
    (get-entries_of c.self.inside.dirs c.args.dir.now c.args.name.now ∙ sym c.remove-removed.ensures.found)

pub without_one-self-inside-requires : goal.without_one-self-inside-requires
without_one-self-inside-requires c =
    some_entry (entries_of c.self.inside.dirs) c.args.dir.now c.args.name.now c.self.inside.names c.self.inside.total c.self.invariant c.remove-removed.result
    (get-entries_of c.self.inside.dirs c.args.dir.now c.args.name.now ∙ sym c.remove-removed.ensures.found)

pub invariant_of-self : goal.invariant_of-self
invariant_of-self c =
    subst (λ n. AreIndexed (entries_of c.remove-removed.new.self) c.drop_name.new.self n) (sym c.without_one-self-inside.ensures)
    (subst (λ (m : FinMap spot_cmp Oid). AreIndexed m c.drop_name.new.self (cond (is_some c.remove-removed.result) (c.self.inside.total - 1) c.self.inside.total)) (sym c.remove-removed.ensures.removed)
    (indexed-without (entries_of c.self.inside.dirs) c.args.dir.now c.args.name.now c.self.inside.names c.self.inside.total c.self.invariant c.remove-removed.result
    (get-entries_of c.self.inside.dirs c.args.dir.now c.args.name.now ∙ sym c.remove-removed.ensures.found) c.drop_name.new.self c.drop_name.ensures))

pub returns-clause-found : goal.returns-clause-found
returns-clause-found c =
    c.remove-removed.ensures.found ∙ sym (get-entries_of c.self.inside.dirs c.args.dir.now c.args.name.now) ∙ ap (λ (t : FinMap spot_cmp Oid). map.get t (c.args.dir.now, c.args.name.now)) c.self.view_is
