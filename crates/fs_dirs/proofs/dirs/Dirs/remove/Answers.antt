use Rattle.std.specs.Prelude.{◌≡◌, [], None, refl}
use Rattle.std.proofs.Common.{ap, sym, ◌∙◌}
use Rattle.std.specs.FinMap as map
use Rattle.std.specs.FinMap.{get-empty}
use Rattle.kern_model.proofs.KeyLaws.{spot_cmp_total, spot_cmp_exact}
use Rattle.kern_model.proofs.MapLemmas.{remove-absent}
use Rattle.fs_dirs.specs.Directory.{name_cmp}
use Rattle.fs_dirs.specs.Entries.{Contents, dirs_in, entries_of}
use Rattle.fs_dirs.proofs.DirLemmas.{contained, get-entries_of, removed_at}
use Rattle.fs_dirs.proofs.LentLists.{lent_absent, lent_found, lent_left}
use Rattle.fs_dirs.proofs.dirs.Dirs.remove.Goals as goal

pub returns-in_default-clause-found : goal.returns-in_default-clause-found
returns-in_default-clause-found c =
    let dir = c.args.dir.now in
    let absent = contained c.self.inside.by_label c.args.self.now c.self.view_is dir [] (lent_absent refl dir.label c.in_default.is c.get_mut.ensures.value) in
    sym (ap (λ (m : Contents). map.get m c.args.name.now) absent ∙ get-empty name_cmp c.args.name.now)

pub returns-in_default-clause-removed : goal.returns-in_default-clause-removed
returns-in_default-clause-removed c =
    let dirs = c.args.self.now in
    let dir = c.args.dir.now in
    let name = c.args.name.now in
    let absent = contained c.self.inside.by_label dirs c.self.view_is dir [] (lent_absent refl dir.label c.in_default.is c.get_mut.ensures.value) in
    let none : map.get (entries_of dirs) (dir, name) ≡ None = get-entries_of dirs dir name ∙ ap (λ (m : Contents). map.get m name) absent ∙ get-empty name_cmp name in
    ap entries_of (ap dirs_in c.get_mut.follows.holds-at-none ∙ c.self.view_is) ∙ sym (remove-absent spot_cmp_total spot_cmp_exact (entries_of dirs) (dir, name) none)

pub returns-clause-found : goal.returns-clause-found
returns-clause-found c =
    let dir = c.args.dir.now in
    let found = lent_found refl dir.label c.in-Some.is c.get_mut.ensures.value in
    c.remove.ensures.found ∙ ap (λ (m : Contents). map.get m c.args.name.now) (sym (contained c.self.inside.by_label c.args.self.now c.self.view_is dir c.in-Some.list.now found))

pub returns-clause-removed : goal.returns-clause-removed
returns-clause-removed c =
    let dir = c.args.dir.now in
    let found = lent_found refl dir.label c.in-Some.is c.get_mut.ensures.value in
    let left = lent_left refl dir.label c.remove.new.self c.in-Some.is (c.get_mut.follows.holds c.remove.new.self) in
    removed_at c.self.inside.by_label dir c.remove.new.self found left c.self.view_is c.args.name.now c.remove.ensures.removed
