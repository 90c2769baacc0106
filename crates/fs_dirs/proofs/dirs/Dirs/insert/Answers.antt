use Rattle.std.specs.Prelude.{◌≡◌, IfOk, Option}
use Rattle.std.proofs.Common.{ap, sym, ◌∙◌, subst, refl}
use Rattle.std.specs.FinMap as map
use Rattle.std.proofs.lemmas.Result.{on_err_weaker, on_ok_weaker}
use Rattle.kern_model.specs.LabelLists.{Lists}
use Rattle.kern_model.specs.declared.numbers.Oid.{Oid}
use Rattle.fs_dirs.specs.Entries.{Contents}
use Rattle.fs_dirs.proofs.DirLemmas.{contained, entries_same, get-entries_of, inserted_at}
use Rattle.fs_dirs.proofs.LentLists.{lent_absent, lent_found, lent_left}
use Rattle.fs_dirs.proofs.dirs.Dirs.insert.Goals as goal

pub returns-in-Some-clause-ok : goal.returns-in-Some-clause-ok
returns-in-Some-clause-ok c =
    let dir = c.args.dir.now in
    let found = lent_found refl dir.label c.in-Some.is c.get_mut.ensures.value in
    let left = lent_left refl dir.label c.insert.new.self c.in-Some.is (c.get_mut.follows.holds c.insert.new.self) in
    on_ok_weaker c.insert.result (inserted_at c.self.inside.by_label dir c.insert.new.self found left c.self.view_is c.args.name c.args.id.now) c.insert.ensures.ok

pub returns-in-Some-clause-found : goal.returns-in-Some-clause-found
returns-in-Some-clause-found c =
    let dir = c.args.dir.now in
    let found = lent_found refl dir.label c.in-Some.is c.get_mut.ensures.value in
    let same = ap (λ (m : Contents). map.get m c.args.name) (sym (contained c.self.inside.by_label c.args.self.now c.self.view_is dir c.in-Some.list.now found)) ∙ sym (get-entries_of c.args.self.now dir c.args.name) in
    subst (λ (w : Option Oid). IfOk c.insert.result (λ led. led ≡ w)) same c.insert.ensures.found

pub returns-in-Some-clause-err : goal.returns-in-Some-clause-err
returns-in-Some-clause-err c =
    let dir = c.args.dir.now in
    let found = lent_found refl dir.label c.in-Some.is c.get_mut.ensures.value in
    let left = lent_left refl dir.label c.insert.new.self c.in-Some.is (c.get_mut.follows.holds c.insert.new.self) in
    on_err_weaker c.insert.result (entries_same c.self.inside.by_label dir c.insert.new.self found left c.self.view_is) c.insert.ensures.err

-- where the label had no list
pub returns-clause-ok : goal.returns-clause-ok
returns-clause-ok c =
    let dir = c.args.dir.now in
    let absent = lent_absent refl dir.label c.in_default.is c.get_mut.ensures.value ∙ sym c.new-list.ensures in
    let left = c.in_ok-insert.ensures.ok ∙ ap (λ (m : Lists Contents). map.insert m dir.label c.insert-2.new.self) c.get_mut.follows.holds-at-none in
    inserted_at c.self.inside.by_label dir c.insert-2.new.self absent left c.self.view_is c.args.name c.args.id.now c.in_ok-led.ensures.ok

pub returns-clause-found : goal.returns-clause-found
returns-clause-found c =
    let dir = c.args.dir.now in
    let absent = lent_absent refl dir.label c.in_default.is c.get_mut.ensures.value ∙ sym c.new-list.ensures in
    c.in_ok-led.ensures.found ∙ ap (λ (m : Contents). map.get m c.args.name) (sym (contained c.self.inside.by_label c.args.self.now c.self.view_is dir c.new-list.result absent))
    ∙ sym (get-entries_of c.args.self.now dir c.args.name)
