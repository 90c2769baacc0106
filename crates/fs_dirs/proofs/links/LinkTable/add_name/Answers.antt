use Rattle.std.proofs.Common.{ap, sym, ◌∙◌}
use Rattle.std.specs.FinMap as map
use Rattle.std.proofs.lemmas.Result.{on_err_weaker}
use Rattle.fs_dirs.specs.Entries.{Holders}
use Rattle.fs_dirs.proofs.Answering.{both_ok}
use Rattle.fs_dirs.proofs.LentLists.{lent_absent, lent_found, lent_left}
use Rattle.fs_dirs.proofs.LinkLemmas.{more_at, same_at}
use Rattle.fs_dirs.proofs.links.LinkTable.add_name.Goals as goal

pub returns-in-Some-clause-ok : goal.returns-in-Some-clause-ok
returns-in-Some-clause-ok c =
    let id = c.args.id.now in
    let found = lent_found c.self.view_is id.label c.in-Some.is c.get_mut.ensures.value in
    let left = lent_left c.self.view_is id.label c.add.new.self c.in-Some.is (c.get_mut.follows.holds c.add.new.self) in
    both_ok c.add.result (more_at c.args.self.now id c.add.new.self found left c.args.dir.now) c.add.ensures.others c.add.ensures.added

pub returns-in-Some-clause-err : goal.returns-in-Some-clause-err
returns-in-Some-clause-err c =
    let id = c.args.id.now in
    let found = lent_found c.self.view_is id.label c.in-Some.is c.get_mut.ensures.value in
    let left = lent_left c.self.view_is id.label c.add.new.self c.in-Some.is (c.get_mut.follows.holds c.add.new.self) in
    on_err_weaker c.add.result (same_at c.args.self.now id c.add.new.self found left) c.add.ensures.err

-- the table as it was, where the label had no list
pub returns-clause-ok : goal.returns-clause-ok
returns-clause-ok c =
    let id = c.args.id.now in
    let absent = lent_absent c.self.view_is id.label c.in_default.is c.get_mut.ensures.value ∙ sym c.new-list.ensures in
    let left = c.in_ok-insert.ensures.ok ∙ ap (λ (m : Holders). map.insert m id.label c.add-2.new.self) (c.get_mut.follows.holds-at-none ∙ c.self.view_is) in
    more_at c.args.self.now id c.add-2.new.self absent left c.args.dir.now c.in_ok-add.ensures.others c.in_ok-add.ensures.added
