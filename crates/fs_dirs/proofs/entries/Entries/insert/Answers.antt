use Rattle.std.specs.Prelude.{cond, ◌-◌, is_some}
use Rattle.std.proofs.Common.{ap, sym, ◌∙◌, subst}
use Rattle.std.specs.FinMap as map
use Rattle.std.specs.FinMap.{FinMap}
use Rattle.kern_model.specs.declared.numbers.Oid.{Oid}
use Rattle.kern_model.specs.Keys.{spot_cmp}
use Rattle.fs_dirs.specs.Entries.{AreIndexed, entries_of}
use Rattle.fs_dirs.proofs.LinkLemmas.{added_is_in, indexed-set, indexed_again, indexed_same, still_is_in}
use Rattle.fs_dirs.proofs.entries.Entries.insert.Goals as goal

pub invariant_of-self : goal.invariant_of-self
invariant_of-self c = indexed_same (entries_of c.self.inside.dirs) c.self.inside.names c.add_name.new.self c.self.inside.total c.in_err-add_name.ensures.err c.self.invariant

pub take_name-requires : goal.take_name-requires
take_name-requires c = added_is_in (entries_of c.self.inside.dirs) c.self.inside.names c.add_name.new.self c.self.inside.names c.args.id.now c.args.dir.now c.in_ok-add_name.ensures.ok

pub invariant_of-self-in-Err : goal.invariant_of-self-in-Err
invariant_of-self-in-Err c =
    subst (λ (m : FinMap spot_cmp Oid). AreIndexed m c.take_name.new.self c.self.inside.total) (sym c.in-Err.ensures.err)
    (indexed_again (entries_of c.self.inside.dirs) c.self.inside.names c.add_name.new.self c.take_name.new.self c.args.id.now c.args.dir.now c.in_ok-add_name.ensures.ok c.take_name.ensures c.self.inside.total c.self.invariant)

pub returns-in-Err-clause-err : goal.returns-in-Err-clause-err
returns-in-Err-clause-err c = c.in-Err.ensures.err ∙ c.self.view_is

pub drop_name-requires : goal.drop_name-requires
drop_name-requires c =
    still_is_in (entries_of c.self.inside.dirs) c.args.dir.now c.args.name c.args.id.now c.self.inside.names c.add_name.new.self c.self.inside.total c.self.invariant c.in_ok-add_name.ensures.ok
    c.in-Ok.replaced (sym c.in-Ok.ensures.found)

pub invariant_of-self-2 : goal.invariant_of-self-2
invariant_of-self-2 c =
    let w = c.in-Ok.replaced in
    subst (λ n. AreIndexed (entries_of c.insert.new.self) c.drop_name.new.self n) (sym c.without_one-self-inside.ensures)
    (subst (λ (m : FinMap spot_cmp Oid). AreIndexed m c.drop_name.new.self (cond (is_some w) (c.in-Some.more - 1) c.in-Some.more)) (sym c.in-Ok.ensures.ok)
    (indexed-set (entries_of c.self.inside.dirs) c.args.dir.now c.args.name c.args.id.now c.self.inside.names c.add_name.new.self c.self.inside.total c.self.invariant c.in_ok-add_name.ensures.ok
    w (sym c.in-Ok.ensures.found) c.drop_name.new.self c.drop_name.ensures c.in-Some.more c.in-Some.ensures.1))

pub returns-clause-ok : goal.returns-clause-ok
returns-clause-ok c = c.in-Ok.ensures.ok ∙ ap (λ (m : FinMap spot_cmp Oid). map.insert m (c.args.dir.now, c.args.name) c.args.id.now) c.self.view_is
