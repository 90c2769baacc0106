use Rattle.std.specs.Prelude.{[], ◌∷◌, true, ◌<◌, List, get_or}
use Rattle.std.proofs.Common.{subst}
use Rattle.kern_model.specs.declared.numbers.Oid.{Oid}
use Rattle.fs_dirs.specs.declared.links.Holder.{Holder}
use Rattle.fs_dirs.specs.Entries.{first_name, names_in_all}
use Rattle.fs_dirs.proofs.LentLists.{lent_absent, lent_found, lent_left}
use Rattle.fs_dirs.proofs.LinkLemmas.{never_absent, set_at}
use Rattle.fs_dirs.proofs.links.LinkTable.set_only.Goals as goal

pub unreachable-requires : goal.unreachable-requires
unreachable-requires c = never_absent c.args.self.now c.args.id.now (λ (d : Oid). true) c.requires (lent_absent c.self.view_is c.args.id.now.label c.in_default.is c.get_mut.ensures.value)

pub set_only-requires : goal.set_only-requires
set_only-requires c =
    let found = lent_found c.self.view_is c.args.id.now.label c.in-Some.is c.get_mut.ensures.value in
    subst (λ (r : List (List Holder)). 0 < names_in_all (get_or r c.args.id.now.n [])) found c.requires

pub returns : goal.returns
returns c =
    let id = c.args.id.now in
    let found = lent_found c.self.view_is id.label c.in-Some.is c.get_mut.ensures.value in
    let left = lent_left c.self.view_is id.label c.set_only.new.self c.in-Some.is (c.get_mut.follows.holds c.set_only.new.self) in
    set_at c.args.self.now id c.set_only.new.self found left (first_name c.args.dir.now ∷ []) c.set_only.ensures
