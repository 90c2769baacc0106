use Rattle.std.specs.Prelude.{[], List, get_or}
use Rattle.std.proofs.Common.{subst}
use Rattle.kern_model.specs.declared.numbers.Oid.{Oid}
use Rattle.kern_model.specs.Keys.{same_oid}
use Rattle.fs_dirs.specs.declared.links.Holder.{Holder}
use Rattle.fs_dirs.specs.Entries.{IsIn}
use Rattle.fs_dirs.proofs.LentLists.{lent_absent, lent_found, lent_left}
use Rattle.fs_dirs.proofs.LinkLemmas.{less_at, never_absent}
use Rattle.fs_dirs.proofs.links.LinkTable.take_name.Goals as goal

pub unreachable-requires : goal.unreachable-requires
unreachable-requires c = never_absent c.args.self.now c.args.id.now (λ (d : Oid). same_oid d c.args.dir.now) c.requires (lent_absent c.self.view_is c.args.id.now.label c.in_default.is c.get_mut.ensures.value)

pub take_out-requires : goal.take_out-requires
take_out-requires c =
    let found = lent_found c.self.view_is c.args.id.now.label c.in-Some.is c.get_mut.ensures.value in
    subst (λ (r : List (List Holder)). IsIn c.args.dir.now (get_or r c.args.id.now.n [])) found c.requires

pub returns : goal.returns
returns c =
    let id = c.args.id.now in
    let found = lent_found c.self.view_is id.label c.in-Some.is c.get_mut.ensures.value in
    let left = lent_left c.self.view_is id.label c.take_out.new.self c.in-Some.is (c.get_mut.follows.holds c.take_out.new.self) in
    less_at c.args.self.now id c.take_out.new.self found left c.args.dir.now c.take_out.ensures.others c.take_out.ensures.taken
