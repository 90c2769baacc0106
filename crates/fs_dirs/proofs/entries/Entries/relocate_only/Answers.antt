use Rattle.std.specs.Prelude.{◌-◌, cond, is_some}
use Rattle.std.proofs.Common.{ap, sym, ◌∙◌, subst}
use Rattle.std.specs.FinMap as map
use Rattle.std.specs.FinMap.{FinMap}
use Rattle.fs_path.specs.Name.{Name}
use Rattle.kern_model.specs.declared.numbers.Oid.{Oid}
use Rattle.kern_model.specs.Keys.{spot_cmp}
use Rattle.kern_model.proofs.KeyLaws.{spot_cmp_total, spot_cmp_exact}
use Rattle.fs_dirs.specs.Entries.{AreIndexed, entries_of, name_count, spot_of}
use Rattle.fs_dirs.proofs.LinkLemmas.{some_entry}
use Rattle.fs_dirs.proofs.MoveLemmas.{indexed-moved, moved_is_in, remove-insert_other}
use Rattle.fs_dirs.proofs.entries.Entries.relocate_only.Goals as goal

pub drop_name-requires : goal.drop_name-requires
drop_name-requires c =
    let entries = entries_of c.self.inside.dirs in
    let from = spot_of c.args.from.now in
    let to = spot_of c.args.to.now in
    let id = c.args.id.now in
    let there = ap (λ (m : FinMap spot_cmp Oid). map.get m from) c.self.view_is ∙ c.requires.there in
    let only = ap (λ (m : FinMap spot_cmp Oid). name_count m id) c.self.view_is ∙ c.requires.only in
    let found = sym (c.in_ok-replaced.ensures.found ∙ ap (λ (n : Name). map.get entries (to.0, n)) c.in_ok-copy.ensures) in
    moved_is_in entries from to id there c.requires.apart only c.self.inside.names c.set_only.new.self c.self.inside.total c.self.invariant c.set_only.ensures c.in_ok-replaced.replaced found

pub without_one-self-inside-requires : goal.without_one-self-inside-requires
without_one-self-inside-requires c =
    let entries = entries_of c.self.inside.dirs in
    let to = spot_of c.args.to.now in
    let found = sym (c.in_ok-replaced.ensures.found ∙ ap (λ (n : Name). map.get entries (to.0, n)) c.in_ok-copy.ensures) in
    some_entry entries to.0 to.1 c.self.inside.names c.self.inside.total c.self.invariant c.in_ok-replaced.replaced found

pub invariant_of-self-2 : goal.invariant_of-self-2
invariant_of-self-2 c =
    let entries = entries_of c.self.inside.dirs in
    let from = spot_of c.args.from.now in
    let to = spot_of c.args.to.now in
    let id = c.args.id.now in
    let w = c.in_ok-replaced.replaced in
    let there = ap (λ (m : FinMap spot_cmp Oid). map.get m from) c.self.view_is ∙ c.requires.there in
    let only = ap (λ (m : FinMap spot_cmp Oid). name_count m id) c.self.view_is ∙ c.requires.only in
    let found = sym (c.in_ok-replaced.ensures.found ∙ ap (λ (n : Name). map.get entries (to.0, n)) c.in_ok-copy.ensures) in
    let moved =
    c.remove.ensures.removed ∙ ap (λ (m : FinMap spot_cmp Oid). map.remove m from) (c.in_ok-replaced.ensures.ok ∙ ap (λ (n : Name). map.insert entries (to.0, n) id) c.in_ok-copy.ensures)
    ∙ remove-insert_other spot_cmp_total spot_cmp_exact entries from to c.requires.apart id in
    subst (λ n. AreIndexed (entries_of c.remove.new.self) c.drop_name.new.self n) (sym c.without_one-self-inside.ensures)
    (subst (λ (m : FinMap spot_cmp Oid). AreIndexed m c.drop_name.new.self (cond (is_some w) (c.self.inside.total - 1) c.self.inside.total)) (sym moved)
    (indexed-moved entries from to id there c.requires.apart only c.self.inside.names c.set_only.new.self c.self.inside.total c.self.invariant c.set_only.ensures w found c.drop_name.new.self c.drop_name.ensures))

pub returns-clause-moved : goal.returns-clause-moved
returns-clause-moved c =
    let entries = entries_of c.self.inside.dirs in
    let from = spot_of c.args.from.now in
    let to = spot_of c.args.to.now in
    let id = c.args.id.now in
    c.remove.ensures.removed ∙ ap (λ (m : FinMap spot_cmp Oid). map.remove m from) (c.in_ok-replaced.ensures.ok ∙ ap (λ (n : Name). map.insert entries (to.0, n) id) c.in_ok-copy.ensures)
    ∙ remove-insert_other spot_cmp_total spot_cmp_exact entries from to c.requires.apart id
    ∙ ap (λ (m : FinMap spot_cmp Oid). map.insert (map.remove m from) to id) c.self.view_is
