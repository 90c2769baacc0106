use Rattle.std.proofs.Common.{ap, sym, ◌∙◌, subst, Some}
use Rattle.std.specs.FinMap as map
use Rattle.std.proofs.lemmas.Cmp.{nat_list_cmp_total}
use Rattle.fs_dirs.specs.Directory.{AreSorted, directory_of}
use Rattle.fs_dirs.specs.declared.slot.Entry.{Entry}
use Rattle.fs_dirs.proofs.Names.{found, absent, sorted_removed, map_removed, names_exact}
use Rattle.kern_model.proofs.MapLemmas.{remove-absent}
use Rattle.fs_dirs.proofs.directory.Directory.remove.Goals as goal

pub invariant_of-self : goal.invariant_of-self
invariant_of-self c =
    let at = c.in-Ok.ensures.found in
    subst AreSorted (sym c.remove.ensures.left) (sorted_removed c.self.inside.entries c.self.invariant c.args.name.now c.in-Ok.place at)

pub returns-in-Ok-clause-found : goal.returns-in-Ok-clause-found
returns-in-Ok-clause-found c =
    let at = c.in-Ok.ensures.found in
    ap (λ (e : Entry). Some e.id) c.deref.ensures ∙ sym (found c.self.inside.entries c.self.invariant c.args.name.now c.in-Ok.place c.remove.result at c.remove.ensures.value) ∙ ap (λ m. map.get m c.args.name.now) c.self.view_is

pub returns-in-Ok-clause-removed : goal.returns-in-Ok-clause-removed
returns-in-Ok-clause-removed c =
    let at = c.in-Ok.ensures.found in
    ap directory_of c.remove.ensures.left ∙ map_removed c.self.inside.entries c.self.invariant c.args.name.now c.in-Ok.place at ∙ ap (λ m. map.remove m c.args.name.now) c.self.view_is

pub returns-in-Err-clause-found : goal.returns-in-Err-clause-found
returns-in-Err-clause-found c =
    let gap = c.in-Err.ensures.absent in
    sym (absent c.self.inside.entries c.self.invariant c.args.name.now c.in-Err.field-0 gap) ∙ ap (λ m. map.get m c.args.name.now) c.self.view_is

pub returns-in-Err-clause-removed : goal.returns-in-Err-clause-removed
returns-in-Err-clause-removed c =
    let gap = c.in-Err.ensures.absent in
    let none = absent c.self.inside.entries c.self.invariant c.args.name.now c.in-Err.field-0 gap in
    sym (remove-absent nat_list_cmp_total names_exact c.args.self.now c.args.name.now (ap (λ m. map.get m c.args.name.now) (sym c.self.view_is) ∙ none))
