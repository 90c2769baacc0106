use Rattle.std.proofs.Common.{ap, sym, ◌∙◌, subst, Some}
use Rattle.std.specs.FinMap as map
use Rattle.fs_dirs.specs.Directory.{TakesFewSteps}
use Rattle.fs_dirs.specs.declared.slot.Entry.{Entry}
use Rattle.fs_dirs.proofs.Names.{how_many, found, absent}
use Rattle.fs_dirs.proofs.directory.Directory.look_counted.Goals as goal

pub returns-in-Ok-clause-found : goal.returns-in-Ok-clause-found
returns-in-Ok-clause-found g c =
    let at = c.in-Ok.ensures.found in
    ap (λ (e : Entry). Some e.id) c.deref.ensures ∙ sym (found c.self.inside.entries c.self.invariant c.args.name.now c.in-Ok.place c.item.result.now at c.item.ensures) ∙ ap (λ m. map.get m c.args.name.now) c.self.view_is

pub returns-in-Err-clause-found : goal.returns-in-Err-clause-found
returns-in-Err-clause-found g c =
    let gap = c.in-Err.ensures.absent in
    sym (absent c.self.inside.entries c.self.invariant c.args.name.now c.in-Err.field-0 gap) ∙ ap (λ m. map.get m c.args.name.now) c.self.view_is

pub returns-in-Ok-clause-counted : goal.returns-in-Ok-clause-counted
returns-in-Ok-clause-counted g c =
    let steps = c.search.ensures.counted in
    subst (λ n. TakesFewSteps n c.args.steps.now c.search.new.steps) (sym (how_many c.self.inside.entries c.self.invariant) ∙ ap map.len c.self.view_is) steps

pub returns-in-Err-clause-counted : goal.returns-in-Err-clause-counted
returns-in-Err-clause-counted g c =
    let steps = c.search.ensures.counted in
    subst (λ n. TakesFewSteps n c.args.steps.now c.search.new.steps) (sym (how_many c.self.inside.entries c.self.invariant) ∙ ap map.len c.self.view_is) steps
