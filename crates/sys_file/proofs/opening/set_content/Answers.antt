use Rattle.std.proofs.Common.{◌∙◌, ap, sym, subst, [], Option}
use Rattle.kern_model.specs.declared.objects.Attr.{Attr}
use Rattle.kern_model.specs.declared.objects.Object.{Object}
use Rattle.kern_model.specs.FileRows.{content_change}
use Rattle.kern_model.specs.OpenRows.{truncation_if}
use Rattle.kern_model.specs.State.{apply_change, apply_changes, object_at}
use Rattle.fs_nodes.specs.Nodes.{IsFile}
use Rattle.sys_file.proofs.ObjectLemmas.{object_is}
use Rattle.sys_file.specs.Opening.{CanBeEmptied}
use Rattle.sys_file.proofs.opening.set_content.Goals as goal

pub empty-requires : goal.empty-requires
empty-requires c = subst (CanBeEmptied c.args.shared.now c.args.id.now) c.in-Some.is c.requires

pub returns-in-None : goal.returns-in-None
returns-in-None c =
    let s = c.args.shared.now in
    ap (λ (e : Option Attr). apply_changes s (truncation_if c.args.id.now (object_at s c.args.id.now) e)) (sym c.in-None.is)

pub returns-in-Some : goal.returns-in-Some
returns-in-Some c =
    let s = c.args.shared.now in
    let id = c.args.id.now in
    let file : IsFile s.objects id = subst (CanBeEmptied s id) c.in-Some.is c.requires in
    c.empty.ensures file.object file.is
    ∙ ap (λ (o : Object). apply_change s (content_change id o [] c.in-Some.attr)) (sym (object_is s id file.object file.is))
    ∙ ap (λ (e : Option Attr). apply_changes s (truncation_if id (object_at s id) e)) (sym c.in-Some.is)
