use Rattle.std.proofs.Common.{◌≡◌, ◌∙◌, sym, ap, None, Some, List}
use Rattle.std.specs.Borrow.{Bor}
use Rattle.fs_path.specs.Name.{Name}
use Rattle.kern_model.specs.declared.world.WorldObject.{WorldObject}
use Rattle.kern_model.specs.World.{object_with_path, parent_names}
use Rattle.kern_model.proofs.WorldLemmas.{Decides-placed, none_there}
use Rattle.kern_model.proofs.valid.is_placed.Goals as goal

pub returns-in-Some : goal.returns-in-Some
returns-in-Some c =
    let before = c.args.before.now in
    let names : List Name = c.args.object.now.path.names in
    let named : c.components-names.result.now ≡ names = c.components-names.ensures.names in
    let new : object_with_path before names ≡ None = ap (object_with_path before) (sym named) ∙ sym c.object_with_path.ensures ∙ none_there (λ (o : Bor WorldObject). o.now) c.object_with_path.result c.if-is_some.ensures in
    let found : object_with_path before (parent_names names) ≡ Some c.in-Some.parent.now =
    ap (λ (ns : List Name). object_with_path before (parent_names ns)) (sym named) ∙ ap (object_with_path before) (sym c.parent_names.ensures) ∙ sym c.in-Some.ensures in
    Decides-placed before c.args.object.now c.in-Some.parent.now c.may_hold.result new found c.may_hold.ensures
