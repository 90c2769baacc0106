use Rattle.std.proofs.Common.{ap, sym, ◌∙◌}
use Rattle.std.specs.Option.{option_copied}
use Rattle.lab_lattice.specs.Label.{bottom, dominates}
use Rattle.lab_lattice.proofs.Labels.{dominates_bottom}
use Rattle.kern_model.specs.declared.objects.Object.{Object}
use Rattle.kern_model.specs.State.{object_at, stub_object}
use Rattle.kern_model.proofs.MapLemmas.{get_or-absent, get_or-found}
use Rattle.fs_dirs.specs.Tree.{TreeView, state_of_tree}
use Rattle.fs_dirs.proofs.tree.Tree.is_below.Goals as goal

pub returns-in-Some : goal.returns-in-Some
returns-in-Some c =
    c.dominates.ensures ∙ ap (λ (o : Object). dominates c.args.label.now o.label) (sym (get_or-found c.self.inside.nodes.table.objects c.args.id.now (stub_object bottom) c.in-Some.object.now (sym c.get.ensures ∙ ap option_copied c.in-Some.is)))
    ∙ ap (λ (t : TreeView). dominates c.args.label.now (object_at (state_of_tree t) c.args.id.now).label) c.self.view_is

pub returns-in-None : goal.returns-in-None
returns-in-None c =
    sym (dominates_bottom c.args.label.now)
    ∙ ap (λ (o : Object). dominates c.args.label.now o.label) (sym (get_or-absent c.self.inside.nodes.table.objects c.args.id.now (stub_object bottom) (sym c.get.ensures ∙ ap option_copied c.in-None.is)))
    ∙ ap (λ (t : TreeView). dominates c.args.label.now (object_at (state_of_tree t) c.args.id.now).label) c.self.view_is
