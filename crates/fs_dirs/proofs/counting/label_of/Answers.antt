use Rattle.std.proofs.Common.{ap, sym, ◌∙◌}
use Rattle.std.specs.Option.{option_copied}
use Rattle.lab_lattice.specs.Label.{bottom}
use Rattle.kern_model.specs.declared.objects.Object.{Object}
use Rattle.kern_model.specs.State.{stub_object}
use Rattle.kern_model.proofs.MapLemmas.{get_or-absent, get_or-found}
use Rattle.fs_dirs.proofs.counting.label_of.Goals as goal

pub returns-in-Some : goal.returns-in-Some
returns-in-Some c =
    ap (λ (o : Object). o.label) (sym (get_or-found c.args.nodes.now.table.objects c.args.id.now (stub_object bottom) c.in-Some.object.now (sym c.get.ensures ∙ ap option_copied c.in-Some.is)))

pub returns-in-None : goal.returns-in-None
returns-in-None c =
    c.bottom.ensures ∙ ap (λ (o : Object). o.label) (sym (get_or-absent c.args.nodes.now.table.objects c.args.id.now (stub_object bottom) (sym c.get.ensures ∙ ap option_copied c.in-None.is)))
