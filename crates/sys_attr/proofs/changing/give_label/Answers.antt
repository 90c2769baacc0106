use Rattle.kern_model.specs.declared.objects.Object.{Object}
use Rattle.sys_attr.proofs.ChangeLemmas.{object_set, object_shown}
use Rattle.sys_attr.proofs.changing.give_label.Goals as goal

pub returns : goal.returns
returns c =
    object_set c.shared.view_is c.args.id.now c.requires (λ (o : Object). record o { label = c.args.label })
    (c.set_label.ensures.label c.requires.value (object_shown c.shared.view_is c.args.id.now c.requires)) c.set_label.ensures.entries
