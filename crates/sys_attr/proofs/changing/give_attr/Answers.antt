use Rattle.kern_model.specs.declared.objects.Object.{Object}
use Rattle.sys_attr.proofs.ChangeLemmas.{object_set, object_shown}
use Rattle.sys_attr.proofs.changing.give_attr.Goals as goal

pub returns : goal.returns
returns c =
    object_set c.shared.view_is c.args.id.now c.requires (λ (o : Object). record o { attr = c.args.attr })
    (c.set_attr.ensures.attr c.requires.value (object_shown c.shared.view_is c.args.id.now c.requires)) c.set_attr.ensures.entries
