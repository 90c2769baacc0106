use Rattle.std.proofs.Common.{◌∙◌, sym}
use Rattle.cap_bits.specs.FileCaps.{shown}
use Rattle.kern_model.specs.declared.world.WorldObject.{WorldObject}
use Rattle.ever_caps.specs.Ever.{join}
use Rattle.ever_caps.proofs.Joined.{joined_more}
use Rattle.ever_caps.proofs.sets.files_joined.Goals as goal

pub loop-object-preserved : goal.loop-object-preserved
loop-object-preserved c =
    let l = c.loop-object in
    c.join-together.ensures ∙ (λ k. join (l.invariant k) (c.shown.ensures.value k))
    ∙ sym (joined_more (λ (o : WorldObject). shown o.attr.caps) c.args.objects.now l.object-index c.object-item.result c.loop-object-test.true (sym c.object-item.is))
