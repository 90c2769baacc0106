use Rattle.std.proofs.Common.{◌∙◌, sym}
use Rattle.cap_bits.specs.CapSet.{union_of}
use Rattle.least_caps.specs.Stands.{object_caps}
use Rattle.least_caps.proofs.Unions.{union_over_more}
use Rattle.least_caps.proofs.needs.objects_caps.Goals as goal

pub loop-object-preserved : goal.loop-object-preserved
loop-object-preserved c =
    let l = c.loop-object in
    c.union-caps.ensures ∙ (λ i. union_of (l.invariant i) (c.object_caps.ensures i))
    ∙ sym (union_over_more object_caps c.args.objects.now l.object-index c.object-item.result c.loop-object-test.true (sym c.object-item.is))
