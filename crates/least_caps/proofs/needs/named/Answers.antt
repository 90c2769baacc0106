use Rattle.std.proofs.Common.{◌∙◌, sym}
use Rattle.cap_bits.specs.CapSet.{union_of}
use Rattle.least_caps.specs.Named.{exercised}
use Rattle.least_caps.proofs.Unions.{union_over_more}
use Rattle.least_caps.proofs.needs.named.Goals as goal

pub loop-rec-preserved : goal.loop-rec-preserved
loop-rec-preserved c =
    let l = c.loop-rec in
    c.union-caps.ensures ∙ (λ i. union_of (l.invariant i) (c.exercised.ensures i))
    ∙ sym (union_over_more exercised c.items-rec-items.result.now l.rec-index c.rec-item.result c.loop-rec-test.true (sym c.rec-item.is))
