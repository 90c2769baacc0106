use Rattle.std.proofs.Common.{◌∙◌, sym}
use Rattle.cap_bits.specs.CapSet.{union_of}
use Rattle.least_caps.specs.Stands.{process_caps}
use Rattle.least_caps.proofs.Unions.{union_over_more}
use Rattle.least_caps.proofs.needs.processes_caps.Goals as goal

pub loop-process-preserved : goal.loop-process-preserved
loop-process-preserved c =
    let l = c.loop-process in
    c.union-caps.ensures ∙ (λ i. union_of (l.invariant i) (c.process_caps.ensures i))
    ∙ sym (union_over_more process_caps c.args.processes.now l.process-index c.process-item.result c.loop-process-test.true (sym c.process-item.is))
