use Rattle.std.proofs.Common.{◌∙◌, sym}
use Rattle.kern_model.specs.declared.world.WorldProc.{WorldProc}
use Rattle.ever_caps.specs.Ever.{join}
use Rattle.ever_caps.proofs.Joined.{joined_more}
use Rattle.ever_caps.proofs.sets.processes_joined.Goals as goal

pub loop-process-preserved : goal.loop-process-preserved
loop-process-preserved c =
    let l = c.loop-process in
    c.join-together.ensures ∙ (λ k. join (l.invariant k) c.process-item.result.caps)
    ∙ sym (joined_more (λ (p : WorldProc). p.caps) c.args.processes.now l.process-index c.process-item.result c.loop-process-test.true (sym c.process-item.is))
