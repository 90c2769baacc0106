use Rattle.std.proofs.Common.{◌∙◌}
use Rattle.fd_table.proofs.Leaving.{drained_less}
use Rattle.fd_table.proofs.fifo.let_go.Goals as goal

pub returns-clause-drained : goal.returns-clause-drained
returns-clause-drained g c =
    let s = c.requires.value in
    c.drop_fifo.ensures.objects
    ∙ drained_less c.args.descriptions.now c.args.did.now s c.requires.is c.release-unused.new.self (c.release-unused.ensures.left s c.requires.is)
    c.release-unused.result (c.release-unused.ensures.unused s c.requires.is) (g.B.Buffers.objects c.args.buffers.now)
