use Rattle.fd_table.proofs.TakenLemmas.{bits-zero}
use Rattle.fd_table.proofs.taken.TakenSlots.new.Goals as goal

pub returns : goal.returns
returns c = bits-zero 32
