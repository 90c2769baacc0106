use Rattle.fd_table.proofs.Slots.{no_fds}
use Rattle.fd_table.proofs.fd_slots.FdSlots.new.Goals as goal

pub returns : goal.returns
returns c = no_fds _ _ _ 32 c.new.ensures
