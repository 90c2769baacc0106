-- The counts of faults of a run, by its status.
use Rattle.io_ends.specs.Faults.{next_count}
use Rattle.lab_engine.specs.Counts.{Counts}
use Rattle.labsys.specs.declared.status.Status.{Status}
use Rattle.labsys.specs.declared.status.Status.TheVariants.{ReadFault, WriteFault, TrailFault}

-- the counts after a run with this status: one more at the end whose fault it reports, and no other change
abbrev pub counts_after : Status → Counts → Counts
counts_after ReadFault c = record c { source = next_count c.source }
counts_after WriteFault c = record c { out = next_count c.out }
counts_after TrailFault c = record c { trail = next_count c.trail }
counts_after status c = c
