-- The two ends of a pipe.
use Rattle.std.specs.Prelude.{Bool, false, not}
use Rattle.kern_model.specs.declared.calls.OpenFlags.{OpenFlags}

-- with which flags an end is opened: for reading, or for writing
abbrev pub end_flags : Bool → OpenFlags
end_flags reads = record { r = reads; w = not reads; c = false; x = false; t = false; a = false }
