-- Bytes into pipes and FIFOs, and out of them.
use Rattle.std.specs.Prelude.{◌≡◌, ◌<◌, ◌+◌, ◌==◌, ◌&&◌, ℕ, Bool, true, false, List, length}
use Rattle.kern_model.specs.declared.limits.TheConstants.{MAX_PIPE_BYTES}
use Rattle.kern_model.specs.declared.numbers.Oid.{Oid}
use Rattle.fs_nodes.specs.Nodes.{FitsPipe}
use Rattle.fd_table.specs.Files.{OpenFiles, has_reader, has_writer}
use Rattle.fd_table.specs.declared.pipes.PipeError.{PipeError}
use Rattle.fd_table.specs.declared.pipes.PipeError.TheVariants as error

abbrev pub is_no_memory : PipeError → Bool
is_no_memory (error.NoMemory e) = true
is_no_memory _ = false

-- if a pipe or FIFO has a description for reading, but no room for more bytes, this holds
abbrev pub IfFull : OpenFiles → Oid → List ℕ → List ℕ → Type 0 → Type 0
IfFull t id bytes more P = has_reader t id ≡ true → MAX_PIPE_BYTES < length bytes + length more → P

-- if it has a description for reading, and room for them, this holds
abbrev pub IfRoom : OpenFiles → Oid → List ℕ → List ℕ → Type 0 → Type 0
IfRoom t id bytes more P = has_reader t id ≡ true → FitsPipe bytes more → P

-- whether a pipe or FIFO is empty, and has a description for writing
abbrev pub is_awaited : OpenFiles → Oid → List ℕ → Bool
is_awaited t id bytes = length bytes == 0 && has_writer t id
