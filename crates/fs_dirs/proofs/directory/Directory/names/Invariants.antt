use Rattle.std.proofs.Common.{◌≡◌, take}
use Rattle.std.specs.Prelude.{map}
use Rattle.fs_dirs.specs.declared.slot.Slot.{Slot}
use Rattle.fs_dirs.proofs.directory.Directory.names.Given as goal

abbrev pub invariant-loop-place : goal.invariant-loop-place
invariant-loop-place l = l.names ≡ map (λ (e : Slot). e.entry.value.name) (take l.place l.entries)
