use Rattle.std.proofs.Common.{◌≡◌, ◌+◌, ◌-◌, ◌*◌, ◌^◌, true, drop}
use Rattle.fs_dirs.specs.Head.{are_bytes, head}
use Rattle.fs_dirs.proofs.head.number_of_eight.Given as goal

-- what was read, with the bytes that are left, makes the number
abbrev pub invariant-loop-place : goal.invariant-loop-place
invariant-loop-place l = record {
  so_far : l.number * 256 ^ (8 - l.place) + head (8 - l.place) (drop l.place l.bytes) ≡ head 8 l.bytes;
  bytes : are_bytes l.bytes ≡ true;
}
