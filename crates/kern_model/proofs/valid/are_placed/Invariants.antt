use Rattle.std.proofs.Common.{take, drop}
use Rattle.kern_model.specs.World.{ArePlaced}
use Rattle.kern_model.proofs.valid.are_placed.Given as goal

abbrev pub invariant-loop-place : goal.invariant-loop-place
invariant-loop-place l = (ArePlaced (take l.place l.objects) (drop l.place l.objects) → ArePlaced (take 1 l.objects) (drop 1 l.objects))
    × (ArePlaced (take 1 l.objects) (drop 1 l.objects) → ArePlaced (take l.place l.objects) (drop l.place l.objects))
