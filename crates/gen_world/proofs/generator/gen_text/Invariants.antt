use Rattle.std.proofs.Common.{◌≡◌, ◌++◌, length}
use Rattle.std.specs.List.{concat}
use Rattle.gen_world.specs.Text.{gen_text}
use Rattle.gen_world.proofs.generator.gen_text.Given as goal

-- the text, continued by the pieces that are left, is the whole text
abbrev pub invariant-loop-text : goal.invariant-loop-text
invariant-loop-text l = l.text.items ++ concat l.generator ≡ gen_text l.n

abbrev pub decreases-loop-text : goal.decreases-loop-text
decreases-loop-text l = length l.generator
