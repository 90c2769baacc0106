-- Values that may be missing.
use Rattle.std.specs.Prelude.{Bool, cond, Option, None, Some, option_and_then}

-- the value, where it passes
abbrev pub keep_if : {X : Type 0} → Bool → X → Option X
keep_if b x = cond b (Some x) None

-- what a function makes of a value, where there is one
abbrev pub then : {A X : Type 0} → Option A → (A → Option X) → Option X
then o k = option_and_then k o
