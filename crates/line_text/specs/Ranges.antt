-- Numbers and bytes in the ranges of their types.
use Rattle.std.specs.Prelude.{ℕ, ◌^◌, ◌<◌, ◌≤◌, nat_le, nat_lt, Bool, List}
use Rattle.std.specs.List.{list_all}
use Rattle.kern_model.specs.declared.limits.TheConstants.{MAX_NUMBER}
use Rattle.kern_model.specs.declared.calls.Ending.{Ending}
use Rattle.kern_model.specs.declared.calls.Ending.TheVariants as ending
use Rattle.kern_model.specs.declared.checks.Place.{Place}
use Rattle.kern_model.specs.declared.checks.Place.TheVariants as place
use Rattle.kern_model.specs.declared.checks.Thing.{Thing}
use Rattle.kern_model.specs.declared.checks.Thing.TheVariants as thing

-- bytes are numbers below 256
abbrev pub are_bytes : List ℕ → Bool
are_bytes bytes = list_all (λ b. nat_lt b 256) bytes

-- a number that fits 32 bits
abbrev pub IsNumber : ℕ → Type 0
IsNumber n = n ≤ MAX_NUMBER

-- numbers that fit 32 bits
abbrev pub are_numbers : List ℕ → Bool
are_numbers numbers = list_all (λ n. nat_le n MAX_NUMBER) numbers

-- the count in the number of an object or a process
abbrev pub count_of : Thing → ℕ
count_of (thing.Object oid) = oid.n
count_of (thing.Process pid) = pid.n

-- a place in a path is a number of 8 bits
abbrev pub PlaceInRange : Place → Type 0
PlaceInRange (place.First n) = n < 2 ^ 8
PlaceInRange (place.Second n) = n < 2 ^ 8
PlaceInRange _ = Unit {0}

-- an exit status is a number of 8 bits
abbrev pub EndingInRange : Ending → Type 0
EndingInRange (ending.Exit code) = code < 2 ^ 8
EndingInRange _ = Unit {0}
