-- How the answer of a function follows from what reading gives.
use Rattle.std.specs.Prelude.{◌≡◌, ⊤, Bool, Result, Ok, Err}
use Rattle.std.specs.Bool.{MatchBool}

-- reading fails by this fault, unless the fault is that memory ran out
abbrev pub FailsBy : {Y E : Type 0} → (E → Bool) → E → Result Y E → Type 0
FailsBy is_memory fault read = MatchBool (is_memory fault) ⊤ (read ≡ Err fault)

-- the answer of a function, seen by view, is what reading gives, unless memory ran out: then is_memory holds of the fault
abbrev pub AnswersAs : {X Y E : Type 0} → (E → Bool) → (X → Y) → Result X E → Result Y E → Type 0
AnswersAs is_memory view (Ok x) read = read ≡ Ok (view x)
AnswersAs is_memory view (Err fault) read = FailsBy is_memory fault read
