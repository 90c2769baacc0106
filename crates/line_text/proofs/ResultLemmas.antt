-- Facts that hold whether or not a function gives a value.
use Rattle.std.specs.Prelude.{Result, Ok, Err, OnOk}

-- what holds in any case holds at `Ok`
pub on_ok : {T E P : Type 0} (r : Result T E) → P → OnOk r P
on_ok (Ok x) p = p
on_ok (Err e) p = tt
