-- What holds of an answer, from what its parts say.
use Rattle.std.specs.Prelude.{◌≡◌, Result, Ok, Err, OnErr, OnOk}
use Rattle.std.proofs.Common.{sym, subst}

-- what follows from either answer
pub either_way : {X E A B P : Type 0} (r : Result X E) → (A → P) → (B → P) → OnOk r A → OnErr r B → P
either_way (Ok x) f g a b = f a
either_way (Err e) f g a b = g b

-- what holds of an answer holds of its equal
pub same_err : {X E : Type 0} (P : Type 0) (r s : Result X E) → r ≡ s → OnErr s P → OnErr r P
same_err P r s e h = subst (λ r. OnErr r P) (sym e) h

-- what follows from two facts of an answer
pub both_ok : {X E A B P : Type 0} (r : Result X E) → (A → B → P) → OnOk r A → OnOk r B → OnOk r P
both_ok (Ok x) f a b = f a b
both_ok (Err e) f a b = tt
