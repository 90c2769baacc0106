-- What follows from an outcome.
pub use Rattle.kern_model.proofs.LabelMaps.{at_some}
use Rattle.std.specs.Prelude.{◌≡◌, Option, None, Some, MatchOption, OnSome, Result, Ok, Err, OnErr}
use Rattle.std.proofs.Common.{subst}

-- where a value is lent
pub lent_then : {B P Q : Type 0} (r : Option B) → OnSome r P → (P → Q) → OnSome r Q
lent_then None h then = tt
lent_then (Some b) h then = then h

-- where there is a value, and where there is none
pub some_match : {X : Type 0} (P : Type 0) (Q : X → Type 0) (o : Option X) (x : X) → o ≡ Some x → MatchOption o P Q → Q x
some_match P Q o x is h = subst (λ o. MatchOption o P Q) is h

pub none_match : {X : Type 0} (P : Type 0) (Q : X → Type 0) (o : Option X) → o ≡ None → MatchOption o P Q → P
none_match P Q o is h = subst (λ o. MatchOption o P Q) is h

-- what holds in any case holds where a value is lent
pub always : {B P : Type 0} (r : Option B) → P → OnSome r P
always None p = tt
always (Some b) p = p

-- and where a call fails
pub where_err : {X E P : Type 0} (r : Result X E) → P → OnErr r P
where_err (Ok x) p = tt
where_err (Err e) p = p
