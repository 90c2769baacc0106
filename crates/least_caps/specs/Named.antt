-- The capabilities that records name as exercised.
use Rattle.std.specs.Prelude.{List, [], ◌∷◌}
use Rattle.cap_bits.specs.CapSet.{CapSet, no_caps, union_of, with_cap}
use Rattle.kern_model.specs.declared.records.Rec.{Rec}
use Rattle.kern_model.specs.declared.records.Rec.TheVariants as rec

-- what is in the set of any of these
abbrev pub union_over : {X : Type 0} → (X → CapSet) → List X → CapSet
union_over f [] = no_caps
union_over f (x ∷ xs) = union_of (f x) (union_over f xs)

-- the capability of an exercise; any other record names none
abbrev pub exercised : Rec → CapSet
exercised (rec.Exercise e) = with_cap no_caps e.cap
exercised _ = no_caps

-- the capabilities that the exercises among records name
abbrev pub named : List Rec → CapSet
named recs = union_over exercised recs
