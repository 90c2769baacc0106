-- Coverage and order of pairs, from coverage and order of their parts.
use Rattle.std.specs.Prelude.{◌≡◌, Bool, true, false, ◌&&◌, refl}
use Rattle.std.specs.declared.cmp.Ordering.{Ordering}
use Rattle.std.specs.declared.cmp.Ordering.TheVariants.{Equal}
use Rattle.std.specs.Ordering.{is_eq}
use Rattle.std.specs.Cmp.{Equal-is, tied_then, first_so, second_so}
use Rattle.std.specs.FinMap.{IsAntisymmetric}
use Rattle.std.proofs.Common.{ap, sym, ◌∙◌}
use Rattle.lab_lattice.specs.declared.pair.Pair.{Pair}
use Rattle.lab_lattice.specs.Pair.{pair_covers, pair_covers-parts, pair_cmp, pair_cmp-parts}

module _ {A B : Type 0} {f : A → A → Ordering} {g : B → B → Ordering} where
  pub pair_cmp_exact : IsAntisymmetric f → IsAntisymmetric g → IsAntisymmetric (pair_cmp f g)
  pair_cmp_exact p q x y e =
      let both : (is_eq (f x.first y.first) && is_eq (g x.second y.second)) ≡ true = tied_then (f x.first y.first) (g x.second y.second) ∙ ap is_eq (sym (pair_cmp-parts f g x y) ∙ e) in
      let one : f x.first y.first ≡ Equal = (Equal-is (f x.first y.first)).0 (first_so (is_eq (f x.first y.first)) (is_eq (g x.second y.second)) both) in
      let other : g x.second y.second ≡ Equal = (Equal-is (g x.second y.second)).0 (second_so (is_eq (f x.first y.first)) (is_eq (g x.second y.second)) both) in
      λ i. record { first = p x.first y.first one i; second = q x.second y.second other i }

regroup : (a b c d : Bool) → ((a && b) && (c && d)) ≡ ((a && c) && (b && d))
regroup true true c d = refl
regroup true false true d = refl
regroup true false false d = refl
regroup false b c d = refl

-- two pairs cover each other exactly where both of their parts do
pub pair_covers_both : {A B : Type 0} (f : A → A → Bool) (g : B → B → Bool) (x y : Pair A B) → ((f x.first y.first && f y.first x.first) && (g x.second y.second && g y.second x.second)) ≡ (pair_covers f g x y && pair_covers f g y x)
pair_covers_both f g x y =
    regroup (f x.first y.first) (f y.first x.first) (g x.second y.second) (g y.second x.second)
    ∙ sym (λ i. pair_covers-parts f g x y i && pair_covers-parts f g y x i)
