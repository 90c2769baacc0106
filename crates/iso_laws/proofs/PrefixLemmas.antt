-- Lists that begin with one another.
use Rattle.std.specs.Prelude.{◌≡◌, List, [], ◌∷◌, ◌++◌, refl}
use Rattle.std.proofs.Common.{sym, ◌∙◌, ap, inl, inr}
use Rattle.std.proofs.lemmas.List.{append_assoc}
use Rattle.kern_model.specs.Prefixes.{IsPrefix, Agree}

module _ {X : Type 0} where
  -- a prefix of a prefix is a prefix
  pub prefix_through : (xs ys zs : List X) → IsPrefix xs ys → IsPrefix ys zs → IsPrefix xs zs
  prefix_through xs ys zs f g = record {
    rest = f.rest ++ g.rest;
    whole_is = g.whole_is ∙ ap (λ us. us ++ g.rest) f.whole_is ∙ append_assoc xs f.rest g.rest;
  }

  prefixes : (xs ys us vs : List X) → xs ++ us ≡ ys ++ vs → Agree xs ys
  prefixes [] ys us vs e = inl (record { rest = ys; whole_is = refl })
  prefixes (x ∷ xs) [] us vs e = inr (record { rest = x ∷ xs; whole_is = refl })
  prefixes (x ∷ xs) (y ∷ ys) us vs e =
      let head : x ≡ y = cc in
      let tail : xs ++ us ≡ ys ++ vs = cc in
      elim (prefixes xs ys us vs tail) as (λ w. Agree (x ∷ xs) (y ∷ ys)) [
        | inl f ↦ inl (record { rest = f.rest; whole_is = λ i. sym head i ∷ f.whole_is i })
        | inr f ↦ inr (record { rest = f.rest; whole_is = λ i. head i ∷ f.whole_is i })
      ]

  -- two prefixes of one list agree
  pub prefixes_agree : (xs ys zs : List X) → IsPrefix xs zs → IsPrefix ys zs → Agree xs ys
  prefixes_agree xs ys zs f g = prefixes xs ys f.rest g.rest (sym f.whole_is ∙ g.whole_is)
