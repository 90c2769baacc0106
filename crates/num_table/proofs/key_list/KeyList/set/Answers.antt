use Rattle.std.proofs.Common.{◌≡◌, ℕ, ◌+◌, ◌<◌, ◌≤◌, ◌==◌, suc, zero, true, false, List, [], ◌∷◌, ◌++◌, Option, None, Some, cond, get_or, length, refl, sym, ◌∙◌, arith, slice_set}
use Rattle.std.specs.List.{AllByRecursion}
use Rattle.std.proofs.lemmas.Bool.{eq-eqb, eqb-true, true≢false}
use Rattle.std.proofs.lemmas.List.{get_or-set_other, get_or-set_same, take_all}
use Rattle.kern_model.specs.LabelLists.{IsSet}
use Rattle.num_table.proofs.key_list.KeyList.set.Goals as goal
use Rattle.num_table.proofs.key_list.KeyList.set.Goals.{then-index-len+in_ok-resize, else-index-len}

module _ {X : Type 0} (P : Option X → Type 0) (none : (o : Option X) → P o → o ≡ None) where
  -- places without a key hold none
  empty : (ys : List (Option X)) → AllByRecursion P ys → (m : ℕ) → get_or ys m None ≡ None
  empty [] all m = refl
  empty (y ∷ ys) all zero = none y all.0
  empty (y ∷ ys) all (suc m) = empty ys all.1 m

  -- behind a list, they change nothing that it says
  longer : (xs ys : List (Option X)) → AllByRecursion P ys → (m : ℕ) → get_or (xs ++ ys) m None ≡ get_or xs m None
  longer [] ys all m = empty ys all m
  longer (x ∷ xs) ys all zero = refl
  longer (x ∷ xs) ys all (suc m) = longer xs ys all m

-- an item is put at its count into a list that says the same as the old one
put : {X : Type 0} (old new : List (Option X)) (n : ℕ) (item : Option X) → n < length new → ((m : ℕ) → get_or new m None ≡ get_or old m None) → IsSet None old n item (slice_set new n item)
put old new n item h same m = elim (m == n) as (λ b. m == n ≡ b → get_or (slice_set new n item) m None ≡ cond b item (get_or old m None)) [
  | true ↦ λ e. rw (eqb-true m n e) (get_or-set_same new n item None h)
  | false ↦ λ e. get_or-set_other new n m item None (λ s. true≢false (sym (eq-eqb m n s) ∙ e)) ∙ same m
] refl

pub returns-clause-ok : goal.returns-clause-ok
returns-clause-ok c =
    let keys : List (Option ℕ) = c.if-index-len.self-inside.keys.items in
    let within : c.args.n < length keys = elim c.if-index-len.branch [
      | then-index-len+in_ok-resize w ↦ rw w.self-inside-is (omega (arith, w.in_ok-resize.ensures.len))
      | else-index-len w ↦ rw w.self-inside-is (omega arith)
    ] in
    let same : (m : ℕ) → get_or keys m None ≡ get_or c.args.self.now m None = elim c.if-index-len.branch [
      | then-index-len+in_ok-resize w ↦
          let was : List (Option ℕ) = c.self.inside.keys.items in
          let new = w.in_ok-resize.ensures.items in
          let all : length was ≤ c.args.n + 1 = omega arith in
          rw (w.self-inside-is, ← c.self.view_is, new.1, take_all (c.args.n + 1) was all)
          (longer _ (λ o e. grind arith) was new.0 new.2)
      | else-index-len w ↦ rw (w.self-inside-is, c.self.view_is) (λ m. refl)
    ] in
    rw c.in_ok-place.ensures (put c.args.self.now keys c.args.n (Some c.args.key) within same)
