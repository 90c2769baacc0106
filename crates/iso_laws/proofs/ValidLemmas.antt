-- What drawing numbers keeps.
use Rattle.std.specs.Prelude.{◌≡◌, ℕ, ◌+◌, ◌≤◌, true, cond, List, [], ◌∷◌, ◌++◌, count_by}
use Rattle.std.proofs.Common.{◌∙◌, ap, arith}
use Rattle.std.proofs.lemmas.Bool.{and_from}
use Rattle.std.proofs.lemmas.List.Sums.{sum_by_push}
use Rattle.std.specs.FinMap as map
use Rattle.std.specs.FinMap.{FinMap}
use Rattle.lab_lattice.specs.Label.{Label, dominates, label_cmp}
use Rattle.lab_lattice.proofs.Labels.{dominates_itself, label_cmp_total, label_cmp_exact}
use Rattle.kern_model.specs.Rules.{same_label}
use Rattle.kern_model.specs.State.{last_drawn}
use Rattle.kern_model.specs.Valid.{IsDrawn}
use Rattle.kern_model.proofs.MapLemmas.{get-insert_same, get_or-found}
use Rattle.kern_model.proofs.TableLemmas.{each_set_at}

-- how many of a list have a label
module _ {X : Type 0} (label_of : X → Label) where
  abbrev count_at : Label → List X → ℕ
  count_at l xs = count_by (λ x. same_label (label_of x) l) xs

  count_push : (l : Label) (xs : List X) (x : X) → count_at l (xs ++ x ∷ []) ≡ count_at l xs + cond (same_label (label_of x) l) 1 0
  count_push l xs x = sum_by_push (λ y. cond (same_label (label_of y) l) 1 0) xs x

  pub no_fewer : (l : Label) (xs : List X) (x : X) → count_at l xs ≤ count_at l (xs ++ x ∷ [])
  no_fewer l xs x = omega (arith, count_push l xs x)

  pub one_more : (xs : List X) (x : X) → count_at (label_of x) xs + 1 ≤ count_at (label_of x) (xs ++ x ∷ [])
  one_more xs x =
      let l = label_of x in
      let more : count_at l (xs ++ x ∷ []) ≡ count_at l xs + 1 =
      count_push l xs x ∙ ap (λ b. count_at l xs + cond b 1 0) (and_from (dominates l l) (dominates l l) (dominates_itself l) (dominates_itself l)) in
      omega (arith, more)

-- the next number of a label is drawn
module _ (numbers : FinMap label_cmp ℕ) (label : Label) where
  abbrev drawn_next : FinMap label_cmp ℕ
  drawn_next = map.insert numbers label (last_drawn numbers label + 1)

  each_next : (P : Label → ℕ → Type 0) → P label (last_drawn numbers label + 1) → ((l : Label) → P l (last_drawn numbers l)) → (l : Label) → P l (last_drawn drawn_next l)
  each_next P = each_set_at label_cmp_total label_cmp_exact P 0 numbers label (last_drawn numbers label + 1)

  -- what was drawn stays drawn
  pub still_drawn : (l : Label) (n : ℕ) → IsDrawn n (last_drawn numbers l) → IsDrawn n (last_drawn drawn_next l)
  still_drawn l n h =
      let more : last_drawn numbers l ≤ last_drawn drawn_next l = each_next (λ q x. last_drawn numbers q ≤ x) (omega arith) (λ q. omega arith) l in
      (h.0, omega (arith, h.1, more))

  -- the next number is drawn now
  pub next_drawn : IsDrawn (last_drawn numbers label + 1) (last_drawn drawn_next label)
  next_drawn =
      let now : last_drawn drawn_next label ≡ last_drawn numbers label + 1 = get_or-found _ label 0 _ (get-insert_same label_cmp_total numbers label _) in
      (omega arith, omega (arith, now))

  -- labels at which numbers are drawn stay below top
  pub still_below : (top : Label) → dominates top label ≡ true → ((l : Label) → 1 ≤ last_drawn numbers l → dominates top l ≡ true) → (l : Label) → 1 ≤ last_drawn drawn_next l → dominates top l ≡ true
  still_below top below old = each_next (λ l x. 1 ≤ x → dominates top l ≡ true) (λ _. below) old

  -- no more are drawn than are counted
  pub still_counted : (count more : Label → ℕ) → ((l : Label) → last_drawn numbers l ≤ count l) → ((l : Label) → count l ≤ more l) → count label + 1 ≤ more label → (l : Label) → last_drawn drawn_next l ≤ more l
  still_counted count more few up one = each_next (λ l x. x ≤ more l) (omega (arith, few label)) (λ l. omega (arith, few l, up l))
