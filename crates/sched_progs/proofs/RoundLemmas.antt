-- Turns of labels one after another, and rounds of them.
use Rattle.std.specs.Prelude.{◌≡◌, ℕ, ◌+◌, ◌-◌, ◌<◌, suc, List, [], ◌∷◌, ◌++◌, drop, get_or, length, option_to_list, refl}
use Rattle.std.specs.List.{repeat}
use Rattle.std.proofs.Common.{arith, ap, append_assoc, sym, ◌∙◌}
use Rattle.std.proofs.lemmas.List.{drop_more}
use Rattle.lab_lattice.specs.Label.{Label}
use Rattle.sched_progs.specs.Loop.{items_of_turns, state_after_turns}
use Rattle.sched_progs.specs.Turns.{LoopItem, LoopState, turn}

-- the next item of those that are left
pub next_item : {X : Type 0} (xs : List X) (i : ℕ) (x : X) → i < length xs → x ≡ get_or xs i x → drop i xs ≡ x ∷ drop (i + 1) xs
next_item xs i x inside is = drop_more xs i x inside ∙ ap (λ y. y ∷ drop (i + 1) xs) (sym is)

module _ (x : LoopState) (slices : List Label) (i : ℕ) (k : Label) (inside : i < length slices) (is : k ≡ get_or slices i k) (y : LoopState) (same : y ≡ (turn x k).state) where
  pub items_next : items_of_turns x (drop i slices) ≡ option_to_list (turn x k).item ++ items_of_turns y (drop (i + 1) slices)
  items_next = ap (items_of_turns x) (next_item slices i k inside is) ∙ ap (λ z. option_to_list (turn x k).item ++ items_of_turns z (drop (i + 1) slices)) (sym same)

  pub state_next : state_after_turns y (drop (i + 1) slices) ≡ state_after_turns x (drop i slices)
  state_next = ap (λ z. state_after_turns z (drop (i + 1) slices)) same ∙ sym (ap (state_after_turns x) (next_item slices i k inside is))

-- ---- rounds
pub items-append : (x : LoopState) (ks ls : List Label) → items_of_turns x (ks ++ ls) ≡ items_of_turns x ks ++ items_of_turns (state_after_turns x ks) ls
items-append x [] ls = refl
items-append x (k ∷ ks) ls =
    ap (λ (r : List LoopItem). option_to_list (turn x k).item ++ r) (items-append (turn x k).state ks ls)
    ∙ sym (append_assoc (option_to_list (turn x k).item) (items_of_turns (turn x k).state ks) (items_of_turns (state_after_turns (turn x k).state ks) ls))

pub state-append : (x : LoopState) (ks ls : List Label) → state_after_turns x (ks ++ ls) ≡ state_after_turns (state_after_turns x ks) ls
state-append x [] ls = refl
state-append x (k ∷ ks) ls = state-append (turn x k).state ks ls

module _ (x : LoopState) (slices : List Label) (rounds i : ℕ) (inside : i < rounds) (y : LoopState) (same : y ≡ state_after_turns x slices) where
  one_round : repeat (rounds - i) slices ≡ slices ++ repeat (rounds - (i + 1)) slices
  one_round = let left : rounds - i ≡ suc (rounds - (i + 1)) = omega (arith, inside) in ap (λ n. repeat n slices) left

  pub items_round : items_of_turns x (repeat (rounds - i) slices) ≡ items_of_turns x slices ++ items_of_turns y (repeat (rounds - (i + 1)) slices)
  items_round =
      ap (items_of_turns x) one_round ∙ items-append x slices (repeat (rounds - (i + 1)) slices)
      ∙ ap (λ z. items_of_turns x slices ++ items_of_turns z (repeat (rounds - (i + 1)) slices)) (sym same)

  pub state_round : state_after_turns y (repeat (rounds - (i + 1)) slices) ≡ state_after_turns x (repeat (rounds - i) slices)
  state_round =
      ap (λ z. state_after_turns z (repeat (rounds - (i + 1)) slices)) same
      ∙ sym (state-append x slices (repeat (rounds - (i + 1)) slices))
      ∙ sym (ap (state_after_turns x) one_round)

-- before the first round all are left
pub all_rounds : (slices : List Label) (rounds : ℕ) → repeat (rounds - 0) slices ≡ repeat rounds slices
all_rounds slices rounds = let all : rounds - 0 ≡ rounds = omega arith in ap (λ n. repeat n slices) all

-- after the last round none is left
pub no_round : (slices : List Label) (rounds i : ℕ) → i ≡ rounds → repeat (rounds - i) slices ≡ []
no_round slices rounds i all = let none : rounds - i ≡ 0 = omega (arith, all) in ap (λ n. repeat n slices) none
