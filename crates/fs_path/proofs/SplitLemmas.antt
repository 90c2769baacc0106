-- The parts of a text before and after the first occurrence of a byte, and the pieces between all its occurrences.
use Rattle.std.proofs.Common.{◌≡◌, ℕ, ◌+◌, ◌-◌, ◌≤◌, ◌<◌, Bool, true, false, ◌==◌, ◌||◌, cond, not, nat_lt, List, [], ◌∷◌, length, take, drop, suc, refl, sym, ◌∙◌, ap, arith, Option, Some, None}
use Rattle.std.specs.Prelude.{position}
use Rattle.std.specs.List.{after_first, before_first, join_with_byte, list_any, onto_first, position_or_len}
use Rattle.std.proofs.lemmas.Bool.{ltb-true, ltb-false, lt-ltb}
use Rattle.std.proofs.lemmas.Bool.Decides.{nat_tests}
use Rattle.std.proofs.lemmas.List.{take_all, take_rest}
use Rattle.std.proofs.lemmas.List.Splits.{join_with_byte-slice_split, slice_split_first}
use Rattle.fs_path.specs.Split.{onto_piece, split_once, pieces, pieces_of_rest, after_first_of}

-- ---- the parts by the position of the byte

abbrev parts_at : ℕ → List ℕ → Option (List ℕ × List ℕ)
parts_at n t = cond (nat_lt n (length t)) (Some (take n t, drop (suc n) t)) None

less_more : (a b : ℕ) → nat_lt (suc a) (suc b) ≡ nat_lt a b
less_more a b = grind (arith, nat_tests)

onto_cond : (x : ℕ) (v : Bool) (p : List ℕ × List ℕ) → onto_piece x (cond v (Some p) None) ≡ cond v (Some (x ∷ p.0, p.1)) None
onto_cond x true p = refl
onto_cond x false p = refl

parts_more : (x n : ℕ) (t : List ℕ) → parts_at (1 + n) (x ∷ t) ≡ onto_piece x (parts_at n t)
parts_more x n t =
    let e : 1 + n ≡ suc n = omega arith in
    ap (λ k. parts_at k (x ∷ t)) e
    ∙ ap (λ v. cond v (Some (x ∷ take n t, drop (suc n) t)) None) (less_more n (length t))
    ∙ sym (onto_cond x (nat_lt n (length t)) (take n t, drop (suc n) t))

some_long : (xs : List ℕ) → nat_lt 0 (suc (length xs)) ≡ true
some_long xs = grind (arith, nat_tests)

split_is : (b : ℕ) (t : List ℕ) → split_once b t ≡ parts_at (position_or_len (λ x. x == b) t) t
unfolding split_once
split_is b [] = refl
split_is b (x ∷ xs) =
    elim (x == b) as (λ v. cond v (Some ([], xs)) (onto_piece x (split_once b xs)) ≡ parts_at (cond (not v) (1 + position_or_len (λ y. y == b) xs) 0) (x ∷ xs))
    [ true ↦ sym (ap (λ v. cond v (Some ([], xs)) None) (some_long xs)) | false ↦ ap (onto_piece x) (split_is b xs) ∙ sym (parts_more x (position_or_len (λ y. y == b) xs) xs) ]

-- ---- the first position at which a test passes

-- an item passes a test exactly where the first position is within the list
pub any_before_end : {X : Type 0} (p : X → Bool) (xs : List X) → list_any p xs ≡ nat_lt (position_or_len p xs) (length xs)
any_before_end p [] = refl
any_before_end p (x ∷ xs) = elim (p x) as (λ v. (v || list_any p xs) ≡ nat_lt (cond (not v) (1 + position_or_len p xs) 0) (suc (length xs))) [
  | true ↦ first (length xs)
  | false ↦ any_before_end p xs ∙ later (position_or_len p xs) (length xs)
]
  where
    first : (n : ℕ) → true ≡ nat_lt 0 (suc n)
    first n = grind (arith, nat_tests)

    later : (k n : ℕ) → nat_lt k n ≡ nat_lt (1 + k) (suc n)
    later k n = grind (arith, nat_tests)

-- a position that is found is within the list, and an item passes the test
pub position_found : {X : Type 0} (p : X → Bool) (xs : List X) (i : ℕ) → position p xs ≡ Some i → (i < length xs) × (position_or_len p xs ≡ i) × (list_any p xs ≡ true)
position_found p xs i h = by_place (nat_lt (position_or_len p xs) (length xs)) refl h
  where
    by_place : (v : Bool) → nat_lt (position_or_len p xs) (length xs) ≡ v → cond v (Some (position_or_len p xs)) None ≡ Some i → (i < length xs) × (position_or_len p xs ≡ i) × (list_any p xs ≡ true)
    by_place true lt h =
        let same : position_or_len p xs ≡ i = cc in
        let below = ltb-true (position_or_len p xs) (length xs) lt in
        (omega arith, same, any_before_end p xs ∙ lt)
    by_place false lt h = absurd (cc)

-- where no position is found, no item passes the test
pub position_missing : {X : Type 0} (p : X → Bool) (xs : List X) → position p xs ≡ None → (length xs ≤ position_or_len p xs) × (list_any p xs ≡ false)
position_missing p xs h = by_place (nat_lt (position_or_len p xs) (length xs)) refl h
  where
    by_place : (v : Bool) → nat_lt (position_or_len p xs) (length xs) ≡ v → cond v (Some (position_or_len p xs)) None ≡ None → (length xs ≤ position_or_len p xs) × (list_any p xs ≡ false)
    by_place true lt h = absurd (cc)
    by_place false lt h = (ltb-false (position_or_len p xs) (length xs) lt, any_before_end p xs ∙ lt)

-- ---- the two parts

pub split_parts : (b n : ℕ) (t : List ℕ) → Some n ≡ position (λ x. x == b) t → split_once b t ≡ Some (take n t, take (length t - (n + 1)) (drop (n + 1) t))
split_parts b n t e =
    let found = position_found (λ x. x == b) t n (sym e) in
    let more : suc n ≡ n + 1 = omega arith in
    split_is b t ∙ ap (λ k. parts_at k t) found.1 ∙ ap (λ v. cond v (Some (take n t, drop (suc n) t)) None) (lt-ltb n (length t) found.0)
    ∙ ap (λ k. Some (take n t, drop k t)) more ∙ ap (λ (r : List ℕ). Some (take n t, r)) (sym (take_rest t (n + 1)))

pub split_missing : (b : ℕ) (t : List ℕ) → None ≡ position (λ x. x == b) t → split_once b t ≡ None
split_missing b t e =
    let missing = position_missing (λ x. x == b) t (sym e) in
    split_is b t ∙ ap (λ v. cond v (Some (take (position_or_len (λ x. x == b) t) t, drop (suc (position_or_len (λ x. x == b) t)) t)) None) (sym (any_before_end (λ x. x == b) t) ∙ missing.1)

-- ---- pieces

abbrev from_split : ℕ → List ℕ → Option (List ℕ × List ℕ) → List (List ℕ)
from_split b t None = t ∷ []
from_split b t (Some p) = p.0 ∷ pieces b p.1

onto_split : (b x : ℕ) (t : List ℕ) (o : Option (List ℕ × List ℕ)) → onto_first x (from_split b t o) ≡ from_split b (x ∷ t) (onto_piece x o)
onto_split b x t None = refl
onto_split b x t (Some p) = refl

-- the first piece ends at the first occurrence of the byte
pub pieces_split : (b : ℕ) (t : List ℕ) → pieces b t ≡ from_split b t (split_once b t)
unfolding split_once
pieces_split b [] = refl
pieces_split b (x ∷ xs) = elim (x == b) as (λ v. cond v ([] ∷ pieces b xs) (onto_first x (pieces b xs)) ≡ from_split b (x ∷ xs) (cond v (Some ([], xs)) (onto_piece x (split_once b xs))))
    [ true ↦ refl | false ↦ ap (onto_first x) (pieces_split b xs) ∙ onto_split b x xs (split_once b xs) ]

pub pieces_some : (b : ℕ) (t l r : List ℕ) → split_once b t ≡ Some (l, r) → pieces b t ≡ l ∷ pieces b r
pieces_some b t l r e = pieces_split b t ∙ ap (from_split b t) e

pub pieces_none : (b : ℕ) (t : List ℕ) → split_once b t ≡ None → pieces b t ≡ t ∷ []
pieces_none b t e = pieces_split b t ∙ ap (from_split b t) e

-- a text has a first piece
pub pieces_first : (b : ℕ) (t : List ℕ) → (p : List ℕ) × (ps : List (List ℕ)) × (pieces b t ≡ p ∷ ps)
pieces_first b t = by_split (split_once b t) refl
  where
    by_split : (o : Option (List ℕ × List ℕ)) → split_once b t ≡ o → (p : List ℕ) × (ps : List (List ℕ)) × (pieces b t ≡ p ∷ ps)
    by_split None e = (t, [], pieces_none b t e)
    by_split (Some p) e = (p.0, pieces b p.1, pieces_some b t p.0 p.1 e)

pub pieces_found : (b n : ℕ) (t : List ℕ) → Some n ≡ position (λ x. x == b) t → pieces b t ≡ take n t ∷ pieces b (take (length t - (n + 1)) (drop (n + 1) t))
pieces_found b n t e = pieces_some b t _ _ (split_parts b n t e)

pub pieces_missing : (b : ℕ) (t : List ℕ) → None ≡ position (λ x. x == b) t → pieces b t ≡ t ∷ []
pieces_missing b t e = pieces_none b t (split_missing b t e)

-- ---- the first piece

-- the first piece, and the pieces of the rest, by definitions of std
pieces_by_first : (b : ℕ) (t : List ℕ) → pieces b t ≡ before_first (λ x. x == b) t ∷ pieces_of_rest b (after_first_of b t)
pieces_by_first b t = by_any (list_any (λ x. x == b) t) refl
  where
    by_any : (v : Bool) → list_any (λ x. x == b) t ≡ v → pieces b t ≡ before_first (λ x. x == b) t ∷ pieces_of_rest b (cond v (Some (after_first (λ x. x == b) t)) None)
    by_any true h = slice_split_first (λ x. x == b) t 0 (ltb-true (position_or_len (λ x. x == b) t) (length t) (sym (any_before_end (λ x. x == b) t) ∙ h))
    by_any false h =
        let none : split_once b t ≡ None = split_is b t ∙ ap (λ v. cond v (Some (take (position_or_len (λ x. x == b) t) t, drop (suc (position_or_len (λ x. x == b) t)) t)) None) (sym (any_before_end (λ x. x == b) t) ∙ h) in
        pieces_none b t none
        ∙ ap (λ l. l ∷ []) (sym (take_all (position_or_len (λ x. x == b) t) t (ltb-false (position_or_len (λ x. x == b) t) (length t) (sym (any_before_end (λ x. x == b) t) ∙ h))))

-- the first piece is the text before the first occurrence of the byte
pub before_is : (b : ℕ) (t l : List ℕ) (r : Option (List ℕ)) → pieces b t ≡ l ∷ pieces_of_rest b r → l ≡ before_first (λ x. x == b) t
before_is b t l r h = let same : l ∷ pieces_of_rest b r ≡ before_first (λ x. x == b) t ∷ pieces_of_rest b (after_first_of b t) = sym h ∙ pieces_by_first b t in cc

-- rests with the same pieces are equal
rest_is : (b : ℕ) (r o : Option (List ℕ)) → pieces_of_rest b r ≡ pieces_of_rest b o → r ≡ o
rest_is b None None h = refl
rest_is b None (Some u) h = let first = pieces_first b u in let some : [] ≡ first.0 ∷ first.1 = h ∙ first.2 in absurd (cc)
rest_is b (Some t) None h = let first = pieces_first b t in let some : first.0 ∷ first.1 ≡ [] = sym first.2 ∙ h in absurd (cc)
rest_is b (Some t) (Some u) h = ap Some (sym (join_with_byte-slice_split b t) ∙ ap (join_with_byte b) h ∙ join_with_byte-slice_split b u)

tails_same : (x y : List ℕ) (xs ys : List (List ℕ)) → x ∷ xs ≡ y ∷ ys → xs ≡ ys
tails_same x y xs ys h = cc

-- the rest is the text after the first occurrence of the byte
pub after_is : (b : ℕ) (t l : List ℕ) (r : Option (List ℕ)) → pieces b t ≡ l ∷ pieces_of_rest b r → r ≡ after_first_of b t
after_is b t l r h = rest_is b r (after_first_of b t) (tails_same l (before_first (λ x. x == b) t) _ _ (sym h ∙ pieces_by_first b t))
