-- Lists in tiers: what an edit of a tier makes of the whole.
use Rattle.std.proofs.Common.{◌≡◌, ℕ, zero, suc, ◌+◌, ◌-◌, ◌*◌, ◌<◌, ◌≤◌, List, [], ◌∷◌, ◌++◌, length, get_or, set, take, drop, refl, ap, sym, ◌∙◌, subst, arith, append_assoc, length-append, inl, inr, None, Some}
use Rattle.std.specs.Prelude.{◌≢◌, IfSome, IsSome, OnSome, Option, Result, Ok, Err, OnErr, OnOk, flat_map}
use Rattle.std.specs.List.{insert, remove}
use Rattle.std.proofs.lemmas.Bool.{cases_eq, cases_lt}
use Rattle.std.proofs.lemmas.List.{append-nil, drop_all, get_or_append_left, get_or_default, get_or-set_other, get_or-set_same, length-set, set-append_left, set-append_right, set-get_or, set_split}
use Rattle.std.proofs.lemmas.List.Concat.{flat_map-append, get_or-flat_map}
use Rattle.std.proofs.lemmas.List.Edits.{insert-append_left}
use Rattle.fs_dirs.specs.declared.tiers.TheConstants.{TIER}
use Rattle.fs_dirs.specs.Tiers.{AreTiers, HasSpare, AreTiersOf, IsIndexOf, Tier, all_items, first_size, items_before}

-- an edit after the first lists
insert_past : {X : Type 0} (xs ys : List X) (i at : ℕ) (x : X) → at ≡ length xs + i → insert (xs ++ ys) at x ≡ xs ++ insert ys i x
insert_past [] ys i at x e = ap (λ k. insert ys k x) (omega arith)
insert_past (y ∷ xs) ys i zero x e = absurd (omega arith)
insert_past (y ∷ xs) ys i (suc at) x e = ap (λ zs. y ∷ zs) (insert_past xs ys i at x (omega arith))

remove_past : {X : Type 0} (xs ys : List X) (i at : ℕ) → at ≡ length xs + i → remove (xs ++ ys) at ≡ xs ++ remove ys i
remove_past [] ys i at e = ap (λ k. remove ys k) (omega arith)
remove_past (y ∷ xs) ys i zero e = absurd (omega arith)
remove_past (y ∷ xs) ys i (suc at) e = ap (λ zs. y ∷ zs) (remove_past xs ys i at (omega arith))

-- and before the last
remove_before : {X : Type 0} (xs ys : List X) (i : ℕ) → i < length xs → remove (xs ++ ys) i ≡ remove xs i ++ ys
remove_before [] ys i h = absurd (omega arith)
remove_before (x ∷ xs) ys zero h = refl
remove_before (x ∷ xs) ys (suc i) h = ap (λ zs. x ∷ zs) (remove_before xs ys i (omega arith))

-- lists of items all_items in order
module _ {A X : Type 0} (f : A → List X) where
  -- one that has the same items
  pub same_items : (ts : List A) (i : ℕ) (a d : A) → f a ≡ f (get_or ts i d) → flat_map f (set ts i a) ≡ flat_map f ts
  same_items [] i a d e = refl
  same_items (t ∷ ts) zero a d e = ap (λ xs. xs ++ flat_map f ts) e
  same_items (t ∷ ts) (suc i) a d e = ap (λ xs. f t ++ xs) (same_items ts i a d e)

  neighbours : (ts : List A) (i : ℕ) (a b d e : A) → suc i < length ts → f a ++ f b ≡ f (get_or ts i d) ++ f (get_or ts (suc i) e) → flat_map f (set (set ts i a) (suc i) b) ≡ flat_map f ts
  neighbours [] i a b d e w h = absurd (omega arith)
  neighbours (t ∷ []) zero a b d e w h = absurd (omega arith)
  neighbours (t ∷ u ∷ ts) zero a b d e w h = sym (append_assoc (f a) (f b) (flat_map f ts)) ∙ ap (λ xs. xs ++ flat_map f ts) h ∙ append_assoc (f t) (f u) (flat_map f ts)
  neighbours (t ∷ ts) (suc i) a b d e w h = ap (λ xs. f t ++ xs) (neighbours ts i a b d e (omega arith) h)

  -- two neighbours that have the same items together
  pub same_together : (ts : List A) (i j : ℕ) (a b d e : A) → j ≡ suc i → j < length ts → f a ++ f b ≡ f (get_or ts i d) ++ f (get_or ts j e) → flat_map f (set (set ts i a) j b) ≡ flat_map f ts
  same_together ts i j a b d e next w h =
      subst (λ k. flat_map f (set (set ts i a) k b) ≡ flat_map f ts) (sym next)
      (neighbours ts i a b d e (omega arith) (h ∙ ap (λ k. f (get_or ts i d) ++ f (get_or ts k e)) next))

  with_one : (ts : List A) (i : ℕ) (a : A) → i < length ts → flat_map f (set ts i a) ≡ flat_map f (take i ts) ++ (f a ++ flat_map f (drop (suc i) ts))
  with_one ts i a w = ap (flat_map f) (set_split ts i a w) ∙ flat_map-append f (take i ts) (a ∷ drop (suc i) ts)

  around : (ts : List A) (i : ℕ) (d : A) → i < length ts → flat_map f ts ≡ flat_map f (take i ts) ++ (f (get_or ts i d) ++ flat_map f (drop (suc i) ts))
  around ts i d w = ap (flat_map f) (sym (set-get_or ts i d)) ∙ with_one ts i (get_or ts i d) w

module _ {A X : Type 0} (f : A → List X) where
  front : (ts : List A) (i : ℕ) → i ≤ length ts → ((k : ℕ) (d : A) → k < i → length (f (get_or ts k d)) ≡ TIER) → length (flat_map f (take i ts)) ≡ i * TIER
  front ts zero w full = refl
  front [] (suc i) w full = absurd (omega arith)
  front (t ∷ ts) (suc i) w full =
      let both = length-append (f t) (flat_map f (take i ts)) in
      let one = full zero t (omega arith) in
      let rest = front ts i (omega arith) (λ k d h. full (suc k) d (omega arith)) in
      omega arith

  -- the items of the first ones, of the next, and of the rest
  how_many : (ts : List A) (i : ℕ) (d : A) → i < length ts → length (flat_map f ts) ≡ length (flat_map f (take i ts)) + (length (f (get_or ts i d)) + length (flat_map f (drop (suc i) ts)))
  how_many ts i d w =
      ap length (around f ts i d w)
      ∙ length-append (flat_map f (take i ts)) (f (get_or ts i d) ++ flat_map f (drop (suc i) ts))
      ∙ ap (λ n. length (flat_map f (take i ts)) + n) (length-append (f (get_or ts i d)) (flat_map f (drop (suc i) ts)))

  -- at a place of the i-th one
  module _ (ts : List A) (i : ℕ) (w : i < length ts) (place at : ℕ) (is : at ≡ length (flat_map f (take i ts)) + place) where
    -- the item at a place
    pub item_there : (e : A) (d : X) → place < length (f (get_or ts i e)) → get_or (flat_map f ts) at d ≡ get_or (f (get_or ts i e)) place d
    item_there e d within = ap (λ k. get_or (flat_map f ts) k d) is ∙ get_or-flat_map f ts i place e d w within

    -- an item comes
    pub put_in : (a e : A) (x : X) → place ≤ length (f (get_or ts i e)) → f a ≡ insert (f (get_or ts i e)) place x → flat_map f (set ts i a) ≡ insert (flat_map f ts) at x
    put_in a e x within h =
        let first = flat_map f (take i ts) in
        let rest = flat_map f (drop (suc i) ts) in
        let here = f (get_or ts i e) in
        with_one f ts i a w ∙ ap (λ xs. first ++ (xs ++ rest)) h
        ∙ ap (λ xs. first ++ xs) (sym (insert-append_left here rest place x within))
        ∙ sym (insert_past first (here ++ rest) place at x is)
        ∙ ap (λ xs. insert xs at x) (sym (around f ts i e w))

    -- an item goes
    pub taken_from : (a e : A) → place < length (f (get_or ts i e)) → f a ≡ remove (f (get_or ts i e)) place → flat_map f (set ts i a) ≡ remove (flat_map f ts) at
    taken_from a e within h =
        let first = flat_map f (take i ts) in
        let rest = flat_map f (drop (suc i) ts) in
        let here = f (get_or ts i e) in
        with_one f ts i a w ∙ ap (λ xs. first ++ (xs ++ rest)) h
        ∙ ap (λ xs. first ++ xs) (sym (remove_before here rest place within))
        ∙ sym (remove_past first (here ++ rest) place at is)
        ∙ ap (λ xs. remove xs at) (sym (around f ts i e w))

    -- an item is replaced
    pub replaced : (a e : A) (x : X) → place < length (f (get_or ts i e)) → f a ≡ set (f (get_or ts i e)) place x → flat_map f (set ts i a) ≡ set (flat_map f ts) at x
    replaced a e x within h =
        let first = flat_map f (take i ts) in
        let rest = flat_map f (drop (suc i) ts) in
        let here = f (get_or ts i e) in
        with_one f ts i a w ∙ ap (λ xs. first ++ (xs ++ rest)) h
        ∙ ap (λ xs. first ++ xs) (sym (set-append_left here rest place x within))
        ∙ sym (set-append_right first (here ++ rest) (length first) at x refl (omega arith) ∙ ap (λ k. first ++ set (here ++ rest) k x) (omega arith))
        ∙ ap (λ xs. set xs at x) (sym (around f ts i e w))

-- an item that goes from the end of one list to the front of the next
pub up_together : {X : Type 0} (a b left right : List X) (x : X) → a ≡ left ++ x ∷ [] → right ≡ x ∷ b → left ++ right ≡ a ++ b
up_together a b left right x h₁ h₂ = ap (λ xs. left ++ xs) h₂ ∙ sym (append_assoc left (x ∷ []) b) ∙ ap (λ xs. xs ++ b) (sym h₁)

-- the same edit of the same list
pub same_edit : {X Y : Type 0} (edit : List X → ℕ → Y) (xs ys : List X) (m n : ℕ) → ys ≡ xs → m ≡ n → edit ys n ≡ edit xs m
same_edit edit xs ys m n same at = ap (λ zs. edit zs n) same ∙ ap (edit xs) (sym at)

-- what holds of a call that has no reason to fail
pub not_full : {X E P Q : Type 0} (r : Result X E) → OnErr r Q → (Q → ⊥) → OnOk r P → P
not_full (Ok x) h never done = done
not_full (Err e) h never done = absurd (never h)

-- where a value is lent
pub on_some : {B P : Type 0} (r : Option B) → (IsSome r → P) → OnSome r P
on_some None h = tt
on_some (Some b) h = h refl

pub if_some : {B : Type 0} {P Q : B → Type 0} (r : Option B) → ((b : B) → IsSome r → P b → Q b) → IfSome r P → IfSome r Q
if_some None h p = tt
if_some (Some b) h p = h b refl p

-- what holds of each item of a list in which two are replaced
at_two : {A : Type 0} (P : A → Type 0) (ts : List A) (i j : ℕ) (a b : A) (k : ℕ) (d : A) → i < length ts → j < length ts → i ≢ j → (k ≡ j → P b) → (k ≡ i → P a) → (k ≢ i → k ≢ j → P (get_or ts k d)) → P (get_or (set (set ts i a) j b) k d)
at_two P ts i j a b k d wi wj ne atj ati other = elim (cases_eq k j) [
  | inl e ↦ subst (λ n. P (get_or (set (set ts i a) j b) n d)) (sym e) (subst P (sym (get_or-set_same (set ts i a) j b d (let l = length-set ts i a in omega arith))) (atj e))
  | inr nj ↦ subst P (sym (get_or-set_other (set ts i a) j k b d nj)) (elim (cases_eq k i) [
    | inl e ↦ subst (λ n. P (get_or (set ts i a) n d)) (sym e) (subst P (sym (get_or-set_same ts i a d wi)) (ati e))
    | inr ni ↦ subst P (sym (get_or-set_other ts i k a d ni)) (other ni nj)
  ])
]

-- tiers of a list
module _ {X : Type 0} where
  -- the spare place moves from a tier to the one before
  pub spare_before : (ts : List (Tier X)) (i j : ℕ) (a b d e : Tier X) (x : X) → j ≡ i + 1 → HasSpare ts j → (get_or ts i d).items ≡ a.items ++ x ∷ [] → b.items ≡ x ∷ (get_or ts j e).items → a.len < a.cap → HasSpare (set (set ts i a) j b) i
  spare_before ts i j a b d e x next r ha hb spare =
      let within = r.within in
      let ne : i ≢ j = λ h. omega arith in
      let wi : i < length ts = omega arith in
      let long : length (set (set ts i a) j b) ≡ length ts = length-set (set ts i a) j b ∙ length-set ts i a in
      let shorter = ap length ha ∙ length-append a.items (x ∷ []) in
      let longer = ap length hb in
      let most_i = r.most i d wi ne in
      let less_j = r.less e in
      record {
        within = omega arith;
        full = λ k c p h other. at_two (λ (t : Tier X). length t.items ≡ TIER) ts i j a b k c wi within ne (λ same. (let l = r.lacks e (omega arith) (omega arith) in omega arith)) (λ same. absurd (other same)) (λ ni nj. r.full k c p (omega arith) nj);
        some = λ k c h other. at_two (λ (t : Tier X). 0 < length t.items) ts i j a b k c wi within ne (λ same. omega arith) (λ same. absurd (other same)) (λ ni nj. r.some k c (omega arith) nj);
        most = λ k c h other. at_two (λ (t : Tier X). length t.items ≤ TIER) ts i j a b k c wi within ne (λ same. omega arith) (λ same. absurd (other same)) (λ ni nj. r.most k c (omega arith) nj);
        lacks = λ c p h. at_two (λ (t : Tier X). length t.items + 1 ≡ TIER) ts i j a b i c wi within ne (λ same. absurd (ne same)) (λ same. (let l = r.full i d p (omega arith) ne in omega arith)) (λ ni nj. absurd (ni refl));
        less = λ c. at_two (λ (t : Tier X). length t.items < TIER) ts i j a b i c wi within ne (λ same. absurd (ne same)) (λ same. omega arith) (λ ni nj. absurd (ni refl));
        spare = λ c. at_two (λ (t : Tier X). t.len < t.cap) ts i j a b i c wi within ne (λ same. absurd (ne same)) (λ same. spare) (λ ni nj. absurd (ni refl));
      }

  -- an empty tier at the end adds nothing
  pub same_without : (ts us : List (Tier X)) (d : Tier X) → ts ≡ us ++ d ∷ [] → d.items ≡ [] → all_items us ≡ all_items ts
  same_without ts us d h none =
      sym (ap (λ (vs : List (Tier X)). all_items vs) h ∙ flat_map-append (λ (t : Tier X). t.items) us (d ∷ []) ∙ ap (λ xs. all_items us ++ (xs ++ [])) none ∙ append-nil (all_items us))

  -- nor is it missed
  pub tiers_without : (ts us : List (Tier X)) (d : Tier X) → ts ≡ us ++ d ∷ [] → HasSpare ts (length ts - 1) → AreTiers us
  tiers_without ts us d h r =
      let long = ap length h ∙ length-append us (d ∷ []) in
      let keep = λ (P : Tier X → Type 0) (k : ℕ) (c : Tier X) (w : k < length us) (p : P (get_or ts k c)). subst P (ap (λ (vs : List (Tier X)). get_or vs k c) h ∙ get_or_append_left us (d ∷ []) c k w) p in
      record {
        full = λ k c p w. keep (λ (t : Tier X). length t.items ≡ TIER) k c (omega arith) (r.full k c p (omega arith) (λ e. omega arith));
        some = λ k c w. keep (λ (t : Tier X). 0 < length t.items) k c w (r.some k c (omega arith) (λ e. omega arith));
        most = λ k c w. keep (λ (t : Tier X). length t.items ≤ TIER) k c w (r.most k c (omega arith) (λ e. omega arith));
      }

  -- how many items the first tier has
  pub first_there : (ts : List (Tier X)) (d : Tier X) → 0 < length ts → first_size ts ≡ length (get_or ts 0 d).items
  first_there [] d w = absurd (omega arith)
  first_there (t ∷ ts) d w = refl

  -- and all tiers before a later one
  pub before_later : (ts : List (Tier X)) (i : ℕ) → 0 < i → i ≤ length ts → ((k : ℕ) (d : Tier X) → 0 < k → k < i → length (get_or ts k d).items ≡ TIER) → items_before ts i ≡ first_size ts + (i - 1) * TIER
  before_later ts zero p w full = absurd (omega arith)
  before_later [] (suc i) p w full = absurd (omega arith)
  before_later (t ∷ ts) (suc i) p w full =
      let both = length-append t.items (all_items (take i ts)) in
      let rest = front (λ (u : Tier X). u.items) ts i (omega arith) (λ k d h. full (suc k) d (omega arith) (omega arith)) in
      omega arith

  -- all tiers, of which the last is a later one
  total_later : (ts : List (Tier X)) (i : ℕ) (d : Tier X) → 0 < i → length ts ≡ i + 1 → ((k : ℕ) (d : Tier X) → 0 < k → k < i → length (get_or ts k d).items ≡ TIER) → length (all_items ts) ≡ first_size ts + (i - 1) * TIER + length (get_or ts i d).items
  total_later ts i d p last full =
      let all = how_many (λ (t : Tier X). t.items) ts i d (omega arith) in
      let none = ap length (ap (λ (us : List (Tier X)). all_items us) (drop_all (suc i) ts (omega arith))) in
      let before = before_later ts i p (omega arith) full in
      omega arith

  -- or the first
  total_one : (ts : List (Tier X)) → length ts ≡ 1 → length (all_items ts) ≡ first_size ts
  total_one [] w = refl
  total_one (t ∷ []) w = ap length (append-nil t.items)
  total_one (t ∷ u ∷ ts) w = absurd (omega arith)

  -- a first tier that has a spare place
  pub spare_small : (ts : List (Tier X)) → HasSpare ts 0 → first_size ts < TIER
  spare_small [] r = let w = r.within in absurd (omega arith)
  spare_small (t ∷ ts) r = r.less t

  -- the tier of a place, where there is a spare place at the front
  pub spare_first : (ts : List (Tier X)) (place tier index : ℕ) → HasSpare ts 0 → place ≤ length (all_items ts) → IsIndexOf (first_size ts + 1) place tier index → tier < length ts
  spare_first [] place tier index r h is = let w = r.within in absurd (omega arith)
  spare_first (t ∷ []) place tier index r h is = let all = total_one (t ∷ []) refl in elim (cases_lt 0 tier) [
    | inl later ↦ (let p = is.later later in omega arith)
    | inr here ↦ omega arith
  ]
  spare_first (t ∷ u ∷ ts) place tier index r h is =
      let all = total_later (t ∷ u ∷ ts) (suc (length ts)) t (omega arith) (omega arith) (λ k d p w. r.full k d p (omega arith) (λ e. omega arith)) in
      let most = r.most (suc (length ts)) t (omega arith) (λ e. omega arith) in
      elim (cases_lt 0 tier) [
        | inl later ↦ (let p = is.later later in omega arith)
        | inr here ↦ omega arith
      ]

  -- or at the back, and there are as many items as a full tier has
  pub spare_last : (ts : List (Tier X)) (place tier index : ℕ) → HasSpare ts (length ts - 1) → TIER ≤ length (all_items ts) → place ≤ length (all_items ts) → IsIndexOf (first_size ts) place tier index → tier < length ts
  spare_last [] place tier index r many h is = let w = r.within in absurd (omega arith)
  spare_last (t ∷ []) place tier index r many h is = let all = total_one (t ∷ []) refl in let less = r.less t in absurd (omega arith)
  spare_last (t ∷ u ∷ ts) place tier index r many h is =
      let all = total_later (t ∷ u ∷ ts) (suc (length ts)) t (omega arith) (omega arith) (λ k d p w. r.full k d p (omega arith) (λ e. omega arith)) in
      let less = subst (λ n. length (get_or (t ∷ u ∷ ts) n t).items < TIER) {x = length (t ∷ u ∷ ts) - 1} {y = suc (length ts)} (omega arith) (r.less t) in
      elim (cases_lt 0 tier) [
        | inl later ↦ (let p = is.later later in omega arith)
        | inr here ↦ omega arith
      ]

  -- where a place is in a tier that has a spare one
  module _ (ts : List (Tier X)) (size place tier index : ℕ) (r : HasSpare ts tier) (is : IsIndexOf size place tier index) (later : 0 < tier → first_size ts ≡ size) (zeroth : tier ≡ 0 → size ≤ first_size ts + 1) where
    pub spare_place : place ≡ items_before ts tier + index
    spare_place = let w = r.within in elim (cases_lt 0 tier) [
      | inl p ↦ (let l = is.later p in let e = later p in
          let before = before_later ts tier p (omega arith) (λ k d q v. r.full k d q (omega arith) (λ e. omega arith)) in
          omega arith)
      | inr n ↦ (let z : tier ≡ 0 = omega arith in let f = is.front z in let none : items_before ts tier ≡ 0 = ap (λ k. items_before ts k) z in omega arith)
    ]

    pub spare_within : place ≤ length (all_items ts) → (d : Tier X) → index ≤ length (get_or ts tier d).items
    spare_within h d = let w = r.within in elim (cases_lt 0 tier) [
      | inl p ↦ (let l = is.later p in let e = later p in let i = is.less p in elim (cases_lt (tier + 1) (length ts)) [
        | inl before ↦ (let short = r.lacks d p before in omega arith)
        | inr last ↦ (let all = total_later ts tier d p (omega arith) (λ k d q v. r.full k d q (omega arith) (λ e. omega arith)) in omega arith)
      ])
      | inr n ↦ (let z : tier ≡ 0 = omega arith in
          let i = is.inside z in let s = zeroth z in
          subst (λ k. index ≤ length (get_or ts k d).items) (sym z) (let f = first_there ts d (omega arith) in omega arith))
    ]

  -- where an item is
  module _ (ts : List (Tier X)) (place tier index : ℕ) (r : AreTiers ts) (is : IsIndexOf (first_size ts) place tier index) where
    -- an item's place in its tier
    pub item_place : tier < length ts → place ≡ items_before ts tier + index
    item_place w = elim (cases_lt 0 tier) [
      | inl p ↦ (let l = is.later p in
          let before = before_later ts tier p (omega arith) (λ k d q v. r.full k d q (omega arith)) in
          omega arith)
      | inr n ↦ (let z : tier ≡ 0 = omega arith in let f = is.front z in let none : items_before ts tier ≡ 0 = ap (λ k. items_before ts k) z in omega arith)
    ]

    -- it is within
    item_within : tier < length ts → place < length (all_items ts) → (d : Tier X) → index < length (get_or ts tier d).items
    item_within w h d = elim (cases_lt 0 tier) [
      | inl p ↦ (let l = is.later p in let i = is.less p in elim (cases_lt (tier + 1) (length ts)) [
        | inl before ↦ (let all = r.full tier d p before in omega arith)
        | inr last ↦ (let all = total_later ts tier d p (omega arith) (λ k d q v. r.full k d q (omega arith)) in omega arith)
      ])
      | inr n ↦ (let z : tier ≡ 0 = omega arith in
          let i = is.inside z in
          subst (λ k. index < length (get_or ts k d).items) (sym z) (let f = first_there ts d (omega arith) in omega arith))
    ]

    -- no further item is in a tier
    pub item_back : tier < length ts → (d : Tier X) → index < length (get_or ts tier d).items → place < length (all_items ts)
    item_back w d h =
        let p = item_place w in
        let all = how_many (λ (t : Tier X). t.items) ts tier d w in
        omega arith

  -- the tier of an item
  item_tier : (ts : List (Tier X)) (place tier index : ℕ) → AreTiers ts → IsIndexOf (first_size ts) place tier index → place < length (all_items ts) → tier < length ts
  item_tier [] place tier index r is h = absurd (omega arith)
  item_tier (t ∷ []) place tier index r is h = let all = total_one (t ∷ []) refl in elim (cases_lt 0 tier) [
    | inl later ↦ (let p = is.later later in omega arith)
    | inr here ↦ omega arith
  ]
  item_tier (t ∷ u ∷ ts) place tier index r is h =
      let all = total_later (t ∷ u ∷ ts) (suc (length ts)) t (omega arith) (omega arith) (λ k d p w. r.full k d p (omega arith)) in
      let most = r.most (suc (length ts)) t (omega arith) in
      elim (cases_lt 0 tier) [
        | inl later ↦ (let p = is.later later in omega arith)
        | inr here ↦ omega arith
      ]

  -- an item is in a tier, at an index of it
  pub record IsFound (ts : List (Tier X)) (place tier index : ℕ) : Type 0 where
    pub there : tier < length ts
    pub at : place ≡ items_before ts tier + index
    pub within : (d : Tier X) → index < length (get_or ts tier d).items

  pub item_found : (ts : List (Tier X)) (count first place tier index : ℕ) → AreTiersOf ts count first → IsIndexOf first place tier index → place < length (all_items ts) → IsFound ts place tier index
  item_found ts count first place tier index were is h =
      let known = subst (λ n. IsIndexOf n place tier index) were.front is in
      let there = item_tier ts place tier index were.sizes known h in
      record {
        there = there;
        at = item_place ts place tier index were.sizes known there;
        within = item_within ts place tier index were.sizes known there h;
      }

  -- the first tier, where tiers are replaced
  pub first_set : (ts : List (Tier X)) (i : ℕ) (a d : Tier X) → length a.items ≡ length (get_or ts i d).items → first_size (set ts i a) ≡ first_size ts
  first_set [] i a d e = refl
  first_set (t ∷ ts) zero a d e = e
  first_set (t ∷ ts) (suc i) a d e = refl

  pub first_zeroth : (ts : List (Tier X)) (i : ℕ) (a b : Tier X) → 0 < length ts → i ≡ 0 → first_size (set (set ts i a) (i + 1) b) ≡ length a.items
  first_zeroth [] i a b w z = absurd (omega arith)
  first_zeroth (t ∷ ts) zero a b w z = refl
  first_zeroth (t ∷ ts) (suc i) a b w z = absurd (omega arith)

  pub first_later : (ts : List (Tier X)) (i j : ℕ) (a b : Tier X) → 0 < i → 0 < j → first_size (set (set ts i a) j b) ≡ first_size ts
  first_later ts zero j a b p q = absurd (omega arith)
  first_later ts (suc i) zero a b p q = absurd (omega arith)
  first_later [] (suc i) (suc j) a b p q = refl
  first_later (t ∷ ts) (suc i) (suc j) a b p q = refl

  same_size : (ts : List (Tier X)) (i : ℕ) (a d : Tier X) → length a.items ≡ length (get_or ts i d).items → length (all_items (set ts i a)) ≡ length (all_items ts)
  same_size [] i a d e = refl
  same_size (t ∷ ts) zero a d e = length-append a.items (all_items ts) ∙ ap (λ n. n + length (all_items ts)) e ∙ sym (length-append t.items (all_items ts))
  same_size (t ∷ ts) (suc i) a d e = length-append t.items (all_items (set ts i a)) ∙ ap (λ n. length t.items + n) (same_size ts i a d e) ∙ sym (length-append t.items (all_items ts))

  each_size : (ts : List (Tier X)) (i : ℕ) (a d : Tier X) → length a.items ≡ length (get_or ts i d).items → (k : ℕ) (c : Tier X) → k < length ts → length (get_or (set ts i a) k c).items ≡ length (get_or ts k c).items
  each_size ts i a d e k c w = elim (cases_eq k i) [
    | inl same ↦ (let wi : i < length ts = omega arith in
        ap (λ n. length (get_or (set ts i a) n c).items) same ∙ ap (λ (t : Tier X). length t.items) (get_or-set_same ts i a c wi) ∙ e
        ∙ ap (λ (t : Tier X). length t.items) (get_or_default ts i d c wi) ∙ ap (λ n. length (get_or ts n c).items) (sym same))
    | inr other ↦ ap (λ (t : Tier X). length t.items) (get_or-set_other ts i k a c other)
  ]

  -- a tier of the same size in the place of one
  pub tiers_over : (ts : List (Tier X)) (n s i : ℕ) (a d : Tier X) → AreTiersOf ts n s → length a.items ≡ length (get_or ts i d).items → AreTiersOf (set ts i a) n s
  tiers_over ts n s i a d were e =
      let long = length-set ts i a in
      let each = each_size ts i a d e in
      record {
        sizes = record {
          full = λ k c p w. each k c (omega arith) ∙ were.sizes.full k c p (omega arith);
          some = λ k c w. (let s = each k c (omega arith) in let h = were.sizes.some k c (omega arith) in omega arith);
          most = λ k c w. (let s = each k c (omega arith) in let h = were.sizes.most k c (omega arith) in omega arith);
        };
        total = were.total ∙ sym (same_size ts i a d e);
        front = were.front ∙ sym (first_set ts i a d e);
      }
