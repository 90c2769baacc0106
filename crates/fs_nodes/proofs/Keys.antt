-- The keys of objects and the numbers drawn, as the lists of labels say them.
use Rattle.std.specs.Prelude.{◌≡◌, ℕ, ◌+◌, ◌==◌, false, List, [], ◌∷◌, ◌++◌, Option, Some, None, cond, get_or, slice_get, refl, zero, suc, length, map as map_list}
use Rattle.std.specs.Option.{option_map}
use Rattle.std.specs.FinMap as map
use Rattle.std.specs.FinMap.{FinMap, get-empty, same_map}
use Rattle.std.proofs.Common.{ap, sym, ◌∙◌, arith}
use Rattle.std.proofs.lemmas.Bool.Decides.{nat_tests}
use Rattle.std.proofs.lemmas.List.{length_push}
use Rattle.lab_lattice.specs.Label.{Label, label_cmp}
use Rattle.lab_lattice.proofs.Labels.{label_cmp_total, label_cmp_exact}
use Rattle.kern_model.specs.declared.numbers.Oid.{Oid}
use Rattle.kern_model.specs.ByNumber.{by_oid, oid_at}
use Rattle.kern_model.specs.Keys.{oid_cmp}
use Rattle.kern_model.specs.LabelLists.{IsSet, Lists, items_in, list_at}
use Rattle.kern_model.specs.Maps as maps
use Rattle.kern_model.specs.Maps.{select}
use Rattle.kern_model.specs.State.{last_drawn}
use Rattle.kern_model.proofs.ByNumber.{get-items_by, items_by-set}
use Rattle.kern_model.proofs.KeyLaws.{oid_cmp_total, oid_cmp_exact}
use Rattle.kern_model.proofs.MapLemmas.{get_or-absent, get_or-found}
use Rattle.kern_model.proofs.NumberLaws.{oids}
use Rattle.kern_model.proofs.Selections.{get-select_each, select-insert_each}
use Rattle.fs_nodes.specs.Nodes.{NodeKeys, with_key}
use Rattle.fs_nodes.specs.Keys.{from_one, keys_in, numbers_in}

-- ---- a list by counts from 1 on
pub none_first : {X : Type 0} (n : ℕ) → get_or (from_one {X = X} []) n None ≡ None
none_first zero = refl
none_first (suc n) = refl

at_place : {X : Type 0} (items : List X) (place : ℕ) → slice_get items place ≡ get_or (map_list Some items) place None
at_place [] place = refl
at_place (x ∷ items) zero = refl
at_place (x ∷ items) (suc place) = at_place items place

-- the item at a count is at the place before it
pub at_number : {X : Type 0} (items : List X) (place n : ℕ) → place + 1 ≡ n → slice_get items place ≡ get_or (from_one items) n None
at_number items place n is =
    let next : suc place ≡ n = omega (arith, is) in
    at_place items place ∙ ap (λ m. get_or (from_one items) m None) next

same_step : (m n : ℕ) → (suc m == suc n) ≡ (m == n)
same_step m n = grind (arith, nat_tests)

-- an item at the end of a list is at the place of its length
at_end : {X : Type 0} (items : List X) (x : X) (m : ℕ) → get_or (map_list Some (items ++ x ∷ [])) m None ≡ cond (m == length items) (Some x) (get_or (map_list Some items) m None)
at_end [] x zero = refl
at_end [] x (suc m) =
    let apart : (suc m == 0) ≡ false = grind (arith, nat_tests) in
    ap (λ b. cond b (Some x) None) (sym apart)
at_end (y ∷ items) x zero =
    let apart : (zero == suc (length items)) ≡ false = grind (arith, nat_tests) in
    ap (λ b. cond b (Some x) (Some y)) (sym apart)
at_end (y ∷ items) x (suc m) = at_end items x m ∙ ap (λ b. cond b (Some x) (get_or (map_list Some items) m None)) (sym (same_step m (length items)))

-- and at the next count
pushed : {X : Type 0} (items : List X) (x : X) → IsSet None (from_one items) (length items + 1) (Some x) (from_one (items ++ x ∷ []))
pushed items x zero =
    let apart : (zero == length items + 1) ≡ false = grind (arith, nat_tests) in
    ap (λ b. cond b (Some x) None) (sym apart)
pushed items x (suc m) =
    let same : (suc m == length items + 1) ≡ (m == length items) = grind (arith, nat_tests) in
    at_end items x m ∙ ap (λ b. cond b (Some x) (get_or (map_list Some items) m None)) (sym same)

-- ---- what the lists of all labels say
-- the value at a label, or the default, after each value of a map is replaced
at_each : {X Y Z : Type 0} (g : X → Y) (f : Y → Z) (h : X → Z) (m : FinMap label_cmp X) (label : Label) (d : X) (e : Y) → f e ≡ h d → ((x : X) → f (g x) ≡ h x)
    → f (maps.get_or (select (λ _ x. Some (g x)) m) label e) ≡ h (maps.get_or m label d)
at_each g f h m label d e none some =
    let says = get-select_each label_cmp_total label_cmp_exact (λ _ x. g x) m label in
    elim (map.get m label) as (λ w. map.get m label ≡ w → f (maps.get_or (select (λ _ x. Some (g x)) m) label e) ≡ h (maps.get_or m label d)) [
      | None ↦ λ is. ap f (get_or-absent _ label e (says ∙ ap (option_map g) is)) ∙ none ∙ sym (ap h (get_or-absent m label d is))
      | Some x ↦ λ is. ap f (get_or-found _ label e (g x) (says ∙ ap (option_map g) is)) ∙ some x ∙ sym (ap h (get_or-found m label d x is))
    ] refl

module _ (lists : Lists ℕ) where
  abbrev counted : Lists (Option ℕ)
  counted = select (λ _ (list : List ℕ). Some (from_one list)) lists

  at_count : (label : Label) (n : ℕ) → get_or (list_at counted label) n None ≡ get_or (from_one (list_at lists label)) n None
  at_count label n = at_each from_one (λ r. get_or r n None) (λ r. get_or (from_one r) n None) lists label [] [] (sym (none_first n)) (λ _. refl)

  -- the key of an object is that of its number in the list of its label
  get-keys_in : (q : Oid) → map.get (keys_in lists) q ≡ get_or (from_one (list_at lists q.label)) q.n None
  unfolding keys_in
  get-keys_in q = get-items_by oid_cmp_total oid_cmp_exact oids counted q ∙ at_count q.label q.n

  -- the last number drawn of a label is the length of its list
  drawn-numbers_in : (label : Label) → last_drawn (numbers_in lists) label ≡ length (list_at lists label)
  unfolding numbers_in
  drawn-numbers_in label = at_each length (λ n. n) length lists label [] 0 refl (λ _. refl)

  module _ (label : Label) (key : ℕ) where
    -- a key at the end of a list is that of the next number
    keys_in-push : keys_in (map.insert lists label (list_at lists label ++ key ∷ [])) ≡ map.insert (keys_in lists) (oid_at (label, length (list_at lists label) + 1)) key
    unfolding keys_in
    keys_in-push =
        ap (λ (ls : Lists (Option ℕ)). by_oid (items_in ls)) (select-insert_each label_cmp_total label_cmp_exact (λ _ (list : List ℕ). from_one list) lists label (list_at lists label ++ key ∷ []))
        ∙ items_by-set oid_cmp_total oid_cmp_exact oids counted (oid_at (label, length (list_at lists label) + 1)) (from_one (list_at lists label ++ key ∷ [])) key
        (λ m. pushed (list_at lists label) key m ∙ ap (cond (m == length (list_at lists label) + 1) (Some key)) (sym (at_count label m)))

    -- which is then the last one drawn
    numbers_in-push : numbers_in (map.insert lists label (list_at lists label ++ key ∷ [])) ≡ map.insert (numbers_in lists) label (length (list_at lists label) + 1)
    unfolding numbers_in
    numbers_in-push =
        select-insert_each label_cmp_total label_cmp_exact (λ _ (list : List ℕ). length list) lists label (list_at lists label ++ key ∷ [])
        ∙ ap (map.insert (numbers_in lists) label) (length_push (list_at lists label) key)

-- no list, no key
pub keys_in-empty : keys_in map.empty ≡ map.empty
keys_in-empty = same_map oid_cmp_total oid_cmp_exact _ _ (λ q.
    get-keys_in map.empty q ∙ ap (λ (r : List ℕ). get_or (from_one r) q.n None) (get_or-absent map.empty q.label [] (get-empty label_cmp q.label))
    ∙ none_first q.n ∙ sym (get-empty oid_cmp q))

-- and no number
pub numbers_in-empty : numbers_in map.empty ≡ map.empty
unfolding numbers_in
numbers_in-empty = same_map label_cmp_total label_cmp_exact _ _ (λ q.
    get-select_each label_cmp_total label_cmp_exact (λ _ (list : List ℕ). length list) map.empty q ∙ ap (option_map length) (get-empty label_cmp q) ∙ sym (get-empty label_cmp q))

-- ---- the keys and numbers that these lists are seen as
abbrev pub viewed : Lists ℕ → NodeKeys
viewed lists = record { keys = keys_in lists; numbers = numbers_in lists }

module _ (lists : Lists ℕ) (old : NodeKeys) (view : viewed lists ≡ old) where
  pub key_is : (id : Oid) (list : List ℕ) → list_at lists id.label ≡ list → map.get old.keys id ≡ get_or (from_one list) id.n None
  key_is id list is = ap (λ (k : NodeKeys). map.get k.keys id) (sym view) ∙ get-keys_in lists id ∙ ap (λ (r : List ℕ). get_or (from_one r) id.n None) is

  pub drawn_is : (label : Label) (list : List ℕ) → list_at lists label ≡ list → last_drawn old.numbers label ≡ length list
  drawn_is label list is = ap (λ (k : NodeKeys). last_drawn k.numbers label) (sym view) ∙ drawn-numbers_in lists label ∙ ap length is

  -- a new object under the next number, its key at the end of the list of its label
  module _ (id : Oid) (key : ℕ) (next : id.n ≡ last_drawn old.numbers id.label + 1) (list : List ℕ) (is : list_at lists id.label ≡ list) where
    pub entered : (new : Lists ℕ) (new_list : List ℕ) → new ≡ map.insert lists id.label new_list → new_list ≡ list ++ key ∷ [] → viewed new ≡ with_key old id key
    entered new new_list set added =
        let long : length (list_at lists id.label) + 1 ≡ id.n = ap (λ n. n + 1) (sym (drawn_is id.label (list_at lists id.label) refl)) ∙ sym next in
        let rows_are = set ∙ ap (map.insert lists id.label) (added ∙ ap (λ (r : List ℕ). r ++ key ∷ []) (sym is)) in
        let keys = ap keys_in rows_are ∙ keys_in-push lists id.label key ∙ ap (λ n. map.insert (keys_in lists) (oid_at (id.label, n)) key) long in
        let numbers = ap numbers_in rows_are ∙ numbers_in-push lists id.label key ∙ ap (map.insert (numbers_in lists) id.label) long in
        (λ i. record { keys = keys i; numbers = numbers i }) ∙ ap (λ (k : NodeKeys). with_key k id key) view
