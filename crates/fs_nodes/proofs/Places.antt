-- Objects at their places in the slab, after one of them is changed or made.
use Rattle.std.specs.Prelude.{◌≡◌, ◌≢◌, ℕ, ◌+◌, ◌<◌, ◌==◌, Bool, true, false, Option, Some, None, IsSome, refl, cond, length, is_some, List}
use Rattle.std.specs.Option.{option_and_then}
use Rattle.std.specs.FinMap as map
use Rattle.std.specs.FinMap.{FinMap, get-insert, same_map, len-insert, len-empty, get-empty}
use Rattle.std.proofs.Common.{ap, sym, ◌∙◌, subst, arith, inl, inr}
use Rattle.std.proofs.lemmas.Bool.{cases_lt, true≢false}
use Rattle.std.proofs.lemmas.Bool.Decides.{nat_tests}
use Rattle.std.proofs.lemmas.List.{get_or-set_same, get_or-set_other, get_or_past}
use Rattle.std.proofs.lemmas.List.Sums.{sum_by-set}
use Rattle.slab.specs.Slab.{Slab, slab_len, with_value, get}
use Rattle.lab_lattice.specs.Label.{label_cmp}
use Rattle.kern_model.specs.declared.numbers.Oid.{Oid}
use Rattle.kern_model.specs.declared.objects.Object.{Object}
use Rattle.kern_model.specs.Keys.{oid_cmp, same_oid}
use Rattle.kern_model.proofs.KeyLaws.{oid_cmp_total, oid_cmp_exact}
use Rattle.kern_model.specs.Valid.{IsThere}
use Rattle.kern_model.proofs.MapLemmas.{get-select, get_or-found, insert-same, same_key, some_same, never_some}
use Rattle.fs_nodes.specs.Nodes.{NodeSlots, IsPlaced, objects_in, with_bytes, with_object, with_object_at}

-- a table, with the slab and the keys in which it is kept
abbrev pub at_slots : Slab Object → FinMap oid_cmp ℕ → FinMap label_cmp ℕ → NodeSlots
at_slots slots keys numbers = record { table = record { objects = objects_in slots keys; numbers = numbers }; slots = slots; keys = keys }

pub some_is : {X : Type 0} (o : Option X) (x : X) → o ≡ Some x → IsSome o
some_is o x e = ap is_some e

pub there_is : {X : Type 0} (o : Option X) → IsSome o → o ≡ None → ⊥
there_is o h e = true≢false (sym h ∙ ap is_some e)

-- numbers that compare unequal are different
pub number_apart : (m n : ℕ) → (m == n) ≡ false → m ≢ n
number_apart m n e f = grind (arith, nat_tests)

pub one_number : (m n : ℕ) → (m == n) ≡ true → m ≡ n
one_number m n e = grind (arith, nat_tests)

module _ (slots : Slab Object) (keys : FinMap oid_cmp ℕ) where
  -- an object is looked up by its key
  pub found : (id : Oid) → map.get (objects_in slots keys) id ≡ option_and_then (λ key. get slots key) (map.get keys id)
  unfolding objects_in
  found id = get-select oid_cmp_exact (λ (id : Oid) (key : ℕ). get slots key) oid_cmp_total keys id

  pub at_key : (id : Oid) (key : ℕ) → map.get keys id ≡ Some key → map.get (objects_in slots keys) id ≡ get slots key
  at_key id key e = found id ∙ ap (option_and_then (λ key. get slots key)) e

  pub at_no_key : (id : Oid) → map.get keys id ≡ None → map.get (objects_in slots keys) id ≡ None
  at_no_key id e = found id ∙ ap (option_and_then (λ key. get slots key)) e

  -- an object that is there has a key
  pub key_there : (id : Oid) → IsThere (objects_in slots keys) id → IsThere keys id
  key_there id there = elim (map.get keys id) as (λ o. map.get keys id ≡ o → IsThere keys id) [
    | None ↦ λ e. absurd (never_some (map.get (objects_in slots keys) id) there.value (at_no_key id e) there.is)
    | Some key ↦ λ e. record { value = key; is = e }
  ] refl

-- the key of a slot that holds something is within the slab
within : (slots : Slab Object) (key : ℕ) → IsSome (get slots key) → key < length slots.slots
within slots key there = elim (cases_lt key (length slots.slots)) [
  | inl h ↦ h
  | inr h ↦ absurd (there_is (get slots key) there (get_or_past slots.slots key None h))
]

one_of : (b : Bool) → b ≡ true → ◌≡◌ {A = ℕ} (cond b 1 0) 1
one_of b e = ap (λ b. cond {A = ℕ} b 1 0) e

-- a slab with another value in an occupied slot
module _ (slots : Slab Object) (key : ℕ) (there : IsSome (get slots key)) (o : Object) where
  pub get_there : get (with_value slots key o) key ≡ Some o
  get_there = get_or-set_same slots.slots key (Some o) None (within slots key there)

  pub get_other : (other : ℕ) → other ≢ key → get (with_value slots key o) other ≡ get slots other
  get_other other apart = get_or-set_other slots.slots key other (Some o) None apart

  pub same_len : slab_len (with_value slots key o) ≡ slab_len slots
  same_len =
      let counted = sum_by-set (λ (slot : Option Object). cond (is_some slot) 1 0) slots.slots key (Some o) None (within slots key there) in
      let one = one_of (is_some (get slots key)) there in
      omega (arith, counted, one)

-- no two objects have the same key
pub one_key : {slots : Slab Object} {keys : FinMap oid_cmp ℕ} {numbers : FinMap label_cmp ℕ} → IsPlaced slots keys numbers → (a b : Oid) (key : ℕ) → map.get keys a ≡ Some key → map.get keys b ≡ Some key → a ≡ b
one_key placed a b key e f = same_key oid_cmp_exact a b (placed.apart a b key e f)

-- an object that is changed at its place
module _ {slots : Slab Object} {keys : FinMap oid_cmp ℕ} {numbers : FinMap label_cmp ℕ} (placed : IsPlaced slots keys numbers) (id : Oid) (key : ℕ) (is : map.get keys id ≡ Some key) (o : Object) where
  there : IsSome (get slots key)
  there = placed.there id key is

  -- the objects are those before, but for the one that is changed
  pub object_set : objects_in (with_value slots key o) keys ≡ map.insert (objects_in slots keys) id o
  object_set = same_map oid_cmp_total oid_cmp_exact _ _ (λ q.
      elim (map.get keys q) as (λ w. map.get keys q ≡ w → map.get (objects_in (with_value slots key o) keys) q ≡ map.get (map.insert (objects_in slots keys) id o) q) [
        | None ↦ λ none. at_no_key (with_value slots key o) keys q none ∙ sym (get-insert oid_cmp_total (objects_in slots keys) id o q
            ∙ elim (same_oid q id) as (λ b. same_oid q id ≡ b → cond b (Some o) (map.get (objects_in slots keys) q) ≡ None) [
              | true ↦ λ t. absurd (never_some (map.get keys q) key none (ap (map.get keys) (same_key oid_cmp_exact q id t) ∙ is))
              | false ↦ λ _. at_no_key slots keys q none
            ] refl)
        | Some k ↦ λ some. at_key (with_value slots key o) keys q k some ∙ sym (get-insert oid_cmp_total (objects_in slots keys) id o q
            ∙ elim (same_oid q id) as (λ b. same_oid q id ≡ b → cond b (Some o) (map.get (objects_in slots keys) q) ≡ get (with_value slots key o) k) [
              | true ↦ λ t.
                  let same : k ≡ key = some_same k key (sym some ∙ ap (map.get keys) (same_key oid_cmp_exact q id t) ∙ is) in
                  sym (ap (get (with_value slots key o)) same ∙ get_there slots key there o)
              | false ↦ λ f.
                  let apart : k ≢ key = λ e. true≢false (sym (placed.apart q id key (some ∙ ap Some e) is) ∙ f) in
                  at_key slots keys q k some ∙ sym (get_other slots key there o k apart)
            ] refl)
      ] refl)

  -- each object is still at its place
  pub still_placed : IsPlaced (with_value slots key o) keys numbers
  still_placed = record {
    there = λ q k e. elim (k == key) as (λ b. (k == key) ≡ b → IsSome (get (with_value slots key o) k)) [
      | true ↦ λ t. some_is (get (with_value slots key o) k) o (ap (get (with_value slots key o)) (one_number k key t) ∙ get_there slots key there o)
      | false ↦ λ f. subst IsSome (sym (get_other slots key there o k (number_apart k key f))) (placed.there q k e)
    ] refl;
    apart = placed.apart;
    size = same_len slots key there o ∙ placed.size ∙ sym (same_size object_set);
    drawn_already = placed.drawn_already;
  }
    where
      same_size : objects_in (with_value slots key o) keys ≡ map.insert (objects_in slots keys) id o → map.len (objects_in (with_value slots key o) keys) ≡ map.len (objects_in slots keys)
      same_size e = ap map.len e ∙ len-insert oid_cmp_total (objects_in slots keys) id o ∙ ap (λ b. cond b (map.len (objects_in slots keys)) (map.len (objects_in slots keys) + 1)) (ap is_some (at_key slots keys id key is) ∙ there)

-- the table that is seen ends with the object that is changed
pub table_changed : {slots : Slab Object} {keys : FinMap oid_cmp ℕ} {numbers : FinMap label_cmp ℕ} → IsPlaced slots keys numbers → (id : Oid) (key : ℕ) → map.get keys id ≡ Some key
    → (t : NodeSlots) → at_slots slots keys numbers ≡ t → (o : Object) → at_slots (with_value slots key o) keys numbers ≡ with_object_at t id o
table_changed {slots = slots} {keys = keys} {numbers = numbers} placed id key is t view o =
    ap (λ (m : FinMap oid_cmp Object). record (at_slots (with_value slots key o) keys numbers) { table = record { objects = m; numbers = numbers } }) (object_set placed id key is o)
    ∙ ap (λ (k : ℕ). record { table = with_object (record { objects = objects_in slots keys; numbers = numbers }) id o; slots = with_value slots k o; keys = keys }) (sym (get_or-found keys id 0 key is))
    ∙ ap (λ (n : NodeSlots). with_object_at n id o) view

-- the object with a number is one
pub same_object : (objects : FinMap oid_cmp Object) (id : Oid) (x o : Object) → map.get objects id ≡ Some x → map.get objects id ≡ Some o → x ≡ o
same_object objects id x o is there = some_same x o (sym is ∙ there)

-- an object that gets the bytes that it has stays as it was
pub same_bytes : (objects : FinMap oid_cmp Object) (id : Oid) (x : Object) → map.get objects id ≡ Some x → (bytes : List ℕ) → bytes ≡ x.bytes → with_bytes objects id x bytes ≡ objects
same_bytes objects id x is bytes same = ap (with_bytes objects id x) same ∙ insert-same oid_cmp_total oid_cmp_exact objects id x is

-- an object that is absent has no key
pub absent_key : {slots : Slab Object} {keys : FinMap oid_cmp ℕ} {numbers : FinMap label_cmp ℕ} → IsPlaced slots keys numbers → (id : Oid) → map.get (objects_in slots keys) id ≡ None → map.get keys id ≡ None
absent_key {slots = slots} {keys = keys} placed id none = elim (map.get keys id) as (λ w. map.get keys id ≡ w → w ≡ None) [
  | None ↦ λ _. refl
  | Some key ↦ λ e. absurd (there_is (get slots key) (placed.there id key e) (sym (at_key slots keys id key e) ∙ none))
] refl

-- without keys there is no object
pub none_there : (slots : Slab Object) → objects_in slots map.empty ≡ map.empty
none_there slots = same_map oid_cmp_total oid_cmp_exact _ _ (λ q. at_no_key slots map.empty q (get-empty oid_cmp q) ∙ sym (get-empty oid_cmp q))

pub none_placed : (slots : Slab Object) (numbers : FinMap label_cmp ℕ) → slab_len slots ≡ 0 → IsPlaced slots map.empty numbers
none_placed slots numbers none = record {
  there = λ id key e. absurd (never_some (map.get map.empty id) key (get-empty oid_cmp id) e);
  apart = λ a b key e f. absurd (never_some (map.get map.empty a) key (get-empty oid_cmp a) e);
  size = none ∙ sym (ap map.len (none_there slots) ∙ len-empty oid_cmp Object);
  drawn_already = λ id key e. absurd (never_some (map.get map.empty id) key (get-empty oid_cmp id) e);
}
