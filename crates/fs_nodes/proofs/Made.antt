-- A new object, at a place of its own in the slab.
use Rattle.std.specs.Prelude.{◌≡◌, ◌≢◌, ℕ, ◌+◌, ◌≤◌, true, false, Some, None, IsSome, Result, Ok, Err, OnErr, refl, cond, is_some}
use Rattle.std.specs.FinMap as map
use Rattle.std.specs.FinMap.{FinMap, get-insert, same_map, len-insert}
use Rattle.std.proofs.Common.{ap, sym, ◌∙◌, subst, arith}
use Rattle.slab.specs.Slab.{Slab, slab_len, Updates, get}
use Rattle.lab_lattice.specs.Label.{Label, label_cmp}
use Rattle.lab_lattice.proofs.Labels.{label_cmp_total, label_cmp_exact}
use Rattle.kern_model.specs.declared.numbers.Oid.{Oid}
use Rattle.kern_model.specs.declared.objects.Object.{Object}
use Rattle.kern_model.specs.Keys.{oid_cmp, same_oid}
use Rattle.kern_model.proofs.KeyLaws.{oid_cmp_total, oid_cmp_exact}
use Rattle.kern_model.specs.State.{last_drawn}
use Rattle.kern_model.proofs.MapLemmas.{same_key, some_same, get-insert_same, get_or-found}
use Rattle.kern_model.proofs.TableLemmas.{each_set_at}
use Rattle.fs_nodes.specs.Nodes.{IsPlaced, objects_in}
use Rattle.fs_nodes.proofs.Places.{at_key, at_no_key, some_is, there_is}

-- reserving room in the slab changes no object
pub same_objects : (slots : Slab Object) (capacity : ℕ) (keys : FinMap oid_cmp ℕ) → objects_in (record slots { capacity = capacity }) keys ≡ objects_in slots keys
unfolding objects_in
same_objects slots capacity keys = refl

pub placed_reserved : (slots : Slab Object) (capacity : ℕ) (keys : FinMap oid_cmp ℕ) (numbers : FinMap label_cmp ℕ) → IsPlaced slots keys numbers → IsPlaced (record slots { capacity = capacity }) keys numbers
placed_reserved slots capacity keys numbers placed = record {
  there = placed.there;
  apart = placed.apart;
  size = placed.size ∙ ap map.len (sym (same_objects slots capacity keys));
  drawn_already = placed.drawn_already;
}

module _ {slots : Slab Object} {keys : FinMap oid_cmp ℕ} {numbers : FinMap label_cmp ℕ} (placed : IsPlaced slots keys numbers) (id : Oid) (next : id.n ≡ last_drawn numbers id.label + 1) where
  -- no object has the number that is drawn next
  pub fresh : map.get keys id ≡ None
  fresh = elim (map.get keys id) as (λ w. map.get keys id ≡ w → w ≡ None) [
    | None ↦ λ _. refl
    | Some key ↦ λ e. let low = placed.drawn_already id key e in absurd (omega (arith, low, next))
  ] refl

  module _ (key : ℕ) (o : Object) (slots' : Slab Object) (vacant : get slots key ≡ None) (updates : Updates slots slots' key (Some o)) where
    -- no object has the key that the slab gave
    other_slot : (q : Oid) (k : ℕ) → map.get keys q ≡ Some k → k ≢ key
    other_slot q k e same = there_is (get slots k) (placed.there q k e) (ap (get slots) same ∙ vacant)

    get_made : (q : Oid) → map.get (map.insert keys id key) q ≡ cond (same_oid q id) (Some key) (map.get keys q)
    get_made q = get-insert oid_cmp_total keys id key q

    at_made : (q : Oid) → same_oid q id ≡ true → map.get (map.insert keys id key) q ≡ Some key
    at_made q t = get_made q ∙ ap (λ b. cond b (Some key) (map.get keys q)) t

    at_old : (q : Oid) → same_oid q id ≡ false → map.get (map.insert keys id key) q ≡ map.get keys q
    at_old q f = get_made q ∙ ap (λ b. cond b (Some key) (map.get keys q)) f

    -- the objects are those before and the new one
    pub objects_made : objects_in slots' (map.insert keys id key) ≡ map.insert (objects_in slots keys) id o
    objects_made = same_map oid_cmp_total oid_cmp_exact _ _ (λ q.
        elim (same_oid q id) as (λ b. same_oid q id ≡ b → map.get (objects_in slots' (map.insert keys id key)) q ≡ cond b (Some o) (map.get (objects_in slots keys) q)) [
          | true ↦ λ t. at_key slots' (map.insert keys id key) q key (at_made q t) ∙ updates.changed
          | false ↦ λ f. elim (map.get keys q) as (λ w. map.get keys q ≡ w → map.get (objects_in slots' (map.insert keys id key)) q ≡ map.get (objects_in slots keys) q) [
            | None ↦ λ none. at_no_key slots' (map.insert keys id key) q (at_old q f ∙ none) ∙ sym (at_no_key slots keys q none)
            | Some k ↦ λ some. at_key slots' (map.insert keys id key) q k (at_old q f ∙ some) ∙ updates.others k (other_slot q k some) ∙ sym (at_key slots keys q k some)
          ] refl
        ] refl
        ∙ sym (get-insert oid_cmp_total (objects_in slots keys) id o q))

    there_made : (q : Oid) (k : ℕ) → map.get (map.insert keys id key) q ≡ Some k → IsSome (get slots' k)
    there_made q k e = elim (same_oid q id) as (λ b. same_oid q id ≡ b → IsSome (get slots' k)) [
      | true ↦ λ t. some_is (get slots' k) o (ap (get slots') (some_same k key (sym e ∙ at_made q t)) ∙ updates.changed)
      | false ↦ λ f. let old = sym (at_old q f) ∙ e in subst IsSome (sym (updates.others k (other_slot q k old))) (placed.there q k old)
    ] refl

    apart_made : (a b : Oid) (k : ℕ) → map.get (map.insert keys id key) a ≡ Some k → map.get (map.insert keys id key) b ≡ Some k → same_oid a b ≡ true
    apart_made a b k e f = elim (same_oid a id) as (λ v. same_oid a id ≡ v → same_oid a b ≡ true) [
      | true ↦ λ t. elim (same_oid b id) as (λ w. same_oid b id ≡ w → same_oid a b ≡ true) [
        | true ↦ λ u. subst (λ x. same_oid a x ≡ true) (sym (same_key oid_cmp_exact b id u)) t
        | false ↦ λ u. absurd (other_slot b k (sym (at_old b u) ∙ f) (some_same k key (sym e ∙ at_made a t)))
      ] refl
      | false ↦ λ t. elim (same_oid b id) as (λ w. same_oid b id ≡ w → same_oid a b ≡ true) [
        | true ↦ λ u. absurd (other_slot a k (sym (at_old a t) ∙ e) (some_same k key (sym f ∙ at_made b u)))
        | false ↦ λ u. placed.apart a b k (sym (at_old a t) ∙ e) (sym (at_old b u) ∙ f)
      ] refl
    ] refl

    -- the last number drawn of a label never gets smaller
    rises : (l : Label) → last_drawn numbers l ≤ last_drawn (map.insert numbers id.label id.n) l
    rises = each_set_at label_cmp_total label_cmp_exact (λ l n. last_drawn numbers l ≤ n) 0 numbers id.label id.n (omega (arith, next)) (λ l. omega arith)

    now_drawn : last_drawn (map.insert numbers id.label id.n) id.label ≡ id.n
    now_drawn = get_or-found (map.insert numbers id.label id.n) id.label 0 id.n (get-insert_same label_cmp_total numbers id.label id.n)

    drawn_made : (q : Oid) (k : ℕ) → map.get (map.insert keys id key) q ≡ Some k → q.n ≤ last_drawn (map.insert numbers id.label id.n) q.label
    drawn_made q k e = elim (same_oid q id) as (λ b. same_oid q id ≡ b → q.n ≤ last_drawn (map.insert numbers id.label id.n) q.label) [
      | true ↦ λ t. subst (λ (x : Oid). x.n ≤ last_drawn (map.insert numbers id.label id.n) x.label) (sym (same_key oid_cmp_exact q id t)) (omega (arith, now_drawn))
      | false ↦ λ f.
          let low = placed.drawn_already q k (sym (at_old q f) ∙ e) in
          let more = rises q.label in
          omega (arith, low, more)
    ] refl

    -- each object has a place of its own
    pub placed_made : slab_len slots' ≡ slab_len slots + 1 → IsPlaced slots' (map.insert keys id key) (map.insert numbers id.label id.n)
    placed_made len = record {
      there = there_made;
      apart = apart_made;
      size = len ∙ ap (λ n. n + 1) placed.size
          ∙ sym (ap map.len objects_made ∙ len-insert oid_cmp_total (objects_in slots keys) id o
          ∙ ap (λ w. cond (is_some w) (map.len (objects_in slots keys)) (map.len (objects_in slots keys) + 1)) (at_no_key slots keys id fresh));
      drawn_already = drawn_made;
    }

-- what holds in any case holds where a call fails
pub where_err : {X E P : Type 0} (r : Result X E) → P → OnErr r P
where_err (Ok x) p = tt
where_err (Err e) p = p
