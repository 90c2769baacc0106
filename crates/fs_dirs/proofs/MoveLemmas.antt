-- An entry that moves to another spot.
use Rattle.std.specs.Prelude.{◌≡◌, ◌&&◌, ◌+◌, ◌-◌, ◌≤◌, ℕ, Bool, true, false, Option, Some, None, IfSome, [], ◌∷◌, cond, is_some, refl}
use Rattle.std.specs.declared.cmp.Ordering.{Ordering}
use Rattle.std.specs.Ordering.{eq_by_cmp}
use Rattle.std.specs.Cmp.{IsTotalOrder}
use Rattle.std.specs.FinMap as table
use Rattle.std.specs.FinMap.{FinMap, IsAntisymmetric, get-insert, get-remove, len-insert, same_map}
use Rattle.std.proofs.Common.{ap, sym, ◌∙◌, arith}
use Rattle.kern_model.specs.declared.numbers.Oid.{Oid}
use Rattle.kern_model.specs.Keys.{Spot, spot_cmp, same_oid}
use Rattle.kern_model.proofs.KeyLaws.{spot_cmp_total, spot_cmp_exact}
use Rattle.std.specs.Cmp.{eq_by_cmp_equiv}
use Rattle.kern_model.specs.Maps.{count_entries}
use Rattle.kern_model.proofs.KeyLaws.{oid_cmp_exact, oid_cmp_total}
use Rattle.kern_model.proofs.MapLemmas.{remove-absent, same_key}
use Rattle.kern_model.proofs.Selections.{count_remove}
use Rattle.fs_dirs.specs.Entries.{AreIndexed, HasLess, HasOnly, Holders, IsIn, first_name, holders_at, name_count, names_where}
use Rattle.fs_dirs.proofs.CountLemmas.{count_entries-both, count_entries-remove, count_entries-set}
use Rattle.fs_dirs.proofs.LinkLemmas.{itself, names-cons, one_less}

-- an entry set and another one removed, in either order
pub remove-insert_other : {K X : Type 0} {R : K → K → Ordering} → IsTotalOrder R → IsAntisymmetric R → (m : FinMap R X) (k q : K) → eq_by_cmp R k q ≡ false → (x : X)
    → table.remove (table.insert m q x) k ≡ table.insert (table.remove m k) q x
remove-insert_other {R = R} o exact m k q apart x = same_map o exact _ _ (λ j.
    get-remove o (table.insert m q x) k j ∙ ap (cond (eq_by_cmp R j k) None) (get-insert o m q x j)
    ∙ elim (eq_by_cmp R j k) as (λ b. eq_by_cmp R j k ≡ b → cond b None (cond (eq_by_cmp R j q) (Some x) (table.get m j)) ≡ cond (eq_by_cmp R j q) (Some x) (cond b None (table.get m j))) [
      | true ↦ λ t. ap (λ b. cond b (Some x) None) (sym (ap (λ i. eq_by_cmp R i q) (same_key exact j k t) ∙ apart))
      | false ↦ λ _. refl
    ] refl
    ∙ sym (get-insert o (table.remove m k) q x j ∙ ap (cond (eq_by_cmp R j q) (Some x)) (get-remove o m k j)))

-- where an entry moves, no more entries lead to an object
pub no_more : (entries : FinMap spot_cmp Oid) (from to : Spot) (id : Oid) → table.get entries from ≡ Some id → (q : Oid) → name_count (table.insert (table.remove entries from) to id) q ≤ name_count entries q
no_more entries from to id there q =
    let gone = count_entries-remove (λ (spot : Spot) (at : Oid). same_oid at q) spot_cmp_total spot_cmp_exact entries from id there in
    let set = count_entries-set (λ (spot : Spot) (at : Oid). same_oid at q) spot_cmp_total spot_cmp_exact (table.remove entries from) to id in
    let fewer = count_remove spot_cmp_total spot_cmp_exact (λ (spot : Spot) (at : Oid). same_oid at q) to (table.remove entries from) in
    omega (arith, gone, set, fewer)

-- ---- the only entry of an object moves
module _ (entries : FinMap spot_cmp Oid) (from to : Spot) (id : Oid) (there : table.get entries from ≡ Some id) (apart : eq_by_cmp spot_cmp from to ≡ false) (only : name_count entries id ≡ 1) where
  abbrev rest : FinMap spot_cmp Oid
  rest = table.remove entries from

  -- no other entry leads to it
  none_left : count_entries (λ (spot : Spot) (at : Oid). same_oid at id) rest ≡ 0
  none_left =
      let all = count_entries-remove (λ (spot : Spot) (at : Oid). same_oid at id) spot_cmp_total spot_cmp_exact entries from id there in
      let here : ◌≡◌ {A = ℕ} (cond (same_oid id id) 1 0) 1 = ap (λ b. cond {A = ℕ} b 1 0) (itself id) in
      omega (arith, all, here, only)

  -- the other spot is as it was
  other_spot : (w : Option Oid) → table.get entries to ≡ w → table.get rest to ≡ w
  other_spot w is = get-remove spot_cmp_total entries from to ∙ ap (λ b. cond b None (table.get entries to)) ((eq_by_cmp_equiv spot_cmp_total).symm to from ∙ apart) ∙ is

  module _ (holders moved : Holders) (total : ℕ) (indexed : AreIndexed entries holders total) (has : HasOnly holders id to.0 moved) where
    -- the names are those of the other entries, and one in the new directory
    moved_names : (q : Oid) (test : Oid → Bool) → names_where test (holders_at moved q) ≡ cond (same_oid id q && test to.0) 1 0 + count_entries (λ (spot : Spot) (at : Oid). same_oid at q && test spot.0) rest
    moved_names q test =
        ap (names_where test) (has q)
        ∙ elim (same_oid q id) as (λ b. same_oid q id ≡ b → names_where test (cond b (first_name to.0 ∷ []) (holders_at holders q)) ≡ cond (same_oid id q && test to.0) 1 0 + count_entries (λ (spot : Spot) (at : Oid). same_oid at q && test spot.0) rest) [
          | true ↦ λ t.
              let same = same_key oid_cmp_exact q id t in
              let none = ap (λ (r : Oid). count_entries (λ (spot : Spot) (at : Oid). same_oid at r && test spot.0) rest) same ∙ count_entries-both (λ (spot : Spot) (at : Oid). same_oid at id) (λ (spot : Spot) (at : Oid). test spot.0) rest none_left in
              let here : ◌≡◌ {A = ℕ} (cond (same_oid id q && test to.0) 1 0) (cond (test to.0) 1 0) = ap (λ b. cond {A = ℕ} (b && test to.0) 1 0) (ap (same_oid id) same ∙ itself id) in
              let one = names-cons test (first_name to.0) [] in
              omega (arith, none, here, one)
          | false ↦ λ f.
              let before = indexed.holders_are q test in
              let counted = count_entries-remove (λ (spot : Spot) (at : Oid). same_oid at q && test spot.0) spot_cmp_total spot_cmp_exact entries from id there in
              let other = (eq_by_cmp_equiv oid_cmp_total).symm id q ∙ f in
              let here : ◌≡◌ {A = ℕ} (cond (same_oid id q && test to.0) 1 0) 0 = ap (λ b. cond {A = ℕ} (b && test to.0) 1 0) other in
              let gone : ◌≡◌ {A = ℕ} (cond (same_oid id q && test from.0) 1 0) 0 = ap (λ b. cond {A = ℕ} (b && test from.0) 1 0) other in
              omega (arith, before, counted, here, gone)
        ] refl

    -- the name of the object that gives way, if there is one, is in the directory still
    pub moved_is_in : (w : Option Oid) → table.get entries to ≡ w → IfSome w (λ (old : Oid). IsIn to.0 (holders_at moved old))
    moved_is_in None is = tt
    moved_is_in (Some old) is =
        let test : Oid → Bool = λ (d : Oid). same_oid d to.0 in
        let names = moved_names old test in
        let counted = count_entries-remove (λ (spot : Spot) (at : Oid). same_oid at old && test spot.0) spot_cmp_total spot_cmp_exact rest to old (other_spot (Some old) is) in
        let here : ◌≡◌ {A = ℕ} (cond (same_oid old old && same_oid to.0 to.0) 1 0) 1 = ap (λ b. cond {A = ℕ} (b && same_oid to.0 to.0) 1 0) (itself old) ∙ ap (λ b. cond {A = ℕ} b 1 0) (itself to.0) in
        omega (arith, names, counted, here)

    with_length : (w : Option Oid) → table.get entries to ≡ w → table.len (table.insert rest to id) ≡ cond (is_some w) (table.len rest) (table.len rest + 1)
    with_length w is = len-insert spot_cmp_total rest to id ∙ ap (λ (w : Option Oid). cond (is_some w) (table.len rest) (table.len rest + 1)) (other_spot w is)

    -- without that of the object that gives way, the names are indexed
    pub indexed-moved : (w : Option Oid) → table.get entries to ≡ w → (after : Holders) → HasLess moved w to.0 after → AreIndexed (table.insert rest to id) after (cond (is_some w) (total - 1) total)
    indexed-moved None is after same = record {
      holders_are = λ q test.
          let set = count_entries-set (λ (spot : Spot) (at : Oid). same_oid at q && test spot.0) spot_cmp_total spot_cmp_exact rest to id in
          let kept = ap (count_entries (λ (spot : Spot) (at : Oid). same_oid at q && test spot.0)) (remove-absent spot_cmp_total spot_cmp_exact rest to (other_spot None is)) in
          let names = ap (λ (h : Holders). names_where test (holders_at h q)) same ∙ moved_names q test in
          omega (arith, set, kept, names);
      counted = let length = with_length None is in let before = indexed.counted in let less = one_less entries from.0 from.1 id there in omega (arith, length, before, less);
    }
    indexed-moved (Some old) is after less = record {
      holders_are = λ q test.
          let set = count_entries-set (λ (spot : Spot) (at : Oid). same_oid at q && test spot.0) spot_cmp_total spot_cmp_exact rest to id in
          let gone = count_entries-remove (λ (spot : Spot) (at : Oid). same_oid at q && test spot.0) spot_cmp_total spot_cmp_exact rest to old (other_spot (Some old) is) in
          let names = moved_names q test in
          let dropped = less q test in
          omega (arith, set, gone, names, dropped);
      counted = let length = with_length (Some old) is in let before = indexed.counted in let less = one_less entries from.0 from.1 id there in omega (arith, length, before, less);
    }
