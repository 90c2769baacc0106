-- How many descriptions each object has, after one is made, changed or goes.
use Rattle.std.specs.Prelude.{◌≡◌, ◌==◌, ◌&&◌, not, ℕ, ◌+◌, ◌≤◌, nat_lt, Bool, true, false, Some, None, cond, refl}
use Rattle.std.specs.Ordering.{is_eq}
use Rattle.std.specs.FinMap as map
use Rattle.std.specs.FinMap.{FinMap}
use Rattle.std.proofs.Common.{ap, sym, ◌∙◌, subst, arith}
use Rattle.std.proofs.lemmas.Bool.Decides.{nat_tests}
use Rattle.std.proofs.lemmas.Cmp.{tied_itself}
use Rattle.kern_model.specs.declared.numbers.Did.{Did}
use Rattle.kern_model.specs.declared.numbers.Oid.{Oid}
use Rattle.kern_model.specs.Keys.{did_cmp, oid_cmp, same_oid}
use Rattle.kern_model.specs.Maps.{any_entry, count_entries, get_or}
use Rattle.kern_model.proofs.KeyLaws.{did_cmp_total, did_cmp_exact, oid_cmp_total}
use Rattle.kern_model.proofs.MapLemmas.{get-insert_same, some_same}
use Rattle.fd_table.specs.declared.shared.How.{How}
use Rattle.fd_table.specs.declared.shared.Shared.{Shared}
use Rattle.fd_table.specs.declared.uses.UseCount.{UseCount}
use Rattle.fd_table.specs.Descriptions.{AreCounted, SharedTable, count_of, has_user, uses_of}
use Rattle.fd_table.specs.Uses.{Includes, more_if, no_use, with_more}
use Rattle.num_table.proofs.Sums.{any-sum, sum-empty, sum-insert, sum-remove, sum-replace}

-- ---- how many descriptions pass a test

-- what is counted once is counted
pub once : (b : Bool) → b ≡ not (cond b 1 0 == 0)
once true = refl
once false = refl

module _ (p : Did → Shared → Bool) where
  abbrev passes : Did → Shared → ℕ
  passes did s = cond (p did s) 1 0

  none_number : count_entries p (map.empty {R = did_cmp}) ≡ 0
  unfolding count_entries
  none_number = sum-empty passes did_cmp

  -- some does where their number is not 0
  pub some-number : (shared : SharedTable) → any_entry p shared ≡ not (count_entries p shared == 0)
  unfolding any_entry count_entries
  some-number shared = any-sum (λ (e : Did × Shared). p e.0 e.1) (λ (e : Did × Shared). passes e.0 e.1) (λ e. once (p e.0 e.1)) (map.entries shared)

  module _ (shared : SharedTable) (did : Did) (s : Shared) where
    number-insert : map.get shared did ≡ None → count_entries p (map.insert shared did s) ≡ cond (p did s) 1 0 + count_entries p shared
    unfolding count_entries
    number-insert none = sum-insert passes did_cmp_total shared did s none

    number-remove : map.get shared did ≡ Some s → count_entries p shared ≡ cond (p did s) 1 0 + count_entries p (map.remove shared did)
    unfolding count_entries
    number-remove there = sum-remove passes did_cmp_total did_cmp_exact shared did s there

    number-set : (new : Shared) → map.get shared did ≡ Some s → cond (p did s) 1 0 + count_entries p (map.insert shared did new) ≡ cond (p did new) 1 0 + count_entries p shared
    unfolding count_entries
    number-set new there = sum-replace passes did_cmp_total did_cmp_exact shared did s new there

    -- a description that passes as the one before did
    number-replace : (new : Shared) → map.get shared did ≡ Some s → p did new ≡ p did s → count_entries p (map.insert shared did new) ≡ count_entries p shared
    number-replace new there same =
        let both = number-set new there in
        let one : ◌≡◌ {A = ℕ} (cond (p did new) 1 0) (cond (p did s) 1 0) = ap (λ b. cond {A = ℕ} b 1 0) same in
        omega (arith, both, one)

-- ---- how many descriptions an object has
abbrev pub on_object : Oid → Did → Shared → Bool
on_object id did s = same_oid s.object id

abbrev reads_object : Oid → Did → Shared → Bool
reads_object id did s = same_oid s.object id && s.how.reads

abbrev writes_object : Oid → Did → Shared → Bool
writes_object id did s = same_oid s.object id && s.how.writes

-- no description
pub none_used : (id : Oid) → count_of map.empty id ≡ no_use
none_used id = λ i. record { all = none_number (on_object id) i; readers = none_number (reads_object id) i; writers = none_number (writes_object id) i }

joined : (b : Bool) (how : How) (n : UseCount) (all readers writers : ℕ) → all ≡ cond b 1 0 + n.all → readers ≡ cond (b && how.reads) 1 0 + n.readers → writers ≡ cond (b && how.writes) 1 0 + n.writers
    → ◌≡◌ {A = UseCount} (record { all = all; readers = readers; writers = writers }) (more_if b how n)
joined true how n all readers writers a r w =
    let a' : all ≡ n.all + 1 = omega (arith, a) in
    let r' : readers ≡ n.readers + cond how.reads 1 0 = omega (arith, r) in
    let w' : writers ≡ n.writers + cond how.writes 1 0 = omega (arith, w) in
    λ i. record { all = a' i; readers = r' i; writers = w' i }
joined false how n all readers writers a r w =
    let a' : all ≡ n.all = omega (arith, a) in
    let r' : readers ≡ n.readers = omega (arith, r) in
    let w' : writers ≡ n.writers = omega (arith, w) in
    λ i. record { all = a' i; readers = r' i; writers = w' i }

-- what one more is added to is known from the sum
apart : (b : Bool) (how : How) (m n : UseCount) → more_if b how m ≡ more_if b how n → m ≡ n
apart true how m n e =
    let all = ap (λ (c : UseCount). c.all) e in
    let readers = ap (λ (c : UseCount). c.readers) e in
    let writers = ap (λ (c : UseCount). c.writers) e in
    let a : m.all ≡ n.all = omega (arith, all) in
    let r : m.readers ≡ n.readers = omega (arith, readers) in
    let w : m.writers ≡ n.writers = omega (arith, writers) in
    λ i. record { all = a i; readers = r i; writers = w i }
apart false how m n e = e

includes : (n : UseCount) (how : How) → Includes (with_more how n) how
includes n how = record { any = omega arith; reader = omega arith; writer = omega arith }

module _ (shared : SharedTable) (did : Did) (s : Shared) (id : Oid) where
  count-insert : map.get shared did ≡ None → count_of (map.insert shared did s) id ≡ more_if (same_oid s.object id) s.how (count_of shared id)
  count-insert none = joined (same_oid s.object id) s.how (count_of shared id) _ _ _
      (number-insert (on_object id) shared did s none) (number-insert (reads_object id) shared did s none) (number-insert (writes_object id) shared did s none)

  module _ (there : map.get shared did ≡ Some s) where
    pub uses-remove : uses_of shared id ≡ cond (same_oid s.object id) 1 0 + uses_of (map.remove shared did) id
    uses-remove = number-remove (on_object id) shared did s there

    count-remove : count_of shared id ≡ more_if (same_oid s.object id) s.how (count_of (map.remove shared did) id)
    count-remove = joined (same_oid s.object id) s.how (count_of (map.remove shared did) id) _ _ _
        uses-remove (number-remove (reads_object id) shared did s there) (number-remove (writes_object id) shared did s there)

    -- a description that stays on its object
    pub uses-replace : (new : Shared) → new.object ≡ s.object → uses_of (map.insert shared did new) id ≡ uses_of shared id
    uses-replace new same = number-replace (on_object id) shared did s new there (ap (λ (o : Oid). same_oid o id) same)

    count-replace : (new : Shared) → new.object ≡ s.object → new.how ≡ s.how → count_of (map.insert shared did new) id ≡ count_of shared id
    count-replace new same how = λ i. record {
      all = uses-replace new same i;
      readers = number-replace (reads_object id) shared did s new there (λ i. same_oid (same i) id && (how i).reads) i;
      writers = number-replace (writes_object id) shared did s new there (λ i. same_oid (same i) id && (how i).writes) i;
    }

    -- its object has one
    pub uses_some : id ≡ s.object → 1 ≤ uses_of shared id
    uses_some same =
        let gone = uses-remove in
        let one : ◌≡◌ {A = ℕ} (cond (same_oid s.object id) 1 0) 1 = ap (λ (b : Bool). cond {A = ℕ} b 1 0) (ap (same_oid s.object) same ∙ ap is_eq (tied_itself oid_cmp_total s.object)) in
        omega (arith, gone, one)

-- ---- what is counted
positive : (n : ℕ) → nat_lt 0 n ≡ not (n == 0)
positive n = elim (n == 0) as (λ b. (n == 0) ≡ b → nat_lt 0 n ≡ not b) [
  | true ↦ λ t. let least : nat_lt 0 n ≡ false = grind (arith, nat_tests) in least
  | false ↦ λ t. let more : nat_lt 0 n ≡ true = grind (arith, nat_tests) in more
] refl

module _ (shared : SharedTable) (uses : FinMap oid_cmp UseCount) (counted : AreCounted shared uses) where
  -- an object has a description for reading, or for writing, where their number is above 0
  pub reader-count : (id : Oid) → nat_lt 0 (get_or uses id no_use).readers ≡ has_user (λ s. s.how.reads) shared id
  reader-count id = positive _ ∙ ap (λ (n : UseCount). not (n.readers == 0)) (counted id) ∙ sym (some-number (reads_object id) shared)

  pub writer-count : (id : Oid) → nat_lt 0 (get_or uses id no_use).writers ≡ has_user (λ s. s.how.writes) shared id
  writer-count id = positive _ ∙ ap (λ (n : UseCount). not (n.writers == 0)) (counted id) ∙ sym (some-number (writes_object id) shared)

  module _ (did : Did) (s : Shared) where
    pub counted-insert : map.get shared did ≡ None → (uses' : FinMap oid_cmp UseCount) → ((q : Oid) → get_or uses' q no_use ≡ more_if (same_oid s.object q) s.how (get_or uses q no_use)) → AreCounted (map.insert shared did s) uses'
    counted-insert none uses' more id = more id ∙ ap (more_if (same_oid s.object id) s.how) (counted id) ∙ sym (count-insert shared did s id none)

    module _ (there : map.get shared did ≡ Some s) where
      pub counted-remove : (uses' : FinMap oid_cmp UseCount) → ((q : Oid) → get_or uses q no_use ≡ more_if (same_oid s.object q) s.how (get_or uses' q no_use)) → AreCounted (map.remove shared did) uses'
      counted-remove uses' less id = apart (same_oid s.object id) s.how _ _ (sym (less id) ∙ counted id ∙ count-remove shared did s id there)

      pub counted-replace : (new : Shared) → new.object ≡ s.object → new.how ≡ s.how → AreCounted (map.insert shared did new) uses
      counted-replace new same how id = counted id ∙ sym (count-replace shared did s id there new same how)

      pub counted_some : Includes (get_or uses s.object no_use) s.how
      counted_some =
          let rest : UseCount = count_of (map.remove shared did) s.object in
          let is : with_more s.how rest ≡ get_or uses s.object no_use =
          ap (λ b. more_if b s.how rest) (sym (ap is_eq (tied_itself oid_cmp_total s.object))) ∙ sym (count-remove shared did s s.object there) ∙ sym (counted s.object) in
          subst (λ (n : UseCount). Includes n s.how) is (includes rest s.how)

      -- and the object still has one where the description stays
      pub not_unused : (new : Shared) → new.object ≡ s.object → None ≡ cond (uses_of (map.insert shared did new) s.object == 0) (Some s.object) None
      not_unused new same =
          let some = uses_some (map.insert shared did new) did new s.object (get-insert_same did_cmp_total shared did new) (sym same) in
          let more : (uses_of (map.insert shared did new) s.object == 0) ≡ false = grind (arith, nat_tests) in
          ap (λ b. cond b (Some s.object) None) (sym more)

-- ---- a description that is changed, with the same object and open as before
module _ (shared mid : SharedTable) (did : Did) (x : Shared) (found : Some x ≡ map.get shared did) (f : Shared → Shared) (set : mid ≡ map.insert shared did (f x)) where
  pub counted_changed : (uses : FinMap oid_cmp UseCount) → AreCounted shared uses → (f x).object ≡ x.object → (f x).how ≡ x.how → AreCounted mid uses
  counted_changed uses counted object how = subst (λ (m : SharedTable). AreCounted m uses) (sym set) (counted-replace shared uses counted did x (sym found) (f x) object how)

  pub shared_changed : (t : SharedTable) → shared ≡ t → (s : Shared) → map.get t did ≡ Some s → mid ≡ map.insert t did (f s)
  shared_changed t view s is =
      let same : x ≡ s = some_same x s (found ∙ ap (λ (m : SharedTable). map.get m did) view ∙ is) in
      set ∙ ap (λ (y : Shared). map.insert shared did (f y)) same ∙ ap (λ (m : SharedTable). map.insert m did (f s)) view
