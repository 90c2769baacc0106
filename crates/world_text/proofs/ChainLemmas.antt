-- Chains of items, after one more item and one step along.
use Rattle.std.proofs.Common.{◌≡◌, ℕ, ◌+◌, ◌-◌, ◌%◌, ◌<◌, ◌≤◌, ◌⊎◌, inl, inr, List, [], ◌∷◌, ◌++◌, length, get_or, set, sym, ◌∙◌, ap, subst, arith}
use Rattle.std.proofs.lemmas.Bool.{cases_eq}
use Rattle.std.proofs.lemmas.List.{get_or-set_same, get_or-set_other, get_or_append_left, get_or_push, get_or-map, length-append, length-map, map-append}
use Rattle.std.proofs.Math.ListN.{length-set}
use Rattle.world_text.specs.declared.chains.Link.{Link}
use Rattle.world_text.specs.Chains.{IsLast, IsLastIn, IsAlong, IsChained, hashes_of, before_in}

-- ---- one more item

cases_below : (k n : ℕ) → k < n + 1 → (k < n) ⊎ (k ≡ n)
cases_below k n h = elim (cases_eq k n) [ inl e ↦ inr e | inr apart ↦ inl (omega arith) ]

module _ (hs : List ℕ) (h : ℕ) where
  with_new : List ℕ
  with_new = hs ++ h ∷ []

  at_old : (k : ℕ) → k < length hs → get_or (hs ++ h ∷ []) k 0 ≡ get_or hs k 0
  at_old k less = get_or_append_left hs (h ∷ []) 0 k less

  at_new : (k : ℕ) → k ≡ length hs → get_or (hs ++ h ∷ []) k 0 ≡ h
  at_new k is = get_or_push hs h 0 k (sym is)

  one_more : length (hs ++ h ∷ []) ≡ length hs + 1
  one_more = length-append hs (h ∷ [])

  module _ (Test : ℕ → Type 0) where
    -- the last of the first items is the same with one more item after all
    last_kept : (n r : ℕ) → n ≤ length hs → IsLast Test hs n r → IsLast Test (hs ++ h ∷ []) n r
    last_kept n r less is = record {
      within = is.within;
      passes = λ some. let here : r - 1 < length hs = (let w = is.within in omega arith) in subst Test (sym (at_old (r - 1) here)) (is.passes some);
      none = λ k from below passes. is.none k from below (subst Test (at_old k (omega arith)) passes);
    }

    -- the last of all is the same where the item after them does not pass
    last_skips : (r : ℕ) → (Test h → ⊥) → IsLast Test hs (length hs) r → IsLast Test (hs ++ h ∷ []) (length hs + 1) r
    last_skips r fails is =
        let kept = last_kept (length hs) r (omega arith) is in
        record {
          within = (let w = is.within in omega arith);
          passes = kept.passes;
          none = λ k from below passes. elim (cases_below k (length hs) below) [ inl less ↦ kept.none k from less passes | inr at ↦ fails (subst Test (at_new k at) passes) ];
        }

    -- it is the new one where it passes
    last_is_new : Test h → IsLast Test (hs ++ h ∷ []) (length hs + 1) (length hs + 1)
    last_is_new passes = record {
      within = omega arith;
      passes = λ some. subst Test (sym (at_new (length hs + 1 - 1) (omega arith))) passes;
      none = λ k from below h. absurd (omega arith);
    }

-- an item is put at the end of its chain
pub chained_more : (heads hs bs : List ℕ) (h b before : ℕ) → IsChained heads hs bs → length bs ≡ length hs → b ≡ h % length heads → b < length heads → before ≡ get_or heads b 0
    → IsChained (set heads b (length hs + 1)) (hs ++ h ∷ []) (bs ++ before ∷ [])
chained_more heads hs bs h b before is same bucket within first = record {
  heads_are = λ d below.
      let less : d < length heads = omega (arith, length-set heads b (length hs + 1)) in
      subst (λ m. IsLastIn m d (hs ++ h ∷ []) (length (hs ++ h ∷ [])) (get_or (set heads b (length hs + 1)) d 0)) (sym (length-set heads b (length hs + 1)))
      (subst (λ n. IsLastIn (length heads) d (hs ++ h ∷ []) n (get_or (set heads b (length hs + 1)) d 0)) (sym (one_more hs h)) (head_is d less));
  before_are = λ k below.
      subst (λ m. IsLastIn m (get_or (hs ++ h ∷ []) k 0 % m) (hs ++ h ∷ []) k (get_or (bs ++ before ∷ []) k 0)) (sym (length-set heads b (length hs + 1)))
      (elim (cases_below k (length hs) (omega (arith, one_more hs h))) [ inl less ↦ old_is k less | inr at ↦ new_is k at ]);
  some = λ h. omega (arith, length-set heads b (length hs + 1));
}
  where
    head_is : (d : ℕ) → d < length heads → IsLastIn (length heads) d (hs ++ h ∷ []) (length hs + 1) (get_or (set heads b (length hs + 1)) d 0)
    head_is d less = elim (cases_eq d b) [
      | inl e ↦ subst (λ r. IsLastIn (length heads) d (hs ++ h ∷ []) (length hs + 1) r) (sym (ap (λ x. get_or (set heads b (length hs + 1)) x 0) e ∙ get_or-set_same heads b (length hs + 1) 0 within))
          (last_is_new hs h (λ x. x % length heads ≡ d) (sym bucket ∙ sym e))
      | inr apart ↦ subst (λ r. IsLastIn (length heads) d (hs ++ h ∷ []) (length hs + 1) r) (sym (get_or-set_other heads b d (length hs + 1) 0 apart))
          (last_skips hs h (λ x. x % length heads ≡ d) (get_or heads d 0) (λ e. apart (sym e ∙ sym bucket)) (is.heads_are d less))
    ]

    old_is : (k : ℕ) → k < length hs → IsLastIn (length heads) (get_or (hs ++ h ∷ []) k 0 % length heads) (hs ++ h ∷ []) k (get_or (bs ++ before ∷ []) k 0)
    old_is k less =
        let there : k < length bs = omega arith in
        subst (λ x. IsLastIn (length heads) (x % length heads) (hs ++ h ∷ []) k (get_or (bs ++ before ∷ []) k 0)) (sym (at_old hs h k less))
        (subst (λ r. IsLastIn (length heads) (get_or hs k 0 % length heads) (hs ++ h ∷ []) k r) (sym (get_or_append_left bs (before ∷ []) 0 k there))
        (last_kept hs h (λ x. x % length heads ≡ get_or hs k 0 % length heads) k (get_or bs k 0) (omega arith) (is.before_are k less)))

    new_is : (k : ℕ) → k ≡ length hs → IsLastIn (length heads) (get_or (hs ++ h ∷ []) k 0 % length heads) (hs ++ h ∷ []) k (get_or (bs ++ before ∷ []) k 0)
    new_is k at =
        subst (λ x. IsLastIn (length heads) (x % length heads) (hs ++ h ∷ []) k (get_or (bs ++ before ∷ []) k 0)) (sym (at_new hs h k at))
        (subst (λ r. IsLastIn (length heads) (h % length heads) (hs ++ h ∷ []) k r) (sym (get_or_push bs before 0 k (same ∙ sym at) ∙ first))
        (subst (λ n. IsLastIn (length heads) (h % length heads) (hs ++ h ∷ []) n (get_or heads b 0)) (sym at)
        (subst (λ d. IsLastIn (length heads) d (hs ++ h ∷ []) (length hs) (get_or heads b 0)) bucket
        (last_kept hs h (λ x. x % length heads ≡ b) (length hs) (get_or heads b 0) (omega arith) (is.heads_are b within)))))

-- the same of links
pub linked_more : (heads : List ℕ) (links : List Link) (l : Link) (b n : ℕ) → IsChained heads (hashes_of links) (before_in links) → b ≡ l.hash % length heads → b < length heads
    → l.before ≡ get_or heads b 0 → n ≡ length links → IsChained (set heads b (n + 1)) (hashes_of (links ++ l ∷ [])) (before_in (links ++ l ∷ []))
linked_more heads links l b n is bucket within first count =
    let hashes = map-append (λ (l : Link). l.hash) links (l ∷ []) in
    let before = map-append (λ (l : Link). l.before) links (l ∷ []) in
    let len_h = length-map links (λ (l : Link). l.hash) in
    let len_b = length-map links (λ (l : Link). l.before) in
    subst (λ n. IsChained (set heads b (n + 1)) (hashes_of (links ++ l ∷ [])) (before_in (links ++ l ∷ []))) (len_h ∙ sym count)
    (subst (λ hs. IsChained (set heads b (length (hashes_of links) + 1)) hs (before_in (links ++ l ∷ []))) (sym hashes)
    (subst (λ bs. IsChained (set heads b (length (hashes_of links) + 1)) (hashes_of links ++ l.hash ∷ []) bs) (sym before)
    (chained_more heads (hashes_of links) (before_in links) l.hash b l.before is (len_b ∙ sym len_h) bucket within first)))

-- ---- along a chain

-- the last item in the bucket of so many is along it
pub along_from : (buckets hash : ℕ) (hs : List ℕ) (count n r : ℕ) → n ≤ length hs → count ≤ n → IsLastIn buckets (hash % buckets) hs n r → IsAlong buckets hash hs count r
along_from buckets hash hs count n r inside below is = record {
  within = (let w = is.within in omega arith);
  bucket = is.passes;
  none = λ k from under here. is.none k from (omega arith) (ap (λ h. h % buckets) here);
}

-- the item before one of that hash is along it
pub along_link : (heads : List ℕ) (links : List Link) (d : Link) (hash count : ℕ) → IsChained heads (hashes_of links) (before_in links) → count < length links → (get_or links count d).hash ≡ hash
    → IsAlong (length heads) hash (hashes_of links) count (get_or links count d).before
along_link heads links d hash count is inside same =
    let len_h = length-map links (λ (l : Link). l.hash) in
    let hash_is : get_or (hashes_of links) count 0 ≡ hash = get_or-map (λ (l : Link). l.hash) links count d 0 inside ∙ same in
    let before_is : get_or (before_in links) count 0 ≡ (get_or links count d).before = get_or-map (λ (l : Link). l.before) links count d 0 inside in
    along_from (length heads) hash (hashes_of links) count count (get_or links count d).before (omega arith) (omega arith)
    (subst (λ r. IsLastIn (length heads) (hash % length heads) (hashes_of links) count r) before_is
    (subst (λ h. IsLastIn (length heads) (h % length heads) (hashes_of links) count (get_or (before_in links) count 0)) hash_is (is.before_are count (omega arith))))

-- the item before it in its bucket is along too, where it is past the first items or has another hash
pub along_more : (heads : List ℕ) (links : List Link) (hash count at before : ℕ) → IsChained heads (hashes_of links) (before_in links) → IsAlong (length heads) hash (hashes_of links) count at → 0 < at
    → before ≡ get_or (before_in links) (at - 1) 0 → (at ≤ count → get_or (hashes_of links) (at - 1) 0 ≡ hash → ⊥) → IsAlong (length heads) hash (hashes_of links) count before
along_more heads links hash count at before is along some read apart =
    let last : IsLastIn (length heads) (hash % length heads) (hashes_of links) (at - 1) before =
    subst (λ r. IsLastIn (length heads) (hash % length heads) (hashes_of links) (at - 1) r) (sym read)
    (subst (λ b. IsLastIn (length heads) b (hashes_of links) (at - 1) (get_or (before_in links) (at - 1) 0)) (along.bucket some) (is.before_are (at - 1) (let w = along.within in omega arith))) in
    record {
      within = (let w = last.within in let v = along.within in omega arith);
      bucket = last.passes;
      none = λ k from under here. by_place k from under here (cases_eq k (at - 1)) last;
    }
  where
    by_place : (k : ℕ) → before ≤ k → k < count → get_or (hashes_of links) k 0 ≡ hash → (k ≡ at - 1) ⊎ (k ≡ at - 1 → ⊥) → IsLastIn (length heads) (hash % length heads) (hashes_of links) (at - 1) before → ⊥
    by_place k from under here (inl e) last = apart (omega arith) (ap (λ n. get_or (hashes_of links) n 0) (sym e) ∙ here)
    by_place k from under here (inr other) last = by_side (elim (cases_eq (k - (at - 1)) 0) [ inl e ↦ inl (omega arith) | inr more ↦ inr (omega arith) ])
      where
        by_side : (k < at - 1) ⊎ (at ≤ k) → ⊥
        by_side (inl less) = last.none k from less (ap (λ h. h % length heads) here)
        by_side (inr past) = along.none k past under here
