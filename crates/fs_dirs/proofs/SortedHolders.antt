-- The directories that hold an object, in the order of their numbers: what a search finds, and what an edit keeps.
use Rattle.std.proofs.Common.{◌≡◌, ℕ, suc, ◌+◌, ◌<◌, false, List, [], ◌∷◌, length, get_or, set, refl, ap, sym, ◌∙◌, arith, inl, inr}
use Rattle.std.specs.Prelude.{Result, Ok, Err, IfOk, IfErr, cond}
use Rattle.std.specs.declared.cmp.Ordering.TheVariants.{Equal}
use Rattle.std.specs.Ordering.{is_eq}
use Rattle.std.specs.List.{AllWithin, insert, remove}
use Rattle.std.specs.List.Sorted.{IsBinarySearchResult, IsSearchInRange}
use Rattle.std.proofs.lemmas.Bool.{cases_lt}
use Rattle.std.proofs.lemmas.Cmp.{tied_itself}
use Rattle.kern_model.specs.declared.numbers.Oid.{Oid}
use Rattle.kern_model.specs.Keys.{oid_cmp, same_oid}
use Rattle.kern_model.proofs.KeyLaws.{oid_cmp_exact, oid_cmp_total}
use Rattle.kern_model.proofs.MapLemmas.{same_key}
use Rattle.fs_dirs.specs.declared.links.Holder.{Holder}
use Rattle.fs_dirs.specs.Entries.{IsIn, dir_of, first_name, names_where}
use Rattle.fs_dirs.specs.Links.{AreSorted, IsGap, pairs_of}
use Rattle.fs_dirs.proofs.LinkLemmas.{names-cons}
use Rattle.fs_dirs.proofs.Sorted.{answers_rise, holds_at, put_in, put_over, taken_out, sorted_put, sorted_without}

abbrev pair_of : Holder → Oid × ℕ
pair_of h = (dir_of h, h.further)

-- ---- what a search finds
none_in : (dir : Oid) (holders : List Holder) → AllWithin (λ (h : Holder). same_oid (dir_of h) dir ≡ false) holders 0 (length holders) → names_where (λ (d : Oid). same_oid d dir) holders ≡ 0
none_in dir [] others = refl
none_in dir (h ∷ hs) others =
    let all = names-cons (λ (d : Oid). same_oid d dir) h hs in
    let here : ◌≡◌ {A = ℕ} (cond (same_oid (dir_of h) dir) (h.further + 1) 0) 0 = ap (λ b. cond {A = ℕ} b (h.further + 1) 0) (others 0 h (omega arith) (omega arith)) in
    let rest = none_in dir hs (λ j d from below. others (suc j) d (omega arith) (omega arith)) in
    omega (arith, all, here, rest)

-- no name stands in a directory that belongs at a place
not_in : (holders : List Holder) (dir : Oid) (place : ℕ) → IsGap holders dir place → IsIn dir holders → ⊥
not_in holders dir place gap some =
    let none = none_in dir holders (λ j d from below. elim (cases_lt j place) [
      | inl before ↦ ap is_eq (gap.less j d from before)
      | inr after ↦ ap is_eq (gap.greater j d (omega arith) below)
    ]) in
    omega (arith, none, some)

module _ (holders : List Holder) (dir : Oid) where
  -- a holder that is found is of the directory
  pub found : (r : Result ℕ ℕ) → IsBinarySearchResult (λ (h : Holder). oid_cmp (dir_of h) dir) holders r → IfOk r (λ (place : ℕ). dir_of (get_or holders place (first_name dir)) ≡ dir)
  found (Ok place) is = same_key oid_cmp_exact _ dir (ap is_eq (is (first_name dir)))
  found (Err place) is = tt

  -- and where none is, the directory belongs at the place
  pub gap : AreSorted holders → (r : Result ℕ ℕ) → IsSearchInRange r (length holders) → IsBinarySearchResult (λ (h : Holder). oid_cmp (dir_of h) dir) holders r → IfErr r (IsGap holders dir)
  gap sorted (Ok place) within is = tt
  gap sorted (Err place) within is =
      let parted = is (answers_rise pair_of oid_cmp_total holders dir sorted) in
      record { within = within; less = parted.0; greater = parted.1 }

  pub absent : (r : Result ℕ ℕ) → IfErr r (IsGap holders dir) → IfErr r (λ (place : ℕ). IsIn dir holders → ⊥)
  absent (Ok place) there = tt
  absent (Err place) there = not_in holders dir place there

-- ---- what an edit keeps
module _ (holders : List Holder) (sorted : AreSorted holders) (place : ℕ) where
  -- a directory comes at its place
  pub sorted_added : (dir : Oid) → IsGap holders dir place → AreSorted (insert holders place (first_name dir))
  sorted_added dir gap = sorted_put oid_cmp_total (pairs_of holders) _ dir 0 sorted (put_in pair_of oid_cmp_total holders place (first_name dir) gap.within gap.less gap.greater)

  -- one has another count of names
  pub sorted_over : place < length holders → (h new : Holder) → h ≡ get_or holders place h → dir_of new ≡ dir_of h → AreSorted (set holders place new)
  sorted_over within h new is same =
      let here = holds_at (λ (x : Holder). oid_cmp (dir_of x) (dir_of h) ≡ Equal) holders place h within (ap (λ (x : Holder). oid_cmp (dir_of x) (dir_of h)) (sym is) ∙ tied_itself oid_cmp_total (dir_of h)) in
      let pairs = holds_at (λ (x : Holder). pair_of new ≡ (dir_of x, new.further)) holders place h within (ap (λ (d : Oid). (d, new.further)) same ∙ ap (λ (x : Holder). (dir_of x, new.further)) is) in
      sorted_put oid_cmp_total (pairs_of holders) _ (dir_of h) new.further sorted (put_over pair_of oid_cmp_total holders (dir_of h) place new new.further sorted within here pairs)

  -- one goes
  pub sorted_removed : place < length holders → (h : Holder) → AreSorted (remove holders place)
  sorted_removed within h =
      let dir = dir_of (get_or holders place h) in
      let here = holds_at (λ (x : Holder). oid_cmp (dir_of x) dir ≡ Equal) holders place h within (tied_itself oid_cmp_total dir) in
      sorted_without oid_cmp_total (pairs_of holders) _ dir sorted (taken_out pair_of oid_cmp_total holders dir place sorted within here)
