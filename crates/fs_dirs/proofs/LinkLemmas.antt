-- The index of the names of objects, after an entry is set or goes.
use Rattle.std.specs.Prelude.{◌≡◌, ◌&&◌, ◌||◌, not, ℕ, ◌+◌, ◌-◌, ◌<◌, ◌≤◌, ◌==◌, Bool, true, false, List, [], ◌∷◌, Option, Some, None, IfSome, IsSome, cond, get_or, is_some, refl, slice_get}
use Rattle.std.specs.Ordering.{is_eq}
use Rattle.std.specs.List.{find, list_all}
use Rattle.std.specs.Option.{option_map}
use Rattle.std.specs.Cmp.{eq_by_cmp_equiv}
use Rattle.std.specs.FinMap as table
use Rattle.std.specs.FinMap.{FinMap, get-empty, len-empty, len-insert}
use Rattle.std.proofs.Common.{ap, sym, ◌∙◌, subst, arith}
use Rattle.std.proofs.lemmas.Bool.{true≢false}
use Rattle.std.proofs.lemmas.Bool.Decides.{nat_tests}
use Rattle.std.proofs.lemmas.Cmp.{tied_itself}
use Rattle.std.proofs.lemmas.List.Sums.{sum_by-cons}
use Rattle.fs_path.specs.Name.{Name}
use Rattle.lab_lattice.specs.Label.{label_cmp}
use Rattle.kern_model.specs.declared.numbers.Oid.{Oid}
use Rattle.kern_model.specs.Entries.{holder}
use Rattle.kern_model.specs.Keys.{Spot, spot_cmp, same_oid}
use Rattle.kern_model.specs.Maps.{any_entry, count_entries}
use Rattle.kern_model.proofs.KeyLaws.{oid_cmp_total, oid_cmp_exact, spot_cmp_total, spot_cmp_exact}
use Rattle.kern_model.proofs.MapLemmas.{get_or-absent, same_key, remove-absent}
use Rattle.kern_model.proofs.Selections.{get-remove_same}
use Rattle.kern_model.specs.LabelLists.{IsSet, list_at}
use Rattle.fs_nodes.proofs.Places.{one_number}
use Rattle.kern_model.proofs.ByNumber.{item_set_by}
use Rattle.kern_model.proofs.NumberLaws.{oids}
use Rattle.fs_dirs.specs.declared.links.Holder.{Holder}
use Rattle.fs_dirs.specs.Entries.{AreHolders, AreIndexed, HasLess, HasMore, Holders, IsIn, IsWith, dir_of, entries_alone, holders_at, name_count, names_in_all, names_where}
use Rattle.fs_dirs.proofs.CountLemmas.{any_entry-count, count-cons, count_entries-empty, count_entries-insert, count_entries-remove, count_entries-set, insert-remove, passing}

pub itself : (id : Oid) → same_oid id id ≡ true
itself id = ap is_eq (tied_itself oid_cmp_total id)

-- ---- lists of directories
-- how many names stand in a directory, if it passes
pub names-cons : (test : Oid → Bool) (h : Holder) (hs : List Holder) → names_where test (h ∷ hs) ≡ cond (test (dir_of h)) (h.further + 1) 0 + names_where test hs
names-cons test h hs = sum_by-cons (λ (h : Holder). cond (test (dir_of h)) (h.further + 1) 0) h hs

nothing_more : (n : ℕ) → n ≡ 0 + n
nothing_more n = omega arith

-- a directory
module _ (h : Holder) (dir : Oid) where
  -- where one of its names is in a directory, it is that one
  pub only_in : IsIn dir (h ∷ []) → dir_of h ≡ dir
  only_in some =
      let one = names-cons (λ (d : Oid). same_oid d dir) h [] in
      elim (same_oid (dir_of h) dir) as (λ b. same_oid (dir_of h) dir ≡ b → dir_of h ≡ dir) [
        | true ↦ λ t. same_key oid_cmp_exact (dir_of h) dir t
        | false ↦ λ f. let none : ◌≡◌ {A = ℕ} (cond (same_oid (dir_of h) dir) (h.further + 1) 0) 0 = ap (λ b. cond {A = ℕ} b (h.further + 1) 0) f in absurd (omega (arith, one, none, some))
      ] refl

  -- with one name more there
  pub with_one : (g : Holder) → dir_of h ≡ dir → dir_of g ≡ dir → g.further ≡ h.further + 1 → IsWith (h ∷ []) dir (g ∷ [])
  with_one g before after more test =
      let old = names-cons test h [] in
      let new = names-cons test g [] in
      let at = ap (λ (d : Oid). cond {A = ℕ} (test d) (h.further + 1) 0) before in
      let at_new = ap (λ (d : Oid). cond {A = ℕ} (test d) (g.further + 1) 0) after in
      elim (test dir) as (λ b. test dir ≡ b → names_where test (g ∷ []) ≡ cond (test dir) 1 0 + names_where test (h ∷ [])) [
        | true ↦ λ t.
            let passes : (n : ℕ) → ◌≡◌ {A = ℕ} (cond (test dir) n 0) n = λ n. ap (λ b. cond {A = ℕ} b n 0) t in
            let p1 = passes (h.further + 1) in
            let p2 = passes (g.further + 1) in
            let p3 = passes 1 in
            omega (arith, old, new, at, at_new, p1, p2, p3, more)
        | false ↦ λ f.
            let fails : (n : ℕ) → ◌≡◌ {A = ℕ} (cond (test dir) n 0) 0 = λ n. ap (λ b. cond {A = ℕ} b n 0) f in
            let p1 = fails (h.further + 1) in
            let p2 = fails (g.further + 1) in
            let p3 = fails 1 in
            omega (arith, old, new, at, at_new, p1, p2, p3)
      ] refl

-- not more names stand in directories that pass a test than in all
pub names_within : (test : Oid → Bool) (holders : List Holder) → names_where test holders ≤ names_in_all holders
names_within test [] = omega arith
names_within test (h ∷ hs) =
    let some = names-cons test h hs in
    let all = names-cons (λ (d : Oid). true) h hs in
    let rest = names_within test hs in
    elim (test (dir_of h)) as (λ b. test (dir_of h) ≡ b → names_where test (h ∷ hs) ≤ names_in_all (h ∷ hs)) [
      | true ↦ λ t. let here : ◌≡◌ {A = ℕ} (cond (test (dir_of h)) (h.further + 1) 0) (h.further + 1) = ap (λ b. cond {A = ℕ} b (h.further + 1) 0) t in omega (arith, some, all, rest, here)
      | false ↦ λ f. let here : ◌≡◌ {A = ℕ} (cond (test (dir_of h)) (h.further + 1) 0) 0 = ap (λ b. cond {A = ℕ} b (h.further + 1) 0) f in omega (arith, some, all, rest, here)
    ] refl

-- ---- the names of one object change
-- what holds of the object's directories now, and of all others as they were, holds of all
module _ (holders : Holders) (id : Oid) (dirs : List Holder) (after : Holders) (is : (q : Oid) → holders_at after q ≡ cond (same_oid q id) dirs (holders_at holders q)) where
  each_at : (P : Bool → List Holder → List Holder → Type 0) → P true (holders_at holders id) dirs → ((old : List Holder) → P false old old) → (q : Oid) → P (same_oid id q) (holders_at holders q) (holders_at after q)
  each_at P here other q =
      subst (λ (ds : List Holder). P (same_oid id q) (holders_at holders q) ds) (sym (is q))
      (subst (λ b. P b (holders_at holders q) (cond (same_oid q id) dirs (holders_at holders q))) ((eq_by_cmp_equiv oid_cmp_total).symm q id)
      (elim (same_oid q id) as (λ b. same_oid q id ≡ b → P b (holders_at holders q) (cond b dirs (holders_at holders q))) [
        | true ↦ λ t. subst (λ (r : Oid). P true (holders_at holders r) dirs) (sym (same_key oid_cmp_exact q id t)) here
        | false ↦ λ _. other (holders_at holders q)
      ] refl))

  more_set : (dir : Oid) → IsWith (holders_at holders id) dir dirs → HasMore holders id dir after
  more_set dir more = each_at (λ (b : Bool) (old new : List Holder). (test : Oid → Bool) → names_where test new ≡ cond (b && test dir) 1 0 + names_where test old) more (λ old test. nothing_more (names_where test old))

  less_set : (dir : Oid) → IsWith dirs dir (holders_at holders id) → HasMore after id dir holders
  less_set dir less = each_at (λ (b : Bool) (old new : List Holder). (test : Oid → Bool) → names_where test old ≡ cond (b && test dir) 1 0 + names_where test new) less (λ old test. nothing_more (names_where test old))

-- the same by the list of its label
module _ (holders : Holders) (id : Oid) {list : List (List Holder)} {after : Holders} (left : List (List Holder)) (found : list_at holders id.label ≡ list) (is : after ≡ table.insert holders id.label left) where
  -- where its directories alone are others in the list of its label, they alone are others
  pub set_at : (dirs : List Holder) → IsSet [] list id.n dirs left → (q : Oid) → holders_at after q ≡ cond (same_oid q id) dirs (holders_at holders q)
  set_at dirs put q =
      ap (λ (h : Holders). holders_at h q) is ∙ item_set_by oids holders id left [] dirs (subst (λ (r : List (List Holder)). IsSet [] r id.n dirs left) (sym found) put) q

  -- and where the list says the same, all are as before
  pub same_at : ((m : ℕ) → get_or left m [] ≡ get_or list m []) → (q : Oid) → holders_at after q ≡ holders_at holders q
  same_at same q =
      let set : IsSet [] list id.n (get_or list id.n []) left = λ m. same m ∙ elim (m == id.n) as (λ b. (m == id.n) ≡ b → get_or list m [] ≡ cond b (get_or list id.n []) (get_or list m [])) [
        | true ↦ λ t. ap (λ k. get_or list k []) (one_number m id.n t)
        | false ↦ λ _. refl
      ] refl in
      set_at (get_or list id.n []) set q
      ∙ elim (same_oid q id) as (λ b. same_oid q id ≡ b → cond b (get_or list id.n []) (holders_at holders q) ≡ holders_at holders q) [
        | true ↦ λ t. ap (λ (r : List (List Holder)). get_or r id.n []) (sym found) ∙ ap (holders_at holders) (sym (same_key oid_cmp_exact q id t))
        | false ↦ λ _. refl
      ] refl

  pub more_at : (dir : Oid) → IsSet [] list id.n (get_or left id.n []) left → IsWith (get_or list id.n []) dir (get_or left id.n []) → HasMore holders id dir after
  more_at dir put more =
      let dirs : List Holder = get_or left id.n [] in
      more_set holders id dirs after (set_at dirs put) dir (subst (λ (r : List (List Holder)). IsWith (get_or r id.n []) dir dirs) (sym found) more)

  pub less_at : (dir : Oid) → IsSet [] list id.n (get_or left id.n []) left → IsWith (get_or left id.n []) dir (get_or list id.n []) → HasMore after id dir holders
  less_at dir put less =
      let dirs : List Holder = get_or left id.n [] in
      less_set holders id dirs after (set_at dirs put) dir (subst (λ (r : List (List Holder)). IsWith dirs dir (get_or r id.n [])) (sym found) less)

-- ---- the list of a label
-- none of the names of an object is in any directory, where its label has no list
pub never_absent : (holders : Holders) (id : Oid) (test : Oid → Bool) → 0 < names_where test (holders_at holders id) → list_at holders id.label ≡ [] → ⊥
never_absent holders id test some absent =
    let none : names_where test (holders_at holders id) ≡ 0 = ap (λ (r : List (List Holder)). names_where test (get_or r id.n [])) absent in
    omega (arith, none, some)

-- ---- an object's names, counted
module _ (entries : FinMap spot_cmp Oid) (id : Oid) (dirs : List Holder) (are : AreHolders entries id dirs) where
  in_all : (b : Bool) → (b && true) ≡ b
  in_all true = refl
  in_all false = refl

  -- as many stand in all directories
  pub holder_count : names_in_all dirs ≡ name_count entries id
  holder_count = are (λ (d : Oid). true) ∙ ap (λ (p : Spot → Oid → Bool). count_entries p entries) (λ i (spot : Spot) (at : Oid). in_all (same_oid at id) i)

-- the directory of the one entry that leads to an object
first_holder : (id : Oid) (h : Holder) (es : List (Spot × Oid)) → ((test : Oid → Bool) → names_where test (h ∷ []) ≡ passing (λ (spot : Spot) (at : Oid). same_oid at id && test spot.0) es)
    → option_map (λ (e : Spot × Oid). e.0.0) (find (λ (e : Spot × Oid). same_oid e.1 id) es) ≡ Some (dir_of h)
first_holder id h [] are = let all = are (λ (d : Oid). true) in let one = names-cons (λ (d : Oid). true) h [] in absurd (omega (arith, all, one))
first_holder id h (e ∷ es) are =
    elim (same_oid e.1 id) as (λ b. same_oid e.1 id ≡ b → option_map (λ (e : Spot × Oid). e.0.0) (cond b (Some e) (find (λ (e : Spot × Oid). same_oid e.1 id) es)) ≡ Some (dir_of h)) [
      | true ↦ λ t.
          let test : Oid → Bool = λ (d : Oid). same_oid d e.0.0 in
          let leads : Spot → Oid → Bool = λ (spot : Spot) (at : Oid). same_oid at id && test spot.0 in
          let step = count-cons (λ (e : Spot × Oid). leads e.0 e.1) e es in
          let here : ◌≡◌ {A = ℕ} (cond (same_oid e.1 id && same_oid e.0.0 e.0.0) 1 0) 1 = ap (λ b. cond {A = ℕ} (b && same_oid e.0.0 e.0.0) 1 0) t ∙ ap (λ b. cond {A = ℕ} b 1 0) (itself e.0.0) in
          let all = are test in
          let one = names-cons test h [] in
          elim (same_oid (dir_of h) e.0.0) as (λ b. same_oid (dir_of h) e.0.0 ≡ b → Some e.0.0 ≡ Some (dir_of h)) [
            | true ↦ λ s. ap Some (sym (same_key oid_cmp_exact (dir_of h) e.0.0 s))
            | false ↦ λ f. let none : ◌≡◌ {A = ℕ} (cond (same_oid (dir_of h) e.0.0) (h.further + 1) 0) 0 = ap (λ b. cond {A = ℕ} b (h.further + 1) 0) f in absurd (omega (arith, step, here, all, one, none))
          ] refl
      | false ↦ λ f. first_holder id h es (λ test. are test ∙ count-cons (λ (e : Spot × Oid). same_oid e.1 id && test e.0.0) e es
          ∙ ap (λ b. cond {A = ℕ} (b && test e.0.0) 1 0 + passing (λ (spot : Spot) (at : Oid). same_oid at id && test spot.0) es) f
          ∙ sym (nothing_more (passing (λ (spot : Spot) (at : Oid). same_oid at id && test spot.0) es)))
    ] refl

no_holder : (id : Oid) (es : List (Spot × Oid)) → ((test : Oid → Bool) → names_where test [] ≡ passing (λ (spot : Spot) (at : Oid). same_oid at id && test spot.0) es)
    → option_map (λ (e : Spot × Oid). e.0.0) (find (λ (e : Spot × Oid). same_oid e.1 id) es) ≡ None
no_holder id [] are = refl
no_holder id (e ∷ es) are =
    let step = λ (test : Oid → Bool). count-cons (λ (e : Spot × Oid). same_oid e.1 id && test e.0.0) e es in
    elim (same_oid e.1 id) as (λ b. same_oid e.1 id ≡ b → option_map (λ (e : Spot × Oid). e.0.0) (cond b (Some e) (find (λ (e : Spot × Oid). same_oid e.1 id) es)) ≡ None) [
      | true ↦ λ t.
          let first = step (λ (d : Oid). true) in
          let here : ◌≡◌ {A = ℕ} (cond (same_oid e.1 id && true) 1 0) 1 = ap (λ b. cond {A = ℕ} (b && true) 1 0) t in
          let none = are (λ (d : Oid). true) in
          absurd (omega (arith, first, here, none))
      | false ↦ λ f. no_holder id es (λ test. are test ∙ step test ∙ ap (λ b. cond {A = ℕ} (b && test e.0.0) 1 0 + passing (λ (spot : Spot) (at : Oid). same_oid at id && test spot.0) es) f
          ∙ sym (nothing_more (passing (λ (spot : Spot) (at : Oid). same_oid at id && test spot.0) es)))
    ] refl

-- the first of an object's directories, where it has no second name, is the one that holds it
pub holder_first : (entries : FinMap spot_cmp Oid) (id : Oid) (dirs : List Holder) → AreHolders entries id dirs → name_count entries id ≤ 1 → (w : Option Oid) → w ≡ option_map dir_of (slice_get dirs 0) → w ≡ holder (entries_alone entries) id
unfolding holder count_entries
holder_first entries id [] are one w is = is ∙ sym (no_holder id (table.entries entries) are)
holder_first entries id (h ∷ []) are one w is = is ∙ sym (first_holder id h (table.entries entries) are)
holder_first entries id (h ∷ g ∷ hs) are one w is =
    let count = holder_count entries id (h ∷ g ∷ hs) are in
    let first = names-cons (λ (d : Oid). true) h (g ∷ hs) in
    let second = names-cons (λ (d : Oid). true) g hs in
    absurd (omega (arith, count, first, second, one))

-- ---- an entry that goes
module _ (entries : FinMap spot_cmp Oid) (dir : Oid) (name : Name) (id : Oid) (there : table.get entries (dir, name) ≡ Some id) where
  abbrev after_remove : FinMap spot_cmp Oid
  after_remove = table.remove entries (dir, name)

  -- there is one entry less
  pub one_less : table.len entries ≡ table.len after_remove + 1
  one_less = ap table.len (sym (insert-remove spot_cmp_total spot_cmp_exact entries (dir, name) id there)) ∙ len-insert spot_cmp_total after_remove (dir, name) id
      ∙ ap (λ (w : Option Oid). cond (is_some w) (table.len after_remove) (table.len after_remove + 1)) (get-remove_same spot_cmp_total entries (dir, name))

  -- with what is left of the object's names, each object's are indexed
  pub indexed-remove : (holders less : Holders) (total : ℕ) → AreIndexed entries holders total → HasMore less id dir holders → AreIndexed after_remove less (total - 1)
  indexed-remove holders less total indexed has = record {
    holders_are = λ q test.
        let before = indexed.holders_are q test in
        let more = has q test in
        let counted = count_entries-remove (λ (spot : Spot) (at : Oid). same_oid at q && test spot.0) spot_cmp_total spot_cmp_exact entries (dir, name) id there in
        omega (arith, before, more, counted);
    counted = let less = one_less in let same = indexed.counted in omega (arith, less, same);
  }

  -- one of the object's names is in the directory
  pub name_is_in : (holders : Holders) (total : ℕ) → AreIndexed entries holders total → IsIn dir (holders_at holders id)
  name_is_in holders total indexed =
      let held = indexed.holders_are id (λ (d : Oid). same_oid d dir) in
      let counted = count_entries-remove (λ (spot : Spot) (at : Oid). same_oid at id && same_oid spot.0 dir) spot_cmp_total spot_cmp_exact entries (dir, name) id there in
      let here : ◌≡◌ {A = ℕ} (cond (same_oid id id && same_oid dir dir) 1 0) 1 = ap (λ b. cond {A = ℕ} (b && same_oid dir dir) 1 0) (itself id) ∙ ap (λ b. cond {A = ℕ} b 1 0) (itself dir) in
      omega (arith, held, counted, here)

-- ---- an entry that is set
module _ (entries : FinMap spot_cmp Oid) (dir : Oid) (name : Name) (id : Oid) (holders more : Holders) (total : ℕ) (indexed : AreIndexed entries holders total) (has : HasMore holders id dir more) where
  -- the name of the object that gives way, if there is one, is in the directory still
  pub still_is_in : (w : Option Oid) → table.get entries (dir, name) ≡ w → IfSome w (λ (old : Oid). IsIn dir (holders_at more old))
  still_is_in None is = tt
  still_is_in (Some old) is =
      let before = name_is_in entries dir name old is holders total indexed in
      let added = has old (λ (d : Oid). same_oid d dir) in
      omega (arith, before, added)

  with_length : (w : Option Oid) → table.get entries (dir, name) ≡ w → table.len (table.insert entries (dir, name) id) ≡ cond (is_some w) (table.len entries) (table.len entries + 1)
  with_length w is = len-insert spot_cmp_total entries (dir, name) id ∙ ap (λ (w : Option Oid). cond (is_some w) (table.len entries) (table.len entries + 1)) is

  -- with the object's names, and without that of the object that gives way, each object's are indexed
  pub indexed-set : (w : Option Oid) → table.get entries (dir, name) ≡ w → (after : Holders) → HasLess more w dir after → (count : ℕ) → count ≡ total + 1 → AreIndexed (table.insert entries (dir, name) id) after (cond (is_some w) (count - 1) count)
  indexed-set None is after same count one_more = record {
    holders_are = λ q test. ap (λ (h : Holders). names_where test (holders_at h q)) same ∙ has q test ∙ ap (λ n. cond (same_oid id q && test dir) 1 0 + n) (indexed.holders_are q test)
        ∙ sym (count_entries-insert (λ (spot : Spot) (at : Oid). same_oid at q && test spot.0) spot_cmp_total entries (dir, name) id is);
    counted = let length = with_length None is in let before = indexed.counted in omega (arith, length, before, one_more);
  }
  indexed-set (Some old) is after less count one_more = record {
    holders_are = λ q test.
        let before = indexed.holders_are q test in
        let added = has q test in
        let dropped = less q test in
        let gone = count_entries-remove (λ (spot : Spot) (at : Oid). same_oid at q && test spot.0) spot_cmp_total spot_cmp_exact entries (dir, name) old is in
        let set = count_entries-set (λ (spot : Spot) (at : Oid). same_oid at q && test spot.0) spot_cmp_total spot_cmp_exact entries (dir, name) id in
        omega (arith, before, added, dropped, gone, set);
    counted = let length = with_length (Some old) is in let before = indexed.counted in omega (arith, length, before, one_more);
  }

-- ---- an entry that goes, if it is there
module _ (entries : FinMap spot_cmp Oid) (dir : Oid) (name : Name) (holders : Holders) (total : ℕ) (indexed : AreIndexed entries holders total) where
  -- one of the object's names is in the directory
  pub name_there : (w : Option Oid) → table.get entries (dir, name) ≡ w → IfSome w (λ (id : Oid). IsIn dir (holders_at holders id))
  name_there None is = tt
  name_there (Some id) is = name_is_in entries dir name id is holders total indexed

  -- where it is there, there is an entry
  pub some_entry : (w : Option Oid) → table.get entries (dir, name) ≡ w → IsSome w → 1 ≤ total
  some_entry None is h = absurd (true≢false (sym h))
  some_entry (Some id) is h = let less = one_less entries dir name id is in let counted = indexed.counted in omega (arith, less, counted)

  -- with what is left of the object's names, each object's are indexed
  pub indexed-without : (w : Option Oid) → table.get entries (dir, name) ≡ w → (less : Holders) → HasLess holders w dir less → AreIndexed (table.remove entries (dir, name)) less (cond (is_some w) (total - 1) total)
  indexed-without None is less has =
      subst (λ (m : FinMap spot_cmp Oid). AreIndexed m less total) (sym (remove-absent spot_cmp_total spot_cmp_exact entries (dir, name) is))
      (subst (λ (h : Holders). AreIndexed entries h total) (sym has) indexed)
  indexed-without (Some id) is less has = indexed-remove entries dir name id is holders less total indexed has

-- the index of the names of objects, by what it says of each one
pub indexed_same : (entries : FinMap spot_cmp Oid) (holders after : Holders) (total : ℕ) → ((q : Oid) → holders_at after q ≡ holders_at holders q) → AreIndexed entries holders total → AreIndexed entries after total
indexed_same entries holders after total same indexed = record {
  holders_are = λ q test. ap (names_where test) (same q) ∙ indexed.holders_are q test;
  counted = indexed.counted;
}

-- ---- no entry
pub nothing_indexed : AreIndexed table.empty table.empty 0
nothing_indexed = record {
  holders_are = λ q test. ap (λ (r : List (List Holder)). names_where test (get_or r q.n [])) (get_or-absent table.empty q.label [] (get-empty label_cmp q.label)) ∙ sym (count_entries-empty spot_cmp (λ (spot : Spot) (at : Oid). same_oid at q && test spot.0));
  counted = sym (len-empty spot_cmp Oid);
}

-- ---- which directories hold an object
any_further : (b : Bool) (k n m : ℕ) → m ≡ cond b (k + 1) 0 + n → (b || not (n == 0)) ≡ not (m == 0)
any_further true k n m e = let more : (m == 0) ≡ false = grind (arith, nat_tests) in ap not (sym more)
any_further false k n m e = let same : n ≡ m = omega arith in ap (λ j. not (j == 0)) same

module _ (p : Oid → Bool) where
  -- all pass where no name stands in one that does not
  all_pass : (dirs : List Holder) → list_all (λ (h : Holder). p (dir_of h)) dirs ≡ not (not (names_where (λ (d : Oid). not (p d)) dirs == 0))
  all_pass [] = refl
  all_pass (h ∷ hs) =
      let fails : Oid → Bool = λ (d : Oid). not (p d) in
      ap (λ b. p (dir_of h) && b) (all_pass hs)
      ∙ both (p (dir_of h)) (not (names_where fails hs == 0))
      ∙ ap not (any_further (fails (dir_of h)) h.further (names_where fails hs) (names_where fails (h ∷ hs)) (names-cons fails h hs))
    where
      both : (a b : Bool) → (a && not b) ≡ not (not a || b)
      both true b = refl
      both false b = refl

-- all pass where no entry leads to the object from one that does not
pub all_hold : (entries : FinMap spot_cmp Oid) (id : Oid) (dirs : List Holder) → AreHolders entries id dirs → (p : Oid → Bool) → list_all (λ (h : Holder). p (dir_of h)) dirs ≡ not (any_entry (λ (spot : Spot) (at : Oid). same_oid at id && not (p spot.0)) entries)
all_hold entries id dirs are p =
    all_pass p dirs ∙ ap (λ n. not (not (n == 0))) (are (λ (d : Oid). not (p d)))
    ∙ ap not (sym (any_entry-count (λ (spot : Spot) (at : Oid). same_oid at id && not (p spot.0)) entries))

-- ---- a name that is added and taken again
module _ (entries : FinMap spot_cmp Oid) (holders more after : Holders) (id dir : Oid) (added : HasMore holders id dir more) where
  -- it is in the directory
  pub added_is_in : IsIn dir (holders_at more id)
  added_is_in =
      let one = added id (λ (d : Oid). same_oid d dir) in
      let here : ◌≡◌ {A = ℕ} (cond (same_oid id id && same_oid dir dir) 1 0) 1 = ap (λ b. cond {A = ℕ} (b && same_oid dir dir) 1 0) (itself id) ∙ ap (λ b. cond {A = ℕ} b 1 0) (itself dir) in
      omega (arith, one, here)

  -- the names are indexed as before
  pub indexed_again : HasMore after id dir more → (total : ℕ) → AreIndexed entries holders total → AreIndexed entries after total
  indexed_again taken total indexed = record {
    holders_are = λ q test. let one = added q test in let again = taken q test in let before = indexed.holders_are q test in omega (arith, one, again, before);
    counted = indexed.counted;
  }
