-- Objects by their paths and the counts at labels, after one more object or process.
use Rattle.std.proofs.Common.{◌≡◌, ℕ, ◌+◌, ◌<◌, ◌≤◌, ◌⊎◌, inl, inr, Bool, true, false, cond, List, [], ◌∷◌, ◌++◌, length, map, get_or, take, zero, suc, refl, sym, ◌∙◌, ap, subst, arith, FoldHasher, Option, Some, None}
use Rattle.std.specs.Prelude.{unwrap_or, count_by, slice_get}
use Rattle.std.specs.Option.{option_map}
use Rattle.std.specs.Ordering.{is_eq}
use Rattle.std.specs.FinMap as finite
use Rattle.std.specs.Hash.FoldHasher as folding
use Rattle.std.specs.List.{fold}
use Rattle.std.specs.FinMap.{FinMap, get-empty, get-insert}
use Rattle.std.specs.declared.cmp.Ordering.{Ordering}
use Rattle.std.specs.declared.cmp.Ordering.TheVariants.{Less, Equal, Greater}
use Rattle.std.specs.Cmp.{tied_itself}
use Rattle.std.proofs.lemmas.Bool.{and_from, and_parts, cases_eq}
use Rattle.std.proofs.lemmas.List.{map-append, take-append-le}
use Rattle.std.proofs.lemmas.Option.{slice_get_read}
use Rattle.std.proofs.Math.Seq.{take-append_seam}
use Rattle.std.proofs.lemmas.List.Sums.{sum_by-append}
use Rattle.fs_path.specs.Name.{Name}
use Rattle.lab_lattice.specs.Label.{Label, dominates, label_cmp}
use Rattle.lab_lattice.proofs.Labels.{dominates_itself, dominates_both, label_cmp_total, label_cmp_exact}
use Rattle.kern_model.specs.declared.world.WorldObject.{WorldObject}
use Rattle.kern_model.specs.declared.world.WorldProc.{WorldProc}
use Rattle.kern_model.specs.Rules.{same_label}
use Rattle.kern_model.specs.World.{same_names, parent_names, object_with_path, objects_at, procs_at}
use Rattle.world_text.specs.Placing.{directory_of, is_directory, is_above}
use Rattle.world_text.specs.Indexed.{HasObject, HasProcess, IsEmpty, IsIndexed, path_entry_of, hasher_of, path_hash, count_in, is_dir_entry, is_above_entry}
use Rattle.world_text.specs.declared.builder.Kept.{Kept}
use Rattle.world_text.specs.Chains.{IsLast}
use Rattle.kern_model.proofs.WorldLemmas.{names_same}

-- ---- counts

-- labels are the same exactly where they compare equal
same_by_cmp : (a b : Label) → is_eq (label_cmp b a) ≡ same_label a b
same_by_cmp a b = by_test (same_label a b) refl (label_cmp b a) refl
  where
    itself : same_label a a ≡ true
    itself = and_from (dominates a a) (dominates a a) (dominates_itself a) (dominates_itself a)

    by_test : (v : Bool) → same_label a b ≡ v → (o : Ordering) → label_cmp b a ≡ o → is_eq (label_cmp b a) ≡ same_label a b
    by_test true f o e =
        let parts = and_parts (dominates a b) (dominates b a) f in
        ap (λ (x : Label). is_eq (label_cmp x a)) (sym (dominates_both a b parts.0 parts.1)) ∙ ap is_eq (tied_itself label_cmp_total a) ∙ sym f
    by_test false f Less e = ap is_eq e ∙ sym f
    by_test false f Greater e = ap is_eq e ∙ sym f
    by_test false f Equal e = ap is_eq e ∙ sym itself ∙ ap (same_label a) (sym (label_cmp_exact b a e))

-- one more is counted at a label
pub counted : (m n : FinMap label_cmp ℕ) (k : Label) (v : ℕ) → n ≡ finite.insert m k v → v ≡ count_in m k + 1 → (l : Label) → count_in n l ≡ count_in m l + cond (same_label k l) 1 0
counted m n k v e is l =
    ap (λ (n : FinMap label_cmp ℕ). count_in n l) e ∙ ap (λ (o : Option ℕ). unwrap_or o 0) (get-insert label_cmp_total m k v l)
    ∙ ap (λ t. unwrap_or (cond t (Some v) (finite.get m l)) 0) (same_by_cmp k l) ∙ by_test (same_label k l) refl
  where
    by_test : (t : Bool) → same_label k l ≡ t → unwrap_or (cond (same_label k l) (Some v) (finite.get m l)) 0 ≡ count_in m l + cond (same_label k l) 1 0
    by_test true f =
        let parts = and_parts (dominates k l) (dominates l k) f in
        ap (λ t. unwrap_or (cond t (Some v) (finite.get m l)) 0) f ∙ is ∙ ap (λ (x : Label). count_in m x + 1) (dominates_both k l parts.0 parts.1) ∙ sym (ap (λ t. count_in m l + cond t 1 0) f)
    by_test false f =
        let zero : count_in m l ≡ count_in m l + 0 = omega arith in
        ap (λ t. unwrap_or (cond t (Some v) (finite.get m l)) 0) f ∙ zero ∙ sym (ap (λ t. count_in m l + cond t 1 0) f)

pub count_more : {X : Type 0} (p : X → Bool) (xs : List X) (x : X) → count_by p (xs ++ x ∷ []) ≡ count_by p xs + cond (p x) 1 0
count_more p xs x = let both = sum_by-append (λ x. cond (p x) 1 0) xs (x ∷ []) in omega arith

-- one more object is counted at its label
pub objects_counted : (old new : FinMap label_cmp ℕ) (objects more : List WorldObject) (o : WorldObject)
    → ((l : Label) → count_in new l ≡ count_in old l + cond (same_label o.label l) 1 0) → more ≡ objects ++ o ∷ []
    → ((l : Label) → count_in old l ≡ objects_at l objects) → (l : Label) → count_in new l ≡ objects_at l more
objects_counted old new objects more o updates is before l =
    updates l ∙ ap (λ k. k + cond (same_label o.label l) 1 0) (before l) ∙ sym (ap (objects_at l) is ∙ count_more (λ (x : WorldObject). same_label x.label l) objects o)

-- one more process is counted at its label
pub procs_counted : (old new : FinMap label_cmp ℕ) (procs more : List WorldProc) (w : WorldProc)
    → ((l : Label) → count_in new l ≡ count_in old l + cond (same_label w.label l) 1 0) → more ≡ procs ++ w ∷ []
    → ((l : Label) → count_in old l ≡ procs_at l procs) → (l : Label) → count_in new l ≡ procs_at l more
procs_counted old new procs more w updates is before l =
    updates l ∙ ap (λ k. k + cond (same_label w.label l) 1 0) (before l) ∙ sym (ap (procs_at l) is ∙ count_more (λ (x : WorldProc). same_label x.label l) procs w)

-- ---- hashes

hasher_on : (hasher : FoldHasher) (names : List Name) (name : Name) → fold folding.write hasher (names ++ name ∷ []) ≡ folding.write (fold folding.write hasher names) name
hasher_on hasher [] name = refl
hasher_on hasher (n ∷ ns) name = hasher_on (folding.write hasher n) ns name

-- the hasher after the names of the directory goes on with the last one
pub hasher_more : (names above : List Name) (name : Name) → names ≡ above ++ name ∷ [] → folding.write (hasher_of above) name ≡ hasher_of names
unfolding hasher_of
hasher_more names above name is = sym (ap (fold folding.write folding.initial) is ∙ hasher_on folding.initial above name)

-- ---- objects by their paths

-- the hash of an object's path
abbrev pub hash_of : WorldObject → ℕ
hash_of o = path_hash o.path.names

-- where no object from a on has a path of these names, the first c have the one that the first a have
none_between : (os : List WorldObject) (q : List Name) (a c : ℕ) → a ≤ c → ((k : ℕ) (o : WorldObject) → a ≤ k → k < c → slice_get os k ≡ Some o → same_names o.path.names q ≡ true → ⊥)
    → object_with_path (take c os) q ≡ object_with_path (take a os) q
none_between os q zero zero h unlike = refl
none_between os q (suc a) zero h unlike = absurd (omega arith)
none_between [] q zero (suc c) h unlike = refl
none_between [] q (suc a) (suc c) h unlike = refl
none_between (o ∷ os) q zero (suc c) h unlike =
    by_test (same_names o.path.names q) refl (none_between os q zero c (omega arith) (λ k p from below at same. unlike (suc k) p (omega arith) (omega arith) at same))
  where
    by_test : (v : Bool) → same_names o.path.names q ≡ v → object_with_path (take c os) q ≡ None → cond (same_names o.path.names q) (Some o) (object_with_path (take c os) q) ≡ None
    by_test true e rest = absurd (unlike 0 o (omega arith) (omega arith) refl e)
    by_test false e rest = ap (λ t. cond t (Some o) (object_with_path (take c os) q)) e ∙ rest
none_between (o ∷ os) q (suc a) (suc c) h unlike =
    ap (λ w. cond (same_names o.path.names q) (Some o) w) (none_between os q a c (omega arith) (λ k p from below at same. unlike (suc k) p (omega arith) (omega arith) at same))

hash_read : (os : List WorldObject) (k : ℕ) (o : WorldObject) → slice_get os k ≡ Some o → get_or (map hash_of os) k 0 ≡ path_hash o.path.names
hash_read [] k o at = absurd (cc)
hash_read (p ∷ ps) zero o at = let same : p ≡ o = cc in ap hash_of same
hash_read (p ∷ ps) (suc k) o at = hash_read ps k o at

-- no path with this hash was given
pub unseen : (os : List WorldObject) (q : List Name) (hashes : List ℕ) (hash n : ℕ) → hashes ≡ map hash_of os → hash ≡ path_hash q → IsLast (λ h. h ≡ hash) hashes n 0 → object_with_path (take n os) q ≡ None
unseen os q hashes hash n are is last =
    none_between os q 0 n (omega arith) (λ k o from below at same. last.none k from below (ap (λ hs. get_or hs k 0) are ∙ hash_read os k o at ∙ ap path_hash (names_same o.path.names q same) ∙ sym is))

-- the last path with this hash is another
pub passed : (os : List WorldObject) (q : List Name) (hashes : List ℕ) (hash n place : ℕ) (o : WorldObject) → hashes ≡ map hash_of os → hash ≡ path_hash q → IsLast (λ h. h ≡ hash) hashes n (place + 1)
    → slice_get os place ≡ Some o → same_names o.path.names q ≡ false → object_with_path (take n os) q ≡ object_with_path (take place os) q
passed os q hashes hash n place o are is last at other =
    none_between os q place n (let w = last.within in omega arith) (λ k p from below there same. by_place k p from below there same (cases_eq k place))
  where
    by_place : (k : ℕ) (p : WorldObject) → place ≤ k → k < n → slice_get os k ≡ Some p → same_names p.path.names q ≡ true → (k ≡ place) ⊎ (k ≡ place → ⊥) → ⊥
    by_place k p from below there same (inl e) =
        let here : o ≡ p = (let both = sym at ∙ ap (slice_get os) (sym e) ∙ there in cc) in
        let fails : false ≡ true = sym other ∙ ap (λ (x : WorldObject). same_names x.path.names q) here ∙ same in
        cc
    by_place k p from below there same (inr apart) =
        last.none k (omega arith) below (ap (λ hs. get_or hs k 0) are ∙ hash_read os k p there ∙ ap path_hash (names_same p.path.names q same) ∙ sym is)

-- an object is the one with its path where none before it has that
found_at : (os : List WorldObject) (q : List Name) (i : ℕ) (o : WorldObject) → slice_get os i ≡ Some o → same_names o.path.names q ≡ true → object_with_path (take i os) q ≡ None → object_with_path os q ≡ Some o
found_at [] q i o at same none = absurd (cc)
found_at (p ∷ ps) q zero o at same none =
    let here : p ≡ o = cc in
    ap (λ t. cond t (Some p) (object_with_path ps q)) (ap (λ (x : WorldObject). same_names x.path.names q) here ∙ same) ∙ at
found_at (p ∷ ps) q (suc i) o at same none = by_test (same_names p.path.names q) refl none (found_at ps q i o at same)
  where
    by_test : (v : Bool) → same_names p.path.names q ≡ v → cond (same_names p.path.names q) (Some p) (object_with_path (take i ps) q) ≡ None
        → (object_with_path (take i ps) q ≡ None → object_with_path ps q ≡ Some o) → cond (same_names p.path.names q) (Some p) (object_with_path ps q) ≡ Some o
    by_test true e none rest = let fails : Some p ≡ None = ap (λ t. cond t (Some p) (object_with_path (take i ps) q)) (sym e) ∙ none in absurd (cc)
    by_test false e none rest = ap (λ t. cond t (Some p) (object_with_path ps q)) e ∙ rest (ap (λ t. cond t (Some p) (object_with_path (take i ps) q)) (sym e) ∙ none)

pub at_place : (xs os : List WorldObject) (i : ℕ) (o : WorldObject) → xs ≡ os → i < length xs → o ≡ get_or xs i o → slice_get os i ≡ Some o
at_place xs os i o items inside read = ap (λ (ys : List WorldObject). slice_get ys i) (sym items) ∙ slice_get_read xs (length xs) i o refl inside read

-- the object at a place is the one with its path
pub found_here : (os xs ws : List WorldObject) (q : List Name) (i : ℕ) (o : WorldObject) → xs ≡ os → os ≡ ws → ((i : ℕ) (o : WorldObject) → slice_get os i ≡ Some o → object_with_path (take i os) o.path.names ≡ None)
    → i < length xs → o ≡ get_or xs i o → same_names o.path.names q ≡ true → slice_get ws i ≡ object_with_path ws q
found_here os xs ws q i o items view apart inside read same =
    let at = at_place xs os i o items inside read in
    let found : slice_get os i ≡ object_with_path os q = at ∙ sym (found_at os q i o at same (ap (object_with_path (take i os)) (sym (names_same o.path.names q same)) ∙ apart i o at)) in
    subst (λ (ys : List WorldObject). slice_get ys i ≡ object_with_path ys q) view found

-- an item of a list with one more is one of the list or that one
at_more : (os : List WorldObject) (o : WorldObject) (i : ℕ) (p : WorldObject) → slice_get (os ++ o ∷ []) i ≡ Some p → (((i < length os) × (slice_get os i ≡ Some p)) ⊎ ((i ≡ length os) × (o ≡ p)))
at_more [] o zero p at = inr (refl, cc)
at_more [] o (suc i) p at = absurd (cc)
at_more (x ∷ xs) o zero p at = inl (omega arith, at)
at_more (x ∷ xs) o (suc i) p at = elim (at_more xs o i p at) [ inl h ↦ inl ((let less = h.0 in omega arith), h.1) | inr h ↦ inr (ap suc h.0, h.1) ]

-- with one more object whose path was not given, each has a path that was not given before it
pub apart_more : (os more : List WorldObject) (o : WorldObject) → more ≡ os ++ o ∷ [] → object_with_path os o.path.names ≡ None
    → ((i : ℕ) (p : WorldObject) → slice_get os i ≡ Some p → object_with_path (take i os) p.path.names ≡ None)
    → (i : ℕ) (p : WorldObject) → slice_get more i ≡ Some p → object_with_path (take i more) p.path.names ≡ None
apart_more os more o grown free apart i p at =
    ap (λ (xs : List WorldObject). object_with_path (take i xs) p.path.names) grown
    ∙ by_place (at_more os o i p (ap (λ (xs : List WorldObject). slice_get xs i) (sym grown) ∙ at))
  where
    by_place : (((i < length os) × (slice_get os i ≡ Some p)) ⊎ ((i ≡ length os) × (o ≡ p))) → object_with_path (take i (os ++ o ∷ [])) p.path.names ≡ None
    by_place (inl h) = ap (λ (xs : List WorldObject). object_with_path xs p.path.names) (take-append-le i os (o ∷ []) (let less = h.0 in omega arith)) ∙ apart i p h.1
    by_place (inr h) =
        ap (λ (xs : List WorldObject). object_with_path xs p.path.names) (ap (λ n. take n (os ++ o ∷ [])) h.0 ∙ take-append_seam os (o ∷ []))
        ∙ ap (λ (x : WorldObject). object_with_path os x.path.names) (sym h.1) ∙ free

-- one more hash is that of one more object
pub hashes_more : (os more : List WorldObject) (o : WorldObject) (old new : List ℕ) (hash : ℕ) → more ≡ os ++ o ∷ [] → new ≡ old ++ hash ∷ [] → hash ≡ path_hash o.path.names → old ≡ map hash_of os → new ≡ map hash_of more
hashes_more os more o old new hash grown longer is are =
    longer ∙ (λ i. are i ++ is i ∷ []) ∙ sym (ap (map hash_of) grown ∙ map-append hash_of os (o ∷ []))

-- ---- what is kept

pub empty_indexed : (k : Kept) → IsEmpty k → IsIndexed k
empty_indexed k none = record {
  hashes_are = none.no_hashes ∙ sym (ap (map hash_of) none.no_objects);
  apart = λ i o at. let fails : None ≡ Some o = sym (ap (λ (os : List WorldObject). slice_get os i) none.no_objects) ∙ at in absurd (cc);
  objects_are = λ l. ap (λ (m : FinMap label_cmp ℕ). count_in m l) none.no_object_counts ∙ nothing l ∙ sym (ap (objects_at l) none.no_objects);
  procs_are = λ l. ap (λ (m : FinMap label_cmp ℕ). count_in m l) none.no_proc_counts ∙ nothing l ∙ sym (ap (procs_at l) none.no_procs);
}
  where
    nothing : (l : Label) → count_in finite.empty l ≡ 0
    nothing l = ap (λ (o : Option ℕ). unwrap_or o 0) (get-empty {X = ℕ} label_cmp l)

pub object_indexed : (old new : Kept) (o : WorldObject) (hash : ℕ) → IsIndexed old → HasObject old new o hash → hash ≡ path_hash o.path.names → object_with_path old.objects o.path.names ≡ None → IsIndexed new
object_indexed old new o hash before put is free = record {
  hashes_are = hashes_more old.objects new.objects o old.chains new.chains hash put.objects put.hashes is before.hashes_are;
  apart = apart_more old.objects new.objects o put.objects free before.apart;
  objects_are = objects_counted old.object_counts new.object_counts old.objects new.objects o put.object_counts put.objects before.objects_are;
  procs_are = λ l. ap (λ (m : FinMap label_cmp ℕ). count_in m l) put.proc_counts ∙ before.procs_are l ∙ sym (ap (procs_at l) put.procs);
}

pub process_indexed : (old new : Kept) (p : WorldProc) → IsIndexed old → HasProcess old new p → IsIndexed new
process_indexed old new p before put = record {
  hashes_are = put.hashes ∙ before.hashes_are ∙ sym (ap (map hash_of) put.objects);
  apart = subst (λ (os : List WorldObject). (i : ℕ) (o : WorldObject) → slice_get os i ≡ Some o → object_with_path (take i os) o.path.names ≡ None) (sym put.objects) before.apart;
  objects_are = λ l. ap (λ (m : FinMap label_cmp ℕ). count_in m l) put.object_counts ∙ before.objects_are l ∙ sym (ap (objects_at l) put.objects);
  procs_are = procs_counted old.proc_counts new.proc_counts old.procs new.procs p put.proc_counts put.procs before.procs_are;
}

-- ---- directories

parent_before : (above : List Name) (name : Name) → parent_names (above ++ name ∷ []) ≡ above
parent_before [] name = refl
parent_before (n ∷ []) name = refl
parent_before (n ∷ m ∷ ns) name = ap (λ ps. n ∷ ps) (parent_before (m ∷ ns) name)

-- the directory of names is what was given with all but the last
pub directory_stands : (os : List WorldObject) (names above : List Name) (name : Name) → names ≡ above ++ name ∷ [] → object_with_path os above ≡ directory_of os names
directory_stands os names above name is = sym (ap (directory_of os) is ∙ by_above above)
  where
    by_above : (above : List Name) → directory_of os (above ++ name ∷ []) ≡ object_with_path os above
    by_above [] = refl
    by_above (n ∷ ns) = ap (object_with_path os) (parent_before (n ∷ ns) name)

-- the entry of an object has its kind
pub stands_as_dir : (o : Option WorldObject) → is_dir_entry (option_map path_entry_of o) ≡ is_directory o
stands_as_dir None = refl
stands_as_dir (Some o) = refl

pub stands_above : (l : Label) (o : Option WorldObject) → is_above_entry l (option_map path_entry_of o) ≡ is_above l o
stands_above l None = refl
stands_above l (Some o) = refl
