-- A tree stays one where objects change or are made, and where entries come and go.
use Rattle.std.specs.Prelude.{◌≡◌, ◌≤◌, ◌<◌, ◌&&◌, not, ◌+◌, ◌||◌, ℕ, suc, Bool, true, false, ◌⊎◌, List, [], ◌∷◌, Option, Some, None, cond, refl}
use Rattle.std.specs.Ordering.{eq_by_cmp}
use Rattle.std.specs.List.{AllByRecursion, find, list_any}
use Rattle.std.specs.Option.{option_map}
use Rattle.std.specs.FinMap as map
use Rattle.std.specs.FinMap.{FinMap, get-empty, get-insert}
use Rattle.std.proofs.Common.{ap, sym, ◌∙◌, subst, arith, inl, inr}
use Rattle.std.proofs.lemmas.Bool.{cases_lt}
use Rattle.fs_path.specs.Name.{Name}
use Rattle.lab_lattice.specs.Label.{Label, bottom, dominates, label_cmp}
use Rattle.lab_lattice.proofs.Labels.{label_cmp_total, label_cmp_exact}
use Rattle.kern_model.specs.declared.limits.TheConstants.{MAX_LINKS}
use Rattle.kern_model.specs.declared.numbers.Oid.{Oid}
use Rattle.kern_model.specs.declared.objects.Attr.{Attr}
use Rattle.kern_model.specs.declared.objects.Body.TheVariants as body
use Rattle.kern_model.specs.declared.objects.Object.{Object}
use Rattle.kern_model.specs.Entries.{holder, is_so_above, is_under_within}
use Rattle.kern_model.specs.Keys.{Spot, oid_cmp, spot_cmp, same_oid}
use Rattle.kern_model.specs.Kinds.{object_with}
use Rattle.kern_model.specs.Maps.{any_entry}
use Rattle.kern_model.specs.Rules.{is_above_holders}
use Rattle.kern_model.specs.State.{State, last_drawn, object_at, stub_object}
use Rattle.kern_model.specs.Valid.{IsDir}
use Rattle.kern_model.proofs.KeyLaws.{oid_cmp_total, oid_cmp_exact, spot_cmp_total, spot_cmp_exact}
use Rattle.kern_model.proofs.MapLemmas.{each-entries, each-insert, each-remove, get-insert_kept, get-insert_same, get_or-absent, get_or-found, get_or-same, never_some, same_key, some_same}
use Rattle.kern_model.proofs.Selections.{count_remove}
use Rattle.fs_nodes.specs.Nodes.{NodeTable, no_nodes, with_new, with_object, next_in}
use Rattle.fs_dirs.specs.Entries.{entries_alone, name_count}
use Rattle.fs_dirs.specs.Tree.{AreEntries, IsNoDir, MayBeAdded, TreeView, root_alone, state_of_tree}
use Rattle.fs_dirs.proofs.CountLemmas.{count_entries-empty, count_entries-insert}
use Rattle.fs_dirs.proofs.MoveLemmas.{no_more}

-- no number is drawn at first
pub none_drawn : (l : Label) → last_drawn map.empty l ≡ 0
none_drawn l = get_or-absent map.empty l 0 (get-empty label_cmp l)

-- the first object is the root
pub root_made : (attr : Attr) → with_new no_nodes bottom (object_with bottom attr body.Dir) ≡ root_alone attr
root_made attr = ap (λ (n : ℕ). record { objects = map.insert map.empty (record { label = bottom; n = n }) (object_with bottom attr body.Dir); numbers = map.insert map.empty bottom n }) (ap (λ n. n + 1) (none_drawn bottom))

-- ---- the objects
-- what is there after a change of one object
set_at : (m : FinMap oid_cmp Object) (id : Oid) (o : Object) (q : Oid) (x : Object) → map.get (map.insert m id o) q ≡ Some x → ((q ≡ id) × (x ≡ o)) ⊎ (map.get m q ≡ Some x)
set_at m id o q x e =
    elim (same_oid q id) as (λ b. same_oid q id ≡ b → cond b (Some o) (map.get m q) ≡ Some x → ((q ≡ id) × (x ≡ o)) ⊎ (map.get m q ≡ Some x)) [
      | true ↦ λ t f. inl (same_key oid_cmp_exact q id t, sym (some_same o x f))
      | false ↦ λ _ f. inr f
    ] refl (sym (get-insert oid_cmp_total m id o q) ∙ e)

-- what stays where another object is set
set_other : (m : FinMap oid_cmp Object) (id : Oid) (o : Object) (q : Oid) (x : Object) → map.get m q ≡ Some x → (map.get (map.insert m id o) q ≡ Some x) ⊎ ((q ≡ id) × (map.get (map.insert m id o) q ≡ Some o))
set_other m id o q x e =
    elim (same_oid q id) as (λ b. same_oid q id ≡ b → (map.get (map.insert m id o) q ≡ Some x) ⊎ ((q ≡ id) × (map.get (map.insert m id o) q ≡ Some o))) [
      | true ↦ λ t. inr (same_key oid_cmp_exact q id t, get-insert oid_cmp_total m id o q ∙ ap (λ b. cond b (Some o) (map.get m q)) t)
      | false ↦ λ f. inl (get-insert oid_cmp_total m id o q ∙ ap (λ b. cond b (Some o) (map.get m q)) f ∙ e)
    ] refl

-- an object is changed, but not its kind
module _ (objects : FinMap oid_cmp Object) (id : Oid) (old o : Object) (is : map.get objects id ≡ Some old) (same : o.kind ≡ old.kind) where
  still_dir : (q : Oid) → IsDir objects q → IsDir (map.insert objects id o) q
  still_dir q d = elim (set_other objects id o q d.object d.is) [
    | inl e ↦ record { object = d.object; is = e; dir = d.dir }
    | inr e ↦ record { object = o; is = e.1; dir = same ∙ ap (λ (x : Object). x.kind) (some_same old d.object (sym is ∙ ap (map.get objects) (sym e.0) ∙ d.is)) ∙ d.dir }
  ]

  still_no_dir : (q : Oid) → IsNoDir objects q → IsNoDir (map.insert objects id o) q
  still_no_dir q d = elim (set_other objects id o q d.object d.is) [
    | inl e ↦ record { object = d.object; is = e; no_dir = d.no_dir }
    | inr e ↦ record { object = o; is = e.1; no_dir = λ k. d.no_dir (ap (λ (x : Object). x.kind) (some_same d.object old (sym d.is ∙ ap (map.get objects) e.0 ∙ is)) ∙ sym same ∙ k) }
  ]

pub tree_with_object : (table : NodeTable) (t : FinMap spot_cmp Oid) → AreEntries table t → (id : Oid) (old o : Object) → map.get table.objects id ≡ Some old → o.kind ≡ old.kind → AreEntries (with_object table id o) t
tree_with_object table t tree id old o is same = record {
  drawn_already = λ q x e. elim (set_at table.objects id o q x e) [
    | inl f ↦ tree.drawn_already q old (ap (map.get table.objects) f.0 ∙ is)
    | inr f ↦ tree.drawn_already q x f
  ];
  dirs = λ spot at e. still_dir table.objects id old o is same spot.0 (tree.dirs spot at e);
  few = tree.few;
  single = λ q several. still_no_dir table.objects id old o is same q (tree.single q several);
}

-- an object that is there becomes another one, of the same kind
pub tree_set : {table after : NodeTable} {t : FinMap spot_cmp Oid} (id : Oid) (becomes : Object → Object) (o : Object) → AreEntries table t → map.get table.objects id ≡ Some o → (becomes o).kind ≡ o.kind → after ≡ with_object table id (becomes o) → AreEntries after t
tree_set {table} {after} {t} id becomes o tree is same made = subst (λ (x : NodeTable). AreEntries x t) (sym made) (tree_with_object table t tree id o (becomes o) is same)

-- an object is made
module _ (table : NodeTable) (label : Label) (o : Object) (drawn_already : (id : Oid) (x : Object) → map.get table.objects id ≡ Some x → id.n ≤ last_drawn table.numbers id.label) where
  abbrev last : ℕ
  last = last_drawn table.numbers label

  new_absent : map.get table.objects (next_in table label) ≡ None
  new_absent = elim (map.get table.objects (next_in table label)) as (λ w. map.get table.objects (next_in table label) ≡ w → w ≡ None) [
    | None ↦ λ _. refl
    | Some x ↦ λ e. let low : last + 1 ≤ last = drawn_already (next_in table label) x e in absurd (omega (arith, low))
  ] refl

  drawn_after : (l : Label) → last_drawn (map.insert table.numbers label (last + 1)) l ≡ cond (eq_by_cmp label_cmp l label) (last + 1) (last_drawn table.numbers l)
  drawn_after l = elim (eq_by_cmp label_cmp l label) as (λ b. eq_by_cmp label_cmp l label ≡ b → last_drawn (map.insert table.numbers label (last + 1)) l ≡ cond b (last + 1) (last_drawn table.numbers l)) [
    | true ↦ λ t. get_or-found (map.insert table.numbers label (last + 1)) l 0 (last + 1) (get-insert label_cmp_total table.numbers label (last + 1) l ∙ ap (λ b. cond b (Some (last + 1)) (map.get table.numbers l)) t)
    | false ↦ λ f. get_or-same (map.insert table.numbers label (last + 1)) table.numbers l 0 (get-insert label_cmp_total table.numbers label (last + 1) l ∙ ap (λ b. cond b (Some (last + 1)) (map.get table.numbers l)) f)
  ] refl

  more_drawn : (l : Label) → last_drawn table.numbers l ≤ last_drawn (map.insert table.numbers label (last + 1)) l
  more_drawn l = subst (λ n. last_drawn table.numbers l ≤ n) (sym (drawn_after l)) (elim (eq_by_cmp label_cmp l label) as (λ b. eq_by_cmp label_cmp l label ≡ b → last_drawn table.numbers l ≤ cond b (last + 1) (last_drawn table.numbers l)) [
    | true ↦ λ t. let same : last_drawn table.numbers l ≡ last = ap (last_drawn table.numbers) (same_key label_cmp_exact l label t) in omega (arith, same)
    | false ↦ λ _. omega arith
  ] refl)

  drawn_new : last_drawn (map.insert table.numbers label (last + 1)) label ≡ last + 1
  drawn_new = get_or-found (map.insert table.numbers label (last + 1)) label 0 (last + 1) (get-insert_same label_cmp_total table.numbers label (last + 1))

  pub still_there : (q : Oid) (x : Object) → map.get table.objects q ≡ Some x → map.get (map.insert table.objects (next_in table label) o) q ≡ Some x
  still_there q x e = get-insert_kept oid_cmp_total oid_cmp_exact table.objects (next_in table label) o new_absent q x e

  made_drawn : (q : Oid) (x : Object) → map.get (map.insert table.objects (next_in table label) o) q ≡ Some x → q.n ≤ last_drawn (map.insert table.numbers label (last + 1)) q.label
  made_drawn q x e = elim (set_at table.objects (next_in table label) o q x e) [
    | inl f ↦ subst (λ (i : Oid). i.n ≤ last_drawn (map.insert table.numbers label (last + 1)) i.label) (sym f.0) (subst (λ n. last + 1 ≤ n) (sym drawn_new) (omega arith))
    | inr f ↦ let low = drawn_already q x f in let more = more_drawn q.label in omega (arith, low, more)
  ]

pub tree_with_new : (table : NodeTable) (t : FinMap spot_cmp Oid) → AreEntries table t → (label : Label) (o : Object) → AreEntries (with_new table label o) t
tree_with_new table t tree label o = record {
  drawn_already = made_drawn table label o tree.drawn_already;
  dirs = λ spot at e. let d = tree.dirs spot at e in record { object = d.object; is = still_there table label o tree.drawn_already spot.0 d.object d.is; dir = d.dir };
  few = tree.few;
  single = λ q several. let d = tree.single q several in record { object = d.object; is = still_there table label o tree.drawn_already q d.object d.is; no_dir = d.no_dir };
}

-- ---- the entries
-- where there is no entry, no object has a name
no_names : (t : FinMap spot_cmp Oid) → t ≡ map.empty → (q : Oid) → name_count t q ≡ 0
no_names t none q = ap (λ (m : FinMap spot_cmp Oid). name_count m q) none ∙ count_entries-empty spot_cmp (λ (spot : Spot) (at : Oid). same_oid at q)

-- the root alone has no entry
pub tree_alone : (attr : Attr) (t : FinMap spot_cmp Oid) → t ≡ map.empty → AreEntries (root_alone attr) t
tree_alone attr t none = record {
  drawn_already = subst (λ (table : NodeTable). (id : Oid) (o : Object) → map.get table.objects id ≡ Some o → id.n ≤ last_drawn table.numbers id.label) (root_made attr)
      (made_drawn no_nodes bottom (object_with bottom attr body.Dir) (λ id o e. absurd (never_some (map.get map.empty id) o (get-empty oid_cmp id) e)));
  dirs = λ spot at e. absurd (never_some (map.get t spot) at (ap (λ (m : FinMap spot_cmp Oid). map.get m spot) none ∙ get-empty spot_cmp spot) e);
  few = λ q. let empty = no_names t none q in omega (arith, empty);
  single = λ q several. let empty = no_names t none q in absurd (omega (arith, empty, several));
}

-- an object that gets one more name and has several from then on is no directory
several_no_dir : (v : TreeView) → AreEntries v.nodes.table v.entries → (dir : Oid) (name : Name) (id : Oid) → MayBeAdded (state_of_tree v) id → map.get v.entries (dir, name) ≡ None → (q : Oid) → 1 < name_count (map.insert v.entries (dir, name) id) q → IsNoDir v.nodes.table.objects q
several_no_dir v tree dir name id may absent q several =
    let counted = count_entries-insert (λ (spot : Spot) (at : Oid). same_oid at q) spot_cmp_total v.entries (dir, name) id absent in
    elim (same_oid id q) as (λ b. same_oid id q ≡ b → IsNoDir v.nodes.table.objects q) [
      | true ↦ λ t.
          let same : id ≡ q = same_key oid_cmp_exact id q t in
          let one : ◌≡◌ {A = ℕ} (cond (same_oid id q) 1 0) 1 = ap (λ b. cond {A = ℕ} b 1 0) t in
          subst (IsNoDir v.nodes.table.objects) same (record {
            object = may.object;
            is = may.is;
            no_dir = λ k. let none : name_count v.entries q ≡ 0 = ap (name_count v.entries) (sym same) ∙ may.one k in absurd (omega (arith, counted, one, none, several));
          })
      | false ↦ λ f.
          let none : ◌≡◌ {A = ℕ} (cond (same_oid id q) 1 0) 0 = ap (λ b. cond {A = ℕ} b 1 0) f in
          tree.single q (omega (arith, counted, none, several))
    ] refl

-- each object has few names, where one that had fewer gets one more
few_added : (entries : FinMap spot_cmp Oid) → ((q : Oid) → name_count entries q ≤ MAX_LINKS) → (spot : Spot) (id : Oid) → name_count entries id < MAX_LINKS → map.get entries spot ≡ None → (q : Oid) → name_count (map.insert entries spot id) q ≤ MAX_LINKS
few_added entries few spot id fewer absent q =
    let counted = count_entries-insert (λ (spot : Spot) (at : Oid). same_oid at q) spot_cmp_total entries spot id absent in
    let before = few q in
    elim (same_oid id q) as (λ b. same_oid id q ≡ b → name_count (map.insert entries spot id) q ≤ MAX_LINKS) [
      | true ↦ λ t.
          let one : ◌≡◌ {A = ℕ} (cond (same_oid id q) 1 0) 1 = ap (λ b. cond {A = ℕ} b 1 0) t in
          let same : name_count entries q ≡ name_count entries id = ap (name_count entries) (sym (same_key oid_cmp_exact id q t)) in
          omega (arith, counted, one, same, fewer)
      | false ↦ λ f.
          let none : ◌≡◌ {A = ℕ} (cond (same_oid id q) 1 0) 0 = ap (λ b. cond {A = ℕ} b 1 0) f in
          omega (arith, counted, none, before)
    ] refl

pub tree_added : (v : TreeView) → AreEntries v.nodes.table v.entries → (dir : Oid) (name : Name) (id : Oid) → IsDir v.nodes.table.objects dir → MayBeAdded (state_of_tree v) id → map.get v.entries (dir, name) ≡ None → AreEntries v.nodes.table (map.insert v.entries (dir, name) id)
tree_added v tree dir name id is_dir may absent = record {
  drawn_already = tree.drawn_already;
  dirs = each-insert spot_cmp_total spot_cmp_exact (λ (spot : Spot) (at : Oid). IsDir v.nodes.table.objects spot.0) v.entries tree.dirs (dir, name) id is_dir;
  few = few_added v.entries tree.few (dir, name) id may.few absent;
  single = several_no_dir v tree dir name id may absent;
}

-- an entry that goes, if it is there
pub tree_removed : (table : NodeTable) (t : FinMap spot_cmp Oid) → AreEntries table t → (spot : Spot) → AreEntries table (map.remove t spot)
tree_removed table t tree spot = record {
  drawn_already = tree.drawn_already;
  dirs = each-remove spot_cmp_total spot_cmp_exact (λ (spot : Spot) (at : Oid). IsDir table.objects spot.0) t tree.dirs spot;
  few = λ q. let fewer = count_remove spot_cmp_total spot_cmp_exact (λ (spot : Spot) (at : Oid). same_oid at q) spot t in let before = tree.few q in omega (arith, fewer, before);
  single = λ q several. let fewer = count_remove spot_cmp_total spot_cmp_exact (λ (spot : Spot) (at : Oid). same_oid at q) spot t in tree.single q (omega (arith, fewer, several));
}

-- an entry that moves
pub tree_moved : (table : NodeTable) (t : FinMap spot_cmp Oid) → AreEntries table t → (from to : Spot) (id : Oid) → IsDir table.objects to.0 → map.get t from ≡ Some id → AreEntries table (map.insert (map.remove t from) to id)
tree_moved table t tree from to id is_dir there = record {
  drawn_already = tree.drawn_already;
  dirs = each-insert spot_cmp_total spot_cmp_exact (λ (spot : Spot) (at : Oid). IsDir table.objects spot.0) (map.remove t from)
      (each-remove spot_cmp_total spot_cmp_exact (λ (spot : Spot) (at : Oid). IsDir table.objects spot.0) t tree.dirs from) to id is_dir;
  few = λ q. let fewer = no_more t from to id there q in let before = tree.few q in omega (arith, fewer, before);
  single = λ q several. let fewer = no_more t from to id there q in tree.single q (omega (arith, fewer, several));
}

-- ---- the directories above one
all_found : {X : Type 0} (P : X → Type 0) (p : X → Bool) (xs : List X) (x : X) → AllByRecursion P xs → find p xs ≡ Some x → P x
all_found P p [] x h e = absurd (never_some None x refl e)
all_found P p (y ∷ xs) x h e = elim (p y) as (λ b. cond b (Some y) (find p xs) ≡ Some x → P x) [
  | true ↦ λ f. subst P (some_same y x f) h.0
  | false ↦ λ f. all_found P p xs x h.1 f
] e

-- what holds an object is a directory
pub holder_dir : (table : NodeTable) (t : FinMap spot_cmp Oid) → AreEntries table t → (id above : Oid) → holder (entries_alone t) id ≡ Some above → IsDir table.objects above
unfolding holder
holder_dir table t tree id above h =
    let each = each-entries spot_cmp_total spot_cmp_exact (λ (spot : Spot) (at : Oid). IsDir table.objects spot.0) t tree.dirs in
    elim (find (λ (e : Spot × Oid). same_oid e.1 id) (map.entries t)) as (λ w. find (λ (e : Spot × Oid). same_oid e.1 id) (map.entries t) ≡ w → option_map (λ (e : Spot × Oid). e.0.0) w ≡ Some above → IsDir table.objects above) [
      | None ↦ λ _ f. absurd (never_some None above refl f)
      | Some e ↦ λ found f. subst (IsDir table.objects) (some_same e.0.0 above f) (all_found (λ (e : Spot × Oid). IsDir table.objects e.0.0) (λ (e : Spot × Oid). same_oid e.1 id) (map.entries t) e each found)
    ] refl h

module _ (s t : State) (id : Oid) (label : Label) where
  list_any_same : (p q : Spot × Oid → Bool) (es : List (Spot × Oid)) → AllByRecursion (λ (e : Spot × Oid). p e ≡ q e) es → list_any p es ≡ list_any q es
  list_any_same p q [] h = refl
  list_any_same p q (e ∷ es) h = ap (λ b. b || list_any p es) h.0 ∙ ap (λ b. q e || b) (list_any_same p q es h.1)

  -- where the same objects and entries are, and each entry stands in a directory that is there, the same labels are above
  pub above_same : (table : NodeTable) → AreEntries table t.entries → s.objects ≡ table.objects → t.objects ≡ table.objects → s.entries ≡ t.entries → is_above_holders t id label ≡ is_above_holders s id label
  unfolding is_above_holders any_entry
  above_same table tree objects objects' entries =
      let test : State → Spot × Oid → Bool = λ (x : State) (e : Spot × Oid). same_oid e.1 id && not (dominates label (object_at x e.0.0).label) in
      let each = each-entries spot_cmp_total spot_cmp_exact (λ (spot : Spot) (at : Oid). test t (spot, at) ≡ test s (spot, at)) t.entries (λ spot at is.
      let d = tree.dirs spot at is in
      let here : object_at t spot.0 ≡ d.object = get_or-found t.objects spot.0 (stub_object t.top) d.object (ap (λ (m : FinMap oid_cmp Object). map.get m spot.0) objects' ∙ d.is) in
      let there : object_at s spot.0 ≡ d.object = get_or-found s.objects spot.0 (stub_object s.top) d.object (ap (λ (m : FinMap oid_cmp Object). map.get m spot.0) objects ∙ d.is) in
      ap (λ (o : Object). same_oid at id && not (dominates label o.label)) (here ∙ sym there)) in
      ap not (list_any_same (test t) (test s) (map.entries t.entries) each ∙ ap (λ (m : FinMap spot_cmp Oid). list_any (test s) (map.entries m)) (sym entries))

-- a directory has one name at most
pub dir_single : (table : NodeTable) (t : FinMap spot_cmp Oid) → AreEntries table t → (id : Oid) → IsDir table.objects id → name_count t id ≤ 1
dir_single table t tree id d = elim (cases_lt 1 (name_count t id)) [
  | inl several ↦
      let other = tree.single id several in
      absurd (other.no_dir (ap (λ (o : Object). o.kind) (some_same other.object d.object (sym other.is ∙ d.is)) ∙ d.dir))
  | inr few ↦ few
]

module _ (s : State) (top : Oid) where
  -- a directory that is not the one lies under it where the directory that holds it does, and does not where none holds it
  pub under_holder : (n k : ℕ) (dir : Oid) (above : Option Oid) → n ≡ suc k → same_oid dir top ≡ false → holder s dir ≡ above → is_under_within s n dir top ≡ is_so_above (λ above. is_under_within s k above top) above
  under_holder n k dir above e f h =
      ap (λ m. is_under_within s m dir top) e ∙ ap (λ b. b || is_so_above (λ above. is_under_within s k above top) (holder s dir)) f ∙ ap (is_so_above (λ above. is_under_within s k above top)) h

-- ---- bytes that wait
-- an object is changed, but not its kind, and no number is drawn
pub tree_streamed : (table new : NodeTable) (t : FinMap spot_cmp Oid) → AreEntries table t → (id : Oid) (old o : Object) → map.get table.objects id ≡ Some old → o.kind ≡ old.kind → new.objects ≡ map.insert table.objects id o → new.numbers ≡ table.numbers → AreEntries new t
tree_streamed table new t tree id old o is same objects numbers =
    let made : new ≡ with_object table id o = λ i. record { objects = objects i; numbers = numbers i } in
    subst (λ (x : NodeTable). AreEntries x t) (sym made) (tree_with_object table t tree id old o is same)

pub tree_same : (table new : NodeTable) (t : FinMap spot_cmp Oid) → AreEntries table t → new.objects ≡ table.objects → new.numbers ≡ table.numbers → AreEntries new t
tree_same table new t tree objects numbers =
    let made : new ≡ table = λ i. record { objects = objects i; numbers = numbers i } in
    subst (λ (x : NodeTable). AreEntries x t) (sym made) tree
