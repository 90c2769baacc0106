-- The entries of one directory: what a look-up finds, and what an edit makes of the map.
use Rattle.std.proofs.Common.{◌≡◌, ◌+◌, ◌<◌, ◌≤◌, ℕ, List, [], ◌∷◌, length, get_or, set, Some, None, ap, sym, ◌∙◌, arith}
use Rattle.std.specs.Prelude.{Option, map, not, refl, slice_get}
use Rattle.std.specs.declared.cmp.Ordering.TheVariants.{Less, Equal, Greater}
use Rattle.std.specs.Ordering.{eq_by_cmp}
use Rattle.std.specs.List.{insert, remove}
use Rattle.std.specs.Option.{option_map}
use Rattle.std.specs.FinMap as map
use Rattle.std.specs.FinMap.{IsAntisymmetric, nat_cmp-IsAntisymmetric, slice_cmp-IsAntisymmetric, empty_of_len, entries-from_sorted, get-from_sorted, len-entries, put}
use Rattle.std.specs.FinMap.Entries.{where_key}
use Rattle.std.proofs.lemmas.Cmp.{nat_list_cmp_total}
use Rattle.std.proofs.lemmas.List.{length-map}
use Rattle.std.proofs.lemmas.Option.{slice_get-map}
use Rattle.fs_path.specs.Name.{Name}
use Rattle.kern_model.specs.declared.numbers.Oid.{Oid}
use Rattle.fs_dirs.specs.Directory.{AreSorted, IsAt, IsBetween, IsGap, directory_of, name_cmp, pairs_of}
use Rattle.fs_dirs.specs.declared.slot.Slot.{Slot}
use Rattle.fs_dirs.proofs.Sorted.{holds_at, less_upto, greater_from, find_at, find_none, put_in, put_over, taken_out, sorted_put, map_put, sorted_without, map_without}

abbrev pair_of : Slot → Name × Oid
pair_of e = (e.entry.value.name, e.entry.value.id)

pub names_exact : IsAntisymmetric name_cmp
names_exact = slice_cmp-IsAntisymmetric nat_cmp-IsAntisymmetric

-- of no entry
pub none : directory_of [] ≡ map.empty
none = empty_of_len (directory_of []) (len-entries (directory_of []) ∙ ap length (entries-from_sorted name_cmp [] tt))

first_names : (es : List Slot) → map (λ (p : Name × Oid). p.0) (pairs_of es) ≡ map (λ (e : Slot). e.entry.value.name) es
first_names [] = refl
first_names (e ∷ es) = ap (λ ns. e.entry.value.name ∷ ns) (first_names es)

objects : (es : List Slot) → map (λ (p : Name × Oid). p.1) (pairs_of es) ≡ map (λ (e : Slot). e.entry.value.id) es
objects [] = refl
objects (e ∷ es) = ap (λ ids. e.entry.value.id ∷ ids) (objects es)

-- the half that is left, where a name is between two places and another one stands in their middle
module _ (es : List Slot) (sorted : AreSorted es) (name : Name) (from to : ℕ) (between : IsBetween es name from to) (middle : ℕ) (least : from ≤ middle) (most : middle < to) (there : Slot) (is : there ≡ get_or es middle there) where
  pub between_after : name_cmp there.entry.value.name name ≡ Less → IsBetween es name (middle + 1) to
  between_after less =
      let within = between.within in
      record {
        ordered = omega arith;
        within = between.within;
        less = less_upto pair_of nat_list_cmp_total es name middle sorted (omega arith) (holds_at (λ (e : Slot). name_cmp e.entry.value.name name ≡ Less) es middle there (omega arith) (ap (λ (e : Slot). name_cmp e.entry.value.name name) (sym is) ∙ less));
        greater = between.greater;
      }

  pub between_before : name_cmp there.entry.value.name name ≡ Greater → IsBetween es name from middle
  between_before greater =
      let within = between.within in
      record {
        ordered = least;
        within = omega arith;
        less = between.less;
        greater = greater_from pair_of nat_list_cmp_total es name middle sorted (holds_at (λ (e : Slot). name_cmp e.entry.value.name name ≡ Greater) es middle there (omega arith) (ap (λ (e : Slot). name_cmp e.entry.value.name name) (sym is) ∙ greater));
      }

-- the name is that of the entry at a place
pub in_middle : (es : List Slot) (name : Name) (place : ℕ) → place < length es → (there : Slot) → there ≡ get_or es place there → name_cmp there.entry.value.name name ≡ Equal → IsAt es name place
in_middle es name place within there is same = record {
  within = within;
  same = holds_at (λ (e : Slot). name_cmp e.entry.value.name name ≡ Equal) es place there within (ap (λ (e : Slot). name_cmp e.entry.value.name name) (sym is) ∙ same);
}

module _ (es : List Slot) (sorted : AreSorted es) where
  pub how_many : map.len (directory_of es) ≡ length es
  how_many = len-entries (directory_of es) ∙ ap length (entries-from_sorted name_cmp (pairs_of es) sorted) ∙ length-map es pair_of

  pub all_names : map.keys (directory_of es) ≡ map (λ (e : Slot). e.entry.value.name) es
  all_names = ap (map (λ (p : Name × Oid). p.0)) (entries-from_sorted name_cmp (pairs_of es) sorted) ∙ first_names es

  all_objects : map.values (directory_of es) ≡ map (λ (e : Slot). e.entry.value.id) es
  all_objects = ap (map (λ (p : Name × Oid). p.1)) (entries-from_sorted name_cmp (pairs_of es) sorted) ∙ objects es

  -- the entry at a place leads to the object at that place
  pub object_there : (place : ℕ) (w : Option Slot) → w ≡ slice_get es place → option_map (λ (e : Slot). e.entry.value.id) w ≡ slice_get (map.values (directory_of es)) place
  object_there place w at =
      ap (option_map (λ (e : Slot). e.entry.value.id)) at ∙ sym (slice_get-map (λ (e : Slot). e.entry.value.id) es place)
      ∙ ap (λ ids. slice_get ids place) (sym all_objects)

  pub found : (name : Name) (place : ℕ) (e : Slot) → IsAt es name place → e ≡ get_or es place e → map.get (directory_of es) name ≡ Some e.entry.value.id
  found name place e at is = get-from_sorted name_cmp (pairs_of es) name sorted ∙ find_at pair_of nat_list_cmp_total es name place e sorted at.within at.same is

  pub absent : (name : Name) (place : ℕ) → IsGap es name place → map.get (directory_of es) name ≡ None
  absent name place gap = get-from_sorted name_cmp (pairs_of es) name sorted ∙ find_none pair_of nat_list_cmp_total es name place gap.less gap.greater

  module _ (e : Slot) (place : ℕ) (gap : IsGap es e.entry.value.name place) where
    added : pairs_of (insert es place e) ≡ put name_cmp e.entry.value.name e.entry.value.id (pairs_of es)
    added = put_in pair_of nat_list_cmp_total es place e gap.within gap.less gap.greater

    pub sorted_added : AreSorted (insert es place e)
    sorted_added = sorted_put nat_list_cmp_total (pairs_of es) _ e.entry.value.name e.entry.value.id sorted added

    pub map_added : directory_of (insert es place e) ≡ map.insert (directory_of es) e.entry.value.name e.entry.value.id
    map_added = map_put nat_list_cmp_total (pairs_of es) _ e.entry.value.name e.entry.value.id sorted added

  module _ (name : Name) (place : ℕ) (at : IsAt es name place) where
    -- another entry of the same name in its place
    module _ (e new : Slot) (is : e ≡ get_or es place e) (id : Oid) (same : pair_of new ≡ (e.entry.value.name, id)) where
      over : pairs_of (set es place new) ≡ put name_cmp name id (pairs_of es)
      over = put_over pair_of nat_list_cmp_total es name place new id sorted at.within at.same
          (holds_at (λ (x : Slot). pair_of new ≡ (x.entry.value.name, id)) es place e at.within (same ∙ ap (λ (x : Slot). (x.entry.value.name, id)) is))

      pub sorted_over : AreSorted (set es place new)
      sorted_over = sorted_put nat_list_cmp_total (pairs_of es) _ name id sorted over

      pub map_over : directory_of (set es place new) ≡ map.insert (directory_of es) name id
      map_over = map_put nat_list_cmp_total (pairs_of es) _ name id sorted over

    without : pairs_of (remove es place) ≡ where_key name_cmp (λ x. not (eq_by_cmp name_cmp name x)) (pairs_of es)
    without = taken_out pair_of nat_list_cmp_total es name place sorted at.within at.same

    pub sorted_removed : AreSorted (remove es place)
    sorted_removed = sorted_without nat_list_cmp_total (pairs_of es) _ name sorted without

    pub map_removed : directory_of (remove es place) ≡ map.remove (directory_of es) name
    map_removed = map_without nat_list_cmp_total names_exact (pairs_of es) _ name sorted without
