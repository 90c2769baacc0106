-- The objects and the entries of a state make a tree.
use Rattle.std.specs.Prelude.{◌≡◌, ◌≤◌, ◌<◌, ◌⊎◌, false, Option, Some, None, refl}
use Rattle.std.specs.FinMap as map
use Rattle.std.proofs.Common.{ap, sym, ◌∙◌, arith, inl, inr}
use Rattle.kern_model.specs.declared.limits.TheConstants.{MAX_LINKS}
use Rattle.kern_model.specs.declared.numbers.Oid.{Oid}
use Rattle.kern_model.specs.declared.objects.Kind.{Kind}
use Rattle.kern_model.specs.declared.objects.Kind.TheVariants as kind
use Rattle.kern_model.specs.declared.objects.Object.{Object}
use Rattle.kern_model.specs.Keys.{Spot, same_oid}
use Rattle.kern_model.specs.Kinds.{is_dir}
use Rattle.kern_model.specs.State.{State}
use Rattle.kern_model.specs.Valid.{IsValid}
use Rattle.kern_model.proofs.KeyLaws.{oid_cmp_exact, spot_cmp_total, spot_cmp_exact}
use Rattle.kern_model.proofs.MapLemmas.{count_entries-one, never_some, same_key, some_same}
use Rattle.fs_dirs.specs.Entries.{name_count}
use Rattle.fs_dirs.specs.Tree.{AreEntries, IsNoDir}

dir_or_not : (k : Kind) → (k ≡ kind.Dir) ⊎ (is_dir k ≡ false)
dir_or_not kind.Dir = inl refl
dir_or_not _ = inr refl

module _ (s : State) (valid : IsValid s) where
  -- where the object, if there is one, is a directory, it has at most one name
  one_name : (id : Oid) → ((o : Object) → map.get s.objects id ≡ Some o → o.kind ≡ kind.Dir) → name_count s.entries id ≤ 1
  one_name id dir = count_entries-one spot_cmp_total spot_cmp_exact (λ (spot : Spot) (at : Oid). same_oid at id) s.entries (λ a b x y there too leads leads_too.
      let first : map.get s.entries a ≡ Some id = there ∙ ap Some (same_key oid_cmp_exact x id leads) in
      let second : map.get s.entries b ≡ Some id = too ∙ ap Some (same_key oid_cmp_exact y id leads_too) in
      let entry = valid.entries a id first in
      valid.one_entry a b id entry.object first second entry.object_is (dir entry.object entry.object_is))

  same_kind : (id : Oid) (o : Object) → map.get s.objects id ≡ Some o → o.kind ≡ kind.Dir → (x : Object) → map.get s.objects id ≡ Some x → x.kind ≡ kind.Dir
  same_kind id o is dir x at = ap (λ (y : Object). y.kind) (some_same x o (sym at ∙ is)) ∙ dir

  few_names : (id : Oid) (w : Option Object) → map.get s.objects id ≡ w → name_count s.entries id ≤ MAX_LINKS
  few_names id None is = let one = one_name id (λ o at. absurd (never_some (map.get s.objects id) o is at)) in omega (arith, one)
  few_names id (Some o) is = elim (dir_or_not o.kind) [
    | inl dir ↦ let one = one_name id (same_kind id o is dir) in omega (arith, one)
    | inr other ↦ (valid.objects id o is).few_names other
  ]

  no_dir : (id : Oid) → 1 < name_count s.entries id → (w : Option Object) → map.get s.objects id ≡ w → IsNoDir s.objects id
  no_dir id several None is = let one = one_name id (λ o at. absurd (never_some (map.get s.objects id) o is at)) in absurd (omega (arith, one, several))
  no_dir id several (Some o) is = record {
    object = o;
    is = is;
    no_dir = λ dir. let one = one_name id (same_kind id o is dir) in omega (arith, one, several);
  }

  pub valid_entries : AreEntries (record { objects = s.objects; numbers = s.object_numbers }) s.entries
  valid_entries = record {
    drawn_already = λ id o is. (valid.objects id o is).drawn_already.1;
    dirs = λ spot id is. let entry = valid.entries spot id is in record { object = entry.dir; is = entry.dir_is; dir = entry.is_dir };
    few = λ id. few_names id (map.get s.objects id) refl;
    single = λ id several. no_dir id several (map.get s.objects id) refl;
  }
