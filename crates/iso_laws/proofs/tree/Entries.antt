-- Entries of a Low directory and names of a Low object: what rows depend on is the same in the part.
use Rattle.std.specs.Prelude.{◌≡◌, ◌&&◌, not, true, false, [], ◌∷◌, Some, None, refl, cond, length}
use Rattle.std.proofs.Common.{sym, ◌∙◌, ap, arith}
use Rattle.std.specs.FinMap as map
use Rattle.lab_lattice.specs.Label.{Label}
use Rattle.kern_model.specs.declared.numbers.Oid.{Oid}
use Rattle.kern_model.specs.declared.objects.Kind.{Kind}
use Rattle.kern_model.specs.declared.objects.Kind.TheVariants as kind
use Rattle.kern_model.specs.declared.objects.Object.{Object}
use Rattle.kern_model.specs.Entries.{is_empty, entry_count, names_in, is_held, link_count, is_removed}
use Rattle.kern_model.specs.Isolation.{low, Kept}
use Rattle.kern_model.specs.Keys.{Spot, same_oid}
use Rattle.kern_model.specs.Maps.{where_key}
use Rattle.kern_model.specs.Stat.{size_of, names_reported, stat_by, stat_of}
use Rattle.kern_model.specs.State.{State, object_at, stub, root}
use Rattle.kern_model.specs.Valid.{IsValid, IsThere}
use Rattle.kern_model.proofs.KeyLaws.{oid_cmp_exact, spot_cmp_total, spot_cmp_exact}
use Rattle.kern_model.proofs.MapLemmas.{same_key}
use Rattle.iso_laws.proofs.Part.{part_by_number, shown_oid, low_spot}
use Rattle.kern_model.proofs.Selections.{test_after, list_after, any_entry-select, count_entries-select, flat_map-select}
use Rattle.std.proofs.lemmas.Bool.{true≢false, false_from_ne_true}
use Rattle.iso_laws.proofs.PartReads.{low_below, object_low}

-- a directory that is not Low differs from one that is
pub other_dir : (l : Label) (id : Oid) → low l id.label ≡ true → (dir : Oid) → low l dir.label ≡ false → same_oid dir id ≡ false
other_dir l id is_low dir high = false_from_ne_true (same_oid dir id) (λ t. true≢false (sym is_low ∙ ap (λ (d : Oid). low l d.label) (sym (same_key oid_cmp_exact dir id t)) ∙ high))

module _ (l : Label) (s : State) (id : Oid) (is_low : low l id.label ≡ true) where
  -- an entry is in a Low directory in the part exactly where it is in the state
  stands : (spot : Spot) (at : Oid) → test_after (λ (at_spot : Spot) (to : Oid). same_oid at_spot.0 id) spot (where_key (low_spot l) (shown_oid l s.top) spot at) ≡ same_oid spot.0 id
  stands spot at =
      elim (low l spot.0.label) as (λ b. low l spot.0.label ≡ b → test_after (λ (at_spot : Spot) (to : Oid). same_oid at_spot.0 id) spot (cond b (Some (shown_oid l s.top at)) None) ≡ same_oid spot.0 id) [
        | true ↦ λ _. refl
        | false ↦ λ high. sym (other_dir l id is_low spot.0 high)
      ] refl

  lists : (spot : Spot) (at : Oid) → list_after (λ (at_spot : Spot) (to : Oid). cond (same_oid at_spot.0 id) (at_spot.1 ∷ []) []) spot (where_key (low_spot l) (shown_oid l s.top) spot at) ≡ cond (same_oid spot.0 id) (spot.1 ∷ []) []
  lists spot at =
      elim (low l spot.0.label) as (λ b. low l spot.0.label ≡ b → list_after (λ (at_spot : Spot) (to : Oid). cond (same_oid at_spot.0 id) (at_spot.1 ∷ []) []) spot (cond b (Some (shown_oid l s.top at)) None) ≡ cond (same_oid spot.0 id) (spot.1 ∷ []) []) [
        | true ↦ λ _. refl
        | false ↦ λ high. ap (λ b. cond b (spot.1 ∷ []) []) (sym (other_dir l id is_low spot.0 high))
      ] refl

  pub names_low : names_in (part_by_number l s) id ≡ names_in s id
  unfolding names_in part_by_number
  names_low = flat_map-select spot_cmp_total spot_cmp_exact (where_key (low_spot l) (shown_oid l s.top)) _ _ s.entries (λ spot at _. lists spot at)

  pub empty_low : is_empty (part_by_number l s) id ≡ is_empty s id
  unfolding part_by_number
  empty_low = ap not (any_entry-select spot_cmp_total spot_cmp_exact (where_key (low_spot l) (shown_oid l s.top)) (λ (spot : Spot) (to : Oid). same_oid spot.0 id) (λ (spot : Spot) (to : Oid). same_oid spot.0 id) s.entries (λ spot at _. stands spot at))

  pub entry_count_low : entry_count (part_by_number l s) id ≡ entry_count s id
  unfolding part_by_number
  entry_count_low = count_entries-select spot_cmp_total spot_cmp_exact (where_key (low_spot l) (shown_oid l s.top)) (λ (spot : Spot) (to : Oid). same_oid spot.0 id) (λ (spot : Spot) (to : Oid). same_oid spot.0 id) s.entries (λ spot at _. stands spot at)

-- the names of a Low object are in Low directories
module _ (l : Label) (s : State) (kept : Kept l s) (valid : IsValid s) (id : Oid) (there : IsThere s.objects id) (is_low : low l id.label ≡ true) where
  no_stub : same_oid (stub s.top) id ≡ false
  no_stub = false_from_ne_true _ (λ t. let none : 0 ≡ id.n = ap (λ (q : Oid). q.n) (same_key oid_cmp_exact (stub s.top) id t) in absurd (omega (arith, none, (valid.objects id there.value there.is).drawn_already.0)))

  pub shown_oid_is : (at : Oid) → same_oid (shown_oid l s.top at) id ≡ same_oid at id
  shown_oid_is at =
      elim (low l at.label) as (λ b. low l at.label ≡ b → same_oid (cond b at (stub s.top)) id ≡ same_oid at id) [
        | true ↦ λ _. refl
        | false ↦ λ high. no_stub ∙ sym (other_dir l id is_low at high)
      ] refl

  pub holder_low : (spot : Spot) → map.get s.entries spot ≡ Some id → low l spot.0.label ≡ true
  holder_low spot e =
      let entry = valid.entries spot id e in
      kept.objects spot.0 entry.dir entry.dir_is ∙ low_below l entry.object.label entry.dir.label (sym (kept.objects id entry.object entry.object_is) ∙ is_low) entry.order

  -- an entry leads to a Low object in the part exactly where it does in the state
  pub leads_to : (spot : Spot) (at : Oid) → map.get s.entries spot ≡ Some at → test_after (λ (at_spot : Spot) (to : Oid). same_oid to id) spot (where_key (low_spot l) (shown_oid l s.top) spot at) ≡ same_oid at id
  leads_to spot at e =
      elim (low l spot.0.label) as (λ b. low l spot.0.label ≡ b → test_after (λ (at_spot : Spot) (to : Oid). same_oid to id) spot (cond b (Some (shown_oid l s.top at)) None) ≡ same_oid at id) [
        | true ↦ λ _. shown_oid_is at
        | false ↦ λ high. sym (false_from_ne_true (same_oid at id) (λ t. true≢false (sym (holder_low spot (e ∙ ap (λ (q : Oid). Some q) (same_key oid_cmp_exact at id t))) ∙ high)))
      ] refl

  pub link_count_low : link_count (part_by_number l s) id ≡ link_count s id
  unfolding part_by_number
  link_count_low = count_entries-select spot_cmp_total spot_cmp_exact (where_key (low_spot l) (shown_oid l s.top)) (λ (spot : Spot) (to : Oid). same_oid to id) (λ (spot : Spot) (to : Oid). same_oid to id) s.entries leads_to

  pub held_low : is_held (part_by_number l s) id ≡ is_held s id
  unfolding part_by_number
  held_low = any_entry-select spot_cmp_total spot_cmp_exact (where_key (low_spot l) (shown_oid l s.top)) (λ (spot : Spot) (to : Oid). same_oid to id) (λ (spot : Spot) (to : Oid). same_oid to id) s.entries leads_to

  pub removed_low : is_removed (part_by_number l s) id ≡ is_removed s id
  removed_low = ap (λ b. not (same_oid id root) && not b) held_low

  sizes_low : (k : Kind) → size_of (part_by_number l s) id k ≡ size_of s id k
  sizes_low kind.Dir = entry_count_low l s id is_low
  sizes_low kind.File = ap (λ (o : Object). length o.bytes) (object_low l s id is_low)
  sizes_low kind.Fifo = ap (λ (o : Object). length o.bytes) (object_low l s id is_low)
  sizes_low kind.Pipe = ap (λ (o : Object). length o.bytes) (object_low l s id is_low)

  links_reported : (k : Kind) → names_reported (part_by_number l s) id k ≡ names_reported s id k
  links_reported kind.Dir = refl
  links_reported kind.File = link_count_low
  links_reported kind.Fifo = link_count_low
  links_reported kind.Pipe = refl

  -- the part reports the same of a Low object
  pub stat_of_low : stat_of (part_by_number l s) id ≡ stat_of s id
  unfolding stat_of
  stat_of_low =
      let o : Object = object_at s id in
      ap (stat_by (part_by_number l s) id) (object_low l s id is_low)
      ∙ (λ i. record (stat_by s id o) { size = sizes_low o.kind i; names = links_reported o.kind i })
