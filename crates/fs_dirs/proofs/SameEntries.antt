-- What the entries say is the same of two states with the same entries.
use Rattle.std.specs.Prelude.{◌≡◌, ◌||◌, ℕ, zero, suc, [], ◌∷◌, Option, Some, None, cond, length, refl}
use Rattle.std.specs.List.{find, flat_map}
use Rattle.std.specs.Option.{option_map}
use Rattle.std.specs.FinMap as map
use Rattle.std.specs.FinMap.{FinMap}
use Rattle.std.proofs.Common.{ap, ◌∙◌}
use Rattle.kern_model.specs.declared.numbers.Oid.{Oid}
use Rattle.kern_model.specs.Entries.{holder, is_so_above, is_under, is_under_within, names_in}
use Rattle.kern_model.specs.Keys.{Spot, same_oid, spot_cmp}
use Rattle.kern_model.specs.State.{State}

module _ (s t : State) (same : s.entries ≡ t.entries) where
  pub names_in-same : (dir : Oid) → names_in s dir ≡ names_in t dir
  unfolding names_in
  names_in-same dir = ap (λ (m : FinMap spot_cmp Oid). flat_map (λ (e : Spot × Oid). cond (same_oid e.0.0 dir) (e.0.1 ∷ []) []) (map.entries m)) same

  pub holder-same : (id : Oid) → holder s id ≡ holder t id
  unfolding holder
  holder-same id = ap (λ (m : FinMap spot_cmp Oid). option_map (λ (e : Spot × Oid). e.0.0) (find (λ (e : Spot × Oid). same_oid e.1 id) (map.entries m))) same

  pub under_within-same : (n : ℕ) (dir top : Oid) → is_under_within s n dir top ≡ is_under_within t n dir top
  under_within-same zero dir top = refl
  under_within-same (suc n) dir top =
      ap (λ b. same_oid dir top || b)
      (elim (holder s dir) as (λ (w : Option Oid). is_so_above (λ above. is_under_within s n above top) w ≡ is_so_above (λ above. is_under_within t n above top) w) [
        | None ↦ refl
        | Some above ↦ under_within-same n above top
      ] ∙ ap (is_so_above (λ above. is_under_within t n above top)) (holder-same dir))

  pub is_under-same : (dir top : Oid) → is_under s dir top ≡ is_under t dir top
  unfolding is_under
  is_under-same dir top = ap (λ (m : FinMap spot_cmp Oid). is_under_within s (length (map.entries m)) dir top) same ∙ under_within-same (length (map.entries t.entries)) dir top
