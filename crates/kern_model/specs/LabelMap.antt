-- Values by their labels: entries in the order in which the labels came, and the place of each label.
use Rattle.std.specs.Prelude.{◌≡◌, ℕ, List, Option, Some, slice_get}
use Rattle.std.specs.Option.{option_map}
use Rattle.std.specs.FinMap as map
use Rattle.std.specs.FinMap.{FinMap}
use Rattle.lab_lattice.specs.Label.{Label, label_cmp}
use Rattle.kern_model.specs.declared.label_map.Entry.{Entry}
use Rattle.kern_model.specs.Maps.{select}

-- the value that stands at a place
abbrev pub value_at : {X : Type 0} → List (Entry X) → ℕ → Option X
value_at {X} entries place = option_map (λ (e : Entry X). e.value) (slice_get entries place)

-- each label with the value at its place
abbrev pub values_in : {X : Type 0} → List (Entry X) → FinMap label_cmp ℕ → FinMap label_cmp X
values_in entries places = select (λ _ place. value_at entries place) places

-- at the place of a label stands an entry of that label, and each entry stands at the place of its label
pub record ArePlaced {X : Type 0} (entries : List (Entry X)) (places : FinMap label_cmp ℕ) : Type 0 where
  pub there : (label : Label) (place : ℕ) → map.get places label ≡ Some place → option_map (λ (e : Entry X). e.label) (slice_get entries place) ≡ Some label
  pub placed : (place : ℕ) (e : Entry X) → slice_get entries place ≡ Some e → map.get places e.label ≡ Some place
