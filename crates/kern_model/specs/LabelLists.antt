-- What is kept at numbers: a list for each label, with a place for each count of a draw.
use Rattle.std.specs.Prelude.{◌≡◌, ℕ, ◌+◌, ◌==◌, List, [], ◌∷◌, Option, cond, get_or}
use Rattle.std.specs.List.{flat_map}
use Rattle.std.specs.FinMap as map
use Rattle.std.specs.FinMap.{FinMap}
use Rattle.lab_lattice.specs.Label.{Label, label_cmp}
use Rattle.kern_model.specs.Maps as maps
use Rattle.kern_model.specs.Maps.{with_entry}
use Rattle.kern_model.specs.Numbers.{Num, num_cmp}

-- a list for each label
abbrev pub Lists : Type 0 → Type 0
Lists X = FinMap label_cmp (List X)

-- the list of a label, empty where there is none
abbrev pub list_at : {X : Type 0} → Lists X → Label → List X
list_at lists label = maps.get_or lists label []

-- what stands at a number, and `none` where the list of its label is not that long
abbrev pub item_at : {X : Type 0} → X → Lists X → Num → X
item_at none lists n = get_or (list_at lists n.0) n.1 none

-- a list with an item at a count, and all others as they were
abbrev pub IsSet : {X : Type 0} → X → List X → ℕ → X → List X → Type 0
IsSet none old n item new = (m : ℕ) → get_or new m none ≡ cond (m == n) item (get_or old m none)

-- the numbers of a label from a count on, where something stands
abbrev pub entries_from : {X : Type 0} → Label → ℕ → List (Option X) → List (Num × X)
entries_from label n [] = []
entries_from label n (item ∷ items) = with_entry (label, n) item (entries_from label (n + 1) items)

-- what stands at each number
unfoldable pub items_in : {X : Type 0} → Lists (Option X) → FinMap num_cmp X
items_in {X = X} lists = map.from_entries (flat_map (λ (list : Label × List (Option X)). entries_from list.0 0 list.1) (map.entries lists))
