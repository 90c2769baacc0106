-- The keys of objects and the numbers drawn, in a list for each label.
use Rattle.std.specs.Prelude.{ℕ, List, ◌∷◌, Option, Some, None, length, map as map_list}
use Rattle.std.specs.FinMap.{FinMap}
use Rattle.lab_lattice.specs.Label.{label_cmp}
use Rattle.kern_model.specs.ByNumber.{by_oid}
use Rattle.kern_model.specs.Keys.{oid_cmp}
use Rattle.kern_model.specs.LabelLists.{Lists, items_in}
use Rattle.kern_model.specs.Maps.{select}

-- the items of a list by counts from 1 on
abbrev pub from_one : {X : Type 0} → List X → List (Option X)
from_one items = None ∷ map_list Some items

-- the key of each object, where the list of a label has those of its objects in the order in which their numbers were drawn
unfoldable pub keys_in : Lists ℕ → FinMap oid_cmp ℕ
keys_in lists = by_oid (items_in (select (λ _ (list : List ℕ). Some (from_one list)) lists))

-- the last number drawn of each label
unfoldable pub numbers_in : Lists ℕ → FinMap label_cmp ℕ
numbers_in lists = select (λ _ (list : List ℕ). Some (length list)) lists
