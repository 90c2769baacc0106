-- The lists of a table as they are kept, and the map that they make.
use Rattle.std.specs.Prelude.{◌≡◌, ℕ, List, [], Option, Some, None, get_or}
use Rattle.std.specs.FinMap as map
use Rattle.std.specs.FinMap.{FinMap}
use Rattle.std.proofs.Common.{ap, sym, ◌∙◌, subst}
use Rattle.lab_lattice.specs.Label.{Label}
use Rattle.kern_model.proofs.MapLemmas.{get_or-absent, get_or-found, remove-absent}
use Rattle.kern_model.specs.Numbers.{num_cmp}
use Rattle.kern_model.specs.LabelLists.{IsSet, Lists, items_in, list_at}
use Rattle.kern_model.proofs.NumberLaws.{num_cmp_total, num_cmp_exact}
use Rattle.kern_model.proofs.ListItems.{get-items_in, items_in-cleared, items_in-same, items_in-set}

-- the list of a label, empty where none is kept
abbrev pub list_or_none : {X : Type 0} → Option (List X) → List X
list_or_none None = []
list_or_none (Some list) = list

-- what is kept of a label is its list
pub list_is : {X : Type 0} (lists : Lists X) (label : Label) (o : Option (List X)) → o ≡ map.get lists label → list_at lists label ≡ list_or_none o
list_is lists label None is = get_or-absent lists label [] (sym is)
list_is lists label (Some list) is = get_or-found lists label [] list (sym is)

module _ {X : Type 0} (lists : Lists (Option X)) (label : Label) (o : Option (List (Option X))) (is : o ≡ map.get lists label) where
  abbrev list : List (Option X)
  list = list_or_none o

  module _ (m : FinMap num_cmp X) (view : items_in lists ≡ m) (n : ℕ) where
    -- the map has what the list of the label has
    pub get_in : map.get m (label, n) ≡ get_or list n None
    get_in = ap (λ (m : FinMap num_cmp X). map.get m (label, n)) (sym view) ∙ get-items_in lists (label, n) ∙ ap (λ (r : List (Option X)). get_or r n None) (list_is lists label o is)

    module _ (new : Lists (Option X)) (new_list : List (Option X)) (set : new ≡ map.insert lists label new_list) where
      -- a list with a value at a count makes the map with the value there
      pub set_in : (x : X) → IsSet None list n (Some x) new_list → items_in new ≡ map.insert m (label, n) x
      set_in x has = ap items_in set ∙ items_in-set lists label new_list n x (subst (λ (r : List (Option X)). IsSet None r n (Some x) new_list) (sym (list_is lists label o is)) has) ∙ ap (λ (m : FinMap num_cmp X). map.insert m (label, n) x) view

      -- a list without one makes the map without it
      pub cleared_in : IsSet None list n None new_list → items_in new ≡ map.remove m (label, n)
      cleared_in has = ap items_in set ∙ items_in-cleared lists label new_list n (subst (λ (r : List (Option X)). IsSet None r n None new_list) (sym (list_is lists label o is)) has) ∙ ap (λ (m : FinMap num_cmp X). map.remove m (label, n)) view

      -- and a list that says the same makes the same map
      pub same_in : ((k : ℕ) → get_or new_list k None ≡ get_or list k None) → items_in new ≡ m
      same_in same = ap items_in set ∙ items_in-same lists label new_list (λ k. same k ∙ ap (λ (r : List (Option X)). get_or r k None) (sym (list_is lists label o is))) ∙ view

-- where a label has no list, nothing stands at its numbers
pub absent_in : {X : Type 0} (lists : Lists (Option X)) (label : Label) → None ≡ map.get lists label → (m : FinMap num_cmp X) → items_in lists ≡ m → (n : ℕ) → m ≡ map.remove m (label, n)
absent_in lists label is m view n = sym (remove-absent num_cmp_total num_cmp_exact m (label, n) (get_in lists label None is m view n))
