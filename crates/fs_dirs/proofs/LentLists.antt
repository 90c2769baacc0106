-- The list of a label that is lent, and the table with it.
use Rattle.std.specs.Prelude.{◌≡◌, [], List, None, Option, OnSome, Some}
use Rattle.std.specs.Borrow.{MutBor}
use Rattle.std.specs.FinMap as map
use Rattle.std.specs.Option.{option_copied_mut}
use Rattle.std.proofs.Common.{ap, sym, ◌∙◌}
use Rattle.lab_lattice.specs.Label.{Label}
use Rattle.kern_model.proofs.LabelMaps.{at_some}
use Rattle.kern_model.specs.LabelLists.{Lists, list_at}
use Rattle.kern_model.proofs.ListItems.{list_absent, list_found}

module _ {X : Type 0} {inside lists : Lists X} {r : Option (MutBor (List X))} (view : inside ≡ lists) (label : Label) where
  -- the list that is lent is that of the label
  pub lent_found : {lent : MutBor (List X)} → r ≡ Some lent → option_copied_mut r ≡ map.get inside label → list_at lists label ≡ lent.now
  lent_found {lent = lent} is value =
      list_found lists label lent.now (sym (ap (λ (o : Option (MutBor (List X))). option_copied_mut o) is) ∙ value ∙ ap (λ (m : Lists X). map.get m label) view)

  -- where none is lent, the label has none
  pub lent_absent : r ≡ None → option_copied_mut r ≡ map.get inside label → list_at lists label ≡ []
  lent_absent is value =
      list_absent lists label (sym (ap (λ (o : Option (MutBor (List X))). option_copied_mut o) is) ∙ value ∙ ap (λ (m : Lists X). map.get m label) view)

  -- the table has the list as it was left
  pub lent_left : {lent : MutBor (List X)} {after : Lists X} (left : List X) → r ≡ Some lent → OnSome r (after ≡ map.insert inside label left) → after ≡ map.insert lists label left
  lent_left left is holds = at_some is holds ∙ ap (λ (m : Lists X). map.insert m label left) view
