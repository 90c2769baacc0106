-- The calls of a line, one after another.
use Rattle.std.proofs.Common.{◌≡◌, true, ◌&&◌, List, [], ◌∷◌, refl, ◌∙◌, subst}
use Rattle.std.proofs.lemmas.Bool.{and_parts}
use Rattle.lab_lattice.specs.Label.{Label}
use Rattle.kern_model.specs.Arguments.{is_call, is_item, is_number, is_script, has_names}
use Rattle.kern_model.specs.declared.world.ScriptItem.{ScriptItem}
use Rattle.kern_model.specs.State.{State}
use Rattle.kern_model.specs.Step.{step}
use Rattle.kern_model.specs.Run.{state_after_run}
use Rattle.iso_laws.proofs.Laws.{top_step}

-- the first of the calls that may be played, and the others
pub record FirstPlayable (top : Label) (i : ScriptItem) (is : List ScriptItem) : Type 0 where
  pub first : is_call top i.call ≡ true
  pub others : is_script top is ≡ true

pub first_playable : (top : Label) (i : ScriptItem) (is items : List ScriptItem) → items ≡ i ∷ is → is_script top items ≡ true → FirstPlayable top i is
first_playable top i is items same h =
    let parts = and_parts (is_item top i) (is_script top is) (subst (λ (l : List ScriptItem). is_script top l ≡ true) same h) in
    let item = and_parts (is_number top i.who && is_call top i.call) (has_names i.call) parts.0 in
    record { first = (and_parts (is_number top i.who) (is_call top i.call) item.0).1; others = parts.1 }

-- calls leave the highest label
pub top_after : (s : State) (is : List ScriptItem) → (state_after_run s is).top ≡ s.top
top_after s [] = refl
top_after s (i ∷ is) = top_after (step s i.who i.call).state is ∙ top_step s i.who i.call
