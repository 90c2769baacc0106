-- Where names lead by the entries of a state, and which object of a world was given with them.
use Rattle.std.specs.Prelude.{◌≡◌, true, false, List, [], ◌∷◌, ◌++◌, Option, Some, None, refl, cond, unwrap_or}
use Rattle.std.specs.Option.{option_and_then, option_or}
use Rattle.std.specs.Cmp.{unsigned_Decides}
use Rattle.std.specs.Cmp.Lexicographic.{pointwise_decides}
use Rattle.std.proofs.Common.{sym, ◌∙◌, ap, subst}
use Rattle.std.proofs.lemmas.List.Folds.{find-append}
use Rattle.std.specs.FinMap as map
use Rattle.fs_path.specs.Name.{Name}
use Rattle.kern_model.specs.declared.numbers.Oid.{Oid}
use Rattle.kern_model.specs.declared.world.WorldObject.{WorldObject}
use Rattle.kern_model.specs.Keys.{Spot}
use Rattle.kern_model.specs.State.{State, SetEntry, look}
use Rattle.kern_model.specs.Boot.{entry_for}
use Rattle.kern_model.specs.Valid.{leads}
use Rattle.kern_model.specs.World.{same_names, parent_names, object_with_path}
use Rattle.kern_model.proofs.MapLemmas.{never_some, some_same}
use Rattle.kern_model.proofs.WorldLemmas.{names_same}

-- ---- walks
pub leads_step : (s : State) (dir : Oid) (name : Name) (names : List Name) (next : Oid) → look s dir name ≡ Some next → leads s dir (name ∷ names) ≡ leads s next names
leads_step s dir name names next e = ap (option_and_then (λ (next : Oid). leads s next names)) e

-- names lead to the same object in a state that has the entries of another
pub leads_still : (s t : State) → ((spot : Spot) (id : Oid) → map.get s.entries spot ≡ Some id → map.get t.entries spot ≡ Some id) → (dir : Oid) (names : List Name) (id : Oid) → leads s dir names ≡ Some id → leads t dir names ≡ Some id
leads_still s t keeps dir [] id h = h
leads_still s t keeps dir (name ∷ names) id h =
    elim (look s dir name) as (λ w. look s dir name ≡ w → option_and_then (λ (next : Oid). leads s next names) w ≡ Some id → leads t dir (name ∷ names) ≡ Some id) [
      | None ↦ λ _ g. absurd (cc)
      | Some next ↦ λ e g. leads_step t dir name names next (keeps (dir, name) next e) ∙ leads_still s t keeps next names id g
    ] refl h

-- where names lead to a directory, further names lead on from there
pub leads_append : (s : State) (dir : Oid) (names : List Name) (mid : Oid) (more : List Name) (id : Oid) → leads s dir names ≡ Some mid → leads s mid more ≡ Some id → leads s dir (names ++ more) ≡ Some id
leads_append s dir [] mid more id h e = ap (λ (d : Oid). leads s d more) (some_same dir mid h) ∙ e
leads_append s dir (name ∷ names) mid more id h e =
    elim (look s dir name) as (λ w. look s dir name ≡ w → option_and_then (λ (at : Oid). leads s at names) w ≡ Some mid → leads s dir (name ∷ (names ++ more)) ≡ Some id) [
      | None ↦ λ _ g. absurd (cc)
      | Some at ↦ λ f g. leads_step s dir name (names ++ more) at f ∙ leads_append s at names mid more id g e
    ] refl h

-- where names lead to a directory, a further name leads to what its entry has
pub leads_on : (s : State) (dir : Oid) (names : List Name) (mid : Oid) (name : Name) (id : Oid) → leads s dir names ≡ Some mid → look s mid name ≡ Some id → leads s dir (names ++ name ∷ []) ≡ Some id
leads_on s dir names mid name id h e = leads_append s dir names mid (name ∷ []) id h (leads_step s mid name [] id e)

-- names have a last one, and its entry is in the directory that the others lead to
pub record HasLastName (names : List Name) : Type 0 where
  pub name : Name
  pub whole : names ≡ parent_names names ++ name ∷ []
  pub entry : (s : State) (dir mid id : Oid) → leads s dir (parent_names names) ≡ Some mid → entry_for s dir names id ≡ SetEntry (mid, name) id ∷ []

pub has_last_name : (name : Name) (names : List Name) → HasLastName (name ∷ names)
has_last_name name [] = record { name = name; whole = refl; entry = λ s dir mid id h. ap (λ (d : Oid). SetEntry (d, name) id ∷ []) (some_same dir mid h) }
has_last_name name (next ∷ names) =
    let rest = has_last_name next names in
    record {
      name = rest.name;
      whole = ap (λ ns. name ∷ ns) rest.whole;
      entry = λ s dir mid id h.
          elim (look s dir name) as (λ w. option_and_then (λ (at : Oid). leads s at (parent_names (next ∷ names))) w ≡ Some mid → entry_for s (unwrap_or w dir) (next ∷ names) id ≡ SetEntry (mid, rest.name) id ∷ []) [
            | None ↦ λ g. absurd (cc)
            | Some at ↦ λ g. rest.entry s at mid id g
          ] h;
    }

pub names_itself : (a : List Name) → same_names a a ≡ true
names_itself a = (pointwise_decides (pointwise_decides unsigned_Decides) a a).1 refl

pub given-append : (os ps : List WorldObject) (names : List Name) → object_with_path (os ++ ps) names ≡ option_or (object_with_path os names) (object_with_path ps names)
given-append os ps names = find-append (λ (o : WorldObject). same_names o.path.names names) os ps

or_none : (x y : Option WorldObject) → option_or x y ≡ None → x ≡ None
or_none None y e = refl
or_none (Some o) y e = e

-- names that two lists of objects do not give are not given by the first
pub not_before : (os ps : List WorldObject) (names : List Name) → object_with_path (os ++ ps) names ≡ None → object_with_path os names ≡ None
not_before os ps names e = or_none (object_with_path os names) (object_with_path ps names) (sym (given-append os ps names) ∙ e)

-- what holds of each object given before, and of the last one with its own names, holds of each object given
pub given_after : (P : List Name → WorldObject → Type 0) (os : List WorldObject) (o : WorldObject) → ((names : List Name) (x : WorldObject) → object_with_path os names ≡ Some x → P names x) → P o.path.names o
    → (names : List Name) (x : WorldObject) → object_with_path (os ++ o ∷ []) names ≡ Some x → P names x
given_after P os o before last names x e =
    elim (object_with_path os names) as (λ w. object_with_path os names ≡ w → option_or w (object_with_path (o ∷ []) names) ≡ Some x → P names x) [
      | Some y ↦ λ f g. before names x (f ∙ g)
      | None ↦ λ _ g.
          elim (same_names o.path.names names) as (λ b. same_names o.path.names names ≡ b → cond b (Some o) None ≡ Some x → P names x) [
            | true ↦ λ t h. subst (P names) (some_same o x h) (subst (λ ns. P ns o) (names_same _ _ t) last)
            | false ↦ λ _ h. absurd (never_some None x refl h)
          ] refl g
    ] refl (sym (given-append os (o ∷ []) names) ∙ e)
