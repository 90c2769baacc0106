-- Where those of the five capabilities come from that a process may ever have.
use Rattle.std.specs.Prelude.{◌≡◌, ◌&&◌, ◌||◌, Bool, true, false, List, [], ◌∷◌, refl}
use Rattle.std.specs.List.{list_any}
use Rattle.std.proofs.Common.{sym, ◌∙◌, ap}
use Rattle.cap_bits.specs.CapSet.{has, union_of}
use Rattle.cap_bits.specs.FileCaps.{shown}
use Rattle.cap_bits.specs.declared.cap.Cap.{Cap}
use Rattle.cap_bits.specs.declared.state.CapState.{CapState}
use Rattle.cap_bits.proofs.CapSets.{has-meet_of, has-no_caps, has-union_of}
use Rattle.kern_model.specs.declared.world.World.{World}
use Rattle.kern_model.specs.declared.world.WorldObject.{WorldObject}
use Rattle.kern_model.specs.declared.world.WorldProc.{WorldProc}
use Rattle.kern_model.specs.Exec.{exec_permitted}
use Rattle.ever_caps.specs.Ever.{all_files, all_processes, ever, joined, mac_caps, mac_given, mac_held}
use Rattle.ever_caps.specs.Laws.{EverHasSource}
use Rattle.ever_caps.proofs.Kept.{has-exec_permitted}

-- ---- tests of some element
or_itself : (b : Bool) → (b || b) ≡ b
or_itself true = refl
or_itself false = refl

or_nothing : (b : Bool) → (b || false) ≡ b
or_nothing true = refl
or_nothing false = refl

and_nothing : (b : Bool) → (b && false) ≡ false
and_nothing true = refl
and_nothing false = refl

swap_or : (a b c d : Bool) → ((a || b) || (c || d)) ≡ ((a || c) || (b || d))
swap_or true b c d = refl
swap_or false true true d = refl
swap_or false true false d = refl
swap_or false false c d = refl

and-or : (m a b : Bool) → (m && (a || b)) ≡ (m && a || m && b)
and-or true a b = refl
and-or false a b = refl

or-and : (m a b : Bool) → ((a || b) && m) ≡ (a && m || b && m)
or-and m true true = sym (or_itself m)
or-and m true false = sym (or_nothing m)
or-and m false b = refl

module _ {X : Type 0} (f g : X → Bool) where
  any-or : (xs : List X) → list_any (λ x. f x || g x) xs ≡ (list_any f xs || list_any g xs)
  any-or [] = refl
  any-or (x ∷ xs) = ap (λ b. (f x || g x) || b) (any-or xs) ∙ swap_or (f x) (g x) (list_any f xs) (list_any g xs)

module _ {X : Type 0} (f : X → Bool) (m : Bool) where
  any-and : (xs : List X) → list_any (λ x. m && f x) xs ≡ (m && list_any f xs)
  any-and [] = sym (and_nothing m)
  any-and (x ∷ xs) = ap (λ b. m && f x || b) (any-and xs) ∙ sym (and-or m (f x) (list_any f xs))

  any-and_after : (xs : List X) → list_any (λ x. f x && m) xs ≡ (list_any f xs && m)
  any-and_after [] = refl
  any-and_after (x ∷ xs) = ap (λ b. f x && m || b) (any-and_after xs) ∙ sym (or-and m (f x) (list_any f xs))

-- tests that agree on each element agree on some element
any_same : {X : Type 0} (f g : X → Bool) → ((x : X) → f x ≡ g x) → (xs : List X) → list_any f xs ≡ list_any g xs
any_same f g same [] = refl
any_same f g same (x ∷ xs) = λ i. same x i || any_same f g same xs i

-- ---- what several have together, some one has
module _ {X : Type 0} (f : X → CapState) (c : Cap) where
  effective_together : (xs : List X) → has (joined f xs).e c ≡ list_any (λ x. has (f x).e c) xs
  effective_together [] = has-no_caps c
  effective_together (x ∷ xs) = has-union_of (f x).e (joined f xs).e c ∙ ap (λ b. has (f x).e c || b) (effective_together xs)

  inherited_together : (xs : List X) → has (joined f xs).i c ≡ list_any (λ x. has (f x).i c) xs
  inherited_together [] = has-no_caps c
  inherited_together (x ∷ xs) = has-union_of (f x).i (joined f xs).i c ∙ ap (λ b. has (f x).i c || b) (inherited_together xs)

  permitted_together : (xs : List X) → has (joined f xs).p c ≡ list_any (λ x. has (f x).p c) xs
  permitted_together [] = has-no_caps c
  permitted_together (x ∷ xs) = has-union_of (f x).p (joined f xs).p c ∙ ap (λ b. has (f x).p c || b) (permitted_together xs)

module _ (c : Cap) (w : World) where
  abbrev among_five : Bool
  among_five = has mac_caps c

  held_by : (p : WorldProc) → has (mac_held p) c ≡ (among_five && (has p.caps.e c || has p.caps.p c))
  held_by p = has-meet_of mac_caps (union_of p.caps.e p.caps.p) c ∙ ap (λ b. among_five && b) (has-union_of p.caps.e p.caps.p c)

  held_by_some : list_any (λ (p : WorldProc). has (mac_held p) c) w.procs ≡ (among_five && (has (all_processes w).e c || has (all_processes w).p c))
  held_by_some =
      any_same _ _ held_by w.procs
      ∙ any-and (λ (p : WorldProc). has p.caps.e c || has p.caps.p c) among_five w.procs
      ∙ ap (λ b. among_five && b)
      (any-or (λ (p : WorldProc). has p.caps.e c) (λ (p : WorldProc). has p.caps.p c) w.procs
      ∙ (λ i. sym (effective_together (λ (p : WorldProc). p.caps) c w.procs) i || sym (permitted_together (λ (p : WorldProc). p.caps) c w.procs) i))

  abbrev permits : WorldObject → Bool
  permits o = has o.attr.caps.p c && has w.bound c

  abbrev lets_inherit : WorldObject → Bool
  lets_inherit o = has o.attr.caps.i c && has (all_processes w).i c

  given_by : (o : WorldObject) → has (mac_given w o) c ≡ (among_five && (permits o || lets_inherit o))
  given_by o =
      has-meet_of mac_caps (exec_permitted (all_processes w) (shown o.attr.caps) w.bound) c
      ∙ ap (λ b. among_five && b) (has-exec_permitted (all_processes w) (shown o.attr.caps) w.bound c)

  given_by_some : list_any (λ (o : WorldObject). has (mac_given w o) c) w.objects ≡ (among_five && has (exec_permitted (all_processes w) (all_files w) w.bound) c)
  given_by_some =
      any_same _ _ given_by w.objects
      ∙ any-and (λ (o : WorldObject). permits o || lets_inherit o) among_five w.objects
      ∙ ap (λ b. among_five && b)
      (any-or permits lets_inherit w.objects
      ∙ (λ i. any-and_after (λ (o : WorldObject). has o.attr.caps.p c) (has w.bound c) w.objects i
      || any-and_after (λ (o : WorldObject). has o.attr.caps.i c) (has (all_processes w).i c) w.objects i)
      ∙ (λ i. sym (permitted_together (λ (o : WorldObject). shown o.attr.caps) c w.objects) i && has w.bound c
      || sym (inherited_together (λ (o : WorldObject). shown o.attr.caps) c w.objects) i && has (all_processes w).i c)
      ∙ sym (has-exec_permitted (all_processes w) (all_files w) w.bound c))

pub ever_has_source : EverHasSource
ever_has_source c w =
    has-meet_of mac_caps (ever w) c
    ∙ ap (λ b. has mac_caps c && b)
    (has-union_of (union_of (all_processes w).e (all_processes w).p) (exec_permitted (all_processes w) (all_files w) w.bound) c
    ∙ ap (λ b. b || has (exec_permitted (all_processes w) (all_files w) w.bound) c) (has-union_of (all_processes w).e (all_processes w).p c))
    ∙ and-or (has mac_caps c) (has (all_processes w).e c || has (all_processes w).p c) (has (exec_permitted (all_processes w) (all_files w) w.bound) c)
    ∙ (λ i. sym (held_by_some c w) i || sym (given_by_some c w) i)
