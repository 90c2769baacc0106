-- The processes that may ever cross a label, found once for all labels.
use Rattle.std.specs.Prelude.{◌≡◌, ◌&&◌, ◌||◌, not, Bool, true, false, cond, List, [], ◌∷◌, map, refl}
use Rattle.std.specs.List.{filter, list_all, list_any}
use Rattle.std.proofs.Common.{sym, ◌∙◌, ap}
use Rattle.std.proofs.Math.Bool.{and_assoc}
use Rattle.std.proofs.lemmas.Bool.{and_parts}
use Rattle.std.proofs.lemmas.Map.Views.{any-filter_same}
use Rattle.cap_bits.specs.CapSet.{CapSet, has, is_within, union_of}
use Rattle.cap_bits.specs.declared.cap.Cap.{Cap}
use Rattle.cap_bits.specs.declared.cap.Cap.TheVariants as cap
use Rattle.cap_bits.proofs.CapSets.{has-union_of}
use Rattle.lab_lattice.specs.Label.{Label, dominates}
use Rattle.kern_model.specs.declared.world.World.{World}
use Rattle.kern_model.specs.declared.world.WorldObject.{WorldObject}
use Rattle.kern_model.specs.declared.world.WorldProc.{WorldProc}
use Rattle.kern_model.specs.Exec.{exec_permitted}
use Rattle.ever_caps.specs.declared.labels.Crossers.{Crossers}
use Rattle.ever_caps.specs.declared.labels.Program.{Program}
use Rattle.ever_caps.specs.Crossing.{crossing_labels, gives_to, has_upward, is_left_by, may_give, may_have_by, program_of, programs}
use Rattle.ever_caps.specs.Ever.{mac_ever}
use Rattle.ever_caps.specs.Uncrossed.{gives_below, is_above, is_uncrossed, may_have, upward_caps}
use Rattle.ever_caps.proofs.Kept.{has-exec_permitted}

or_true : (b : Bool) → (b || true) ≡ true
or_true true = refl
or_true false = refl

-- ---- programs

either : (a b x y : Bool) → ((a && b) || (x && y)) ≡ true → (a || x) ≡ true
either true b x y is = refl
either false b true y is = refl
either false b false y is = absurd (cc)

-- what a program gives is in its sets
given_from : (c : Cap) (bound : CapSet) (p : WorldProc) (f : Program) → gives_to c bound p f ≡ true → has (union_of f.caps.p f.caps.i) c ≡ true
given_from c bound p f gives =
    has-union_of f.caps.p f.caps.i c
    ∙ either (has f.caps.p c) (has bound c) (has f.caps.i c) (has p.caps.i c)
    (sym (has-exec_permitted p.caps f.caps bound c) ∙ (and_parts (dominates p.label f.label) (has (exec_permitted p.caps f.caps bound) c) gives).1)

-- which programs may give one is asked of no process
module _ (c : Cap) (upward : (caps : CapSet) → has caps c ≡ true → has_upward caps ≡ true) (w : World) (p : WorldProc) where
  any_program : (os : List WorldObject) → list_any (gives_to c w.bound p) (map program_of os) ≡ list_any (gives_below c w p) os
  any_program [] = refl
  any_program (o ∷ os) = ap (λ b. gives_below c w p o || b) (any_program os)

  have_same : may_have_by c w.bound (programs w.objects) p ≡ may_have c w p
  have_same = ap (λ b. has (union_of p.caps.e p.caps.p) c || b)
      (any-filter_same (gives_to c w.bound p) may_give true (λ f gives. upward (union_of f.caps.p f.caps.i) (given_from c w.bound p f gives)) (map program_of w.objects)
      ∙ any_program w.objects)

reads_upward : (caps : CapSet) → has caps cap.MacRead ≡ true → has_upward caps ≡ true
reads_upward caps is = ap (λ b. b || has caps cap.MacUpgrade) is

moves_upward : (caps : CapSet) → has caps cap.MacUpgrade ≡ true → has_upward caps ≡ true
moves_upward caps is = ap (λ b. has caps cap.MacRead || b) is ∙ or_true (has caps cap.MacRead)

-- ---- labels

-- all picked labels pass a test where each element passes it or is not picked
module _ (f g : WorldProc → Bool) (l : Label) where
  abbrev above : WorldProc → Bool
  above p = is_above p.label l

  one : (a b u r q : Bool) → cond (a || b) (u && (r && q)) (r && q) ≡ (((u || not a) && r) && ((u || not b) && q))
  one true b true r q = cases b
    where
      cases : (b : Bool) → (r && q) ≡ (r && (true && q))
      cases b = refl
  one false true true r q = refl
  one false false true r q = refl
  one true b false r q = refl
  one false true false r q = and_false r
    where
      and_false : (r : Bool) → false ≡ (r && false)
      and_false true = refl
      and_false false = refl
  one false false false r q = refl

  all_above : (x : Bool) (p : WorldProc) (ps : List WorldProc) → list_all (λ (m : Label). is_above m l) (map (λ (k : WorldProc). k.label) (cond x (p ∷ ps) ps))
      ≡ cond x (above p && list_all (λ (m : Label). is_above m l) (map (λ (k : WorldProc). k.label) ps)) (list_all (λ (m : Label). is_above m l) (map (λ (k : WorldProc). k.label) ps))
  all_above true p ps = refl
  all_above false p ps = refl

  all_picked : (ps : List WorldProc) → list_all (λ (m : Label). is_above m l) (map (λ (k : WorldProc). k.label) (filter (λ p. f p || g p) ps))
      ≡ (list_all (λ p. above p || not (f p)) ps && list_all (λ p. above p || not (g p)) ps)
  all_picked [] = refl
  all_picked (p ∷ ps) =
      all_above (f p || g p) p (filter (λ k. f k || g k) ps)
      ∙ ap (λ b. cond (f p || g p) (above p && b) b) (all_picked ps)
      ∙ one (f p) (g p) (above p) (list_all (λ k. above k || not (f k)) ps) (list_all (λ k. above k || not (g k)) ps)

-- each label is left by the processes that may ever cross one, or crossed by one of them
pub left_uncrossed : (w : World) (c : Crossers) → c.only_upward ≡ is_within (mac_ever w) upward_caps → c.labels.items ≡ crossing_labels w.bound (programs w.objects) w.procs
    → (l : Label) → is_left_by c l ≡ is_uncrossed l w
unfolding is_left_by
left_uncrossed w c upward labels l =
    (λ i. upward i && list_all (λ (m : Label). is_above m l) (labels i))
    ∙ ap (λ b. is_within (mac_ever w) upward_caps && b)
    (all_picked (may_have_by cap.MacRead w.bound (programs w.objects)) (may_have_by cap.MacUpgrade w.bound (programs w.objects)) l w.procs
    ∙ (λ i. only (λ p. have_same cap.MacRead reads_upward w p i) && only (λ p. have_same cap.MacUpgrade moves_upward w p i)))
    ∙ sym (and_assoc (is_within (mac_ever w) upward_caps) (only (may_have cap.MacRead w)) (only (may_have cap.MacUpgrade w)))
  where
    only : (WorldProc → Bool) → Bool
    only has_it = list_all (λ (p : WorldProc). is_above p.label l || not (has_it p)) w.procs
