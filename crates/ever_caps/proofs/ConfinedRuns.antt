-- Worlds in which no process may ever have one of the five capabilities over labels: nothing crosses any label there.
use Rattle.std.specs.Prelude.{◌≡◌, ◌&&◌, not, Bool, true, false, List, [], ◌∷◌, refl}
use Rattle.std.specs.List.{AllByRecursion, list_all, list_any}
use Rattle.std.proofs.Common.{sym, ◌∙◌}
use Rattle.std.proofs.lemmas.Bool.{and_from, and_parts, and_right, false_from_ne_true, not_from_false, or_from, or_right, true≢false}
use Rattle.cap_bits.specs.CapSet.{has, is_within, no_caps, union_of}
use Rattle.cap_bits.specs.FileCaps.{shown}
use Rattle.cap_bits.specs.Laws.{has-within, within-has}
use Rattle.cap_bits.specs.declared.cap.Cap.{Cap}
use Rattle.cap_bits.specs.declared.cap.Cap.TheVariants as cap
use Rattle.cap_bits.proofs.CapSets.{has-no_caps, has-union_of}
use Rattle.lab_lattice.specs.Label.{Label, dominates}
use Rattle.kern_model.specs.declared.world.World.{World}
use Rattle.kern_model.specs.declared.world.WorldObject.{WorldObject}
use Rattle.kern_model.specs.declared.world.WorldProc.{WorldProc}
use Rattle.kern_model.specs.Exec.{exec_permitted}
use Rattle.ever_caps.specs.Ever.{all_files, all_processes, ever, mac_ever}
use Rattle.ever_caps.specs.Laws.{ConfinedAlone, ConfinedInside, ConfinedUncrossed, ConfinedWorlds}
use Rattle.ever_caps.specs.Uncrossed.{gives_below, is_above, may_have, only_above, upward_caps}
use Rattle.ever_caps.proofs.Crossings.{mac_never}
use Rattle.ever_caps.proofs.EverRuns.{HasToo, given, held, together}
use Rattle.ever_caps.proofs.Kept.{has-exec_permitted}
use Rattle.ever_caps.proofs.States.{all_weaker}
use Rattle.ever_caps.proofs.UncrossedRuns.{uncrossed_alone, uncrossed_inside, uncrossed_worlds}

all_pass : {X : Type 0} (test : X → Bool) (xs : List X) → AllByRecursion (λ x. test x ≡ true) xs → list_all test xs ≡ true
all_pass test [] h = refl
all_pass test (x ∷ xs) h = and_from (test x) (list_all test xs) h.0 (all_pass test xs h.1)

none_pass : {X : Type 0} (test : X → Bool) (xs : List X) → AllByRecursion (λ x. test x ≡ false) xs → list_any test xs ≡ false
none_pass test [] h = refl
none_pass test (x ∷ xs) h = or_from (test x) (list_any test xs) h.0 (none_pass test xs h.1)

module _ (c : Cap) (w : World) (never : has (ever w) c ≡ false) where
  never_given : (p : WorldProc) → HasToo c p.caps (all_processes w) → (o : WorldObject) → HasToo c (shown o.attr.caps) (all_files w) → gives_below c w p o ≡ false
  never_given p process o file =
      and_right (dominates p.label o.label) (has (exec_permitted p.caps (shown o.attr.caps) w.bound) c)
      (has-exec_permitted p.caps (shown o.attr.caps) w.bound c
      ∙ or_from (has o.attr.caps.p c && has w.bound c) (has o.attr.caps.i c && has p.caps.i c)
      (false_from_ne_true _ (λ t. let both = and_parts (has o.attr.caps.p c) (has w.bound c) t in true≢false (sym (and_from _ _ (file.p both.0) both.1) ∙ (given c w never).0)))
      (false_from_ne_true _ (λ t.
      let both = and_parts (has o.attr.caps.i c) (has p.caps.i c) t in
      true≢false (sym (and_from _ _ (file.i both.0) (process.i both.1)) ∙ (given c w never).1))))

  never_may : (p : WorldProc) → HasToo c p.caps (all_processes w) → may_have c w p ≡ false
  never_may p process =
      or_from (has (union_of p.caps.e p.caps.p) c) (list_any (gives_below c w p) w.objects)
      (has-union_of p.caps.e p.caps.p c
      ∙ or_from (has p.caps.e c) (has p.caps.p c) (false_from_ne_true _ (λ t. true≢false (sym (process.e t) ∙ (held c w never).0)))
      (false_from_ne_true _ (λ t. true≢false (sym (process.p t) ∙ (held c w never).1))))
      (none_pass (gives_below c w p) w.objects
      (all_weaker (λ (o : WorldObject). HasToo c (shown o.attr.caps) (all_files w)) (λ o. gives_below c w p o ≡ false) (never_given p process) w.objects
      (together c (λ (o : WorldObject). shown o.attr.caps) w.objects)))

  never_above : (l : Label) → only_above l c w ≡ true
  never_above l =
      all_pass _ w.procs
      (all_weaker (λ (p : WorldProc). HasToo c p.caps (all_processes w)) _
      (λ p process. or_right (is_above p.label l) (not (may_have c w p)) (not_from_false (may_have c w p) (never_may p process))) w.procs
      (together c (λ (p : WorldProc). p.caps) w.procs))

pub confined_uncrossed : ConfinedUncrossed
confined_uncrossed l w confined =
    let above : (c : Cap) → has (ever w) c ≡ false → only_above l c w ≡ true = λ c never. never_above c w never l in
    and_from (is_within (mac_ever w) upward_caps && only_above l cap.MacRead w) (only_above l cap.MacUpgrade w)
    (and_from (is_within (mac_ever w) upward_caps) (only_above l cap.MacRead w)
    (has-within (mac_ever w) upward_caps (λ q h. absurd (true≢false (sym (within-has (mac_ever w) no_caps confined q h) ∙ has-no_caps q))))
    (above cap.MacRead (mac_never w no_caps confined cap.MacRead refl (has-no_caps cap.MacRead))))
    (above cap.MacUpgrade (mac_never w no_caps confined cap.MacUpgrade refl (has-no_caps cap.MacUpgrade)))

pub confined_inside : ConfinedInside
confined_inside l w items confined = uncrossed_inside l w items (confined_uncrossed l w confined)

pub confined_alone : ConfinedAlone
confined_alone l w items world script confined = uncrossed_alone l w items world script (confined_uncrossed l w confined)

pub confined_worlds : ConfinedWorlds
confined_worlds l w v is js world world' script script' same same_script confined confined' =
    uncrossed_worlds l w v is js world world' script script' same same_script (confined_uncrossed l w confined) (confined_uncrossed l v confined')
