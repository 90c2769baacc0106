-- Capabilities over labels that are never had, and runs of which no record crosses a label.
use Rattle.std.specs.Prelude.{◌≡◌, true, false, List, [], ◌∷◌, refl, cond}
use Rattle.std.specs.List.{flat_map}
use Rattle.std.proofs.Common.{sym, ◌∙◌, ap}
use Rattle.std.proofs.lemmas.Bool.{and_from, false_from_ne_true, or_left, or_parts, or_right, true≢false}
use Rattle.std.proofs.lemmas.List.Folds.{list_any-append}
use Rattle.cap_bits.specs.CapSet.{CapSet, has, is_within, with_cap}
use Rattle.cap_bits.specs.Laws.{within-has}
use Rattle.cap_bits.specs.declared.cap.Cap.{Cap}
use Rattle.cap_bits.specs.declared.cap.Cap.TheVariants as cap
use Rattle.cap_bits.proofs.CapSets.{has-meet_of, has-with_cap, same_cap-decides}
use Rattle.lab_lattice.specs.Label.{Label}
use Rattle.kern_model.specs.declared.world.ScriptItem.{ScriptItem}
use Rattle.kern_model.specs.declared.world.World.{World}
use Rattle.kern_model.specs.Boot.{boot, boot_recs}
use Rattle.kern_model.specs.Isolation.{any_crosses, crosses, is_mac, up_to}
use Rattle.kern_model.specs.Lineage.{all_recs}
use Rattle.kern_model.specs.Run.{CallRecord, run}
use Rattle.ever_caps.specs.Ever.{ever, mac_caps, mac_ever}

-- ---- the five capabilities
now_in : (a : CapSet) (c : Cap) → has (with_cap a c) c ≡ true
now_in a c = has-with_cap a c c ∙ or_left _ _ ((same_cap-decides c c).1 refl)

still_in : (a : CapSet) (other c : Cap) → has a c ≡ true → has (with_cap a other) c ≡ true
still_in a other c h = has-with_cap a other c ∙ or_right _ _ h

mac_in : (c : Cap) → is_mac c ≡ true → has mac_caps c ≡ true
mac_in cap.MacDowngrade h = still_in _ _ _ (still_in _ _ _ (still_in _ _ _ (still_in _ _ _ (now_in _ _))))
mac_in cap.MacRead h = still_in _ _ _ (still_in _ _ _ (still_in _ _ _ (now_in _ _)))
mac_in cap.MacRelabelSubj h = still_in _ _ _ (still_in _ _ _ (now_in _ _))
mac_in cap.MacUpgrade h = still_in _ _ _ (now_in _ _)
mac_in cap.MacWrite h = now_in _ _
mac_in c h = absurd (true≢false (sym h))

-- where those of the five that are ever had are among some, no other one is ever had
pub mac_never : (w : World) (some : CapSet) → is_within (mac_ever w) some ≡ true → (c : Cap) → is_mac c ≡ true → has some c ≡ false → has (ever w) c ≡ false
mac_never w some within c mac other =
    false_from_ne_true _
    (λ h. true≢false (sym (within-has (mac_ever w) some within c (has-meet_of mac_caps (ever w) c ∙ and_from _ _ (mac_in c mac) h)) ∙ other))

-- ---- runs
module _ (l : Label) where
  -- where no record of a run crosses, no call does
  calls_inside : (ps : List CallRecord) → any_crosses l (flat_map (λ (p : CallRecord). p.recs) ps) ≡ false → up_to l ps ≡ ps
  calls_inside [] h = refl
  calls_inside (p ∷ ps) h =
      let parts = or_parts (any_crosses l p.recs) (any_crosses l (flat_map (λ (p : CallRecord). p.recs) ps)) (sym (list_any-append (crosses l) p.recs _) ∙ h) in
      ap (λ b. cond b [] (p ∷ up_to l ps)) parts.0 ∙ ap (λ qs. p ∷ qs) (calls_inside ps parts.1)

  pub run_inside : (w : World) (items : List ScriptItem) → any_crosses l (all_recs w items) ≡ false → up_to l (run (boot w) items) ≡ run (boot w) items
  run_inside w items h =
      calls_inside (run (boot w) items)
      (or_parts (any_crosses l (boot_recs w)) (any_crosses l (flat_map (λ (p : CallRecord). p.recs) (run (boot w) items)))
      (sym (list_any-append (crosses l) (boot_recs w) _) ∙ h)).1
