-- Runs of which no record passes a test.
use Rattle.std.specs.Prelude.{◌≡◌, Bool, false, List, [], ◌∷◌, ◌++◌, refl}
use Rattle.std.specs.List.{flat_map, list_any}
use Rattle.std.proofs.Common.{◌∙◌}
use Rattle.std.proofs.lemmas.Bool.{or_from}
use Rattle.std.proofs.lemmas.List.Folds.{list_any-append}
use Rattle.cap_bits.specs.declared.state.CapState.{CapState}
use Rattle.lab_lattice.specs.Label.{Label}
use Rattle.kern_model.specs.declared.calls.Call.{Call}
use Rattle.kern_model.specs.declared.numbers.Pid.{Pid}
use Rattle.kern_model.specs.declared.records.Rec.{Rec}
use Rattle.kern_model.specs.declared.records.Rec.TheVariants as rec
use Rattle.kern_model.specs.declared.world.ScriptItem.{ScriptItem}
use Rattle.kern_model.specs.declared.world.World.{World}
use Rattle.kern_model.specs.declared.world.WorldProc.{WorldProc}
use Rattle.kern_model.specs.Boot.{boot, boot_process, boot_recs, boot_recs_from, objects_loaded}
use Rattle.kern_model.specs.Lineage.{all_recs}
use Rattle.kern_model.specs.Run.{CallRecord, run}
use Rattle.kern_model.specs.State.{State, next_process}
use Rattle.kern_model.specs.Step.{step}

none-append : {X : Type 0} (test : X → Bool) (xs ys : List X) → list_any test xs ≡ false → list_any test ys ≡ false → list_any test (xs ++ ys) ≡ false
none-append test xs ys h g = list_any-append test xs ys ∙ or_from (list_any test xs) (list_any test ys) h g

-- a test that no record of a start passes, and none of a step from a state with P, which the step keeps
module _ (test : Rec → Bool)
    (starts : (who : Pid) (label : Label) (caps : CapState) → test (rec.Boot who label caps) ≡ false)
    (P : State → Type 0) (kept : (s : State) (who : Pid) (called : Call) → P s → P (step s who called).state)
    (none : (s : State) (who : Pid) (called : Call) → P s → list_any test (step s who called).recs ≡ false) where
  none_from : (items : List ScriptItem) (s : State) → P s → list_any test (flat_map (λ (p : CallRecord). p.recs) (run s items)) ≡ false
  none_from [] s h = refl
  none_from (i ∷ is) s h =
      none-append test (step s i.who i.call).recs _ (none s i.who i.call h) (none_from is (step s i.who i.call).state (kept s i.who i.call h))

  none_at_start : (ws : List WorldProc) (s : State) → list_any test (boot_recs_from s ws) ≡ false
  none_at_start [] s = refl
  none_at_start (w ∷ ws) s = or_from _ _ (starts (next_process s w.label) w.label w.caps) (none_at_start ws (boot_process s w))

  pub none_recorded : (w : World) (items : List ScriptItem) → P (boot w) → list_any test (all_recs w items) ≡ false
  none_recorded w items h = none-append test (boot_recs w) _ (none_at_start w.procs (objects_loaded w)) (none_from items (boot w) h)
