-- The row of each call: the labels of its checks and of its own record are below top. And so are those of all records of a run.
use Rattle.std.specs.Prelude.{◌≡◌, true, List, [], ◌∷◌, Some}
use Rattle.std.specs.List.{AllByRecursion, flat_map}
use Rattle.std.proofs.Common.{sym, subst}
use Rattle.std.specs.FinMap as map
use Rattle.lab_lattice.specs.Label.{Label}
use Rattle.kern_model.specs.declared.calls.Call.{Call}
use Rattle.kern_model.specs.declared.numbers.Pid.{Pid}
use Rattle.kern_model.specs.declared.world.ScriptItem.{ScriptItem}
use Rattle.kern_model.specs.declared.world.WorldProc.{WorldProc}
use Rattle.kern_model.specs.Arguments.{is_call, is_script}
use Rattle.kern_model.specs.Boot.{boot, boot_process, boot_recs, objects_loaded, boot_recs_from}
use Rattle.kern_model.specs.Names.{name_of}
use Rattle.kern_model.specs.Run.{CallRecord, run}
use Rattle.kern_model.specs.State.{State, Process}
use Rattle.kern_model.specs.Step.{step}
use Rattle.kern_model.specs.Table.{row}
use Rattle.kern_model.specs.Valid.{IsValid}
use Rattle.kern_model.specs.World.{IsWorldProc}
use Rattle.iso_laws.specs.Labels.{HasLabelsBelow}
use Rattle.iso_laws.specs.Laws.{LabelsBelow, RecordsBelow}
use Rattle.iso_laws.proofs.AllLemmas.{all-append}
use Rattle.iso_laws.proofs.Along.{NothingKnown, along_below}
use Rattle.iso_laws.proofs.BelowRows.{RowBelow, AllBelow, process_below, row_leaves}
use Rattle.iso_laws.proofs.Booting.{top_boot}
use Rattle.iso_laws.proofs.EffectLaws.{check_below, own_below_effect}
use Rattle.iso_laws.proofs.Effects.{PremiseHolds}
use Rattle.iso_laws.proofs.RowKinds.{row_kinds}
use Rattle.iso_laws.proofs.Runs.{first_of_script}
use Rattle.iso_laws.proofs.Steps.{step_cases, top_step, valid_step}
use Rattle.iso_laws.proofs.ValidBoot.{valid_boot}

-- the row of each call
row_below : (s : State) → IsValid s → (who : Pid) (p : Process) → map.get s.procs who ≡ Some p → (c : Call) → is_call s.top c ≡ true
    → RowBelow s.top (row s who p c)
row_below s valid who p is c args =
    along_below s.top _ _ (check_below s valid who p is (PremiseHolds s c) args) (own_below_effect s valid who p is (PremiseHolds s c) args NothingKnown NothingKnown)
    (row s who p c)
    (row_kinds NothingKnown NothingKnown (PremiseHolds s c) s who p is c (λ x h. h))

-- the records of a step
pub records_below : RecordsBelow
records_below s who c args valid = step_cases s who c (λ o. AllBelow s.top o.recs)
    (λ _. tt)
    (λ p is.
    row_leaves s.top who p (process_below s valid who p is) (valid.procs who p is).below s (name_of c) (row s who p c) (row_below s valid who p is c args))

-- the records of a run from a state on
run_below : (items : List ScriptItem) (s : State) → is_script s.top items ≡ true → IsValid s
    → AllBelow s.top (flat_map (λ (p : CallRecord). p.recs) (run s items))
run_below [] s args valid = tt
run_below (i ∷ is) s args valid =
    let first = first_of_script s i is args in
    let next : State = (step s i.who i.call).state in
    all-append (HasLabelsBelow s.top) (step s i.who i.call).recs _ (records_below s i.who i.call first.args valid)
    (subst (λ (top : Label). AllBelow top (flat_map (λ (p : CallRecord). p.recs) (run next is))) (top_step s i.who i.call)
    (run_below is next first.later_args (valid_step s i.who i.call first.args first.names valid)))

-- the records of a start
start_below : (top : Label) (ws : List WorldProc) (s : State) → AllByRecursion (IsWorldProc top) ws → AllBelow top (boot_recs_from s ws)
start_below top [] s all = tt
start_below top (w ∷ ws) s all = ((all.0.below, (all.0.below, tt)), start_below top ws (boot_process s w) all.1)

-- the records of a run
pub labels_below : LabelsBelow
labels_below w items world args =
    all-append (HasLabelsBelow w.top) (boot_recs w) _ (start_below w.top w.procs (objects_loaded w) world.procs)
    (subst (λ (top : Label). AllBelow top (flat_map (λ (p : CallRecord). p.recs) (run (boot w) items))) (top_boot w)
    (run_below items (boot w) (subst (λ (top : Label). is_script top items ≡ true) (sym (top_boot w)) args) (valid_boot w world)))
