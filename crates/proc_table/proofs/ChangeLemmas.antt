-- A living process that is changed at its place.
use Rattle.std.specs.Prelude.{◌≡◌, ℕ, ◌≤◌, Some, length}
use Rattle.std.specs.FinMap as map
use Rattle.std.specs.FinMap.{FinMap}
use Rattle.std.proofs.Common.{ap, sym, ◌∙◌, subst}
use Rattle.lab_lattice.specs.Label.{label_cmp}
use Rattle.kern_model.specs.declared.numbers.Pid.{Pid}
use Rattle.kern_model.specs.Keys.{pid_cmp}
use Rattle.kern_model.specs.State.{Process}
use Rattle.kern_model.proofs.MapLemmas.{some_same}
use Rattle.proc_table.specs.Children.{IsKept, ChildIndex}
use Rattle.proc_table.specs.Procs.{AreDrawn, ProcTable, with_process}
use Rattle.proc_table.proofs.DrawnLemmas.{still_drawn}
use Rattle.proc_table.proofs.KeptLemmas.{kept_changed}

module _ (living procs : FinMap pid_cmp Process) (numbers : FinMap label_cmp ℕ) (who : Pid) where
  -- the processes stay drawn, and the same children are kept, where it keeps its parent and its list of ended children does not grow
  pub changed_kept : (old new : Process) → Some old ≡ map.get living who → procs ≡ map.insert living who new → new.parent ≡ old.parent → length new.ended ≤ length old.ended → (children : ChildIndex) (made : ℕ)
      → AreDrawn living numbers × IsKept living children made → AreDrawn procs numbers × IsKept procs children made
  changed_kept old new found set parent shorter children made are =
      subst (λ (m : FinMap pid_cmp Process). AreDrawn m numbers × IsKept m children made) (sym set)
      (still_drawn living numbers are.0 who old (sym found) new, kept_changed living children made are.1 who old (sym found) new parent shorter)

  -- and the table that is seen ends with the changed process
  pub changed_table : (t : ProcTable) → ◌≡◌ {A = ProcTable} (record { procs = living; numbers = numbers }) t → (f : Process → Process) (x p : Process) → Some x ≡ map.get living who → procs ≡ map.insert living who (f x)
      → map.get t.procs who ≡ Some p → ◌≡◌ {A = ProcTable} (record { procs = procs; numbers = numbers }) (with_process t who (f p))
  changed_table t view f x p found set there =
      let same : x ≡ p = some_same x p (found ∙ ap (λ (t : ProcTable). map.get t.procs who) view ∙ there) in
      ap (λ (m : FinMap pid_cmp Process). record { procs = m; numbers = numbers }) set
      ∙ ap (λ (q : Process). record { procs = map.insert living who (f q); numbers = numbers }) same
      ∙ ap (λ (t : ProcTable). with_process t who (f p)) view
