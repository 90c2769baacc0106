-- A process ends, step by step: it goes, its parent learns of it, and its children lose their parent.
use Rattle.std.specs.Prelude.{◌≡◌, ◌++◌, true, false, [], ◌∷◌, Option, Some, None, cond, option_map, refl}
use Rattle.std.specs.FinMap as map
use Rattle.std.specs.FinMap.{FinMap, get-insert, same_map}
use Rattle.std.specs.Ordering.{eq_by_cmp}
use Rattle.std.proofs.Common.{sym, ap, ◌∙◌}
use Rattle.kern_model.specs.declared.calls.Ending.{Ending}
use Rattle.kern_model.specs.declared.numbers.Pid.{Pid}
use Rattle.kern_model.specs.Keys.{is_pid, pid_cmp}
use Rattle.kern_model.specs.ProcessRows.{process_after_end}
use Rattle.kern_model.specs.State.{Process}
use Rattle.kern_model.proofs.KeyLaws.{pid_cmp_total, pid_cmp_exact}
use Rattle.kern_model.proofs.MapLemmas.{same_key}
use Rattle.kern_model.proofs.Selections.{get-select_each}
use Rattle.proc_table.specs.Procs.{all_without_parent, change_process_at, ended_by, without_parent_if, change_process_if, with_ended}

module _ (m : FinMap pid_cmp Process) (who : Pid) (how : Ending) where
  -- what becomes of another process, by the parent of the one that ended
  abbrev left : Option Pid → Pid → Process → Process
  left o q x = record x { parent = cond (is_pid who x.parent) None x.parent; ended = cond (is_pid q o) (x.ended ++ (who, how) ∷ []) x.ended }

  at_none : (q : Pid) (w : Option Process) → option_map (without_parent_if who) w ≡ option_map (left None q) w
  at_none q None = refl
  at_none q (Some x) = refl

  elsewhere : (r q : Pid) → eq_by_cmp pid_cmp q r ≡ false → (w : Option Process) → option_map (without_parent_if who) w ≡ option_map (left (Some r) q) w
  elsewhere r q other None = refl
  elsewhere r q other (Some x) = ap (λ b. Some (record (without_parent_if who x) { ended = cond b (x.ended ++ (who, how) ∷ []) x.ended })) (sym other)

  at_parent : (r q : Pid) → eq_by_cmp pid_cmp q r ≡ true → (x : Process) → without_parent_if who (with_ended who how x) ≡ left (Some r) q x
  at_parent r q same x = ap (λ b. record (without_parent_if who x) { ended = cond b (x.ended ++ (who, how) ∷ []) x.ended }) (sym same)

  at_some : (r q : Pid) (o : Option Process) → map.get m r ≡ o → option_map (without_parent_if who) (map.get (change_process_at m r (with_ended who how) o) q) ≡ option_map (left (Some r) q) (map.get m q)
  at_some r q None is = elim (eq_by_cmp pid_cmp q r) as (λ b. eq_by_cmp pid_cmp q r ≡ b → option_map (without_parent_if who) (map.get m q) ≡ option_map (left (Some r) q) (map.get m q)) [
    | true ↦ λ t. let none = ap (map.get m) (same_key pid_cmp_exact q r t) ∙ is in ap (option_map (without_parent_if who)) none ∙ sym (ap (option_map (left (Some r) q)) none)
    | false ↦ λ t. elsewhere r q t (map.get m q)
  ] refl
  at_some r q (Some y) is = ap (option_map (without_parent_if who)) (get-insert pid_cmp_total m r (with_ended who how y) q)
      ∙ elim (eq_by_cmp pid_cmp q r) as (λ b. eq_by_cmp pid_cmp q r ≡ b → option_map (without_parent_if who) (cond b (Some (with_ended who how y)) (map.get m q)) ≡ option_map (left (Some r) q) (map.get m q)) [
        | true ↦ λ t. ap Some (at_parent r q t y) ∙ sym (ap (option_map (left (Some r) q)) (ap (map.get m) (same_key pid_cmp_exact q r t) ∙ is))
        | false ↦ λ t. elsewhere r q t (map.get m q)
      ] refl

  each_left : (o : Option Pid) (q : Pid) → option_map (without_parent_if who) (map.get (change_process_if m o (with_ended who how)) q) ≡ option_map (left o q) (map.get m q)
  each_left None q = at_none q (map.get m q)
  each_left (Some r) q = at_some r q (map.get m r) refl

-- the steps end as the model says
pub ended_in_steps : (procs : FinMap pid_cmp Process) (who : Pid) (p : Process) (how : Ending)
    → all_without_parent who (change_process_if (map.remove procs who) p.parent (with_ended who how)) ≡ ended_by procs who p how
ended_in_steps procs who p how = same_map pid_cmp_total pid_cmp_exact _ _ (λ q.
    get-select_each pid_cmp_total pid_cmp_exact (λ (q : Pid) (other : Process). without_parent_if who other) (change_process_if (map.remove procs who) p.parent (with_ended who how)) q
    ∙ each_left (map.remove procs who) who how p.parent q
    ∙ sym (get-select_each pid_cmp_total pid_cmp_exact (process_after_end who p how) (map.remove procs who) q))
