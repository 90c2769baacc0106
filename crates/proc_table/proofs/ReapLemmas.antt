-- A child that ended is taken off the list of its parent.
use Rattle.std.specs.Prelude.{◌≡◌, ℕ, ◌≤◌, true, false, List, [], ◌∷◌, Option, Some, None, MatchOption, length, refl}
use Rattle.std.specs.FinMap as map
use Rattle.std.specs.FinMap.{FinMap}
use Rattle.std.proofs.Common.{sym, ap, ◌∙◌, arith}
use Rattle.std.proofs.lemmas.Bool.{true≢false}
use Rattle.lab_lattice.specs.Label.{label_cmp}
use Rattle.kern_model.specs.declared.calls.Ending.{Ending}
use Rattle.kern_model.specs.declared.numbers.Pid.{Pid}
use Rattle.kern_model.specs.Keys.{is_pid, pid_cmp}
use Rattle.kern_model.specs.State.{Process}
use Rattle.kern_model.proofs.KeyLaws.{pid_cmp_total, pid_cmp_exact}
use Rattle.kern_model.proofs.MapLemmas.{insert-same}
use Rattle.kern_model.proofs.Selections.{none_pass, one_passes}
use Rattle.proc_table.specs.Children.{IsKept, ChildIndex, has_parent, is_child}
use Rattle.proc_table.specs.Procs.{AreDrawn, TakesEnded, has_living_child}
use Rattle.proc_table.proofs.ChangeLemmas.{changed_kept}

shorter : (first : Option (Pid × Ending)) (xs left : List (Pid × Ending)) → MatchOption first ((xs ≡ []) × (left ≡ [])) (λ e. xs ≡ e ∷ left) → length left ≤ length xs
shorter None xs left h = let none = ap length h.1 in omega (arith, none)
shorter (Some e) xs left h = let more = ap length h in omega (arith, more)

module _ (living new : FinMap pid_cmp Process) (who : Pid) (p : Process) (is : map.get living who ≡ Some p) where
  -- nothing changes where no child ended
  pub none_taken : TakesEnded living new who p None → new ≡ living
  none_taken t = t.now ∙ ap (λ (l : List (Pid × Ending)). map.insert living who (record p { ended = l })) (t.list.1 ∙ sym t.list.0) ∙ insert-same pid_cmp_total pid_cmp_exact living who p is

  -- the processes stay drawn, and the same children are kept
  pub taken_kept : (first : Option (Pid × Ending)) → TakesEnded living new who p first → (numbers : FinMap label_cmp ℕ) (children : ChildIndex) (made : ℕ)
      → AreDrawn living numbers × IsKept living children made → AreDrawn new numbers × IsKept new children made
  taken_kept first t numbers children made h =
      changed_kept living new numbers who p (record p { ended = t.left }) (sym is) t.now refl (shorter first p.ended t.left t.list) children made h

module _ (living : FinMap pid_cmp Process) (children : ChildIndex) (made : ℕ) (kept : IsKept living children made) (who : Pid) where
  -- a process has a living child exactly where one is kept
  pub no_child : ((c : Pid) → is_child children who c ≡ false) → has_living_child living who ≡ false
  no_child none = none_pass pid_cmp_total pid_cmp_exact (λ (q : Pid) (child : Process). is_pid who child.parent) living (λ c x is. ap (λ (o : Option Process). has_parent o who) (sym is) ∙ sym (kept.index who c) ∙ none c)

  pub a_child : (c : Pid) → is_child children who c ≡ true → has_living_child living who ≡ true
  a_child c t = elim (map.get living c) as (λ o. map.get living c ≡ o → has_living_child living who ≡ true) [
    | None ↦ λ is. absurd (true≢false (sym t ∙ kept.index who c ∙ ap (λ (o : Option Process). has_parent o who) is))
    | Some x ↦ λ is. one_passes pid_cmp_total pid_cmp_exact (λ (q : Pid) (child : Process). is_pid who child.parent) living c x is (ap (λ (o : Option Process). has_parent o who) (sym is) ∙ sym (kept.index who c) ∙ t)
  ] refl
