-- The number of each living process is drawn.
use Rattle.std.specs.Prelude.{◌≡◌, ℕ, ◌+◌, ◌≤◌, Some, None, refl}
use Rattle.std.specs.FinMap as map
use Rattle.std.specs.FinMap.{FinMap, get-empty}
use Rattle.std.proofs.Common.{sym, subst, arith}
use Rattle.lab_lattice.specs.Label.{Label, label_cmp}
use Rattle.lab_lattice.proofs.Labels.{label_cmp_total, label_cmp_exact}
use Rattle.kern_model.specs.declared.numbers.Pid.{Pid}
use Rattle.kern_model.specs.Keys.{pid_cmp}
use Rattle.kern_model.specs.State.{Process, last_drawn}
use Rattle.kern_model.proofs.KeyLaws.{pid_cmp_total, pid_cmp_exact}
use Rattle.kern_model.proofs.MapLemmas.{each-insert, get-insert_same, get_or-found, never_some}
use Rattle.kern_model.proofs.TableLemmas.{each_set_at}
use Rattle.proc_creds.specs.Credentials.{Credentials}
use Rattle.proc_table.specs.Procs.{AreDrawn, set_creds, under_creds, with_creds}

-- a number that was drawn next
pub drawn_next : (numbers : FinMap label_cmp ℕ) (label : Label) (who : Pid) → who ≡ record { label = label; n = last_drawn numbers label + 1 } → who.n ≡ last_drawn numbers who.label + 1
drawn_next numbers label who is = subst (λ (w : Pid). w.n ≡ last_drawn numbers w.label + 1) (sym is) refl

pub none_drawn : (numbers : FinMap label_cmp ℕ) → AreDrawn map.empty numbers
none_drawn numbers who p is = absurd (never_some (map.get map.empty who) p (get-empty pid_cmp who) is)

module _ (procs : FinMap pid_cmp Process) (numbers : FinMap label_cmp ℕ) (are : AreDrawn procs numbers) where
  -- a living process may change
  pub still_drawn : (who : Pid) (old : Process) → map.get procs who ≡ Some old → (new : Process) → AreDrawn (map.insert procs who new) numbers
  still_drawn who old is new = each-insert pid_cmp_total pid_cmp_exact (λ (q : Pid) (p : Process). q.n ≤ last_drawn numbers q.label) procs are who new (are who old is)

  pub creds_drawn : (who : Pid) (c : Credentials) → AreDrawn (under_creds procs who c) numbers
  creds_drawn who c = elim (map.get procs who) as (λ o. map.get procs who ≡ o → AreDrawn (set_creds procs who c o) numbers) [
    | None ↦ λ _. are
    | Some p ↦ λ is. still_drawn who p is (with_creds p c)
  ] refl

  module _ (who : Pid) (next : who.n ≡ last_drawn numbers who.label + 1) where
    -- numbers drawn never fall
    rises : (l : Label) → last_drawn numbers l ≤ last_drawn (map.insert numbers who.label who.n) l
    rises = each_set_at label_cmp_total label_cmp_exact (λ l n. last_drawn numbers l ≤ n) 0 numbers who.label who.n (omega (arith, next)) (λ l. omega arith)

    now_drawn : last_drawn (map.insert numbers who.label who.n) who.label ≡ who.n
    now_drawn = get_or-found (map.insert numbers who.label who.n) who.label 0 who.n (get-insert_same label_cmp_total numbers who.label who.n)

    old_drawn : AreDrawn procs (map.insert numbers who.label who.n)
    old_drawn q p is = let low = are q p is in let more = rises q.label in omega (arith, low, more)

    -- a process may be added under it
    pub made_drawn : (p : Process) (procs' : FinMap pid_cmp Process) (numbers' : FinMap label_cmp ℕ) → procs' ≡ map.insert procs who p → numbers' ≡ map.insert numbers who.label who.n → AreDrawn procs' numbers'
    made_drawn p procs' numbers' procs_are numbers_are =
        subst (λ (m : FinMap pid_cmp Process). AreDrawn m numbers') (sym procs_are) (subst (λ (m : FinMap label_cmp ℕ). AreDrawn (map.insert procs who p) m) (sym numbers_are)
        (each-insert pid_cmp_total pid_cmp_exact (λ (q : Pid) (x : Process). q.n ≤ last_drawn (map.insert numbers who.label who.n) q.label) procs old_drawn who p (omega (arith, now_drawn))))
