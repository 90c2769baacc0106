-- What is kept of children and counted, after a change of the living processes.
use Rattle.std.specs.Prelude.{◌≡◌, ℕ, ◌+◌, ◌≤◌, ◌<◌, Bool, true, false, not, ◌&&◌, ◌||◌, [], Option, Some, None, cond, length, is_some, refl}
use Rattle.std.specs.FinMap as map
use Rattle.std.specs.FinMap.{FinMap, get-empty, get-insert, len-empty, len-insert}
use Rattle.std.specs.Ordering.{eq_by_cmp}
use Rattle.std.proofs.Common.{sym, ap, ◌∙◌, arith}
use Rattle.std.proofs.Math.Bool.{and-false}
use Rattle.kern_model.specs.declared.numbers.Pid.{Pid}
use Rattle.kern_model.specs.Keys.{is_pid, pid_cmp, same_pid}
use Rattle.kern_model.specs.State.{Process}
use Rattle.kern_model.proofs.KeyLaws.{pid_cmp_total, pid_cmp_exact}
use Rattle.kern_model.proofs.MapLemmas.{each-insert, never_some, same_key}
use Rattle.proc_creds.specs.Credentials.{Credentials}
use Rattle.proc_table.specs.Procs.{set_creds, under_creds, with_creds}
use Rattle.proc_table.specs.declared.table.TheConstants.{MAX_MADE}
use Rattle.proc_table.specs.Children.{IsKept, ChildIndex, has_parent, is_child}

pub none_kept : (children : ChildIndex) → ((q c : Pid) → is_child children q c ≡ false) → IsKept map.empty children 0
none_kept children none = record {
  index = λ q c. none q c ∙ ap (λ (o : Option Process). has_parent o q) (sym (get-empty pid_cmp c));
  room = λ q p is. absurd (never_some (map.get map.empty q) p (get-empty pid_cmp q) is);
  all = let size = len-empty pid_cmp Process in omega (arith, size);
  few = omega arith;
}

pub alone : (a : Bool) → (a && true || false) ≡ a
alone true = refl
alone false = refl

module _ (living : FinMap pid_cmp Process) (children : ChildIndex) (made : ℕ) (kept : IsKept living children made) where
  -- the same children are kept
  pub kept_alike : (new : ChildIndex) → ((q c : Pid) → is_child new q c ≡ is_child children q c) → IsKept living new made
  kept_alike new alike = record { index = λ q c. alike q c ∙ kept.index q c; room = kept.room; all = kept.all; few = kept.few }

  module _ (who : Pid) (old : Process) (is : map.get living who ≡ Some old) (new : Process) where
    same_size : map.len (map.insert living who new) ≡ map.len living
    same_size = len-insert pid_cmp_total living who new ∙ ap (λ (o : Option Process). cond (is_some o) (map.len living) (map.len living + 1)) is

    -- a living process may change, but for its parent, while there is room for its list of ended children
    pub kept_set : new.parent ≡ old.parent → length new.ended + map.len living ≤ made → IsKept (map.insert living who new) children made
    kept_set parent fits = record {
      index = λ q c. kept.index q c
          ∙ elim (eq_by_cmp pid_cmp c who) as (λ b. eq_by_cmp pid_cmp c who ≡ b → has_parent (map.get living c) q ≡ has_parent (cond b (Some new) (map.get living c)) q) [
            | true ↦ λ t. ap (λ (o : Option Process). has_parent o q) (ap (map.get living) (same_key pid_cmp_exact c who t) ∙ is) ∙ ap (is_pid q) (sym parent)
            | false ↦ λ _. refl
          ] refl
          ∙ ap (λ (o : Option Process). has_parent o q) (sym (get-insert pid_cmp_total living who new c));
      room = each-insert pid_cmp_total pid_cmp_exact (λ (q : Pid) (p : Process). length p.ended + map.len (map.insert living who new) ≤ made) living
          (λ q p there. let room = kept.room q p there in omega (arith, room, same_size))
          who new (omega (arith, fits, same_size));
      all = let all = kept.all in omega (arith, all, same_size);
      few = kept.few;
    }

    -- and so it may where its list does not grow
    pub kept_changed : new.parent ≡ old.parent → length new.ended ≤ length old.ended → IsKept (map.insert living who new) children made
    kept_changed parent shorter = kept_set parent (let room = kept.room who old is in omega (arith, room, shorter))

  pub creds_kept : (who : Pid) (c : Credentials) → IsKept (under_creds living who c) children made
  creds_kept who c = elim (map.get living who) as (λ o. map.get living who ≡ o → IsKept (set_creds living who c o) children made) [
    | None ↦ λ _. kept
    | Some p ↦ λ is. kept_changed who p is (with_creds p c) refl (omega arith)
  ] refl

  module _ (who : Pid) (none : map.get living who ≡ None) (parent : Option Pid) where
    -- it is no child before
    pub is_new : (q : Pid) → is_child children q who ≡ false
    is_new q = kept.index q who ∙ ap (λ (o : Option Process). has_parent o q) none

    undone : (q c : Pid) (b : Bool) → same_pid c who ≡ b → (not b && (is_pid q parent && b || is_child children q c)) ≡ is_child children q c
    undone q c true t = sym (ap (is_child children q) (same_key pid_cmp_exact c who t) ∙ is_new q)
    undone q c false _ = ap (λ b. b || is_child children q c) (and-false (is_pid q parent))

    -- a child is entered, and removed again
    pub kept_undone : (added : ChildIndex) → ((q c : Pid) → is_child added q c ≡ (is_pid q parent && same_pid c who || is_child children q c))
        → (new : ChildIndex) → ((q c : Pid) → is_child new q c ≡ (not (same_pid c who) && is_child added q c)) → IsKept living new made
    kept_undone added adds new removes = kept_alike new (λ q c. removes q c ∙ ap (λ b. not (same_pid c who) && b) (adds q c) ∙ undone q c (same_pid c who) refl)

    -- a process is made
    pub kept_made : (p : Process) → p.parent ≡ parent → p.ended ≡ [] → made < MAX_MADE → (new : ChildIndex)
        → ((q c : Pid) → is_child new q c ≡ (is_pid q parent && same_pid c who || is_child children q c)) → IsKept (map.insert living who p) new (made + 1)
    kept_made p its none_ended more new adds =
        let size : map.len (map.insert living who p) ≡ map.len living + 1 = len-insert pid_cmp_total living who p ∙ ap (λ (o : Option Process). cond (is_some o) (map.len living) (map.len living + 1)) none in
        record {
          index = λ q c. adds q c
              ∙ elim (same_pid c who) as (λ b. same_pid c who ≡ b → (is_pid q parent && b || is_child children q c) ≡ has_parent (cond b (Some p) (map.get living c)) q) [
                | true ↦ λ t. ap (λ b. is_pid q parent && true || b) (kept.index q c ∙ ap (λ (o : Option Process). has_parent o q) (ap (map.get living) (same_key pid_cmp_exact c who t) ∙ none)) ∙ alone (is_pid q parent) ∙ ap (is_pid q) (sym its)
                | false ↦ λ _. ap (λ b. b || is_child children q c) (and-false (is_pid q parent)) ∙ kept.index q c
              ] refl
              ∙ ap (λ (o : Option Process). has_parent o q) (sym (get-insert pid_cmp_total living who p c));
          room = each-insert pid_cmp_total pid_cmp_exact (λ (q : Pid) (x : Process). length x.ended + map.len (map.insert living who p) ≤ made + 1) living
              (λ q x there. let room = kept.room q x there in omega (arith, room, size))
              who p (let all = kept.all in let empty = ap length none_ended in omega (arith, all, size, empty));
          all = let all = kept.all in omega (arith, all, size);
          few = omega (arith, more);
        }
