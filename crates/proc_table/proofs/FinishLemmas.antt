-- What is kept of children and counted, while a process ends.
use Rattle.std.specs.Prelude.{◌≡◌, ◌≢◌, ℕ, ◌+◌, ◌-◌, ◌≤◌, ◌<◌, ◌^◌, Bool, true, false, not, ◌&&◌, [], ◌∷◌, ◌++◌, Option, Some, None, cond, length, is_some, option_map, refl}
use Rattle.std.specs.FinMap as map
use Rattle.std.specs.FinMap.{FinMap, empty_of_len, get-empty, get-insert, get-remove, len-insert, len-remove, same_map}
use Rattle.std.proofs.Common.{sym, ap, ◌∙◌, arith, length-append}
use Rattle.std.proofs.lemmas.Bool.{true≢false}
use Rattle.lab_lattice.specs.Label.{label_cmp}
use Rattle.kern_model.specs.declared.calls.Ending.{Ending}
use Rattle.kern_model.specs.declared.numbers.Pid.{Pid}
use Rattle.kern_model.specs.Keys.{is_pid, pid_cmp, same_pid}
use Rattle.kern_model.specs.ProcessRows.{process_after_end}
use Rattle.kern_model.specs.State.{Process, last_drawn}
use Rattle.kern_model.proofs.KeyLaws.{pid_cmp_total, pid_cmp_exact}
use Rattle.kern_model.proofs.MapLemmas.{each-insert, each-remove, insert-same, never_some, same_key}
use Rattle.kern_model.proofs.Selections.{get-select_each, select-insert_each}
use Rattle.proc_table.specs.Children.{IsKept, ChildIndex, has_parent, is_child}
use Rattle.proc_table.specs.Procs.{AreDrawn, all_without_parent, change_process_at, change_process, ended_by, without_parent_if, change_process_if, with_ended, without_parent}
use Rattle.proc_table.proofs.KeptLemmas.{kept_set}

module _ (living : FinMap pid_cmp Process) (children : ChildIndex) (made : ℕ) (kept : IsKept living children made) where
  -- the processes without one, or where one has lost its parent
  module _ (who : Pid) (new : ChildIndex) (removes : (q c : Pid) → is_child new q c ≡ (not (same_pid c who) && is_child children q c))
      (instead : Option Process) (no_parent : (q : Pid) → has_parent instead q ≡ false) where
    index_at : (q c : Pid) (b : Bool) → (not b && is_child children q c) ≡ has_parent (cond b instead (map.get living c)) q
    index_at q c true = sym (no_parent q)
    index_at q c false = kept.index q c

    index_left : (q c : Pid) → is_child new q c ≡ has_parent (cond (same_pid c who) instead (map.get living c)) q
    index_left q c = removes q c ∙ index_at q c (same_pid c who)

  -- a process goes
  module _ (who : Pid) (p : Process) (is : map.get living who ≡ Some p) where
    one_less : map.len (map.remove living who) + 1 ≡ map.len living
    one_less =
        let less : map.len (map.remove living who) ≡ map.len living - 1 = len-remove pid_cmp_total living who ∙ ap (λ (o : Option Process). cond (is_some o) (map.len living - 1) (map.len living)) is in
        let some : map.len living ≢ 0 = λ e. never_some (map.get living who) p (ap (λ (m : FinMap pid_cmp Process). map.get m who) (empty_of_len living e) ∙ get-empty pid_cmp who) is in
        omega (arith, less, some)

    -- there is room for one more ended child in each list
    room_left : (q : Pid) (x : Process) → map.get (map.remove living who) q ≡ Some x → length x.ended + map.len (map.remove living who) + 1 ≤ made
    room_left q x there = let room = each-remove pid_cmp_total pid_cmp_exact (λ (q : Pid) (x : Process). length x.ended + map.len living ≤ made) living kept.room who q x there in omega (arith, room, one_less)

    kept_removed : (new : ChildIndex) → ((q c : Pid) → is_child new q c ≡ (not (same_pid c who) && is_child children q c)) → IsKept (map.remove living who) new made
    kept_removed new removes = record {
      index = λ q c. index_left who new removes None (λ _. refl) q c ∙ ap (λ (o : Option Process). has_parent o q) (sym (get-remove pid_cmp_total living who c));
      room = λ q x there. let room = room_left q x there in omega (arith, room);
      all = let all = kept.all in omega (arith, all, one_less);
      few = kept.few;
    }

  -- the parent of a process that ended, if it lives, learns of it
  module _ (room : (q : Pid) (x : Process) → map.get living q ≡ Some x → length x.ended + map.len living + 1 ≤ made) (who : Pid) (how : Ending) where
    told_at : (q : Pid) (o : Option Process) → map.get living q ≡ o → IsKept (change_process_at living q (with_ended who how) o) children made
    told_at q None is = kept
    told_at q (Some x) is = kept_set living children made kept q x is (with_ended who how x) refl
        (let fits = room q x is in let one : length (x.ended ++ (who, how) ∷ []) ≡ length x.ended + 1 = length-append x.ended ((who, how) ∷ []) in omega (arith, fits, one))

    kept_told : (o : Option Pid) → IsKept (change_process_if living o (with_ended who how)) children made
    kept_told None = kept
    kept_told (Some q) = told_at q (map.get living q) refl

  -- a child is left without a parent
  module _ (who c : Pid) (child : is_child children who c ≡ true) where
    its : (o : Option Pid) → is_pid who o ≡ true → o ≡ Some who
    its None t = absurd (true≢false (sym t))
    its (Some q) t = ap Some (sym (same_key pid_cmp_exact who q t))

    abbrev orphaned : Option Process → FinMap pid_cmp Process
    orphaned o = change_process_at living c without_parent o

    kept_at : (o : Option Process) → map.get living c ≡ o → (new : ChildIndex) → ((q d : Pid) → is_child new q d ≡ (not (same_pid d c) && is_child children q d)) → IsKept (orphaned o) new made
    kept_at None is new removes = absurd (true≢false (sym child ∙ kept.index who c ∙ ap (λ (o : Option Process). has_parent o who) is))
    kept_at (Some x) is new removes =
        let size : map.len (map.insert living c (without_parent x)) ≡ map.len living = len-insert pid_cmp_total living c (without_parent x) ∙ ap (λ (o : Option Process). cond (is_some o) (map.len living) (map.len living + 1)) is in
        record {
          index = λ q d. index_left c new removes (Some (without_parent x)) (λ _. refl) q d
              ∙ ap (λ (o : Option Process). has_parent o q) (sym (get-insert pid_cmp_total living c (without_parent x) d));
          room = each-insert pid_cmp_total pid_cmp_exact (λ (q : Pid) (p : Process). length p.ended + map.len (map.insert living c (without_parent x)) ≤ made) living
              (λ q p there. let room = kept.room q p there in omega (arith, room, size))
              c (without_parent x) (let room = kept.room c x is in omega (arith, room, size));
          all = let all = kept.all in omega (arith, all, size);
          few = kept.few;
        }

    pub kept_orphaned : (new : ChildIndex) → ((q d : Pid) → is_child new q d ≡ (not (same_pid d c) && is_child children q d)) → IsKept (change_process living c without_parent) new made
    kept_orphaned = kept_at (map.get living c) refl

    parted_at : (o : Option Process) → map.get living c ≡ o → all_without_parent who (orphaned o) ≡ all_without_parent who living
    parted_at None is = refl
    parted_at (Some x) is =
        let parent : is_pid who x.parent ≡ true = sym (kept.index who c ∙ ap (λ (o : Option Process). has_parent o who) is) ∙ child in
        select-insert_each pid_cmp_total pid_cmp_exact (λ (q : Pid) (other : Process). without_parent_if who other) living c (without_parent x)
        ∙ insert-same pid_cmp_total pid_cmp_exact (all_without_parent who living) c (without_parent x)
        (get-select_each pid_cmp_total pid_cmp_exact (λ (q : Pid) (other : Process). without_parent_if who other) living c ∙ ap (option_map (without_parent_if who)) is ∙ ap (λ b. Some (record x { parent = cond b None x.parent })) parent)

    -- that is what becomes of it in the end
    pub parted_orphaned : all_without_parent who (change_process living c without_parent) ≡ all_without_parent who living
    parted_orphaned = parted_at (map.get living c) refl

  module _ (who : Pid) (none : (c : Pid) → is_child children who c ≡ false) where
    alike : (o : Option Process) → has_parent o who ≡ false → option_map (without_parent_if who) o ≡ o
    alike None e = refl
    alike (Some x) e = ap (λ b. Some (record x { parent = cond b None x.parent })) e

    -- where a process has no child left, none has to lose its parent
    pub none_parted : all_without_parent who living ≡ living
    none_parted = same_map pid_cmp_total pid_cmp_exact _ _ (λ q. get-select_each pid_cmp_total pid_cmp_exact (λ (q : Pid) (other : Process). without_parent_if who other) living q
        ∙ alike (map.get living q) (sym (kept.index who q) ∙ none q))

-- a process goes, and its parent learns of it
module _ (living : FinMap pid_cmp Process) (children : ChildIndex) (made : ℕ) (kept : IsKept living children made) (who : Pid) (p : Process) (is : map.get living who ≡ Some p) where
  -- the list of each other process may grow by one
  pub may_grow : (q : Pid) (x : Process) → map.get (map.remove living who) q ≡ Some x → length x.ended + 1 < 2 ^ 63
  may_grow q x there = let fits = room_left living children made kept who p is q x there in let few = kept.few in omega (arith, fits, few)

  pub kept_ended : (how : Ending) (new : ChildIndex) → ((q c : Pid) → is_child new q c ≡ (not (same_pid c who) && is_child children q c))
      → (o : Option Pid) → IsKept (change_process_if (map.remove living who) o (with_ended who how)) new made
  kept_ended how new removes = kept_told (map.remove living who) new made (kept_removed living children made kept who p is new removes) (room_left living children made kept who p is) who how

-- the numbers of the processes that are left were drawn
module _ (procs : FinMap pid_cmp Process) (numbers : FinMap label_cmp ℕ) (are : AreDrawn procs numbers) (who : Pid) (p : Process) (how : Ending) where
  drawn_before : (q : Pid) (x : Process) (o : Option Process) → map.get (map.remove procs who) q ≡ o → option_map (process_after_end who p how q) o ≡ Some x → q.n ≤ last_drawn numbers q.label
  drawn_before q x None is e = absurd (never_some None x refl e)
  drawn_before q x (Some y) is e = each-remove pid_cmp_total pid_cmp_exact (λ (q : Pid) (y : Process). q.n ≤ last_drawn numbers q.label) procs are who q y is

  pub ended_drawn : AreDrawn (ended_by procs who p how) numbers
  ended_drawn q x is = drawn_before q x (map.get (map.remove procs who) q) refl (sym (get-select_each pid_cmp_total pid_cmp_exact (process_after_end who p how) (map.remove procs who) q) ∙ is)
