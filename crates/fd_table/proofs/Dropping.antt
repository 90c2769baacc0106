-- What is left where a process goes, and its descriptors are let go one after another.
use Rattle.std.specs.Prelude.{◌≡◌, ◌&&◌, not, nat_le, ℕ, ◌+◌, ◌<◌, Bool, true, false, Option, Some, None, cond, refl}
use Rattle.std.specs.Option.{option_map}
use Rattle.std.specs.Ordering.{eq_by_cmp}
use Rattle.std.specs.FinMap as map
use Rattle.std.specs.FinMap.{FinMap, get-insert, get-remove, same_map}
use Rattle.std.proofs.Common.{ap, sym, ◌∙◌, subst, arith}
use Rattle.std.proofs.lemmas.Bool.{true≢false}
use Rattle.std.proofs.lemmas.Bool.Decides.{nat_tests}
use Rattle.kern_model.specs.declared.limits.TheConstants.{MAX_DESCRIPTORS}
use Rattle.kern_model.specs.declared.numbers.Did.{Did}
use Rattle.kern_model.specs.declared.numbers.Oid.{Oid}
use Rattle.kern_model.specs.declared.numbers.Pid.{Pid}
use Rattle.kern_model.specs.declared.objects.Object.{Object}
use Rattle.kern_model.specs.Keys.{did_cmp, oid_cmp, pid_cmp, same_oid}
use Rattle.kern_model.specs.Kinds.{is_fifo}
use Rattle.kern_model.specs.Maps.{select, where_key}
use Rattle.kern_model.specs.State.{Description}
use Rattle.kern_model.specs.Valid.{IsThere}
use Rattle.kern_model.proofs.KeyLaws.{did_cmp_total, did_cmp_exact, oid_cmp_total, oid_cmp_exact, pid_cmp_total, pid_cmp_exact}
use Rattle.kern_model.proofs.MapLemmas.{get-insert_same, get-select_dropped, get-select_kept, insert-same, never_some}
use Rattle.kern_model.proofs.Selections.{none_pass, none_passes, insert-insert}
use Rattle.fd_table.specs.declared.shared.Shared.{Shared}
use Rattle.fd_table.specs.Descriptions.{SharedTable, description_of, descriptions_of, with_one_less}
use Rattle.fd_table.specs.Files.{AreHeld, OpenFiles, objects_after_close, emptied_if, is_held, is_open, is_unused}
use Rattle.fd_table.specs.Fds.{AllFds, Fds}
use Rattle.fd_table.proofs.Holding.{held-drop, held-free, open_there}
use Rattle.fd_table.proofs.Leaving.{get-descriptions, get-drained, left_held, less_same}
use Rattle.fd_table.proofs.Loops.{from, from-all, from-next, from-none, from-same, get-from, fds_set}

abbrev Descriptions : Type 0
Descriptions = FinMap did_cmp Description

abbrev Objects : Type 0
Objects = FinMap oid_cmp Object

-- the descriptions to which descriptors of these processes refer
abbrev pub held_by : AllFds → Descriptions → Descriptions
held_by processes ds = select (where_key (is_held processes) (λ d. d)) ds

itself : {X : Type 0} (w : Option X) → option_map (λ d. d) w ≡ w
itself None = refl
itself (Some x) = refl

pub get-kept : (processes : AllFds) (ds : Descriptions) (q : Did) → is_held processes q ≡ true → map.get (held_by processes ds) q ≡ map.get ds q
get-kept processes ds q t = get-select_kept did_cmp_total did_cmp_exact (is_held processes) (λ d. d) ds q t ∙ itself (map.get ds q)

pub get-gone : (processes : AllFds) (ds : Descriptions) (q : Did) → is_held processes q ≡ false → map.get (held_by processes ds) q ≡ None
get-gone processes ds q t = get-select_dropped did_cmp_total did_cmp_exact (is_held processes) (λ d. d) ds q t

-- an object without descriptions gets none where descriptions go
still_closed : (old new : Descriptions) → ((k : Did) (d : Description) → map.get new k ≡ Some d → map.get old k ≡ Some d) → (q : Oid) → is_open old q ≡ false → is_open new q ≡ false
still_closed old new fewer q shut = none_pass did_cmp_total did_cmp_exact (λ (did : Did) (d : Description). same_oid d.object q) new
    (λ k d e. none_passes did_cmp_total did_cmp_exact (λ (did : Did) (d : Description). same_oid d.object q) old shut k d (fewer k d e))

-- ---- FIFOs that are emptied
abbrev after : Bool → Object → Object
after b o = emptied_if (is_fifo o.kind && b) o

as_it_is : (o : Object) → after false o ≡ o
as_it_is o = elim (is_fifo o.kind) as (λ k. emptied_if (k && false) o ≡ o) [ true ↦ refl | false ↦ refl ]

twice : (a b e : Bool) → (a ≡ false → b ≡ false) → (b ≡ false → e ≡ false) → (w : Option Object) → option_map (after (b && not e)) (option_map (after (a && not b)) w) ≡ option_map (after (a && not e)) w
twice a b e f g None = refl
twice true true true f g (Some o) = ap Some (as_it_is (after false o))
twice true true false f g (Some o) = ap (λ (x : Object). Some (after true x)) (as_it_is o)
twice true false true f g (Some o) = absurd (true≢false (g refl))
twice true false false f g (Some o) = ap Some (as_it_is (after true o))
twice false true e f g (Some o) = absurd (true≢false (f refl))
twice false false true f g (Some o) = absurd (true≢false (g refl))
twice false false false f g (Some o) = ap Some (as_it_is (after false o))

-- what is emptied in two steps
drained_twice : (a b e : Descriptions) (objects : Objects) → ((q : Oid) → is_open a q ≡ false → is_open b q ≡ false) → ((q : Oid) → is_open b q ≡ false → is_open e q ≡ false) → objects_after_close b e (objects_after_close a b objects) ≡ objects_after_close a e objects
drained_twice a b e objects f g = same_map oid_cmp_total oid_cmp_exact _ _ (λ q.
    get-drained b e (objects_after_close a b objects) q ∙ ap (option_map (after (is_unused b e q))) (get-drained a b objects q)
    ∙ twice (is_open a q) (is_open b q) (is_open e q) (f q) (g q) (map.get objects q) ∙ sym (get-drained a e objects q))

-- nothing is emptied where nothing closes
pub drained_same : (ds : Descriptions) (objects : Objects) → objects_after_close ds ds objects ≡ objects
drained_same ds objects = same_map oid_cmp_total oid_cmp_exact _ _ (λ q. get-drained ds ds objects q ∙ ap (λ b. option_map (after b) (map.get objects q)) (never (is_open ds q)) ∙ kept (map.get objects q))
  where
    never : (b : Bool) → (b && not b) ≡ false
    never true = refl
    never false = refl

    kept : (w : Option Object) → option_map (after false) w ≡ w
    kept None = refl
    kept (Some o) = ap Some (as_it_is o)

-- a process that was set and goes
remove_set : (processes : AllFds) (who : Pid) (fds : Fds) → map.remove (map.insert processes who fds) who ≡ map.remove processes who
remove_set processes who fds = same_map pid_cmp_total pid_cmp_exact _ _ (λ q.
    get-remove pid_cmp_total (map.insert processes who fds) who q ∙ ap (cond (eq_by_cmp pid_cmp q who) None) (get-insert pid_cmp_total processes who fds q)
    ∙ elim (eq_by_cmp pid_cmp q who) as (λ b. cond b None (cond b (Some fds) (map.get processes q)) ≡ cond b None (map.get processes q)) [ true ↦ refl | false ↦ refl ]
    ∙ sym (get-remove pid_cmp_total processes who q))

-- ---- the descriptors below n of a process that went are let go
pub record AreLetGo (t0 : OpenFiles) (who : Pid) (own : Fds) (n : ℕ) (shared : SharedTable) (objects0 objects : FinMap oid_cmp Object) : Type 0 where
  pub held : AreHeld (map.insert t0.processes who (from n own)) shared t0.numbers
  pub left : (q : Did) (d : Description) → map.get (descriptions_of shared) q ≡ Some d → map.get t0.descriptions q ≡ Some d
  pub emptied : objects ≡ objects_after_close t0.descriptions (descriptions_of shared) objects0

pub none_let_go : (t0 : OpenFiles) (who : Pid) (own : Fds) (shared : SharedTable) (objects : FinMap oid_cmp Object) → map.get t0.processes who ≡ Some own
    → AreHeld t0.processes shared t0.numbers → descriptions_of shared ≡ t0.descriptions → AreLetGo t0 who own 0 shared objects objects
none_let_go t0 who own shared objects there are same = record {
  held = subst (λ (m : AllFds). AreHeld m shared t0.numbers) (sym (ap (map.insert t0.processes who) (from-all own) ∙ insert-same pid_cmp_total pid_cmp_exact t0.processes who own there)) are;
  left = λ q d e. ap (λ (ds : Descriptions). map.get ds q) (sym same) ∙ e;
  emptied = sym (ap (λ (ds : Descriptions). objects_after_close t0.descriptions ds objects) same ∙ drained_same t0.descriptions objects);
}

module _ (t0 : OpenFiles) (who : Pid) (own : Fds) (n : ℕ) (shared : SharedTable) (objects0 objects : FinMap oid_cmp Object) (are : AreLetGo t0 who own n shared objects0 objects) where
  there : map.get (map.insert t0.processes who (from n own)) who ≡ Some (from n own)
  there = get-insert_same pid_cmp_total t0.processes who (from n own)

  next_from : (w : Option Did) → map.get own n ≡ w → map.get (from n own) n ≡ w
  next_from w at = let yes : nat_le n n ≡ true = grind (arith, nat_tests) in get-from n own n ∙ ap (λ b. cond b (map.get own n) None) yes ∙ at

  -- the next descriptor refers to a description that is there
  pub next_there : (did : Did) → map.get own n ≡ Some did → IsThere shared did
  next_there did at =
      open_there (map.insert t0.processes who (from n own)) shared t0.numbers are.held who n did (ap (λ (fds : Fds). map.get fds n) (fds_set t0.processes who (from n own)) ∙ next_from (Some did) at)

  -- and is let go
  pub let_go_next : (did : Did) → map.get own n ≡ Some did → (s : Shared) → map.get shared did ≡ Some s → (new : SharedTable) → new ≡ with_one_less shared did s
      → (objects' : FinMap oid_cmp Object) → objects' ≡ objects_after_close (descriptions_of shared) (descriptions_of new) objects → AreLetGo t0 who own (n + 1) new objects0 objects'
  let_go_next did at s is new less objects' drains = record {
    held = subst (λ (m : SharedTable). AreHeld (map.insert t0.processes who (from (n + 1) own)) m t0.numbers) (sym less)
        (subst (λ (m : AllFds). AreHeld m (with_one_less shared did s) t0.numbers)
        (insert-insert pid_cmp_total pid_cmp_exact t0.processes who (from n own) (map.remove (from n own) n) ∙ ap (map.insert t0.processes who) (from-next own n))
        (held-free (map.insert t0.processes who (from n own)) shared t0.numbers are.held who (from n own) there n did s is (next_from (Some did) at)));
    left = λ q d e. are.left q d (fewer q d e);
    emptied = drains ∙ ap (objects_after_close (descriptions_of shared) (descriptions_of new)) are.emptied
        ∙ drained_twice t0.descriptions (descriptions_of shared) (descriptions_of new) objects0 (still_closed t0.descriptions (descriptions_of shared) are.left)
        (still_closed (descriptions_of shared) (descriptions_of new) fewer);
  }
    where
      fewer : (q : Did) (d : Description) → map.get (descriptions_of new) q ≡ Some d → map.get (descriptions_of shared) q ≡ Some d
      fewer q d e = elim (map.get new q) as (λ w. map.get new q ≡ w → option_map description_of w ≡ Some d → map.get (descriptions_of shared) q ≡ Some d) [
        | None ↦ λ _ f. absurd (never_some None d refl f)
        | Some x ↦ λ at f. less_same shared did s is q x (ap (λ (m : SharedTable). map.get m q) (sym less) ∙ at) ∙ f
      ] refl (sym (get-descriptions new q) ∙ e)

  -- the next descriptor was not open
  pub let_go_skip : map.get own n ≡ None → (new : SharedTable) → new ≡ shared → (objects' : FinMap oid_cmp Object) → objects' ≡ objects → AreLetGo t0 who own (n + 1) new objects0 objects'
  let_go_skip none new same objects' still =
      subst (λ (m : SharedTable). AreLetGo t0 who own (n + 1) m objects0 objects') (sym same)
      (subst (λ (os : FinMap oid_cmp Object). AreLetGo t0 who own (n + 1) shared objects0 os) (sym still) record {
        held = subst (λ (fds : Fds). AreHeld (map.insert t0.processes who fds) shared t0.numbers) (from-same own n (next_from None none)) are.held;
        left = are.left;
        emptied = are.emptied;
      })

-- all of them
module _ (t0 : OpenFiles) (who : Pid) (own : Fds) (n : ℕ) (end : n ≡ 32) (shared : SharedTable) (objects0 objects : FinMap oid_cmp Object) (are : AreLetGo t0 who own n shared objects0 objects) where
  pub held_after : AreHeld (map.remove t0.processes who) shared t0.numbers
  held_after =
      let there : map.get (map.insert t0.processes who (from n own)) who ≡ Some (from n own) = get-insert_same pid_cmp_total t0.processes who (from n own) in
      let below : (fd : ℕ) (did : Did) → map.get (from 32 own) fd ≡ Some did → fd < MAX_DESCRIPTORS =
      subst (λ k. (fd : ℕ) (did : Did) → map.get (from k own) fd ≡ Some did → fd < MAX_DESCRIPTORS) end (are.held.below who (from n own) there) in
      subst (λ (m : AllFds). AreHeld m shared t0.numbers) (remove_set t0.processes who (from n own))
      (held-drop (map.insert t0.processes who (from n own)) shared t0.numbers are.held who (from n own) there (ap (λ k. from k own) end ∙ from-none own below))

  pub left_after : descriptions_of shared ≡ held_by (map.remove t0.processes who) t0.descriptions
  left_after = left_held (map.remove t0.processes who) t0.descriptions shared t0.numbers held_after (λ q s e. are.left q (description_of s) (get-descriptions shared q ∙ ap (option_map description_of) e))
