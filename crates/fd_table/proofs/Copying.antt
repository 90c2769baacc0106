-- What is counted where a process is added as a copy, and its descriptors are counted one after another.
use Rattle.std.specs.Prelude.{◌≡◌, ℕ, ◌+◌, ◌<◌, nat_lt, false, Some, None, cond, refl}
use Rattle.std.specs.FinMap as map
use Rattle.std.specs.FinMap.{FinMap}
use Rattle.std.proofs.Common.{ap, sym, ◌∙◌, subst, arith}
use Rattle.std.proofs.lemmas.Bool.Decides.{nat_tests}
use Rattle.kern_model.specs.declared.limits.TheConstants.{MAX_DESCRIPTORS}
use Rattle.kern_model.specs.declared.numbers.Did.{Did}
use Rattle.kern_model.specs.declared.numbers.Pid.{Pid}
use Rattle.kern_model.specs.Keys.{did_cmp}
use Rattle.kern_model.specs.State.{Description}
use Rattle.kern_model.specs.Valid.{IsThere}
use Rattle.kern_model.proofs.KeyLaws.{pid_cmp_total, pid_cmp_exact}
use Rattle.kern_model.proofs.MapLemmas.{get-insert_same}
use Rattle.kern_model.proofs.Selections.{insert-insert}
use Rattle.fd_table.specs.declared.process_fds.TheConstants.{MAX_PROCESSES}
use Rattle.fd_table.specs.declared.shared.Shared.{Shared}
use Rattle.fd_table.specs.Descriptions.{SharedTable, descriptions_of}
use Rattle.fd_table.specs.Files.{AreHeld, OpenFiles}
use Rattle.fd_table.specs.Fds.{AllFds, Fds, fds_of}
use Rattle.fd_table.proofs.Holding.{few_more, has_fds, held-add, held-set, open_there, fds_are}
use Rattle.fd_table.proofs.Leaving.{descriptions-count, there_with, there_without}
use Rattle.fd_table.proofs.Loops.{below, below-all, below-next, below-none, below-same, get-below}

-- the descriptors below n of a process that was added are counted, and each of its descriptors refers to a description
pub record AreCopied (t0 : OpenFiles) (to : Pid) (own : Fds) (n : ℕ) (shared : SharedTable) : Type 0 where
  pub held : AreHeld (map.insert t0.processes to (below n own)) shared t0.numbers
  pub same : descriptions_of shared ≡ t0.descriptions
  pub there : (fd : ℕ) (did : Did) → map.get own fd ≡ Some did → IsThere t0.descriptions did
  pub few : (fd : ℕ) (did : Did) → map.get own fd ≡ Some did → fd < MAX_DESCRIPTORS

module _ (t0 : OpenFiles) (who to : Pid) (own : Fds) (is : own ≡ fds_of t0.processes who) (shared : SharedTable) (are : AreHeld t0.processes shared t0.numbers) (same : descriptions_of shared ≡ t0.descriptions) where
  pub none_copied : map.get t0.processes to ≡ None → map.len t0.processes < MAX_PROCESSES → AreCopied t0 to own 0 shared
  none_copied none room = record {
    held = subst (λ (fds : Fds). AreHeld (map.insert t0.processes to fds) shared t0.numbers) (sym (below-none own)) (held-add t0.processes shared t0.numbers are to none room);
    same = same;
    there = λ fd did at. subst (λ (ds : FinMap did_cmp Description). IsThere ds did) same (there_without shared did (open_there t0.processes shared t0.numbers are who fd did (here fd did at)));
    few = λ fd did at. are.below who (fds_of t0.processes who) (fds_are t0.processes who (has_fds t0.processes who fd did (here fd did at))) fd did (here fd did at);
  }
    where
      here : (fd : ℕ) (did : Did) → map.get own fd ≡ Some did → map.get (fds_of t0.processes who) fd ≡ Some did
      here fd did at = ap (λ (fds : Fds). map.get fds fd) (sym is) ∙ at

module _ (t0 : OpenFiles) (to : Pid) (own : Fds) (n : ℕ) (shared : SharedTable) (are : AreCopied t0 to own n shared) where
  -- the next descriptor refers to a description that is there, and to which few refer
  pub next_there : (did : Did) → map.get own n ≡ Some did → IsThere shared did
  next_there did at = there_with shared did (subst (λ (ds : FinMap did_cmp Description). IsThere ds did) (sym are.same) (are.there n did at))

  pub next_few : (did : Did) (s : Shared) → map.get shared did ≡ Some s → s.holders < 18446744073709551615
  next_few did s is = few_more (map.insert t0.processes to (below n own)) shared t0.numbers are.held did s is

  next_free : map.get (below n own) n ≡ None
  next_free = let no : nat_lt n n ≡ false = grind (arith, nat_tests) in get-below n own n ∙ ap (λ b. cond b (map.get own n) None) no

  -- and is counted
  pub copied_next : (did : Did) → map.get own n ≡ Some did → (s : Shared) → map.get shared did ≡ Some s → (new : SharedTable) → new ≡ map.insert shared did (record s { holders = s.holders + 1 }) → AreCopied t0 to own (n + 1) new
  copied_next did at s is new more = record {
    held = subst (λ (m : SharedTable). AreHeld (map.insert t0.processes to (below (n + 1) own)) m t0.numbers) (sym more)
        (subst (λ (m : AllFds). AreHeld m (map.insert shared did (record s { holders = s.holders + 1 })) t0.numbers)
        (insert-insert pid_cmp_total pid_cmp_exact t0.processes to (below n own) (map.insert (below n own) n did) ∙ ap (map.insert t0.processes to) (below-next own n did at))
        (held-set (map.insert t0.processes to (below n own)) shared t0.numbers are.held to (below n own) (get-insert_same pid_cmp_total t0.processes to (below n own)) n did s is next_free (are.few n did at)));
    same = ap descriptions_of more ∙ descriptions-count shared did s (record s { holders = s.holders + 1 }) is refl ∙ are.same;
    there = are.there;
    few = are.few;
  }

  -- the next descriptor was not open
  pub copied_skip : map.get own n ≡ None → (new : SharedTable) → new ≡ shared → AreCopied t0 to own (n + 1) new
  copied_skip none new still = subst (λ (m : SharedTable). AreCopied t0 to own (n + 1) m) (sym still) record {
    held = subst (λ (fds : Fds). AreHeld (map.insert t0.processes to fds) shared t0.numbers) (below-same own n none) are.held;
    same = are.same;
    there = are.there;
    few = are.few;
  }

  -- all of them
  pub held_after : n ≡ 32 → AreHeld (map.insert t0.processes to own) shared t0.numbers
  held_after end = subst (λ (fds : Fds). AreHeld (map.insert t0.processes to fds) shared t0.numbers) (ap (λ k. below k own) end ∙ below-all own are.few) are.held
