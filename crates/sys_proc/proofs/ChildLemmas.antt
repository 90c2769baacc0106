-- Children that are made, and children that ended.
use Rattle.std.specs.Prelude.{◌≡◌, ◌+◌, ◌==◌, ◌&&◌, ◌≤◌, nat_le, not, Bool, true, false, List, [], ◌∷◌, drop, length, None, Some, Result, Ok, Err, OnErr, OnOk, refl}
use Rattle.std.specs.FinMap as map
use Rattle.std.specs.FinMap.{FinMap}
use Rattle.std.proofs.Common.{ap, sym, ◌∙◌, subst, arith}
use Rattle.std.proofs.Math.Logic.{∥∥₁_elim}
use Rattle.std.proofs.lemmas.Bool.Decides.{nat_tests}
use Rattle.lab_lattice.specs.Label.{Label}
use Rattle.kern_model.specs.declared.calls.Answer.TheVariants as answer
use Rattle.kern_model.specs.declared.calls.Ending.{Ending}
use Rattle.kern_model.specs.declared.calls.Errno.TheVariants as errno
use Rattle.kern_model.specs.declared.limits.TheConstants.{MAX_PROCS}
use Rattle.kern_model.specs.declared.numbers.Pid.{Pid}
use Rattle.kern_model.specs.declared.records.Rec.TheVariants as rec
use Rattle.kern_model.specs.Keys.{pid_cmp}
use Rattle.kern_model.specs.ProcessRows.{await_child, child_of, fork_row, give_child, has_child, wait_row}
use Rattle.kern_model.specs.State.{State, Process, Change, DrawProcess, SetProcess, last_drawn}
use Rattle.kern_model.specs.Valid.{IsThere, IsValid}
use Rattle.kern_model.proofs.KeyLaws.{pid_cmp_total, pid_cmp_exact}
use Rattle.kern_model.proofs.MapLemmas.{get-insert_same}
use Rattle.kern_model.proofs.Selections.{any_entry-select, insert-insert}
use Rattle.proc_table.specs.declared.procs.ReapError.{ReapError}
use Rattle.proc_table.specs.declared.procs.ReapError.TheVariants as reap
use Rattle.proc_table.specs.Procs.{ProcTable, has_living_child, next_in, wait_result, with_new, with_process}
use Rattle.chk_rules.specs.CheckLog.{CheckLog}
use Rattle.chk_rules.specs.declared.stop.Stop.{Stop}
use Rattle.chk_rules.specs.declared.stop.Stop.TheVariants as stop
use Rattle.fd_table.specs.Files.{OpenFiles, with_fds_of}
use Rattle.fd_table.specs.Fds.{AllFds, Fds, fds_of}
use Rattle.sys_lookup.specs.declared.effect.Effect.{Effect}
use Rattle.sys_lookup.specs.declared.shared.Shared.TheInside.{Inside}
use Rattle.sys_lookup.specs.Owners.{HasOwners}
use Rattle.sys_lookup.specs.PlaysRow.{PlaysRow}
use Rattle.sys_lookup.specs.Shared.{process_with_fds, state_of, with_fds}
use Rattle.sys_lookup.proofs.FdChanges.{with_fds-row}
use Rattle.sys_lookup.proofs.FdLemmas.{found, with_fds-process}
use Rattle.sys_lookup.proofs.OwnerLemmas.{owners_known}
use Rattle.sys_lookup.proofs.PlayLemmas.{commits, commits_as, fails_row, refuse_plays, refuse_stops_row}
use Rattle.sys_lookup.proofs.RefuseLemmas.{lets_on, refuses}

-- ---- a child is made

-- a process that is added with its descriptors shows in the state
with_fds-new : (procs : FinMap pid_cmp Process) (rows : AllFds) (who : Pid) (q : Process) (fds : Fds)
    → with_fds (map.insert procs who q) (map.insert rows who fds) ≡ map.insert (with_fds procs rows) who (record q { fds = fds })
with_fds-new procs rows who q fds =
    with_fds-row (map.insert procs who q) rows who q fds (get-insert_same pid_cmp_total procs who q)
    ∙ ap (λ (m : FinMap pid_cmp Process). map.insert m who (record q { fds = fds })) (with_fds-process procs rows who q)
    ∙ insert-insert pid_cmp_total pid_cmp_exact (with_fds procs rows) who (process_with_fds rows who q) (record q { fds = fds })

-- no process has the next number of a label, and none has a row of descriptors under it
pub new_row : (h : Inside) → ∥ HasOwners h.procs.procs h.fds.processes ∥₁ → ∥ IsValid (state_of h) ∥₁ → (l : Label) → map.get h.fds.processes (next_in h.procs l) ≡ None
new_row h owners valid l =
    let next = next_in h.procs l in
    let last = last_drawn h.procs.numbers l in
    elim (map.get h.fds.processes next) as (λ w. map.get h.fds.processes next ≡ w → w ≡ None) [
      | None ↦ λ _. refl
      | Some fds ↦ λ e.
          let there : IsThere h.procs.procs next = owners_known h.procs.procs h.fds.processes owners next (record { value = fds; is = e }) in
          let shown = found h.procs.procs h.fds.processes next there.value there.is in
          absurd (∥∥₁_elim valid (λ a b. absurd a) (λ v. let below : last + 1 ≤ last = ((v.procs next (process_with_fds h.fds.processes next there.value) shown).drawn_already).1 in omega (arith, below)))
    ] refl

-- a child is made, and has descriptors on the same descriptions
pub forks : (h : Inside) (log : CheckLog) (who : Pid) (q : Process) (child : Pid) (procs : ProcTable) (fds : OpenFiles) → nat_le MAX_PROCS (last_drawn h.procs.numbers q.label) ≡ false → child ≡ next_in h.procs q.label
    → procs ≡ with_new h.procs (child_of who q) → fds ≡ with_fds_of h.fds child (fds_of h.fds.processes who)
    → PlaysRow (state_of h) log (fork_row (state_of h) who (process_with_fds h.fds.processes who q)) (Ok (record { answer = answer.Process child; own = Some (rec.Fork who child) }))
    (record (state_of h) { procs = with_fds procs.procs fds.processes; descriptions = fds.descriptions; process_numbers = procs.numbers; description_numbers = fds.numbers }) log
forks h log who q child procs fds left is made copied =
    let s = state_of h in
    let next = next_in h.procs q.label in
    let all : FinMap pid_cmp Process = map.insert h.procs.procs next (child_of who q) in
    let t : State = record s { procs = with_fds procs.procs fds.processes; descriptions = fds.descriptions; process_numbers = procs.numbers; description_numbers = fds.numbers } in
    let numbers = map.insert h.procs.numbers q.label (last_drawn h.procs.numbers q.label + 1) in
    let changes : List Change = DrawProcess q.label (last_drawn h.procs.numbers q.label + 1) ∷ SetProcess next (child_of who (process_with_fds h.fds.processes who q)) ∷ [] in
    refuse_plays (lets_on left)
    (subst (λ (k : Pid). PlaysRow s log (give_child who (process_with_fds h.fds.processes who q) (last_drawn h.procs.numbers q.label)) (Ok (record { answer = answer.Process k; own = Some (rec.Fork who k) })) t log) (sym is)
    (commits s t log changes (answer.Process next) (Some (rec.Fork who next))
    ((λ i. record s { procs = with_fds (made i).procs (copied i).processes; descriptions = (copied i).descriptions; process_numbers = (made i).numbers; description_numbers = (copied i).numbers })
    ∙ (λ i. record s { procs = with_fds all (map.insert h.fds.processes (is i) (fds_of h.fds.processes who)); process_numbers = numbers })
    ∙ (λ i. record s { procs = with_fds-new h.procs.procs h.fds.processes next (child_of who q) (fds_of h.fds.processes who) i; process_numbers = numbers }))))

-- too many processes were made at the label
pub refuses_child : (h : Inside) (log : CheckLog) (who : Pid) (q : Process) (procs : ProcTable) → nat_le MAX_PROCS (last_drawn h.procs.numbers q.label) ≡ true → procs ≡ h.procs
    → PlaysRow (state_of h) log (fork_row (state_of h) who (process_with_fds h.fds.processes who q)) (Err (stop.Refused errno.EAGAIN)) (record (state_of h) { procs = with_fds procs.procs h.fds.processes; process_numbers = procs.numbers }) log
refuses_child h log who q procs full same =
    refuse_stops_row (Err (stop.Refused errno.EAGAIN)) refl (λ i. record (state_of h) { procs = with_fds (same i).procs h.fds.processes; process_numbers = (same i).numbers }) (refuses full)

-- what holds of both tables that a call may leave holds of the one that it left
pub left_either : {X E T : Type 0} (P : T → Type 0) (r : Result X E) (made old new : T) → OnOk r (new ≡ made) → OnErr r (new ≡ old) → P made → P old → P new
left_either P (Ok x) made old new is same holds kept = subst P (sym is) holds
left_either P (Err e) made old new is same holds kept = subst P (sym same) kept

-- ---- a child that ended is taken

-- a process has a living child in the state where it has one in the table
child_shown : (h : Inside) (who : Pid) → has_child (state_of h) who ≡ has_living_child h.procs.procs who
unfolding with_fds
child_shown h who = any_entry-select pid_cmp_total pid_cmp_exact _ _ _ h.procs.procs (λ k x e. refl)

nothing_taken : (living : Bool) (e : Pid × Ending) → Ok e ≡ wait_result [] living → ⊥
nothing_taken true e is = let no : Ok e ≡ Err reap.NoneEnded = is in cc
nothing_taken false e is = let no : Ok e ≡ Err reap.NoChild = is in cc

some_living : (living : Bool) → Err reap.NoneEnded ≡ wait_result [] living → living ≡ true
some_living true is = refl
some_living false is = let no : ◌≡◌ {A = Result (Pid × Ending) ReapError} (Err reap.NoneEnded) (Err reap.NoChild) = is in cc

none_living : (living : Bool) → Err reap.NoChild ≡ wait_result [] living → living ≡ false
none_living false is = refl
none_living true is = let no : ◌≡◌ {A = Result (Pid × Ending) ReapError} (Err reap.NoChild) (Err reap.NoneEnded) = is in cc

module _ (s t : State) (log : CheckLog) (who : Pid) (p : Process) (living : Bool) where
  -- the first one is taken
  takes : (ended : List (Pid × Ending)) (e : Pid × Ending) (effect : Effect) → effect ≡ record { answer = answer.Ended e.0 e.1; own = None } → Ok e ≡ wait_result ended living → t ≡ record s { procs = map.insert s.procs who (record p { ended = drop 1 ended }) }
      → PlaysRow s log (await_child living who p ended) (Ok effect) t log
  takes [] e effect gives is made = absurd (nothing_taken living e is)
  takes (x ∷ es) e effect gives is made =
      let taken : ◌≡◌ {A = Result (Pid × Ending) ReapError} (Ok e) (Ok x) = is in
      let same : e ≡ x = cc in
      let some : (length (x ∷ es) == 0) ≡ false = grind (arith, nat_tests) in
      refuse_plays (lets_on (ap (λ b. b && not living) some))
      (commits_as (gives ∙ ap (λ (y : Pid × Ending). record { answer = answer.Ended y.0 y.1; own = None }) same) made)

  -- there is none yet
  takes_none : (ended : List (Pid × Ending)) → Err reap.NoneEnded ≡ wait_result ended living → t ≡ s
      → PlaysRow s log (await_child living who p ended) (Err (stop.Refused errno.EAGAIN)) t log
  takes_none [] is same = refuse_plays (lets_on (ap not (some_living living is))) (fails_row s t log errno.EAGAIN same)
  takes_none (x ∷ es) is same = let no : ◌≡◌ {A = Result (Pid × Ending) ReapError} (Err reap.NoneEnded) (Ok x) = is in absurd cc

  -- there is no child
  has_none : (ended : List (Pid × Ending)) → Err reap.NoChild ≡ wait_result ended living → t ≡ s
      → PlaysRow s log (await_child living who p ended) (Err (stop.Refused errno.ECHILD)) t log
  has_none [] is same = refuse_stops_row (Err (stop.Refused errno.ECHILD)) refl same (refuses (ap not (none_living living is)))
  has_none (x ∷ es) is same = let no : ◌≡◌ {A = Result (Pid × Ending) ReapError} (Err reap.NoChild) (Ok x) = is in absurd cc

module _ (h : Inside) (log : CheckLog) (who : Pid) (q : Process) (procs : ProcTable) where
  abbrev before : State
  before = state_of h

  abbrev after : State
  after = record before { procs = with_fds procs.procs h.fds.processes; process_numbers = procs.numbers }

  abbrev living : Bool
  living = has_living_child h.procs.procs who

  -- the call played its row, whose test is made in the table
  waits : (r r' : Result Effect Stop) → r ≡ r' → PlaysRow before log (await_child living who (process_with_fds h.fds.processes who q) q.ended) r' after log → PlaysRow before log (wait_row before who (process_with_fds h.fds.processes who q)) r after log
  waits r r' is plays =
      subst (λ x. PlaysRow before log (wait_row before who (process_with_fds h.fds.processes who q)) x after log) (sym is)
      (subst (λ b. PlaysRow before log (await_child b who (process_with_fds h.fds.processes who q) q.ended) r' after log) (sym (child_shown h who)) plays)

  -- where a child was taken
  pub waits_taking : (r : Result Effect Stop) (e : Pid × Ending) (effect : Effect) → r ≡ Ok effect → effect ≡ record { answer = answer.Ended e.0 e.1; own = None } → Ok e ≡ wait_result q.ended living
      → procs ≡ with_process h.procs who (record q { ended = drop 1 q.ended }) → PlaysRow before log (wait_row before who (process_with_fds h.fds.processes who q)) r after log
  waits_taking r e effect is gives reaps taken =
      waits r (Ok effect) is
      (takes before after log who (process_with_fds h.fds.processes who q) living q.ended e effect gives reaps
      ((λ i. record before { procs = with_fds (taken i).procs h.fds.processes; process_numbers = (taken i).numbers })
      ∙ (λ i. record before { procs = with_fds-process h.procs.procs h.fds.processes who (record q { ended = drop 1 q.ended }) i })))

  same_after : procs ≡ h.procs → after ≡ before
  same_after same = λ i. record before { procs = with_fds (same i).procs h.fds.processes; process_numbers = (same i).numbers }

  -- where none has ended yet
  pub waits_for_none : (r : Result Effect Stop) → r ≡ Err (stop.Refused errno.EAGAIN) → Err reap.NoneEnded ≡ wait_result q.ended living → procs ≡ h.procs → PlaysRow before log (wait_row before who (process_with_fds h.fds.processes who q)) r after log
  waits_for_none r is reaps same = waits r _ is (takes_none before after log who (process_with_fds h.fds.processes who q) living q.ended reaps (same_after same))

  -- where there is none
  pub waits_without : (r : Result Effect Stop) → r ≡ Err (stop.Refused errno.ECHILD) → Err reap.NoChild ≡ wait_result q.ended living → procs ≡ h.procs → PlaysRow before log (wait_row before who (process_with_fds h.fds.processes who q)) r after log
  waits_without r is reaps same = waits r _ is (has_none before after log who (process_with_fds h.fds.processes who q) living q.ended reaps (same_after same))
