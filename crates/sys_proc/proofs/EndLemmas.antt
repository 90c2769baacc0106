-- What becomes of the processes where one ends.
use Rattle.std.specs.Prelude.{◌≡◌, ℕ, ◌&&◌, ◌||◌, ◌++◌, not, Bool, true, false, List, [], ◌∷◌, Option, None, Some, cond, Ok, option_map, refl}
use Rattle.std.specs.List.{AllByRecursion, flat_map, list_any}
use Rattle.std.specs.FinMap as map
use Rattle.std.specs.FinMap.{FinMap, get-insert, get-remove, same_map}
use Rattle.std.specs.Ordering.{is_eq}
use Rattle.std.proofs.Common.{ap, sym, ◌∙◌}
use Rattle.std.proofs.Math.Bool.{and-false}
use Rattle.std.proofs.Math.Logic.{∥∥₁_map}
use Rattle.std.proofs.lemmas.Bool.{true≢false}
use Rattle.std.proofs.lemmas.Cmp.{tied_itself}
use Rattle.lab_lattice.specs.Label.{label_cmp}
use Rattle.kern_model.specs.declared.calls.Answer.TheVariants.{Nothing}
use Rattle.kern_model.specs.declared.calls.Ending.{Ending}
use Rattle.kern_model.specs.declared.numbers.Oid.{Oid}
use Rattle.kern_model.specs.declared.numbers.Pid.{Pid}
use Rattle.kern_model.specs.declared.objects.Object.{Object}
use Rattle.kern_model.specs.declared.records.Rec.TheVariants.{Exit}
use Rattle.kern_model.specs.Keys.{is_pid, oid_cmp, pid_cmp, same_pid, spot_cmp}
use Rattle.kern_model.specs.Maps.{any_entry}
use Rattle.kern_model.specs.ProcessRows.{ending_of, kill_with, process_after_end, changes_after_end}
use Rattle.kern_model.specs.State.{State, Process, SetProcess, apply_changes}
use Rattle.kern_model.specs.Valid.{IsThere, IsValid}
use Rattle.kern_model.proofs.KeyLaws.{pid_cmp_total, pid_cmp_exact}
use Rattle.kern_model.proofs.MapLemmas.{each-entries, get_or-same, never_some, same_key, some_same}
use Rattle.kern_model.proofs.Selections.{get-remove_none, get-remove_other, get-select_each, none_pass, none_passes}
use Rattle.fd_table.specs.Files.{OpenFiles, objects_after_close, left_with}
use Rattle.fd_table.specs.Fds.{AllFds, fds_of}
use Rattle.fd_table.proofs.Closing.{ending_changes, same_tests}
use Rattle.proc_table.specs.Procs.{ProcTable, ended_by}
use Rattle.chk_rules.specs.CheckLog.{CheckLog}
use Rattle.sys_lookup.specs.declared.shared.Shared.TheInside.{Inside}
use Rattle.sys_lookup.specs.Owners.{HasOwners}
use Rattle.sys_lookup.specs.PlaysRow.{PlaysRow}
use Rattle.sys_lookup.specs.Shared.{process_with_fds, state_of, with_fds}
use Rattle.sys_lookup.proofs.ClosingLemmas.{table_shows}
use Rattle.sys_lookup.proofs.FdLemmas.{get-with_fds}
use Rattle.sys_lookup.proofs.PlayLemmas.{commits}
use Rattle.kern_model.proofs.StateLemmas.{apply_changes-append}

-- ---- the processes that change

-- what is set first or later
in_turn : {X : Type 0} (new w : Option X) (a b : Bool) → cond b new (cond a new w) ≡ cond (a || b) new w
in_turn new w true true = refl
in_turn new w true false = refl
in_turn new w false b = refl

module _ (procs : FinMap pid_cmp Process) (who : Pid) (p : Process) (how : Ending) where
  abbrev is_left : Pid → Process → Bool
  is_left q other = not (same_pid q who) && (is_pid who other.parent || is_pid q p.parent)

  -- what a process of the table becomes
  abbrev left_at : Pid → Option Process
  left_at q = option_map (process_after_end who p how q) (map.get procs q)

  -- the processes after those of a list are set
  abbrev set_by : List (Pid × Process) → FinMap pid_cmp Process → FinMap pid_cmp Process
  set_by [] m = m
  set_by (e ∷ es) m = set_by es (cond (is_left e.0 e.1) (map.insert m e.0 (process_after_end who p how e.0 e.1)) m)

  one_set : (s : State) (e : Pid × Process) (b : Bool) → apply_changes s (cond b (SetProcess e.0 (process_after_end who p how e.0 e.1) ∷ []) []) ≡ record s { procs = cond b (map.insert s.procs e.0 (process_after_end who p how e.0 e.1)) s.procs }
  one_set s e true = refl
  one_set s e false = refl

  all_set : (es : List (Pid × Process)) (s : State) → apply_changes s (flat_map (changes_after_end who p how) es) ≡ record s { procs = set_by es s.procs }
  all_set [] s = refl
  all_set (e ∷ es) s =
      apply_changes-append s (changes_after_end who p how e) (flat_map (changes_after_end who p how) es)
      ∙ ap (λ (x : State). apply_changes x (flat_map (changes_after_end who p how) es)) (one_set s e (is_left e.0 e.1))
      ∙ all_set es (record s { procs = cond (is_left e.0 e.1) (map.insert s.procs e.0 (process_after_end who p how e.0 e.1)) s.procs })

  -- a process that a list of the table's entries sets
  abbrev sets : Pid → Pid → Process → Bool
  sets q k other = is_left k other && same_pid q k

  set_at : (m : FinMap pid_cmp Process) (k : Pid) (other : Process) → map.get procs k ≡ Some other → (q : Pid) (b : Bool)
      → map.get (cond b (map.insert m k (process_after_end who p how k other)) m) q ≡ cond (b && same_pid q k) (left_at q) (map.get m q)
  set_at m k other is q false = refl
  set_at m k other is q true =
      get-insert pid_cmp_total m k (process_after_end who p how k other) q
      ∙ elim (same_pid q k) as (λ b. same_pid q k ≡ b → cond b (Some (process_after_end who p how k other)) (map.get m q) ≡ cond b (left_at q) (map.get m q)) [
        | true ↦ λ t. sym (ap left_at (same_key pid_cmp_exact q k t) ∙ ap (option_map (process_after_end who p how k)) is)
        | false ↦ λ _. refl
      ] refl

  get-set_by : (es : List (Pid × Process)) → AllByRecursion (λ (e : Pid × Process). map.get procs e.0 ≡ Some e.1) es → (m : FinMap pid_cmp Process) (q : Pid)
      → map.get (set_by es m) q ≡ cond (list_any (λ (e : Pid × Process). sets q e.0 e.1) es) (left_at q) (map.get m q)
  get-set_by [] are m q = refl
  get-set_by (e ∷ es) are m q =
      let later : Bool = list_any (λ (e : Pid × Process). sets q e.0 e.1) es in
      get-set_by es are.1 (cond (is_left e.0 e.1) (map.insert m e.0 (process_after_end who p how e.0 e.1)) m) q
      ∙ ap (cond later (left_at q)) (set_at m e.0 e.1 are.0 q (is_left e.0 e.1))
      ∙ in_turn (left_at q) (map.get m q) (sets q e.0 e.1) later

  -- a process is set where it is one that changes
  sets_itself : (q : Pid) (x : Process) → map.get procs q ≡ Some x → any_entry (sets q) procs ≡ is_left q x
  sets_itself q x is = same_tests _ _
      (λ never. first (is_left q x) (none_passes pid_cmp_total pid_cmp_exact (sets q) procs never q x is))
      (λ stays. none_pass pid_cmp_total pid_cmp_exact (sets q) procs (λ k other at.
      elim (same_pid q k) as (λ b. same_pid q k ≡ b → (is_left k other && b) ≡ false) [
        | true ↦ λ same.
            let one : k ≡ q = sym (same_key pid_cmp_exact q k same) in
            let alike : other ≡ x = some_same other x (sym at ∙ ap (map.get procs) one ∙ is) in
            (λ i. is_left (one i) (alike i) && true) ∙ ap (λ b. b && true) stays
        | false ↦ λ _. and-false (is_left k other)
      ] refl))
    where
      first : (a : Bool) → (a && same_pid q q) ≡ false → a ≡ false
      first true e = absurd (true≢false (sym (ap is_eq (tied_itself pid_cmp_total q)) ∙ e))
      first false e = refl

  -- a process that does not change is left as it is
  stays : (q : Pid) (x : Process) (a b : Bool) → cond (a || b) (Some (record x { parent = cond a None x.parent; ended = cond b (x.ended ++ (who, how) ∷ []) x.ended })) (Some x)
      ≡ Some (record x { parent = cond a None x.parent; ended = cond b (x.ended ++ (who, how) ∷ []) x.ended })
  stays q x true b = refl
  stays q x false true = refl
  stays q x false false = refl

  -- what is at a number in the end
  at_last : (q : Pid) (w : Option Process) → map.get procs q ≡ w → cond (any_entry (sets q) procs) (left_at q) (map.get (map.remove procs who) q) ≡ option_map (process_after_end who p how q) (map.get (map.remove procs who) q)
  at_last q None e =
      let gone = get-remove_none pid_cmp_total procs who q e in
      (λ i. cond (any_entry (sets q) procs) (option_map (process_after_end who p how q) (e i)) (gone i)) ∙ nothing (any_entry (sets q) procs) ∙ sym (ap (option_map (process_after_end who p how q)) gone)
    where
      nothing : (b : Bool) → ◌≡◌ {A = Option Process} (cond b None None) None
      nothing true = refl
      nothing false = refl
  at_last q (Some x) e = elim (same_pid q who) as (λ b. same_pid q who ≡ b → cond (any_entry (sets q) procs) (left_at q) (map.get (map.remove procs who) q) ≡ option_map (process_after_end who p how q) (map.get (map.remove procs who) q)) [
    | true ↦ λ t.
        let gone : map.get (map.remove procs who) q ≡ None = get-remove pid_cmp_total procs who q ∙ ap (λ b. cond b None (map.get procs q)) t in
        let none : any_entry (sets q) procs ≡ false = sets_itself q x e ∙ ap (λ b. not b && (is_pid who x.parent || is_pid q p.parent)) t in
        (λ i. cond (none i) (left_at q) (gone i)) ∙ sym (ap (option_map (process_after_end who p how q)) gone)
    | false ↦ λ t.
        let there : map.get (map.remove procs who) q ≡ Some x = get-remove_other pid_cmp_total procs who q t ∙ e in
        let some : any_entry (sets q) procs ≡ (is_pid who x.parent || is_pid q p.parent) = sets_itself q x e ∙ ap (λ b. not b && (is_pid who x.parent || is_pid q p.parent)) t in
        (λ i. cond (some i) (option_map (process_after_end who p how q) (e i)) (there i)) ∙ stays q x (is_pid who x.parent) (is_pid q p.parent) ∙ sym (ap (option_map (process_after_end who p how q)) there)
  ] refl

  -- where the process is gone, the changes of the others leave what `ended_by` says
  survivors : (s : State) → s.procs ≡ map.remove procs who → apply_changes s (flat_map (changes_after_end who p how) (map.entries procs)) ≡ record s { procs = ended_by procs who p how }
  unfolding any_entry
  survivors s gone =
      let es = map.entries procs in
      let are = each-entries pid_cmp_total pid_cmp_exact (λ (q : Pid) (x : Process). map.get procs q ≡ Some x) procs (λ q x e. e) in
      let set : set_by es s.procs ≡ ended_by procs who p how = same_map pid_cmp_total pid_cmp_exact _ _ (λ q.
      get-set_by es are s.procs q
      ∙ ap (λ (m : FinMap pid_cmp Process). cond (any_entry (sets q) procs) (left_at q) (map.get m q)) gone
      ∙ at_last q (map.get procs q) refl
      ∙ sym (get-select_each pid_cmp_total pid_cmp_exact (process_after_end who p how) (map.remove procs who) q)) in
      all_set es s ∙ (λ i. record s { procs = set i })

-- ---- with their descriptors
module _ (procs : FinMap pid_cmp Process) (rows : AllFds) (who : Pid) (q : Process) (how : Ending) where
  abbrev without : AllFds
  without = map.remove rows who

  alike : (k : Pid) → fds_of without k ≡ fds_of rows k → (w : Option Process) → option_map (process_with_fds without k) (option_map (process_after_end who q how k) w) ≡ option_map (process_after_end who (process_with_fds rows who q) how k) (option_map (process_with_fds rows k) w)
  alike k same None = refl
  alike k same (Some x) = λ i. Some (record (process_after_end who q how k x) { fds = same i })

  with_fds-ended : with_fds (ended_by procs who q how) without ≡ ended_by (with_fds procs rows) who (process_with_fds rows who q) how
  with_fds-ended = same_map pid_cmp_total pid_cmp_exact _ _ (λ k.
      get-with_fds (ended_by procs who q how) without k
      ∙ ap (option_map (process_with_fds without k)) (get-select_each pid_cmp_total pid_cmp_exact (process_after_end who q how) (map.remove procs who) k ∙ ap (option_map (process_after_end who q how k)) (get-remove pid_cmp_total procs who k))
      ∙ elim (same_pid k who) as (λ b. same_pid k who ≡ b → option_map (process_with_fds without k) (option_map (process_after_end who q how k) (cond b None (map.get procs k))) ≡ option_map (process_after_end who (process_with_fds rows who q) how k) (cond b None (map.get (with_fds procs rows) k))) [
        | true ↦ λ _. refl
        | false ↦ λ t. alike k (get_or-same without rows k map.empty (get-remove_other pid_cmp_total rows who k t)) (map.get procs k) ∙ ap (option_map (process_after_end who (process_with_fds rows who q) how k)) (sym (get-with_fds procs rows k))
      ] refl
      ∙ sym (get-select_each pid_cmp_total pid_cmp_exact (process_after_end who (process_with_fds rows who q) how) (map.remove (with_fds procs rows) who) k ∙ ap (option_map (process_after_end who (process_with_fds rows who q) how k)) (get-remove pid_cmp_total (with_fds procs rows) who k)))

  -- ---- owners

  there_after : (k : Pid) → same_pid k who ≡ false → IsThere procs k → IsThere (ended_by procs who q how) k
  there_after k other there = record {
    value = process_after_end who q how k there.value;
    is = get-select_each pid_cmp_total pid_cmp_exact (process_after_end who q how) (map.remove procs who) k ∙ ap (option_map (process_after_end who q how k)) (get-remove_other pid_cmp_total procs who k other ∙ there.is);
  }

  pub owners_ended : ∥ HasOwners procs rows ∥₁ → ∥ HasOwners (ended_by procs who q how) without ∥₁
  owners_ended known = ∥∥₁_map known (λ owners k has.
      elim (same_pid k who) as (λ b. same_pid k who ≡ b → IsThere (ended_by procs who q how) k) [
        | true ↦ λ t. absurd (never_some (map.get without k) has.value (get-remove pid_cmp_total rows who k ∙ ap (λ b. cond b None (map.get rows k)) t) has.is)
        | false ↦ λ t. there_after k t (owners k (record { value = has.value; is = sym (get-remove_other pid_cmp_total rows who k t) ∙ has.is }))
      ] refl)

-- a process ends, and its descriptors close
ends_so : (h : Inside) → ∥ HasOwners h.procs.procs h.fds.processes ∥₁ → ∥ IsValid (state_of h) ∥₁ → (who : Pid) (q : Process) (how : Ending) → (
    let left : OpenFiles = left_with h.fds (map.remove h.fds.processes who) in
    record (state_of h) { procs = with_fds (ended_by h.procs.procs who q how) (map.remove h.fds.processes who); descriptions = left.descriptions; objects = objects_after_close h.fds.descriptions left.descriptions (state_of h).objects }
    ≡ apply_changes (state_of h) (ending_of (state_of h) who (process_with_fds h.fds.processes who q) how))
ends_so h owners valid who q how =
    let s = state_of h in
    let left : OpenFiles = left_with h.fds (map.remove h.fds.processes who) in
    let closed : State = record s { procs = map.remove s.procs who; descriptions = left.descriptions; objects = objects_after_close h.fds.descriptions left.descriptions s.objects } in
    (λ i. record closed { procs = with_fds-ended h.procs.procs h.fds.processes who q how i })
    ∙ sym (survivors s.procs who (process_with_fds h.fds.processes who q) how closed refl)
    ∙ sym (ending_changes s h.fds (table_shows h owners valid) who (process_with_fds h.fds.processes who q) how)

-- so the row is played by which it ends
pub plays_end : (h : Inside) → ∥ HasOwners h.procs.procs h.fds.processes ∥₁ → ∥ IsValid (state_of h) ∥₁ → (log : CheckLog) (who : Pid) (q : Process) (how : Ending) (procs : ProcTable) (fds : OpenFiles)
    {objects : FinMap oid_cmp Object} {entries : FinMap spot_cmp Oid} {numbers : FinMap label_cmp ℕ}
    → procs ≡ record h.procs { procs = ended_by h.procs.procs who q how } → fds ≡ left_with h.fds (map.remove h.fds.processes who)
    → objects ≡ objects_after_close h.fds.descriptions fds.descriptions (state_of h).objects → entries ≡ (state_of h).entries → numbers ≡ (state_of h).object_numbers
    → PlaysRow (state_of h) log (kill_with (state_of h) who (process_with_fds h.fds.processes who q) how) (Ok (record { answer = Nothing; own = Some (Exit who how) }))
    (record (state_of h) { procs = with_fds procs.procs fds.processes; process_numbers = procs.numbers; descriptions = fds.descriptions; description_numbers = fds.numbers; objects = objects; entries = entries; object_numbers = numbers }) log
plays_end h owners valid log who q how procs fds ended left emptied same_entries same_numbers =
    let s = state_of h in
    commits s _ log (ending_of s who (process_with_fds h.fds.processes who q) how) Nothing (Some (Exit who how))
    ((λ i. record s {
      procs = with_fds (ended i).procs (left i).processes;
      process_numbers = (ended i).numbers;
      descriptions = (left i).descriptions;
      description_numbers = (left i).numbers;
      objects = emptied i;
      entries = same_entries i;
      object_numbers = same_numbers i;
    })
    ∙ (λ i. record s { procs = with_fds (ended_by h.procs.procs who q how) (map.remove h.fds.processes who); descriptions = (left_with h.fds (map.remove h.fds.processes who)).descriptions; objects = objects_after_close h.fds.descriptions (left i).descriptions s.objects })
    ∙ ends_so h owners valid who q how)
