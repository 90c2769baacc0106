-- Processes at the first steps of their programs, one after another.
use Rattle.std.specs.Prelude.{◌≡◌, ℕ, ◌+◌, ◌<◌, ◌≤◌, ◌||◌, Bool, true, false, List, [], ◌∷◌, Option, Some, None, refl, cond, drop, get_or, is_some, length, slice_get}
use Rattle.std.specs.List.{list_any, repeat}
use Rattle.std.specs.Map.{keys_of}
use Rattle.std.specs.Option.{option_map}
use Rattle.std.specs.Cmp.{eq_by_cmp_equiv}
use Rattle.std.specs.FinMap as map
use Rattle.std.specs.FinMap.{FinMap, find, get-empty, get-entries, get-insert, same_map}
use Rattle.std.proofs.Common.{ap, subst, sym, ◌∙◌}
use Rattle.std.proofs.lemmas.List.{drop_all}
use Rattle.std.proofs.lemmas.Option.{slice_get_read}
use Rattle.lab_lattice.specs.Label.{Label, label_cmp}
use Rattle.kern_model.specs.declared.numbers.Pid.{Pid}
use Rattle.kern_model.specs.Keys.{pid_cmp, same_pid}
use Rattle.kern_model.specs.State.{State, Process}
use Rattle.kern_model.specs.Valid.{IsValid}
use Rattle.kern_model.proofs.KeyLaws.{pid_cmp_total, pid_cmp_exact}
use Rattle.kern_model.proofs.MapLemmas.{same_key}
use Rattle.sched_progs.specs.declared.program.Program.{Program}
use Rattle.sched_progs.specs.declared.standing.Standing.{Standing}
use Rattle.sched_progs.specs.Loop.{loop_start}
use Rattle.sched_progs.specs.Programs.{Programs, Progress, are_programs, first_step, steps_of}
use Rattle.sched_progs.specs.Running.{IsRunning}
use Rattle.sched_progs.specs.Standings.{Standings, loop_state, progress_at, progress_of, steps_in}
use Rattle.sched_progs.specs.Starting.{AreStarted, IsIndex, set_if_absent, standing_at, start_at, started}
use Rattle.sched_progs.specs.Turns.{LoopState}
use Rattle.sched_progs.proofs.Followed.{get-progress}
use Rattle.sched_progs.proofs.Processes.{get-each_at}
use Rattle.sched_progs.proofs.RoundLemmas.{next_item}

-- ---- the index of programs
pub index_at_first : (programs : Programs) (m : Standings) → m ≡ map.empty → IsIndex programs m programs
index_at_first programs m is q = ap (λ w. start_at programs w (steps_of programs q)) (ap (λ n. map.get n q) is ∙ get-empty pid_cmp q)

module _ (programs : Programs) (place : ℕ) (p : Pid × Program) (rest : Programs) (here : slice_get programs place ≡ Some p) where
  first_is : progress_at programs (standing_at place) ≡ first_step p.1.steps
  first_is = ap (λ (w : Option (Pid × Program)). first_step (steps_in w)) here

  index_by : (m : Standings) (w : Option Standing) → map.get m p.0 ≡ w → IsIndex programs m (p ∷ rest) → IsIndex programs (set_if_absent w m p.0 (standing_at place)) rest
  index_by m None absent index q =
      ap (λ w. start_at programs w (steps_of rest q)) (get-insert pid_cmp_total m p.0 (standing_at place) q)
      ∙ elim (same_pid q p.0) as (λ b. same_pid q p.0 ≡ b → start_at programs (cond b (Some (standing_at place)) (map.get m q)) (steps_of rest q) ≡ first_step (steps_of programs q)) [
        | true ↦ λ t.
            let same : same_pid p.0 q ≡ true = (eq_by_cmp_equiv pid_cmp_total).symm p.0 q ∙ t in
            first_is ∙ sym (ap (λ b. first_step (cond b p.1.steps (steps_of rest q))) same)
            ∙ sym (ap (λ w. start_at programs w (steps_of (p ∷ rest) q)) (ap (map.get m) (same_key pid_cmp_exact q p.0 t) ∙ absent))
            ∙ index q
        | false ↦ λ t.
            let other : same_pid p.0 q ≡ false = (eq_by_cmp_equiv pid_cmp_total).symm p.0 q ∙ t in
            sym (ap (λ b. start_at programs (map.get m q) (cond b p.1.steps (steps_of rest q))) other) ∙ index q
      ] refl
  index_by m (Some a) there index q =
      elim (same_pid q p.0) as (λ b. same_pid q p.0 ≡ b → start_at programs (map.get m q) (steps_of rest q) ≡ first_step (steps_of programs q)) [
        | true ↦ λ t.
            let found : map.get m q ≡ Some a = ap (map.get m) (same_key pid_cmp_exact q p.0 t) ∙ there in
            ap (λ w. start_at programs w (steps_of rest q)) found ∙ sym (ap (λ w. start_at programs w (steps_of (p ∷ rest) q)) found) ∙ index q
        | false ↦ λ t.
            let other : same_pid p.0 q ≡ false = (eq_by_cmp_equiv pid_cmp_total).symm p.0 q ∙ t in
            sym (ap (λ b. start_at programs (map.get m q) (cond b p.1.steps (steps_of rest q))) other) ∙ index q
      ] refl

  -- one program more
  pub index_more : (m next : Standings) → next ≡ set_if_absent (map.get m p.0) m p.0 (standing_at place) → IsIndex programs m (p ∷ rest) → IsIndex programs next rest
  index_more m next is index q = ap (λ n. start_at programs (map.get n q) (steps_of rest q)) is ∙ index_by m (map.get m p.0) refl index q

-- the next program of those that are left
pub index_next : (programs : Programs) (place : ℕ) (p : Pid × Program) → place < length programs → p ≡ get_or programs place p → (m next : Standings)
    → next ≡ set_if_absent (map.get m p.0) m p.0 (standing_at place) → IsIndex programs m (drop place programs) → IsIndex programs next (drop (place + 1) programs)
index_next programs place p inside item m next is index =
    index_more programs place p (drop (place + 1) programs) (slice_get_read programs (length programs) place p refl inside item) m next is
    (subst (IsIndex programs m) (next_item programs place p inside item) index)

-- where none is left, the index has all
pub index_whole : (programs : Programs) (place : ℕ) (m : Standings) → length programs ≤ place → IsIndex programs m (drop place programs) → IsIndex programs m []
index_whole programs place m past index = subst (IsIndex programs m) (drop_all place programs past) index

-- where a process starts that has a program, and one that has none
pub start_found : (programs : Programs) (index : Standings) (who : Pid) (a : Standing) → IsIndex programs index [] → Some a ≡ map.get index who → progress_at programs a ≡ first_step (steps_of programs who)
start_found programs index who a is found = ap (λ w. start_at programs w []) found ∙ is who

pub start_missing : (programs : Programs) (index : Standings) (who : Pid) (place : ℕ) → IsIndex programs index [] → None ≡ map.get index who → slice_get programs place ≡ None
    → progress_at programs (standing_at place) ≡ first_step (steps_of programs who)
start_missing programs index who place is missing past =
    ap (λ (w : Option (Pid × Program)). first_step (steps_in w)) past ∙ ap (λ w. start_at programs w []) missing ∙ is who

-- ---- processes that start
-- each process is there but for those that are left
abbrev pub AreStartedBut : Programs → List Pid → List Pid → Standings → Type 0
AreStartedBut programs living left standings =
    (q : Pid) → cond (list_any (λ (who : Pid). same_pid q who) left) (Some (first_step (steps_of programs q))) (option_map (progress_at programs) (map.get standings q)) ≡ started programs living q

pub none_started : (programs : Programs) (living : List Pid) (m : Standings) → m ≡ map.empty → AreStartedBut programs living living m
none_started programs living m is q =
    ap (λ w. cond (list_any (λ (who : Pid). same_pid q who) living) (Some (first_step (steps_of programs q))) (option_map (progress_at programs) w)) (ap (λ n. map.get n q) is ∙ get-empty pid_cmp q)

pub one_started : (programs : Programs) (living rest : List Pid) (who : Pid) (a : Standing) (m next : Standings) → next ≡ map.insert m who a
    → progress_at programs a ≡ first_step (steps_of programs who) → AreStartedBut programs living (who ∷ rest) m → AreStartedBut programs living rest next
one_started programs living rest who a m next is first but q =
    let any : Bool = list_any (λ (who : Pid). same_pid q who) rest in
    let steps : Progress = first_step (steps_of programs q) in
    ap (λ w. cond any (Some steps) (option_map (progress_at programs) w)) (ap (λ n. map.get n q) is ∙ get-insert pid_cmp_total m who a q)
    ∙ elim (same_pid q who) as (λ b. same_pid q who ≡ b → cond any (Some steps) (option_map (progress_at programs) (cond b (Some a) (map.get m q))) ≡ cond (b || any) (Some steps) (option_map (progress_at programs) (map.get m q))) [
      | true ↦ λ t.
          let own : progress_at programs a ≡ steps = first ∙ ap (λ (k : Pid). first_step (steps_of programs k)) (sym (same_key pid_cmp_exact q who t)) in
          ap (λ p. cond any (Some steps) (Some p)) own ∙ elim any as (λ b. cond {A = Option Progress} b (Some steps) (Some steps) ≡ Some steps) [ true ↦ refl | false ↦ refl ]
      | false ↦ λ _. refl
    ] refl
    ∙ but q

-- the next process of those that are left
pub next_started : (programs : Programs) (living : List Pid) (i : ℕ) (who : Pid) (a : Standing) (m next : Standings) → i < length living → who ≡ get_or living i who → next ≡ map.insert m who a
    → progress_at programs a ≡ first_step (steps_of programs who) → AreStartedBut programs living (drop i living) m → AreStartedBut programs living (drop (i + 1) living) next
next_started programs living i who a m next inside item is first but =
    one_started programs living (drop (i + 1) living) who a m next is first (subst (λ left. AreStartedBut programs living left m) (next_item living i who inside item) but)

-- where none is left, all are there
pub all_started : (programs : Programs) (living : List Pid) (i : ℕ) (m : Standings) → length living ≤ i → AreStartedBut programs living (drop i living) m → AreStarted programs living m
all_started programs living i m past but = subst (λ left. AreStartedBut programs living left m) (drop_all i living past) but

-- ---- the start of a loop
-- a map has something at its keys
has_key : {X : Type 0} (q : Pid) (es : List (Pid × X)) → is_some (find pid_cmp q es) ≡ list_any (λ (who : Pid). same_pid q who) (keys_of es)
has_key q [] = refl
has_key q (e ∷ es) = elim (same_pid q e.0) as (λ b. is_some (cond b (Some e.1) (find pid_cmp q es)) ≡ (b || list_any (λ (who : Pid). same_pid q who) (keys_of es))) [ true ↦ refl | false ↦ has_key q es ]

module _ (programs : Programs) (s : State) (living : List Pid) (standings : Standings) (all : living ≡ map.keys s.procs) (are : AreStarted programs living standings) where
  lives : (q : Pid) → list_any (λ (who : Pid). same_pid q who) living ≡ is_some (map.get s.procs q)
  lives q = ap (list_any (λ (who : Pid). same_pid q who)) all ∙ sym (has_key q (map.entries s.procs)) ∙ ap is_some (sym (get-entries s.procs q))

  by_living : (w : Option Process) (b : Bool) (a : Progress) → b ≡ is_some w → cond {A = Option Progress} b (Some a) None ≡ option_map (λ (p : Process). a) w
  by_living None b a e = ap (λ b. cond {A = Option Progress} b (Some a) None) e
  by_living (Some p) b a e = ap (λ b. cond {A = Option Progress} b (Some a) None) e

  -- the state of a loop at its start
  pub starts_loop : loop_state s programs standings map.empty ≡ loop_start s programs
  starts_loop =
      let there : progress_of programs standings ≡ (loop_start s programs).progress = same_map pid_cmp_total pid_cmp_exact _ _ (λ q.
      get-progress programs standings q ∙ are q
      ∙ by_living (map.get s.procs q) (list_any (λ (who : Pid). same_pid q who) living) (first_step (steps_of programs q)) (lives q)
      ∙ sym (get-each_at (λ who. first_step (steps_of programs who)) s.procs q)) in
      ap (λ progress. record { kernel = s; progress = progress; last_turns = map.empty }) there

  shown_some : (w : Option Standing) → is_some (option_map (progress_at programs) w) ≡ is_some w
  shown_some None = refl
  shown_some (Some a) = refl

  some_if : (b : Bool) (a : Progress) → is_some (cond {A = Option Progress} b (Some a) None) ≡ b
  some_if true a = refl
  some_if false a = refl

  pub starts_running : IsValid s → are_programs s.top programs ≡ true → (top : Label) → top ≡ s.top → IsRunning s programs standings top
  starts_running valid programs_are top top_is = record {
    valid = valid;
    programs_are = programs_are;
    top_is = top_is;
    living = λ q. sym (shown_some (map.get standings q)) ∙ ap is_some (are q) ∙ some_if _ _ ∙ lives q;
  }

-- the same where lists are lent
module _ (programs : Programs) (s : State) (living : List Pid) (standings : Standings) (all : living ≡ map.keys s.procs)
    (first : Programs) (listed : List Pid) (are : AreStarted first listed standings) (same_first : first ≡ programs) (same_listed : listed ≡ living)
    (used : Programs) (same_used : used ≡ programs) where
  are_there : AreStarted programs living standings
  are_there = subst (λ ps. AreStarted ps living standings) same_first (subst (λ ls. AreStarted first ls standings) same_listed are)

  pub start_running : IsValid s → are_programs s.top programs ≡ true → (top : Label) → top ≡ s.top → IsRunning s used standings top
  start_running valid programs_are top top_is =
      subst (λ ps. IsRunning s ps standings top) (sym same_used) (starts_running programs s living standings all are_there valid programs_are top top_is)

  pub start_state : {X : Type 0} (of : LoopState → List Label → X) (last_turns : FinMap label_cmp ℕ) → last_turns ≡ map.empty → (rounds : ℕ) (slices labels : List Label) → labels ≡ slices
      → of (loop_state s used standings last_turns) (repeat rounds labels) ≡ of (loop_start s programs) (repeat rounds slices)
  start_state of last_turns none rounds slices labels same_labels =
      (λ i. of (loop_state s (same_used i) standings (none i)) (repeat rounds (same_labels i)))
      ∙ ap (λ x. of x (repeat rounds slices)) (starts_loop programs s living standings all are_there)
