-- Which processes live after a step, by its records of fork and exit.
use Rattle.std.specs.Prelude.{◌≡◌, ⊤, ◌+◌, not, ◌&&◌, ◌||◌, Bool, true, false, List, [], ◌∷◌, ◌++◌, Option, Some, None, refl, cond, is_some, option_to_list}
use Rattle.std.specs.List.{AllByRecursion, flat_map}
use Rattle.std.specs.FinMap as map
use Rattle.std.specs.FinMap.{get-insert, get-remove}
use Rattle.std.proofs.Common.{sym, ◌∙◌, ap}
use Rattle.std.proofs.lemmas.Bool.{and_from, and_parts}
use Rattle.cap_bits.specs.declared.cap.Cap.{Cap}
use Rattle.kern_model.specs.declared.calls.Call.{Call}
use Rattle.kern_model.specs.declared.calls.CallName.{CallName}
use Rattle.kern_model.specs.declared.calls.Ending.{Ending}
use Rattle.kern_model.specs.declared.checks.Check.{Check}
use Rattle.kern_model.specs.declared.checks.CheckName.{CheckName}
use Rattle.kern_model.specs.declared.checks.Place.{Place}
use Rattle.kern_model.specs.declared.numbers.Pid.{Pid}
use Rattle.kern_model.specs.declared.records.Rec.{Rec}
use Rattle.kern_model.specs.declared.records.Rec.TheVariants as rec
use Rattle.kern_model.specs.Descriptors.{Descriptor, changes_of_close}
use Rattle.kern_model.specs.Keys.{same_pid}
use Rattle.kern_model.specs.Names.{name_of}
use Rattle.kern_model.specs.ProcessRows.{changes_after_end, child_of, ending_of, process_after_end}
use Rattle.kern_model.specs.Row.{Row, Subject, CheckOutcome, judge, exercise_with}
use Rattle.kern_model.specs.Rules.{cap_of, denial_of}
use Rattle.kern_model.specs.State.{State, Process, Change, SetProcess, DropProcess, DrawProcess, apply_change, apply_changes, last_drawn, next_process}
use Rattle.kern_model.specs.Step.{step, step_by, step_result, subject, state_after, own_of}
use Rattle.kern_model.specs.Table.{row}
use Rattle.kern_model.proofs.KeyLaws.{pid_cmp_total, pid_cmp_exact}
use Rattle.kern_model.proofs.MapLemmas.{each-entries, same_key}
use Rattle.iso_laws.proofs.AllLemmas.{all-append, all_each, all_when}
use Rattle.iso_laws.proofs.Along.{NothingKnown, along_each_commit}
use Rattle.iso_laws.proofs.ClosingLemmas.{each_closing}
use Rattle.iso_laws.proofs.Effects.{Premise, PremiseHolds, Effect, NoChange, Note, SetIds, SetUmask, SetSwitch, SetCaps, Execute, SetLabel, ChangeDir, Move, Create, Duplicate, Close, WriteFile, Open, OpenEmptied, OpenMade, MakePipe, MakeChild, Await, EndProcess}
use Rattle.iso_laws.proofs.RowKinds.{row_kinds}
use Rattle.iso_laws.proofs.Rows.{EachCommit, used_preserves, end_satisfies}

-- which processes live after a record, and after records
abbrev pub living_after_one : (Pid → Bool) → Rec → Pid → Bool
living_after_one live (rec.Fork who child) q = same_pid q child || live q
living_after_one live (rec.Exit who how) q = not (same_pid q who) && live q
living_after_one live _ q = live q

abbrev pub living_after : (Pid → Bool) → List Rec → Pid → Bool
living_after live [] q = live q
living_after live (r ∷ rs) q = living_after (living_after_one live r) rs q

-- these processes live in a state, and no others
abbrev pub Live : State → (Pid → Bool) → Type 0
Live s live = (q : Pid) → is_some (map.get s.procs q) ≡ live q

living_after-append : (live : Pid → Bool) (xs ys : List Rec) (q : Pid) → living_after live (xs ++ ys) q ≡ living_after (living_after live xs) ys q
living_after-append live [] ys q = refl
living_after-append live (x ∷ xs) ys q = living_after-append (living_after_one live x) xs ys q

live_same : (s : State) (live other : Pid → Bool) → ((q : Pid) → live q ≡ other q) → Live s live → Live s other
live_same s live other same lives q = lives q ∙ same q

-- ---- changes
live_set : (s : State) (live : Pid → Bool) → Live s live → (who : Pid) (new : Process) → Live (apply_change s (SetProcess who new)) (λ q. same_pid q who || live q)
live_set s live lives who new q =
    ap is_some (get-insert pid_cmp_total s.procs who new q)
    ∙ elim (same_pid q who) as (λ b. is_some (cond b (Some new) (map.get s.procs q)) ≡ (b || live q)) [ true ↦ refl | false ↦ lives q ]

live_dropped : (s : State) (live : Pid → Bool) → Live s live → (who : Pid) → Live (apply_change s (DropProcess who)) (λ q. not (same_pid q who) && live q)
live_dropped s live lives who q =
    ap is_some (get-remove pid_cmp_total s.procs who q)
    ∙ elim (same_pid q who) as (λ b. is_some (cond b None (map.get s.procs q)) ≡ (not b && live q)) [ true ↦ refl | false ↦ lives q ]

-- a change that neither ends a process nor makes one
abbrev pub LeavesLiving : (Pid → Bool) → Change → Type 0
LeavesLiving live (SetProcess who p) = live who ≡ true
LeavesLiving live (DropProcess who) = ⊥
LeavesLiving live _ = ⊤

live_over : (s : State) (live : Pid → Bool) → Live s live → (c : Change) → LeavesLiving live c → Live (apply_change s c) live
live_over s live lives (SetProcess who p) h =
    live_same (apply_change s (SetProcess who p)) (λ q. same_pid q who || live q) live
    (λ q. elim (same_pid q who) as (λ b. same_pid q who ≡ b → (b || live q) ≡ live q) [
      | true ↦ λ t. sym (ap live (same_key pid_cmp_exact q who t) ∙ h)
      | false ↦ λ _. refl
    ] refl)
    (live_set s live lives who p)
live_over s live lives (DropProcess who) h = absurd h
live_over s live lives c h = lives

live_over_all : (cs : List Change) (s : State) (live : Pid → Bool) → Live s live → AllByRecursion (LeavesLiving live) cs → Live (apply_changes s cs) live
live_over_all [] s live lives h = lives
live_over_all (c ∷ cs) s live lives h = live_over_all cs (apply_change s c) live (live_over s live lives c h.0) h.1

-- ---- the own record of a call
-- after the changes those processes live that the own record gives
abbrev pub MatchesOwn : State → (Pid → Bool) → List Change → Option Rec → Type 0
MatchesOwn s live cs own = Live (apply_changes s cs) (living_after live (option_to_list own))

module _ (s : State) (live : Pid → Bool) (lives : Live s live) where
  -- where neither the changes nor the own record end a process or make one
  all_leave : (cs : List Change) (own : Option Rec) → AllByRecursion (LeavesLiving live) cs → ((q : Pid) → living_after live (option_to_list own) q ≡ live q) → MatchesOwn s live cs own
  all_leave cs own calm same = live_same (apply_changes s cs) live (living_after live (option_to_list own)) (λ q. sym (same q)) (live_over_all cs s live lives calm)

  -- a process that ends: those that are set besides live on
  module _ (gone : Pid) (x : Process) (how : Ending) where
    abbrev left : Pid → Bool
    left q = not (same_pid q gone) && live q

    set_besides : (e : Pid × Process) → live e.0 ≡ true → AllByRecursion (LeavesLiving left) (changes_after_end gone x how e)
    set_besides e h =
        all_when (LeavesLiving left) _ (SetProcess e.0 (process_after_end gone x how e.0 e.1) ∷ [])
        (λ t. (and_from (not (same_pid e.0 gone)) (live e.0) (and_parts (not (same_pid e.0 gone)) _ t).0 h, tt))

    ends : MatchesOwn s live (ending_of s gone x how) (Some (rec.Exit gone how))
    unfolding ending_of
    ends =
        let goes : Descriptor → Bool = λ d. same_pid d.who gone in
        let others : List Change = flat_map (changes_after_end gone x how) (map.entries s.procs) in
        live_over_all (changes_of_close s goes ++ others) (apply_change s (DropProcess gone)) left (live_dropped s live lives gone)
        (all-append (LeavesLiving left) (changes_of_close s goes) others (each_closing s (LeavesLiving left) (λ did. tt) (λ did d e. tt) goes)
        (all_each (λ (e : Pid × Process). live e.0 ≡ true) (LeavesLiving left) (changes_after_end gone x how) set_besides (map.entries s.procs)
        (each-entries pid_cmp_total pid_cmp_exact (λ (q : Pid) (y : Process). live q ≡ true) s.procs (λ q y e. sym (lives q) ∙ ap is_some e))))

  module _ (who : Pid) (p : Process) (is : map.get s.procs who ≡ Some p) (Known : Check → Type 0) (Not : Bool → Type 0) (Given : Premise → Type 0) where
    own_lives : live who ≡ true
    own_lives = sym (lives who) ∙ ap is_some is

    matches_effect : (cs : List Change) (own : Option Rec) → Effect Known Not Given s who p cs own → MatchesOwn s live cs own
    matches_effect cs own (MakeChild few) =
        live_set (apply_change s (DrawProcess p.label (last_drawn s.process_numbers p.label + 1))) live lives (next_process s p.label) (child_of who p)
    matches_effect cs own (EndProcess q x how at may) = ends q x how
    matches_effect cs own NoChange = all_leave cs own tt (λ q. refl)
    matches_effect cs own (Note bytes) = all_leave cs own tt (λ q. refl)
    -- the caller is set
    matches_effect cs own (SetIds ids groups) = all_leave cs own (own_lives, tt) (λ q. refl)
    matches_effect cs own (SetUmask mode args) = all_leave cs own (own_lives, tt) (λ q. refl)
    matches_effect cs own (SetSwitch on) = all_leave cs own (own_lives, tt) (λ q. refl)
    matches_effect cs own (SetCaps caps grow) = all_leave cs own (own_lives, tt) (λ q. refl)
    matches_effect cs own (Execute id walked) = all_leave cs own (own_lives, tt) (λ q. refl)
    matches_effect cs own (SetLabel new allowed args) = all_leave cs own (own_lives, tt) (λ q. refl)
    matches_effect cs own (ChangeDir id place walked read dir) = all_leave cs own (own_lives, tt) (λ q. refl)
    matches_effect cs own (Duplicate fd d open_is free) = all_leave cs own (own_lives, tt) (λ q. refl)
    matches_effect cs own (Await e es ended) = all_leave cs own (own_lives, tt) (λ q. refl)
    -- several changes
    matches_effect cs own (Move dir name id into new place there leave enter apart way args) = all_leave cs own (tt, (tt, tt)) (λ q. refl)
    matches_effect cs own (Create dir name o place making) = all_leave cs own (tt, (tt, (tt, tt))) (λ q. refl)
    matches_effect cs own (Close fd) = all_leave cs own (own_lives, each_closing s (LeavesLiving live) (λ did. tt) (λ did d e. tt) _) (λ q. refl)
    matches_effect cs own (WriteFile fd d attr bytes offset open_is written file inside fits mode) = all_leave cs own (tt, (tt, tt)) (λ q. refl)
    matches_effect cs own (Open id flags place may) = all_leave cs own (tt, (tt, (own_lives, tt))) (λ q. refl)
    matches_effect cs own (OpenEmptied id flags place attr may empties mode) = all_leave cs own (tt, (tt, (tt, (own_lives, tt)))) (λ q. refl)
    matches_effect cs own (OpenMade dir name o place flags making file room) = all_leave cs own (tt, (tt, (tt, (tt, (tt, (own_lives, tt)))))) (λ q. refl)
    matches_effect cs own (MakePipe few full none) = all_leave cs own (tt, (tt, (tt, (tt, (tt, (own_lives, tt)))))) (λ q. refl)
    -- an object or entry is set, or a description
    matches_effect cs own e = all_leave cs own (tt, tt) (λ q. refl)

-- ---- a step
exercise_leaves : (a : Subject) (live : Pid → Bool) (q : Pid) (c : Check) (with : Option Cap) → living_after live (exercise_with a c with) q ≡ live q
exercise_leaves a live q c None = refl
exercise_leaves a live q c (Some cap) = refl

used_leave : (a : Subject) (live : Pid → Bool) (q : Pid) (r : Row) → living_after live (judge a [] r).used q ≡ live q
used_leave a live q r =
    used_preserves (λ used. living_after live used q ≡ live q) a
    (λ c used h.
    living_after-append live used (exercise_with a c (cap_of c.name)) q ∙ exercise_leaves a (living_after live used) q c (cap_of c.name) ∙ h)
    [] r refl

denial_leaves : (live : Pid → Bool) (b : Bool) (who : Pid) (name : CallName) (check : CheckName) (place : Place) (q : Pid)
    → living_after live (cond b (rec.Deny who name (denial_of check) check place ∷ []) []) q ≡ live q
denial_leaves live true who name check place q = refl
denial_leaves live false who name check place q = refl

row_matches : (s : State) (live : Pid → Bool) → Live s live → (who : Pid) (p : Process) → map.get s.procs who ≡ Some p → (c : Call)
    → EachCommit (MatchesOwn s live) (row s who p c)
row_matches s live lives who p is c =
    along_each_commit _ _ _ (matches_effect s live lives who p is NothingKnown NothingKnown (PremiseHolds s c)) (row s who p c)
    (row_kinds NothingKnown NothingKnown (PremiseHolds s c) s who p is c (λ x h. h))

end_matches : (s : State) (who : Pid) (p : Process) (name : CallName) (live : Pid → Bool) → Live s live → (a : Subject) (r : Row)
    → EachCommit (MatchesOwn s live) r
    → Live (state_after s (judge a [] r).end) (living_after live (own_of who p name (judge a [] r).end))
end_matches s who p name live lives a r h =
    end_satisfies (λ e. Live (state_after s e) (living_after live (own_of who p name e))) (MatchesOwn s live)
    (λ check place. live_same s live _ (λ q. sym (denial_leaves live p.audited who name check place q)) lives) (λ e _. lives) (λ cs answer own h. h) a [] r h

module _ (s : State) (who : Pid) (c : Call) (live : Pid → Bool) (lives : Live s live) where
  settled : (p : Process) → map.get s.procs who ≡ Some p
      → Live (step_result s who p (name_of c) (judge (subject who p) [] (row s who p c))).state
      (living_after live (step_result s who p (name_of c) (judge (subject who p) [] (row s who p c))).recs)
  settled p is =
      let j : CheckOutcome = judge (subject who p) [] (row s who p c) in
      let own : List Rec = own_of who p (name_of c) j.end in
      let before : Pid → Bool = living_after live j.used in
      let lives_before : Live s before = live_same s live before (λ q. sym (used_leave (subject who p) live q (row s who p c))) lives in
      live_same (state_after s j.end) (living_after before own) (living_after live (j.used ++ own))
      (λ q. sym (living_after-append live j.used own q))
      (end_matches s who p (name_of c) before lives_before (subject who p) (row s who p c) (row_matches s before lives_before who p is c))

  -- those processes live after a step that its records give
  pub live_after_step : Live (step s who c).state (living_after live (step s who c).recs)
  unfolding step
  live_after_step =
      elim (map.get s.procs who) as (λ o. map.get s.procs who ≡ o → Live (step_by s who c o).state (living_after live (step_by s who c o).recs)) [
        | None ↦ λ _. lives
        | Some p ↦ settled p
      ] refl
