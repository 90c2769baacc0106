-- Where processes are after a call: in the part as in the state.
use Rattle.std.specs.Prelude.{◌≡◌, true, false, Option, Some, None, refl, cond, is_some, unwrap_or}
use Rattle.std.specs.Option.{option_map}
use Rattle.std.specs.FinMap as map
use Rattle.std.specs.FinMap.{FinMap, same_map}
use Rattle.std.proofs.Common.{sym, ◌∙◌, ap}
use Rattle.std.proofs.lemmas.Bool.{true≢false, false_from_ne_true}
use Rattle.lab_lattice.specs.Label.{Label}
use Rattle.kern_model.specs.declared.numbers.Pid.{Pid}
use Rattle.kern_model.specs.Isolation.{low, part, Kept}
use Rattle.kern_model.specs.Keys.{pid_cmp, same_pid}
use Rattle.kern_model.specs.Maps.{select}
use Rattle.kern_model.specs.State.{State, Process}
use Rattle.kern_model.proofs.KeyLaws.{pid_cmp_total, pid_cmp_exact}
use Rattle.kern_model.proofs.MapLemmas.{same_key, some_same}
use Rattle.kern_model.proofs.Selections.{get-select_each}
use Rattle.iso_laws.proofs.Part.{low_pid, part_by_number, part_is_by_number}
use Rattle.sched_progs.specs.Programs.{Progress}
use Rattle.sched_progs.specs.Turns.{child_of, progress_after, progress_of_living}
use Rattle.sched_progs.proofs.LowParts.{get-part}
use Rattle.sched_progs.proofs.NextTurns.{low_progress}

by_number : (l : Label) (s : State) (q : Pid) → map.get (part_by_number l s).procs q ≡ cond (low l q.label) (map.get s.procs q) None
unfolding part_by_number
by_number l s q = get-part pid_cmp_total pid_cmp_exact (low_pid l) s.procs q

-- the living processes of a part are those of Low numbers
pub get-part_procs : (l : Label) (s : State) → Kept l s → (q : Pid) → map.get (part l s).procs q ≡ cond (low l q.label) (map.get s.procs q) None
get-part_procs l s kept q = ap (λ (t : State). map.get t.procs q) (part_is_by_number l s kept) ∙ by_number l s q

pub get-low_progress : (l : Label) (progress : FinMap pid_cmp Progress) (q : Pid) → map.get (low_progress l progress) q ≡ cond (low l q.label) (map.get progress q) None
get-low_progress l progress q = get-part pid_cmp_total pid_cmp_exact (low_pid l) progress q

-- a process is not at a number that is not Low, where its own is
pub other_pid : (l : Label) (q who : Pid) → low l q.label ≡ true → low l who.label ≡ false → same_pid q who ≡ false
other_pid l q who q_low high = false_from_ne_true _ (λ t. true≢false (sym q_low ∙ ap (λ (p : Pid). low l p.label) (same_key pid_cmp_exact q who t) ∙ high))

-- each living process is at what a function gives for it
abbrev pub each_at : (Pid → Progress) → FinMap pid_cmp Process → FinMap pid_cmp Progress
each_at at procs = select (λ q (p : Process). Some (at q)) procs

pub get-each_at : (at : Pid → Progress) (procs : FinMap pid_cmp Process) (q : Pid) → map.get (each_at at procs) q ≡ option_map (λ (p : Process). at q) (map.get procs q)
get-each_at at procs q = get-select_each pid_cmp_total pid_cmp_exact (λ q (p : Process). at q) procs q

-- it is at that, and nothing is where no process lives
pub living_each : (at : Pid → Progress) (procs : FinMap pid_cmp Process) (q : Pid) → is_some (map.get (each_at at procs) q) ≡ is_some (map.get procs q)
living_each at procs q =
    ap is_some (get-each_at at procs q) ∙ elim (map.get procs q) as (λ w. is_some (option_map (λ (p : Process). at q) w) ≡ is_some w) [ None ↦ refl | Some p ↦ refl ]

pub each_is : (at : Pid → Progress) (procs : FinMap pid_cmp Process) (q : Pid) (p : Progress) → map.get (each_at at procs) q ≡ Some p → at q ≡ p
each_is at procs q p is =
    elim (map.get procs q) as (λ w. option_map (λ (p : Process). at q) w ≡ Some p → at q ≡ p) [
      | None ↦ λ e. absurd (cc)
      | Some _ ↦ λ e. some_same (at q) p e
    ] (sym (get-each_at at procs q) ∙ is)

-- two functions that agree at Low numbers give the part of a kept state what the state has there
pub each_in_part : (l : Label) (s : State) (at low_at : Pid → Progress) → Kept l s → ((q : Pid) → low l q.label ≡ true → low_at q ≡ at q)
    → each_at low_at (part l s).procs ≡ low_progress l (each_at at s.procs)
each_in_part l s at low_at kept agree = same_map pid_cmp_total pid_cmp_exact _ _ (λ q.
    get-each_at low_at (part l s).procs q
    ∙ ap (option_map (λ (p : Process). low_at q)) (get-part_procs l s kept q)
    ∙ elim (low l q.label) as (λ b. low l q.label ≡ b → option_map (λ (p : Process). low_at q) (cond b (map.get s.procs q) None) ≡ cond b (option_map (λ (p : Process). at q) (map.get s.procs q)) None) [
      | true ↦ λ is. ap (λ (a : Progress). option_map (λ (p : Process). a) (map.get s.procs q)) (agree q is)
      | false ↦ λ _. refl
    ] refl
    ∙ ap (λ w. cond (low l q.label) w None) (sym (get-each_at at s.procs q))
    ∙ sym (get-low_progress l (each_at at s.procs) q))

-- after a call processes are in the part where they are in the state
pub after_in_part : (l : Label) (s : State) (who : Pid) (mine : Progress) (before : FinMap pid_cmp Progress) → Kept l s
    → progress_of_living (part l s) who mine (low_progress l before) ≡ low_progress l (progress_of_living s who mine before)
after_in_part l s who mine before kept =
    each_in_part l s (progress_after who mine before) (progress_after who mine (low_progress l before)) kept
    (λ q is. ap (λ w. cond (same_pid q who) mine (unwrap_or w (child_of mine))) (get-low_progress l before q ∙ ap (λ b. cond b (map.get before q) None) is))

-- of two maps with an entry at the same numbers, a process is where it was
same_where : (w : Option Process) (v : Option Progress) (child : Progress) → is_some v ≡ is_some w → option_map (λ (p : Process). unwrap_or v child) w ≡ v
same_where None None child e = refl
same_where None (Some a) child e = absurd (true≢false e)
same_where (Some p) None child e = absurd (true≢false (sym e))
same_where (Some p) (Some a) child e = refl

-- where a call by a process that is not Low leaves the part as it was, the processes of the part are where they were
pub after_of_other : (l : Label) (s t : State) (who : Pid) (mine : Progress) (before : FinMap pid_cmp Progress) → Kept l s → Kept l t → low l who.label ≡ false
    → part l t ≡ part l s → ((q : Pid) → is_some (map.get before q) ≡ is_some (map.get s.procs q))
    → low_progress l (progress_of_living t who mine before) ≡ low_progress l before
after_of_other l s t who mine before kept kept' high same living = same_map pid_cmp_total pid_cmp_exact _ _ (λ q.
    get-low_progress l (progress_of_living t who mine before) q
    ∙ ap (λ w. cond (low l q.label) w None) (get-each_at (progress_after who mine before) t.procs q)
    ∙ elim (low l q.label) as (λ b. low l q.label ≡ b → cond b (option_map (λ (p : Process). progress_after who mine before q) (map.get t.procs q)) None ≡ cond b (map.get before q) None) [
      | true ↦ λ is.
          let same_procs : map.get t.procs q ≡ map.get s.procs q =
          ap (λ b. cond b (map.get t.procs q) None) (sym is) ∙ sym (get-part_procs l t kept' q) ∙ ap (λ (u : State). map.get u.procs q) same ∙ get-part_procs l s kept q
          ∙ ap (λ b. cond b (map.get s.procs q) None) is in
          ap (λ b. option_map (λ (p : Process). cond b mine (unwrap_or (map.get before q) (child_of mine))) (map.get t.procs q)) (other_pid l q who is high)
          ∙ ap (option_map (λ (p : Process). unwrap_or (map.get before q) (child_of mine))) same_procs
          ∙ same_where (map.get s.procs q) (map.get before q) (child_of mine) (living q)
      | false ↦ λ _. refl
    ] refl
    ∙ sym (get-low_progress l before q))
