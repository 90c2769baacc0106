-- The part of the state of a loop, and who has the next turn of a Low label in it.
use Rattle.std.specs.Prelude.{◌≡◌, ℕ, nat_lt, Bool, true, Option, Some, None}
use Rattle.std.specs.Option.{option_or}
use Rattle.std.specs.FinMap as map
use Rattle.std.specs.FinMap.{FinMap}
use Rattle.std.proofs.Common.{◌∙◌, ap}
use Rattle.std.proofs.lemmas.Bool.{and_parts}
use Rattle.lab_lattice.specs.Label.{Label, dominates, label_cmp}
use Rattle.lab_lattice.proofs.Labels.{dominates_both, label_cmp_total, label_cmp_exact}
use Rattle.kern_model.specs.declared.numbers.Pid.{Pid}
use Rattle.kern_model.specs.Isolation.{low, part}
use Rattle.kern_model.specs.Keys.{pid_cmp}
use Rattle.kern_model.proofs.KeyLaws.{pid_cmp_total, pid_cmp_exact}
use Rattle.kern_model.proofs.MapLemmas.{get_or-same}
use Rattle.iso_laws.proofs.Part.{low_pid}
use Rattle.sched_progs.specs.Programs.{Progress}
use Rattle.sched_progs.specs.Turns.{LoopState, is_of, is_above, last_turn, least, next_in_turn}
use Rattle.sched_progs.proofs.LowParts.{kept_part, get-passes, find-part, entry_found}

-- where the processes of Low numbers are
abbrev pub low_progress : Label → FinMap pid_cmp Progress → FinMap pid_cmp Progress
low_progress l progress = kept_part pid_cmp_total pid_cmp_exact (low_pid l) progress

-- the last turns of Low labels
abbrev pub low_turns : Label → FinMap label_cmp ℕ → FinMap label_cmp ℕ
low_turns l turns = kept_part label_cmp_total label_cmp_exact (low l) turns

abbrev pub part_loop : Label → LoopState → LoopState
part_loop l x = record { kernel = part l x.kernel; progress = low_progress l x.progress; last_turns = low_turns l x.last_turns }

-- a number of a label has this label
pub label_of : (k : Label) (who : Pid) → is_of k who ≡ true → who.label ≡ k
label_of k who is = let both = and_parts (dominates who.label k) (dominates k who.label) is in dominates_both who.label k both.0 both.1

module _ (l : Label) (x : LoopState) (k : Label) (k_low : low l k ≡ true) where
  of_low : (who : Pid) → is_of k who ≡ true → low l who.label ≡ true
  of_low who is = ap (low l) (label_of k who is) ∙ k_low

  above_low : (n : ℕ) (who : Pid) → is_above k n who ≡ true → low l who.label ≡ true
  above_low n who is = of_low who (and_parts (is_of k who) (nat_lt n who.n) is).0

  same_turn : last_turn (part_loop l x) k ≡ last_turn x k
  same_turn = get_or-same _ _ k 0 (get-passes label_cmp_total label_cmp_exact (low l) x.last_turns k k_low)

  same_least : (test : Pid → Bool) → ((who : Pid) → test who ≡ true → low l who.label ≡ true) → least test (low_progress l x.progress) ≡ least test x.progress
  same_least test only = find-part pid_cmp_total pid_cmp_exact (low_pid l) test only x.progress

  -- it is the same process, in the same place
  pub same_next : next_in_turn (part_loop l x) k ≡ next_in_turn x k
  same_next =
      ap (λ n. option_or (least (is_above k n) (low_progress l x.progress)) (least (is_of k) (low_progress l x.progress))) same_turn
      ∙ (λ i. option_or (same_least (is_above k (last_turn x k)) (above_low (last_turn x k)) i) (same_least (is_of k) of_low i))

-- one of two holds of what is there
one_of : {X : Type 0} (P : X → Type 0) (w v : Option X) (x : X) → ((y : X) → w ≡ Some y → P y) → ((y : X) → v ≡ Some y → P y) → option_or w v ≡ Some x → P x
one_of P None v x first second is = second x is
one_of P (Some y) v x first second is = first x is

-- who has the next turn of a label has a number of it, and lives
pub next_is : (x : LoopState) (k : Label) (e : Pid × Progress) → next_in_turn x k ≡ Some e → (e.0.label ≡ k) × (map.get x.progress e.0 ≡ Some e.1)
next_is x k e is =
    let entry : (test : Pid → Bool) → ((who : Pid) → test who ≡ true → is_of k who ≡ true) → (e : Pid × Progress) → least test x.progress ≡ Some e
    → (e.0.label ≡ k) × (map.get x.progress e.0 ≡ Some e.1) =
    λ test only e found. let has = entry_found pid_cmp_total pid_cmp_exact test x.progress e found in (label_of k e.0 (only e.0 has.0), has.1) in
    one_of (λ (e : Pid × Progress). (e.0.label ≡ k) × (map.get x.progress e.0 ≡ Some e.1)) (least (is_above k (last_turn x k)) x.progress) (least (is_of k) x.progress) e
    (entry (is_above k (last_turn x k)) (λ who t. (and_parts (is_of k who) (nat_lt (last_turn x k) who.n) t).0))
    (entry (is_of k) (λ who t. t)) is
