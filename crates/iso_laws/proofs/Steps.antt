-- The laws of a step.
use Rattle.std.specs.Prelude.{◌≡◌, true, false, List, [], ◌++◌, Some, None, refl}
use Rattle.std.specs.Option.{option_and_then}
use Rattle.std.proofs.Common.{sym, ◌∙◌, ap}
use Rattle.std.specs.FinMap as map
use Rattle.lab_lattice.specs.Label.{Label}
use Rattle.kern_model.specs.declared.numbers.Pid.{Pid}
use Rattle.kern_model.specs.declared.calls.Call.{Call}
use Rattle.kern_model.specs.Arguments.{has_names, is_call}
use Rattle.kern_model.specs.Maps.{where_key}
use Rattle.kern_model.proofs.KeyLaws.{pid_cmp_total, pid_cmp_exact}
use Rattle.kern_model.specs.Names.{name_of}
use Rattle.kern_model.specs.State.{State, Process, Change, apply_change, apply_changes}
use Rattle.kern_model.specs.Row.{Stopped, Refused, Done, CheckOutcome, judge, check_outcome}
use Rattle.kern_model.specs.Table.{row}
use Rattle.kern_model.specs.Step.{StepResult, step, step_by, step_result, subject, reply_of, changes_of, state_after, own_of}
use Rattle.kern_model.specs.Isolation.{low, part, crosses, any_crosses, Kept}
use Rattle.kern_model.specs.Valid.{IsValid}
use Rattle.kern_model.proofs.MapLemmas.{get-select}
use Rattle.iso_laws.proofs.PlayableCalls.{has_flags, flags_of_call}
use Rattle.iso_laws.specs.Laws.{IsLowStep, LowStepReply, LowStepRecords, LowStepState, OtherStep, KeptStep, ValidStep, TopStep}
use Rattle.iso_laws.proofs.Part.{part_by_number, top-apply_change, low_pid, as_is, part_changes, part_is_by_number, part_by_number-apply_changes, fixed_by}
use Rattle.iso_laws.proofs.Rows.{outcome_is_part, none_before, excludes_none, none_excluded, part_end, outcome_in_part}
use Rattle.iso_laws.proofs.PartReads.{get_process}
use Rattle.iso_laws.proofs.Cases.{EffectCases}
use Rattle.iso_laws.proofs.HiddenCases.{hidden_cases}
use Rattle.iso_laws.proofs.KeptCases.{kept_cases}
use Rattle.iso_laws.proofs.ValidCases.{valid_cases}
use Rattle.iso_laws.proofs.Isolation.{low_row, row_satisfies}

module _ (s : State) (who : Pid) (c : Call) where
  abbrev pub row_outcome : Process → CheckOutcome
  row_outcome p = judge (subject who p) [] (row s who p c)

  -- a step by cases: no living process has the number, or one has
  pub step_cases : (P : StepResult → Type 0) → (map.get s.procs who ≡ None → P (step_by s who c None)) → ((p : Process) → map.get s.procs who ≡ Some p → P (step_result s who p (name_of c) (row_outcome p))) → P (step s who c)
  unfolding step
  step_cases P f g =
      elim (map.get s.procs who) as (λ o. map.get s.procs who ≡ o → P (step_by s who c o)) [ None ↦ f | Some p ↦ g p ] refl

  -- what no change alters stays the same over a step
  pub fixed_after : {X : Type 0} (of : State → X) → ((s : State) (c : Change) → of (apply_change s c) ≡ of s) → of (step s who c).state ≡ of s
  fixed_after of fixed = step_cases (λ o. of o.state ≡ of s) (λ _. refl) (λ p _. fixed_by of fixed s (changes_of (row_outcome p).end))

-- a valid state stays valid, whatever crosses
pub valid_step : ValidStep
valid_step s who c args names valid = step_cases s who c (λ o. IsValid o.state)
    (λ _. valid)
    (λ p is. (row_satisfies excludes_none s valid who p is (Unit {0}) (λ cs. IsValid (apply_changes s cs)) (valid_cases excludes_none s valid who p is) c (λ _. args) (λ _. names) (flags_of_call s.top c args)).ends [] (none_excluded (row_outcome s who c p).used))

module _ (l : Label) (s : State) (who : Pid) (c : Call) (flags : has_flags c ≡ true) where
  -- the changes of a row satisfy a property, where the step crosses nothing
  step_satisfies : (P : List Change → Type 0) → IsValid s → (p : Process) → map.get s.procs who ≡ Some p → EffectCases (crosses l) s who p ((is_call s.top c ≡ true) × (has_names c ≡ true)) P
      → any_crosses l (step_result s who p (name_of c) (row_outcome s who c p)).recs ≡ false → P (changes_of (row_outcome s who c p).end)
  step_satisfies P valid p is cases h =
      let j : CheckOutcome = row_outcome s who c p in
      (row_satisfies (crosses l) s valid who p is ((is_call s.top c ≡ true) × (has_names c ≡ true)) P cases c (λ args. args.0) (λ args. args.1) flags).ends [] (none_before (crosses l) j.used (own_of who p (name_of c) j.end) h)

pub kept_step : KeptStep
kept_step l s who c args valid kept = step_cases s who c (λ o. any_crosses l o.recs ≡ false → Kept l o.state)
    (λ _ _. kept)
    (λ p is h. step_satisfies l s who c (flags_of_call s.top c args) (λ cs. Kept l (apply_changes s cs)) valid p is (kept_cases l s kept valid who p is _) h)

pub other_step : OtherStep
other_step l s who c args valid kept high = step_cases s who c (λ o. (any_crosses l o.recs ≡ false → Kept l o.state) → any_crosses l o.recs ≡ false → part l o.state ≡ part l s)
    (λ _ _ _. refl)
    (λ p is k h.
    part_is_by_number l _ (k h)
    ∙ part_by_number-apply_changes l s (changes_of (row_outcome s who c p).end)
    ∙ ap (apply_changes (part_by_number l s)) (step_satisfies l s who c (flags_of_call s.top c args) (λ cs. part_changes l s.top cs ≡ []) valid p is (hidden_cases l s kept valid who p _ is high) h)
    ∙ sym (part_is_by_number l s kept))
    (kept_step l s who c args valid kept)

module _ (l : Label) (s : State) (who : Pid) (c : Call) where
  abbrev part_outcome : StepResult → StepResult
  part_outcome o = record { state = part l o.state; reply = o.reply; recs = o.recs }

  settled_part : Kept l s → (p : Process) (j : CheckOutcome) → Kept l (state_after s j.end) → step_result (part_by_number l s) who p (name_of c) (outcome_in_part l s.top j) ≡ part_outcome (step_result s who p (name_of c) j)
  settled_part kept p j kept' =
      elim j.end as (λ e. Kept l (state_after s e) → step_result (part_by_number l s) who p (name_of c) (check_outcome j.used (part_end l s.top e)) ≡ part_outcome (step_result s who p (name_of c) (check_outcome j.used e))) [
        | Stopped name place ↦ λ k. ap (λ t. record { state = t; reply = reply_of (Stopped name place); recs = j.used ++ own_of who p (name_of c) (Stopped name place) }) (sym (part_is_by_number l s kept))
        | Refused e ↦ λ k. ap (λ t. record { state = t; reply = reply_of (Refused e); recs = j.used ++ own_of who p (name_of c) (Refused e) }) (sym (part_is_by_number l s kept))
        | Done cs answer own ↦ λ k. ap (λ t. record { state = t; reply = reply_of (Done cs answer own); recs = j.used ++ own_of who p (name_of c) (Done cs answer own) }) (sym (part_by_number-apply_changes l s cs) ∙ sym (part_is_by_number l _ k))
      ] kept'

  absent : map.get s.procs who ≡ None → map.get (part_by_number l s).procs who ≡ None
  unfolding part_by_number
  absent e = get-select pid_cmp_exact (where_key (low_pid l) (as_is {X = Process})) pid_cmp_total s.procs who ∙ ap (option_and_then (where_key (low_pid l) as_is who)) e

  -- a step of a Low process in the part is the part of the step in the state
  pub low_step : IsLowStep l s who c → step (part l s) who c ≡ part_outcome (step s who c)
  unfolding step
  low_step low_step_is =
      let kept : Kept l s = low_step_is.kept in
      ap (λ t. step t who c) (part_is_by_number l s kept)
      ∙ step_cases s who c (λ o. (any_crosses l o.recs ≡ false → Kept l o.state) → any_crosses l o.recs ≡ false → step (part_by_number l s) who c ≡ part_outcome o)
      (λ none _ _. ap (step_by (part_by_number l s) who c) (absent none) ∙ ap (λ t. step_by t who c None) (sym (part_is_by_number l s kept)))
      (λ p is k h.
      let p_low : low l p.label ≡ true = sym (kept.procs who p is) ∙ low_step_is.is_low in
      ap (step_by (part_by_number l s) who c) (get_process l s who low_step_is.is_low ∙ is)
      ∙ ap (step_result (part_by_number l s) who p (name_of c)) (outcome_is_part l s.top _ _ ((low_row l s kept low_step_is.valid who p is p_low c (flags_of_call s.top c low_step_is.arguments)).ends [] (none_before (crosses l) (row_outcome s who c p).used (own_of who p (name_of c) (row_outcome s who c p).end) h)))
      ∙ settled_part kept p (row_outcome s who c p) (k h))
      (kept_step l s who c low_step_is.arguments low_step_is.valid kept) low_step_is.inside

pub low_step_reply : LowStepReply
low_step_reply l s who c is = ap (λ o. o.reply) (low_step l s who c is)

pub low_step_records : LowStepRecords
low_step_records l s who c is = ap (λ o. o.recs) (low_step l s who c is)

pub low_step_state : LowStepState
low_step_state l s who c is = ap (λ o. o.state) (low_step l s who c is)

pub top_step : TopStep
top_step s who c = fixed_after s who c (λ t. t.top) top-apply_change
