-- The schedule that lines give may be played, and lines without one do not end whole.
use Rattle.std.proofs.Common.{◌≡◌, ℕ, ◌+◌, Bool, List, [], ◌∷◌, refl, Option, Some, None}
use Rattle.std.specs.Prelude.{ok_or, Result, Ok, Err}
use Rattle.lab_text.specs.Policy.{PolicyNames, top_of}
use Rattle.line_text.specs.declared.fault.LineFault.{LineFault}
use Rattle.line_text.specs.declared.fault.LineFault.TheVariants as fault
use Rattle.script_text.specs.declared.step.StepLine.{StepLine}
use Rattle.script_text.specs.Reading.{Reading}
use Rattle.script_text.specs.Step.{parse_step}
use Rattle.script_text.proofs.StepLaws.{step_played}
use Rattle.lab_engine.specs.declared.ending.InputEnd.{InputEnd}
use Rattle.lab_engine.specs.declared.ending.InputEnd.TheVariants.{Whole, Refused, RefusedWord, TooMuch}
use Rattle.lab_engine.specs.declared.ending.Part.TheVariants as part
use Rattle.lab_engine.specs.Input.{last_piece}
use Rattle.sched_engine.specs.declared.reading.ReadSchedule.{ReadSchedule}
use Rattle.sched_engine.specs.declared.reading.ReadSchedule.TheVariants as read_is
use Rattle.sched_engine.specs.declared.schedule.Expecting.{Expecting}
use Rattle.sched_engine.specs.declared.schedule.Schedule.{Schedule}
use Rattle.sched_engine.specs.Reading.{after_line, at_end, go_on, schedule_from, schedule_or}
use Rattle.sched_engine.specs.Schedule.{MayBePlayed, MayGoOn, step_line, whole}
use Rattle.sched_engine.proofs.ScheduleLemmas.{step_plays, whole_plays}

-- what is there was there
was_there : {X E : Type 0} (o : Option X) (e : E) (x : X) → ok_or o e ≡ Ok x → o ≡ Some x
was_there None e x is = absurd (cc)
was_there (Some y) e x is = let same : y ≡ x = cc in (λ i. Some (same i))

schedule_was_there : (o : Option Schedule) (e : InputEnd) (s : Schedule) → schedule_or o e ≡ read_is.Schedule s → o ≡ Some s
schedule_was_there None e s is = absurd (cc)
schedule_was_there (Some y) e s is = let same : y ≡ s = cc in (λ i. Some (same i))

-- ---- what may be played
module _ (policy : PolicyNames) (s : Schedule) where
  at_end_plays : (due : Expecting) (n : ℕ) (ending : InputEnd) → MayGoOn (top_of policy) due → at_end due n ending ≡ read_is.Schedule s → MayBePlayed (top_of policy) s
  at_end_plays due n Whole may is = whole_plays (top_of policy) due may s (schedule_was_there (whole due) (Refused n part.Script fault.Syntax) s is)
  at_end_plays due n (Refused m p why) may is = absurd (cc)
  at_end_plays due n (RefusedWord word why) may is = absurd (cc)
  at_end_plays due n TooMuch may is = absurd (cc)

  after_line_plays : (line : List ℕ) (due : Expecting) (said : Reading StepLine) → parse_step policy line ≡ said → MayGoOn (top_of policy) due
      → (after : Expecting) → after_line line due said ≡ Ok after → MayGoOn (top_of policy) after
  after_line_plays line due (Ok said) parsed may after is = step_plays (top_of policy) due said may (step_played policy line said parsed) after (was_there (step_line due said) fault.Syntax after is)
  after_line_plays line due (Err e) parsed may after is = absurd (cc)

  goes_on_plays : (r : Result Expecting LineFault) (n : ℕ) (rest : Expecting → ReadSchedule) → ((after : Expecting) → r ≡ Ok after → rest after ≡ read_is.Schedule s → MayBePlayed (top_of policy) s)
      → go_on r n rest ≡ read_is.Schedule s → MayBePlayed (top_of policy) s
  goes_on_plays (Ok after) n rest plays is = plays after refl is
  goes_on_plays (Err why) n rest plays is = absurd (cc)

  -- the schedule of lines may be played
  pub schedule_plays : (over : Bool) (n : ℕ) (due : Expecting) (lines : List (List ℕ)) → MayGoOn (top_of policy) due → schedule_from over policy n due lines ≡ read_is.Schedule s → MayBePlayed (top_of policy) s
  unfolding schedule_from
  schedule_plays over n due [] may is = at_end_plays due n Whole may is
  schedule_plays over n due (last ∷ []) may is = at_end_plays due n (last_piece over n last) may is
  schedule_plays over n due (line ∷ next ∷ ls) may is =
      goes_on_plays (after_line line due (parse_step policy line)) n (λ after. schedule_from over policy (n + 1) after (next ∷ ls))
      (λ after goes rest. schedule_plays over (n + 1) after (next ∷ ls) (after_line_plays line due (parse_step policy line) refl may after goes) rest) is

-- ---- how lines end without a schedule
module _ (policy : PolicyNames) (ending : InputEnd) (all : ending ≡ Whole) where
  end_not_whole : (o : Option Schedule) (n : ℕ) → schedule_or o (Refused n part.Script fault.Syntax) ≡ read_is.Ended ending → ⊥
  end_not_whole None n is = let same : Refused n part.Script fault.Syntax ≡ ending = cc in absurd (cc)
  end_not_whole (Some x) n is = absurd (cc)

  at_end_not_whole : (due : Expecting) (n : ℕ) (e : InputEnd) → at_end due n e ≡ read_is.Ended ending → ⊥
  at_end_not_whole due n Whole is = end_not_whole (whole due) n is
  at_end_not_whole due n (Refused m p why) is = let same : Refused m p why ≡ ending = cc in absurd (cc)
  at_end_not_whole due n (RefusedWord word why) is = let same : RefusedWord word why ≡ ending = cc in absurd (cc)
  at_end_not_whole due n TooMuch is = let same : TooMuch ≡ ending = cc in absurd (cc)

  goes_on_not_whole : (r : Result Expecting LineFault) (n : ℕ) (rest : Expecting → ReadSchedule) → ((after : Expecting) → rest after ≡ read_is.Ended ending → ⊥) → go_on r n rest ≡ read_is.Ended ending → ⊥
  goes_on_not_whole (Ok after) n rest none is = none after is
  goes_on_not_whole (Err why) n rest none is = let same : Refused n part.Script why ≡ ending = cc in absurd (cc)

  -- lines without a schedule are refused, or there are too many bytes
  pub schedule_not_whole : (over : Bool) (n : ℕ) (due : Expecting) (lines : List (List ℕ)) → schedule_from over policy n due lines ≡ read_is.Ended ending → ⊥
  unfolding schedule_from
  schedule_not_whole over n due [] is = at_end_not_whole due n Whole is
  schedule_not_whole over n due (last ∷ []) is = at_end_not_whole due n (last_piece over n last) is
  schedule_not_whole over n due (line ∷ next ∷ ls) is =
      goes_on_not_whole (after_line line due (parse_step policy line)) n (λ after. schedule_from over policy (n + 1) after (next ∷ ls)) (λ after. schedule_not_whole over (n + 1) after (next ∷ ls)) is
