-- A schedule that is read line by line: what was read so far, and what its reading leads to.
use Rattle.std.proofs.Common.{◌≡◌, ℕ, ◌<◌, true, List, [], ◌++◌, refl, sym, ◌∙◌, ap, subst, append_assoc, Option}
use Rattle.std.specs.Prelude.{IsErrAnd, IfOk, Result, Ok, Err}
use Rattle.io_ends.specs.LinesState.{LinesState}
use Rattle.lab_text.specs.Policy.{PolicyNames, top_of}
use Rattle.lab_engine.specs.declared.ending.Fault.{Fault}
use Rattle.lab_engine.specs.Reading.{Takes, left_of}
use Rattle.lab_engine.proofs.ReadSoFar.{takes_more, takes_nothing}
use Rattle.sched_engine.specs.declared.reading.ReadSchedule.{ReadSchedule}
use Rattle.sched_engine.specs.declared.reading.ScheduleLine.{ScheduleLine}
use Rattle.sched_engine.specs.declared.reading.ScheduleLine.TheVariants as schedule_line
use Rattle.sched_engine.specs.declared.schedule.Expecting.{Expecting}
use Rattle.sched_engine.specs.declared.schedule.Expecting.TheVariants as at
use Rattle.sched_engine.specs.declared.schedule.Schedule.{Schedule}
use Rattle.sched_engine.specs.Reading.{IfSchedule, ReadsLine, ReadsSchedule, schedule_left}
use Rattle.sched_engine.specs.Schedule.{MayBePlayed, MayGoOn}

pub record ScheduleProgress (policy : PolicyNames) (lines0 lines : LinesState) (left0 left : Option (List ℕ)) (due : Expecting) : Type 0 where
  pub taken : List ℕ
  pub takes : Takes lines0 lines left0 left taken
  pub says : (more : List ℕ) → schedule_left policy at.Slices lines0 (taken ++ more) ≡ schedule_left policy due lines more
  pub plays : MayGoOn (top_of policy) due
  pub more : lines.more ≡ true

-- nothing was read yet
pub reading_begins : (policy : PolicyNames) (lines : LinesState) (left : Option (List ℕ)) → lines.more ≡ true → ScheduleProgress policy lines lines left left at.Slices
reading_begins policy lines left more = record { taken = []; takes = takes_nothing lines left; says = λ rest. refl; plays = tt; more = more }

-- another line leaves fewer bytes within the limit
pub line_fewer : (policy : PolicyNames) (due : Expecting) (lines lines' : LinesState) (left left' : Option (List ℕ)) (l : ScheduleLine) → ReadsLine (Ok l) policy due lines lines' left left'
    → (after : Expecting) → l ≡ schedule_line.GoesOn after → lines'.room < lines.room
line_fewer policy due lines lines' left left' l read after is = (subst (λ k. ReadsLine (Ok k) policy due lines lines' left left') is read).shows.fewer

-- a fault says nothing of what may be played
pub fails_plays : (P : Schedule → Type 0) (r : Result ReadSchedule Fault) (fault : Fault) → IsErrAnd r (λ q. q ≡ fault) → IfOk r (λ found. IfSchedule found P)
fails_plays P (Ok x) fault is = absurd is
fails_plays P (Err q) fault is = tt

module _ (policy : PolicyNames) (lines0 lines lines' : LinesState) (left0 left left' : Option (List ℕ)) (due : Expecting) (p : ScheduleProgress policy lines0 lines left0 left due) where
  says_after : (got more : List ℕ) → schedule_left policy at.Slices lines0 ((p.taken ++ got) ++ more) ≡ schedule_left policy due lines (got ++ more)
  says_after got more = ap (schedule_left policy at.Slices lines0) (append_assoc p.taken got more) ∙ p.says (got ++ more)

  all_takes : (got : List ℕ) → Takes lines lines' left left' got → Takes lines0 lines' left0 left' (p.taken ++ got)
  all_takes got takes = takes_more lines0 lines lines' left0 left left' p.taken got p.takes takes

  -- another line may follow
  pub reading_goes_on : (after : Expecting) (l : ScheduleLine) → l ≡ schedule_line.GoesOn after → ReadsLine (Ok l) policy due lines lines' left left' → ScheduleProgress policy lines0 lines' left0 left' after
  reading_goes_on after l is read = let r = subst (λ k. ReadsLine (Ok k) policy due lines lines' left left') is read in record {
    taken = p.taken ++ r.taken;
    takes = all_takes r.taken r.takes;
    says = λ rest. says_after r.taken rest ∙ r.shows.says rest;
    plays = r.shows.plays p.plays;
    more = r.shows.more;
  }

  -- the schedule ends
  module _ (found : ReadSchedule) (l : ScheduleLine) (is : l ≡ schedule_line.Ended found) (read : ReadsLine (Ok l) policy due lines lines' left left') where
    abbrev last : ReadsLine (Ok (schedule_line.Ended found)) policy due lines lines' left left'
    last = subst (λ k. ReadsLine (Ok k) policy due lines lines' left left') is read

    pub reading_ends : ReadsSchedule (Ok found) policy lines0 lines' left0 left'
    reading_ends = record {
      taken = p.taken ++ last.taken;
      takes = all_takes last.taken last.takes;
      shows = last.shows.says ∙ sym (says_after last.taken (left_of left'));
      to_the_end = last.shows.to_the_end;
    }

    pub found_plays : IfSchedule found (MayBePlayed (top_of policy))
    found_plays = last.shows.plays p.plays

  -- a fault stopped the reading
  pub reading_fails : (r : Result ReadSchedule Fault) (fault : Fault) → IsErrAnd r (λ q. q ≡ fault) → ReadsLine (Err fault) policy due lines lines' left left' → ReadsSchedule r policy lines0 lines' left0 left'
  reading_fails (Ok x) fault is r = absurd is
  reading_fails (Err q) fault is r = record { taken = p.taken ++ r.taken; takes = all_takes r.taken r.takes; shows = tt; to_the_end = tt }
