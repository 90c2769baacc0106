-- What each answer of a reader of lines says of the schedule that is left at it.
use Rattle.std.proofs.Common.{◌≡◌, ℕ, ◌+◌, ◌≤◌, ◌<◌, Bool, true, false, cond, zero, suc, List, [], ◌∷◌, ◌++◌, length, take, refl, sym, ◌∙◌, ap, subst, arith, Option, Some, None}
use Rattle.std.proofs.lemmas.Bool.{le-ltb, lt-ltb}
use Rattle.std.proofs.lemmas.List.{take_all}
use Rattle.std.specs.Prelude.{nat_lt, ok_or, Result, Ok, Err}
use Rattle.std.specs.Io.KnownBytes.{IsAtEnd}
use Rattle.fs_path.specs.Split.{pieces}
use Rattle.fs_path.specs.Words.{is_blank, words_of}
use Rattle.fs_path.specs.declared.words.TheConstants.{MAX_LINE}
use Rattle.fs_path.proofs.SplitLemmas.{pieces_first}
use Rattle.io_ends.specs.declared.lines.Next.{Next}
use Rattle.io_ends.specs.declared.lines.Next.TheVariants as next_line
use Rattle.io_ends.specs.declared.whole.ReadError.{ReadError}
use Rattle.io_ends.specs.Lines.{Advances, Answers, GivesLine, has_line_feed, HoldsLongLine, HoldsPart}
use Rattle.io_ends.specs.LinesState.{LinesState}
use Rattle.lab_text.specs.Policy.{PolicyNames, top_of}
use Rattle.line_text.specs.declared.fault.LineFault.{LineFault}
use Rattle.line_text.specs.declared.fault.LineFault.TheVariants as fault
use Rattle.script_text.specs.declared.fault.LineError.{LineError}
use Rattle.script_text.specs.declared.fault.LineError.TheVariants as error
use Rattle.script_text.specs.declared.step.StepLine.{StepLine}
use Rattle.script_text.specs.declared.step.StepLine.TheVariants as line_is
use Rattle.script_text.specs.Reading.{IsCause, Reading}
use Rattle.script_text.specs.Step.{StepMayBePlayed, parse_step, parse_step_words}
use Rattle.lab_engine.specs.declared.ending.InputEnd.{InputEnd}
use Rattle.lab_engine.specs.declared.ending.InputEnd.TheVariants.{Refused, TooMuch}
use Rattle.lab_engine.specs.declared.ending.Part.TheVariants as part
use Rattle.lab_engine.specs.Input.{last_piece}
use Rattle.lab_engine.specs.Reading.{Takes, left_of}
use Rattle.lab_engine.proofs.LeftLemmas.{left_line, left_long, left_part, left_past}
use Rattle.sched_engine.specs.declared.reading.ReadSchedule.{ReadSchedule}
use Rattle.sched_engine.specs.declared.reading.ReadSchedule.TheVariants as read_is
use Rattle.sched_engine.specs.declared.reading.ScheduleLine.{ScheduleLine}
use Rattle.sched_engine.specs.declared.reading.ScheduleLine.TheVariants as schedule_line
use Rattle.sched_engine.specs.declared.schedule.Expecting.{Expecting}
use Rattle.sched_engine.specs.declared.schedule.Schedule.{Schedule}
use Rattle.sched_engine.specs.Reading.{IsFaultIn, ReadsLine, after_line, at_end, go_on, schedule_from, schedule_left, schedule_or}
use Rattle.sched_engine.specs.Schedule.{step_line, whole}
use Rattle.sched_engine.proofs.ScheduleLemmas.{step_plays, whole_plays}

-- ---- one step of the definition

-- what is left is read as the rest of a schedule
abbrev schedule_by : PolicyNames → Expecting → Bool → ℕ → List (List ℕ) → ReadSchedule
schedule_by policy due over n ps = schedule_from over policy n due ps

last_of : (policy : PolicyNames) (due : Expecting) (over : Bool) (n : ℕ) (last : List ℕ) → schedule_by policy due over n (last ∷ []) ≡ at_end due n (last_piece over n last)
unfolding schedule_from
last_of policy due over n last = refl

more_of : (policy : PolicyNames) (due : Expecting) (over : Bool) (n : ℕ) (line : List ℕ) (ps : List (List ℕ)) (p : List ℕ) (qs : List (List ℕ)) → ps ≡ p ∷ qs
    → schedule_by policy due over n (line ∷ ps) ≡ go_on (after_line line due (parse_step policy line)) n (λ after. schedule_from over policy (n + 1) after ps)
unfolding schedule_from
more_of policy due over n line ps p qs is =
    ap (λ (r : List (List ℕ)). schedule_from over policy n due (line ∷ r)) is
    ∙ sym (ap (λ (r : List (List ℕ)). go_on (after_line line due (parse_step policy line)) n (λ after. schedule_from over policy (n + 1) after r)) is)

-- ---- the last piece

-- it does not end
unended_piece : (n : ℕ) (t : List ℕ) → 0 < length t → length t ≤ MAX_LINE → last_piece false n t ≡ Refused n part.Script fault.Syntax
unended_piece n [] some short = absurd (omega (arith, some))
unended_piece n (x ∷ t) some short = ap (λ b. Refused n part.Script (cond b fault.TooLong fault.Syntax)) (le-ltb MAX_LINE (length (x ∷ t)) short)

-- it goes on past the limit
cut_piece : (n : ℕ) (t : List ℕ) → length t ≤ MAX_LINE → last_piece true n t ≡ TooMuch
cut_piece n t short = ap (λ b. cond b (Refused n part.Script fault.TooLong) TooMuch) (le-ltb MAX_LINE (length t) short)

-- it is too long
long_piece : (over : Bool) (n : ℕ) (t : List ℕ) → MAX_LINE < length t → last_piece over n t ≡ Refused n part.Script fault.TooLong
long_piece over n [] long = absurd (omega (arith, long))
long_piece false n (x ∷ t) long = ap (λ b. Refused n part.Script (cond b fault.TooLong fault.Syntax)) (lt-ltb MAX_LINE (length (x ∷ t)) long)
long_piece true n (x ∷ t) long = ap (λ b. cond b (Refused n part.Script fault.TooLong) TooMuch) (lt-ltb MAX_LINE (length (x ∷ t)) long)

-- a line that is too long is refused
step_long : (policy : PolicyNames) (line : List ℕ) → MAX_LINE < length line → parse_step policy line ≡ Err error.TooLong
unfolding parse_step
step_long policy line long = ap (λ b. cond b (Err error.TooLong) (cond (is_blank line) (Ok line_is.Blank) (parse_step_words policy (words_of line)))) (lt-ltb MAX_LINE (length line) long)

take_nothing : (n : ℕ) → has_line_feed (take n []) ≡ false
take_nothing zero = refl
take_nothing (suc n) = refl

take_none : (n : ℕ) → length (take {A = ℕ} n []) ≡ 0
take_none zero = refl
take_none (suc n) = refl

-- ---- a step of a reader, which took these bytes
module _ (policy : PolicyNames) (due : Expecting) (before now : LinesState) (got : List ℕ) (number : now.number ≡ before.number + 1) where
  abbrev text : List ℕ
  text = before.held ++ got

  abbrev refused_by : LineFault → ReadSchedule
  refused_by why = read_is.Ended (Refused now.number part.Script why)

  -- a line
  module _ (gives : GivesLine text before.room now) where
    line_left : (more : List ℕ) → schedule_left policy due before (got ++ more) ≡ go_on (after_line now.line due (parse_step policy now.line)) now.number (λ after. schedule_left policy after now more)
    unfolding schedule_left
    line_left more =
        let left = pieces 10 (take now.room (now.held ++ more)) in
        let first = pieces_first 10 (take now.room (now.held ++ more)) in
        left_line (schedule_by policy due) before now got number gives more
        ∙ more_of policy due (nat_lt now.room (length (now.held ++ more))) now.number now.line left first.0 first.1 first.2

    pub line_judged : (judged : Result Expecting LineFault) → after_line now.line due (parse_step policy now.line) ≡ judged → (more : List ℕ)
        → schedule_left policy due before (got ++ more) ≡ go_on judged now.number (λ after. schedule_left policy after now more)
    line_judged judged is more = line_left more ∙ ap (λ (r : Result Expecting LineFault). go_on r now.number (λ after. schedule_left policy after now more)) is

    pub line_fewer : now.room < before.room
    line_fewer = omega (arith, gives.room_is)

  -- the last piece
  module _ (left : Option (List ℕ)) where
    abbrev found : ReadSchedule
    found = schedule_left policy due before (got ++ left_of left)

    -- it is the text, within the limit
    part_left : HoldsPart text before.room → length text ≤ before.room → IsAtEnd left → found ≡ at_end due now.number (last_piece false now.number text)
    unfolding schedule_left
    part_left holds le end = left_part (schedule_by policy due) before now got number holds le left end ∙ last_of policy due false now.number text

    empty_part : text ≡ [] → HoldsPart text before.room
    empty_part none = subst (λ (t : List ℕ). HoldsPart t before.room) (sym none) (record { no_line = take_nothing before.room; short = omega (arith, take_none before.room) })

    -- the source ended after a line
    pub nothing_left : text ≡ [] → IsAtEnd left → found ≡ schedule_or (whole due) (Refused now.number part.Script fault.Syntax)
    nothing_left none end =
        part_left (empty_part none) (subst (λ (t : List ℕ). length t ≤ before.room) (sym none) (omega arith)) end
        ∙ ap (λ (t : List ℕ). at_end due now.number (last_piece false now.number t)) none

    -- it ended within a line
    pub unended_left : HoldsPart text before.room → 0 < length text → length text ≤ before.room → IsAtEnd left → found ≡ refused_by fault.Syntax
    unended_left holds some le end =
        let short : length text ≤ MAX_LINE = subst (λ (t : List ℕ). length t ≤ MAX_LINE) (take_all before.room text le) holds.short in
        part_left holds le end ∙ ap (at_end due now.number) (unended_piece now.number text some short)

    -- it goes on past the limit
    pub past_left : HoldsPart text before.room → before.room < length text → found ≡ read_is.Ended TooMuch
    unfolding schedule_left
    past_left holds past =
        left_past (schedule_by policy due) before now got number holds past left ∙ last_of policy due true now.number (take before.room text)
        ∙ ap (at_end due now.number) (cut_piece now.number (take before.room text) holds.short)

    -- a line is too long, wherever it ends
    long_of : (over : Bool) (line : List ℕ) (ps : List (List ℕ)) → MAX_LINE < length line → schedule_by policy due over now.number (line ∷ ps) ≡ refused_by fault.TooLong
    long_of over line [] long = last_of policy due over now.number line ∙ ap (at_end due now.number) (long_piece over now.number line long)
    long_of over line (p ∷ ps) long = more_of policy due over now.number line (p ∷ ps) p ps refl
        ∙ ap (λ (r : Reading StepLine). go_on (after_line line due r) now.number (λ after. schedule_from over policy (now.number + 1) after (p ∷ ps))) (step_long policy line long)

    pub long_left : HoldsLongLine text before.room → found ≡ refused_by fault.TooLong
    unfolding schedule_left
    long_left long = let first = left_long (schedule_by policy due) before now got number long left in first.4 ∙ long_of first.0 first.1 first.2 first.3

-- ---- what a step leaves
module _ (policy : PolicyNames) (due : Expecting) (before now : LinesState) (left left' : Option (List ℕ)) where
  step_takes : {r : Result Next ReadError} → (a : Advances r before now left left') → Takes before now left left' a.got
  step_takes a = record { took = a.took; within = a.within }

  module _ (next : Next) (a : Advances (Ok next) before now left left') where
    answers : (n : Next) → next ≡ n → Answers n (before.held ++ a.got) before.room now left'
    answers n is = subst (λ k. Answers k (before.held ++ a.got) before.room now left') is a.answers

    abbrev reads : ScheduleLine → Type 0
    reads says = ReadsLine (Ok says) policy due before now left left'

    -- the input ends, or a line is refused
    ends_by : (e : InputEnd) → schedule_left policy due before (a.got ++ left_of left') ≡ read_is.Ended e → (says : ScheduleLine) → says ≡ schedule_line.Ended (read_is.Ended e) → reads says
    ends_by e is says same = subst reads (sym same) (record { taken = a.got; takes = step_takes a; shows = record { says = sym is; plays = λ _. tt; to_the_end = tt } })

    abbrev refusal : LineFault → ScheduleLine
    refusal why = schedule_line.Ended (read_is.Ended (Refused now.number part.Script why))

    -- a line was given
    module _ (given : next ≡ next_line.Line) (line : List ℕ) (line_is_now : line ≡ now.line) where
      abbrev gives : GivesLine (before.held ++ a.got) before.room now
      gives = answers next_line.Line given

      judged_now : (r : Result Expecting LineFault) → after_line line due (parse_step policy line) ≡ r → after_line now.line due (parse_step policy now.line) ≡ r
      judged_now r is = ap (λ (l : List ℕ). after_line l due (parse_step policy l)) (sym line_is_now) ∙ is

      refused_for : (why : LineFault) → after_line line due (parse_step policy line) ≡ Err why → (says : ScheduleLine) → says ≡ refusal why → reads says
      refused_for why is = ends_by (Refused now.number part.Script why) (line_judged policy due before now a.got a.number gives (Err why) (judged_now (Err why) is) (left_of left'))

      -- it says this
      module _ (said : StepLine) (parsed : parse_step policy line ≡ Ok said) where
        stands : (w : Option Expecting) → w ≡ step_line due said → after_line line due (parse_step policy line) ≡ ok_or w fault.Syntax
        stands w is = ap (after_line line due) parsed ∙ ap (λ (v : Option Expecting). ok_or v fault.Syntax) (sym is)

        pub reads_step : StepMayBePlayed (top_of policy) said → (w : Option Expecting) → w ≡ step_line due said → (after : Expecting) → w ≡ Some after → reads (schedule_line.GoesOn after)
        reads_step plays w is after some = record {
          taken = a.got;
          takes = step_takes a;
          shows = record {
            says = line_judged policy due before now a.got a.number gives (Ok after) (judged_now (Ok after) (stands w is ∙ ap (λ (v : Option Expecting). ok_or v fault.Syntax) some));
            plays = λ may. step_plays (top_of policy) due said may plays after (sym is ∙ some);
            more = gives.more;
            fewer = line_fewer policy due before now a.got a.number gives;
          };
        }

        pub reads_misplaced : (w : Option Expecting) → w ≡ step_line due said → w ≡ None → (says : ScheduleLine) → says ≡ refusal fault.Syntax → reads says
        reads_misplaced w is none = refused_for fault.Syntax (stands w is ∙ ap (λ (v : Option Expecting). ok_or v fault.Syntax) none)

      -- it says nothing
      refused_word : (why : LineFault) {word : LineFault} → why ≡ word → after_line line due (parse_step policy line) ≡ Err word → (says : ScheduleLine) → says ≡ refusal why → reads says
      refused_word why is judged = refused_for why (judged ∙ ap Err (sym is))

      pub reads_refused : (e : LineError) (why : LineFault) → IsFaultIn line e why → IsCause (parse_step policy line) e → (says : ScheduleLine) → says ≡ refusal why → reads says
      reads_refused (error.NoMemory m) why word is = absurd word
      reads_refused error.TooLong why word is = refused_word why word (ap (after_line line due) is)
      reads_refused error.Syntax why word is = refused_word why word (ap (after_line line due) is)
      reads_refused error.BadTag why word is = refused_word why word (ap (after_line line due) is)
      reads_refused error.BadPath why word is = refused_word why word (ap (after_line line due) is)
      reads_refused error.BadLabel why word is = refused_word why word (ap (after_line line due) is)
      reads_refused error.BadCaps why word is = refused_word why word (ap (after_line line due) is)

    -- no line was given
    module _ (given : next ≡ next_line.End) (w : Option Schedule) (is : w ≡ whole due) where
      at_the_end : schedule_left policy due before (a.got ++ left_of left') ≡ schedule_or w (Refused now.number part.Script fault.Syntax)
      at_the_end = let x = answers next_line.End given in nothing_left policy due before now a.got a.number left' x.1 x.2 ∙ ap (λ (v : Option Schedule). schedule_or v (Refused now.number part.Script fault.Syntax)) (sym is)

      pub reads_whole : (schedule : Schedule) → w ≡ Some schedule → reads (schedule_line.Ended (read_is.Schedule schedule))
      reads_whole schedule some = record {
        taken = a.got;
        takes = step_takes a;
        shows = record {
          says = sym (at_the_end ∙ ap (λ (v : Option Schedule). schedule_or v (Refused now.number part.Script fault.Syntax)) some);
          plays = λ may. whole_plays (top_of policy) due may schedule (sym is ∙ some);
          to_the_end = (answers next_line.End given).2;
        };
      }

      pub reads_early_end : w ≡ None → (says : ScheduleLine) → says ≡ refusal fault.Syntax → reads says
      reads_early_end none = ends_by (Refused now.number part.Script fault.Syntax) (at_the_end ∙ ap (λ (v : Option Schedule). schedule_or v (Refused now.number part.Script fault.Syntax)) none)

    pub reads_unended : next ≡ next_line.Unended → (says : ScheduleLine) → says ≡ refusal fault.Syntax → reads says
    reads_unended given = let x = answers next_line.Unended given in ends_by (Refused now.number part.Script fault.Syntax) (unended_left policy due before now a.got a.number left' x.1 x.2 x.3 x.4)

    pub reads_long_line : next ≡ next_line.LongLine → (says : ScheduleLine) → says ≡ refusal fault.TooLong → reads says
    reads_long_line given = let x = answers next_line.LongLine given in ends_by (Refused now.number part.Script fault.TooLong) (long_left policy due before now a.got a.number left' x.1)

    pub reads_too_much : next ≡ next_line.TooMuch → reads (schedule_line.Ended (read_is.Ended TooMuch))
    reads_too_much given = let x = answers next_line.TooMuch given in ends_by TooMuch (past_left policy due before now a.got a.number left' x.1 x.2) (schedule_line.Ended (read_is.Ended TooMuch)) refl
