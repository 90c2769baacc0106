-- What each answer of a reader of lines says of the world, and of the script, that is left at it.
use Rattle.std.proofs.Common.{◌≡◌, ◌⊎◌, inl, inr, ℕ, ◌+◌, ◌≤◌, ◌<◌, Bool, true, false, cond, zero, suc, List, [], ◌∷◌, ◌++◌, length, take, refl, sym, ◌∙◌, ap, subst, arith, Option, None, Some}
use Rattle.std.proofs.lemmas.Bool.{le-ltb, lt-ltb}
use Rattle.std.proofs.lemmas.List.{take_all}
use Rattle.std.specs.Prelude.{nat_lt, IsErrAnd, Result, Ok, Err}
use Rattle.std.specs.Io.KnownBytes.{IsAtEnd}
use Rattle.fs_path.specs.Split.{pieces}
use Rattle.fs_path.proofs.SplitLemmas.{pieces_first}
use Rattle.io_ends.specs.declared.lines.Next.{Next}
use Rattle.io_ends.specs.declared.lines.Next.TheVariants as next_line
use Rattle.io_ends.specs.declared.whole.ReadError.{ReadError}
use Rattle.io_ends.specs.declared.whole.ReadError.TheVariants as read
use Rattle.io_ends.specs.Lines.{Advances, Answers, GivesLine, has_line_feed, HoldsLongLine, HoldsPart}
use Rattle.io_ends.specs.Whole.{CountsRead}
use Rattle.io_ends.specs.LinesState.{LinesState}
use Rattle.fs_path.specs.declared.words.TheConstants.{MAX_LINE}
use Rattle.lab_text.specs.Policy.{PolicyNames, top_of}
use Rattle.line_text.specs.declared.fault.LineFault.{LineFault}
use Rattle.line_text.specs.declared.fault.LineFault.TheVariants as fault
use Rattle.script_text.specs.declared.line.Line.{Line}
use Rattle.script_text.specs.Reading.{IsCause, IsFaultOf, fault_of}
use Rattle.script_text.specs.declared.fault.LineError.{LineError}
use Rattle.script_text.specs.declared.fault.LineError.TheVariants as error
use Rattle.script_text.specs.Line as script_lines
use Rattle.script_text.specs.Line.{MayBePlayed}
use Rattle.script_text.specs.declared.line.Line.TheVariants as line_is
use Rattle.world_text.specs.declared.expecting.Expecting.{Expecting}
use Rattle.world_text.specs.declared.expecting.Parsed.{Parsed}
use Rattle.world_text.specs.declared.expecting.Parsed.TheVariants.{Refuses, GoesOn as More, Begins}
use Rattle.world_text.specs.declared.world.WorldText.{WorldText}
use Rattle.fs_path.specs.Words.{is_blank, words_of}
use Rattle.world_text.specs.Values.{unless, with_form}
use Rattle.world_text.specs.Expecting.{parse_line, parse_words}
use Rattle.world_text.specs.Reading.{after, read_lines}
use Rattle.lab_engine.specs.declared.ending.Fault.{Fault}
use Rattle.lab_engine.specs.declared.ending.Fault.TheVariants.{NoMemory}
use Rattle.lab_engine.specs.declared.ending.InputEnd.{InputEnd}
use Rattle.lab_engine.specs.declared.ending.InputEnd.TheVariants.{Whole, Refused, TooMuch}
use Rattle.lab_engine.specs.declared.ending.Part.TheVariants as part
use Rattle.lab_engine.specs.declared.reading.NextLine.{NextLine}
use Rattle.lab_engine.specs.declared.reading.NextLine.TheVariants as next_is
use Rattle.lab_engine.specs.declared.reading.WorldLine.{WorldLine}
use Rattle.lab_engine.specs.declared.reading.WorldLine.TheVariants as world_line_is
use Rattle.lab_engine.specs.Counts.{CountsOnce, counted_by, counts, fault_of_read}
use Rattle.lab_engine.specs.Input.{Begun, Judge, NoWorld, ScriptLines, after_line, begun_by, ends_at, input_from, judged, last_piece, lines_from, script_line, taken_lines}
use Rattle.lab_engine.specs.Reading.{Accepts, BeginsWith, EndsScript, EndsWorld, Follows, GoesOn, ReadsLine, Takes, begun_at, left_of, lines_at, script_left}
use Rattle.lab_engine.proofs.LeftLemmas.{left_failed, left_line, left_long, left_part, left_past, read_left}
use Rattle.lab_engine.proofs.FewCalls.{few_calls}

-- ---- bytes

take_nothing : (n : ℕ) → has_line_feed (take n []) ≡ false
take_nothing zero = refl
take_nothing (suc n) = refl

take_none : (n : ℕ) → length (take {A = ℕ} n []) ≡ 0
take_none zero = refl
take_none (suc n) = refl

-- ---- one step of each definition

-- what is left is read as the rest of a world, or as the rest of a script
abbrev world_by : Expecting → Bool → ℕ → List (List ℕ) → Begun
world_by e over n ps = begun_by over (read_lines n e ps)

abbrev script_by : Judge → PolicyNames → Bool → ℕ → List (List ℕ) → ScriptLines
script_by judge policy over n ps = lines_from judge over policy n ps

world_last : (e : Expecting) (over : Bool) (n : ℕ) (last : List ℕ) → world_by e over n (last ∷ []) ≡ NoWorld (ends_at over n part.World fault.Syntax last)
unfolding read_lines
world_last e over n last = refl

reading_more : (n : ℕ) (e : Expecting) (line : List ℕ) (ps : List (List ℕ)) (p : List ℕ) (qs : List (List ℕ)) → ps ≡ p ∷ qs
    → read_lines n e (line ∷ ps) ≡ after (parse_line e line) n ps (λ next. read_lines (n + 1) next ps)
unfolding read_lines
reading_more n e line ps p qs is =
    ap (λ (r : List (List ℕ)). read_lines n e (line ∷ r)) is ∙ sym (ap (λ (r : List (List ℕ)). after (parse_line e line) n r (λ next. read_lines (n + 1) next r)) is)

script_last : (judge : Judge) (policy : PolicyNames) (over : Bool) (n : ℕ) (last : List ℕ) → script_by judge policy over n (last ∷ []) ≡ taken_lines [] (last_piece over n last)
unfolding lines_from
script_last judge policy over n last = refl

script_more : (judge : Judge) (over : Bool) (policy : PolicyNames) (n : ℕ) (line : List ℕ) (ps : List (List ℕ)) (p : List ℕ) (qs : List (List ℕ)) → ps ≡ p ∷ qs
    → lines_from judge over policy n (line ∷ ps) ≡ after_line judge (script_lines.parse_line policy line) n line (lines_from judge over policy (n + 1) ps)
unfolding lines_from
script_more judge over policy n line ps p qs is =
    ap (λ (r : List (List ℕ)). lines_from judge over policy n (line ∷ r)) is
    ∙ sym (ap (λ (r : List (List ℕ)). after_line judge (script_lines.parse_line policy line) n line (lines_from judge over policy (n + 1) r)) is)

-- a line that is too long is refused
world_long : (e : Expecting) (line : List ℕ) → MAX_LINE < length line → parse_line e line ≡ Refuses fault.Syntax
unfolding parse_line
world_long e line long = ap (λ b. unless b fault.Syntax (cond (is_blank line) (More e) (with_form (words_of line) (parse_words e)))) (lt-ltb MAX_LINE (length line) long)

script_long : (policy : PolicyNames) (line : List ℕ) → MAX_LINE < length line → script_lines.parse_line policy line ≡ Err error.TooLong
unfolding script_lines.parse_line
script_long policy line long = ap (λ b. cond b (Err error.TooLong) (cond (is_blank line) (Ok line_is.Blank) (script_lines.parse_words policy (words_of line)))) (lt-ltb MAX_LINE (length line) long)

-- ---- a step of a reader, which took these bytes
module _ (before now : LinesState) (got : List ℕ) (number : now.number ≡ before.number + 1) where
  abbrev text : List ℕ
  text = before.held ++ got

  -- ---- a line
  module _ (gives : GivesLine text before.room now) where
    abbrev left : List ℕ → List (List ℕ)
    left more = pieces 10 (take now.room (now.held ++ more))

    abbrev over : List ℕ → Bool
    over more = nat_lt now.room (length (now.held ++ more))

    fewer : now.room < before.room
    fewer = omega (arith, gives.room_is)

    abbrev by_parsed : Parsed → List ℕ → Begun
    by_parsed parsed more = begun_by (over more) (after parsed now.number (left more) (λ next. read_lines (now.number + 1) next (left more)))

    world_line : (e : Expecting) (more : List ℕ) → begun_at e before (got ++ more) ≡ by_parsed (parse_line e now.line) more
    unfolding begun_at
    world_line e more =
        let first = pieces_first 10 (take now.room (now.held ++ more)) in
        left_line (world_by e) before now got number gives more
        ∙ ap (begun_by (over more)) (reading_more now.number e now.line (left more) first.0 first.1 first.2)

    pub line_goes_on : (e : Expecting) (parsed : Parsed) → parsed ≡ parse_line e now.line → (next : Expecting) → parsed ≡ More next → GoesOn e before now got next
    unfolding begun_at
    line_goes_on e parsed is next more = record {
      says = λ rest. world_line e rest ∙ ap (λ p. by_parsed p rest) (sym is ∙ more);
      more = gives.more;
      fewer = fewer;
    }

    pub line_accepts : (e : Expecting) (parsed : Parsed) → parsed ≡ parse_line e now.line → (w : WorldText) → parsed ≡ Begins w → Accepts e before now got w
    unfolding script_left
    line_accepts e parsed is w begins = record {
      says = λ rest. world_line e rest ∙ ap (λ p. by_parsed p rest) (sym is ∙ begins);
      more = gives.more;
      fewer = fewer;
    }

    pub line_refused : (e : Expecting) (parsed : Parsed) → parsed ≡ parse_line e now.line → (why : LineFault) → parsed ≡ Refuses why → (left : Option (List ℕ)) → EndsWorld e before left got (Refused now.number part.World why)
    line_refused e parsed is why refuses left = record {
      says = world_line e (left_of left) ∙ ap (λ p. by_parsed p (left_of left)) (sym is ∙ refuses);
      to_the_end = λ h. absurd (cc);
    }

    -- the script that begins with the line
    lines_begin : (judge : Judge) (policy : PolicyNames) (parsed : Result Line LineError) → script_lines.parse_line policy now.line ≡ parsed → (more : List ℕ)
        → lines_at judge policy before (got ++ more) ≡ after_line judge parsed now.number now.line (lines_at judge policy now more)
    unfolding lines_at
    lines_begin judge policy parsed is more =
        let first = pieces_first 10 (take now.room (now.held ++ more)) in
        left_line (script_by judge policy) before now got number gives more
        ∙ script_more judge (over more) policy now.number now.line (left more) first.0 first.1 first.2
        ∙ ap (λ (r : Result Line LineError). after_line judge r now.number now.line (lines_from judge (over more) policy (now.number + 1) (left more))) is

    -- a line that can be read, as a judge finds
    line_judged : (judge : Judge) (policy : PolicyNames) (l : Line) → script_lines.parse_line policy now.line ≡ Ok l → (found : Option LineFault) → found ≡ judge l → (more : List ℕ)
        → lines_at judge policy before (got ++ more) ≡ judged found now.number (script_line now.line l) (lines_at judge policy now more)
    line_judged judge policy l is found by more = lines_begin judge policy (Ok l) is more ∙ ap (λ v. judged v now.number (script_line now.line l) (lines_at judge policy now more)) (sym by)

    pub line_begins : (judge : Judge) (policy : PolicyNames) (l : Line) → script_lines.parse_line policy now.line ≡ Ok l → None ≡ judge l → MayBePlayed (top_of policy) l → BeginsWith judge policy before now got l
    line_begins judge policy l is none calls = record {
      says = λ rest. line_judged judge policy l is None none rest;
      number = omega (arith, number);
      calls = calls;
      more = gives.more;
      fewer = omega (arith, gives.room_is, few_calls policy now.line l is calls);
    }

    module _ (judge : Judge) (policy : PolicyNames) (left : Option (List ℕ)) where
      pub line_refused_for : (l : Line) → script_lines.parse_line policy now.line ≡ Ok l → (why : LineFault) → Some why ≡ judge l → EndsScript judge policy before left got (Refused now.number part.Script why)
      line_refused_for l is why by = record {
        says = line_judged judge policy l is (Some why) by (left_of left);
        to_the_end = λ h. absurd (cc);
      }

      by_word : (why : LineFault) {word : LineFault} → why ≡ word → EndsScript judge policy before left got (Refused now.number part.Script word) → EndsScript judge policy before left got (Refused now.number part.Script why)
      by_word why is ends = subst (λ (w : LineFault). EndsScript judge policy before left got (Refused now.number part.Script w)) (sym is) ends

      refused_line : (e : LineError) → script_lines.parse_line policy now.line ≡ Err e → EndsScript judge policy before left got (Refused now.number part.Script (fault_of e))
      refused_line e is = record {
        says = lines_begin judge policy (Err e) is (left_of left);
        to_the_end = λ h. absurd (cc);
      }

      pub line_refused_by : (e : LineError) (why : LineFault) → IsFaultOf e why → IsCause (script_lines.parse_line policy now.line) e → EndsScript judge policy before left got (Refused now.number part.Script why)
      line_refused_by (error.NoMemory m) why word is = absurd word
      line_refused_by error.TooLong why word is = by_word why word (refused_line error.TooLong is)
      line_refused_by error.Syntax why word is = by_word why word (refused_line error.Syntax is)
      line_refused_by error.BadTag why word is = by_word why word (refused_line error.BadTag is)
      line_refused_by error.BadPath why word is = by_word why word (refused_line error.BadPath is)
      line_refused_by error.BadLabel why word is = by_word why word (refused_line error.BadLabel is)
      line_refused_by error.BadCaps why word is = by_word why word (refused_line error.BadCaps is)

  -- ---- no line

  -- the last piece of a script is left
  last_left : (judge : Judge) (policy : PolicyNames) (bytes : List ℕ) (over : Bool) (last : List ℕ) → read_left (script_by judge policy) before bytes ≡ lines_from judge over policy now.number (last ∷ [])
      → (ending : InputEnd) → last_piece over now.number last ≡ ending → lines_at judge policy before bytes ≡ taken_lines [] ending
  unfolding lines_at
  last_left judge policy bytes over last is ending ends = is ∙ script_last judge policy over now.number last ∙ ap (taken_lines []) ends

  module _ (holds : HoldsPart text before.room) (le : length text ≤ before.room) (left : Option (List ℕ)) (end : IsAtEnd left) where
    -- the source ended within the limit
    pub world_unended : (e : Expecting) → EndsWorld e before left got (Refused now.number part.World fault.Syntax)
    unfolding begun_at
    world_unended e = record { says = left_part (world_by e) before now got number holds le left end ∙ world_last e false now.number text; to_the_end = λ h. absurd (cc) }

    script_ended : (judge : Judge) (policy : PolicyNames) (ending : InputEnd) → last_piece false now.number text ≡ ending → lines_at judge policy before (got ++ left_of left) ≡ taken_lines [] ending
    script_ended judge policy ending ends = last_left judge policy (got ++ left_of left) false text (left_part (script_by judge policy) before now got number holds le left end) ending ends

    pub script_unended : (judge : Judge) (policy : PolicyNames) → 0 < length text → EndsScript judge policy before left got (Refused now.number part.Script fault.Syntax)
    script_unended judge policy some =
        let short : length text ≤ MAX_LINE = subst (λ (t : List ℕ). length t ≤ MAX_LINE) (take_all before.room text le) holds.short in
        record { says = script_ended judge policy _ (unended_piece text some short); to_the_end = λ h. absurd (cc) }
      where
        unended_piece : (t : List ℕ) → 0 < length t → length t ≤ MAX_LINE → last_piece false now.number t ≡ Refused now.number part.Script fault.Syntax
        unended_piece [] some short = absurd (omega (arith, some))
        unended_piece (x ∷ t) some short = ap (λ b. Refused now.number part.Script (cond b fault.TooLong fault.Syntax)) (le-ltb MAX_LINE (length (x ∷ t)) short)

  -- an empty text is a part of a line
  empty_part : text ≡ [] → HoldsPart text before.room
  empty_part none = subst (λ (t : List ℕ). HoldsPart t before.room) (sym none) (record { no_line = take_nothing before.room; short = omega (arith, take_none before.room) })

  module _ (none : text ≡ []) (left : Option (List ℕ)) (end : IsAtEnd left) where
    abbrev le : length text ≤ before.room
    le = subst (λ (t : List ℕ). length t ≤ before.room) (sym none) (omega arith)

    pub world_ends : (e : Expecting) → EndsWorld e before left got (Refused now.number part.World fault.Syntax)
    world_ends e = world_unended (empty_part none) le left end e

    pub script_ends : (judge : Judge) (policy : PolicyNames) → EndsScript judge policy before left got Whole
    script_ends judge policy = record {
      says = script_ended (empty_part none) le left end judge policy Whole (ap (λ (t : List ℕ). last_piece false now.number t) none);
      to_the_end = λ h. end;
    }

  module _ (holds : HoldsPart text before.room) (past : before.room < length text) (left : Option (List ℕ)) where
    cut : (why : InputEnd) (last : List ℕ) → length last ≤ MAX_LINE → cond (nat_lt MAX_LINE (length last)) why TooMuch ≡ TooMuch
    cut why last short = ap (λ b. cond b why TooMuch) (le-ltb MAX_LINE (length last) short)

    pub world_too_much : (e : Expecting) → EndsWorld e before left got TooMuch
    unfolding begun_at
    world_too_much e = record {
      says = left_past (world_by e) before now got number holds past left ∙ world_last e true now.number (take before.room text) ∙ ap NoWorld (cut _ (take before.room text) holds.short);
      to_the_end = λ h. absurd (cc);
    }

    pub script_too_much : (judge : Judge) (policy : PolicyNames) → EndsScript judge policy before left got TooMuch
    script_too_much judge policy = record {
      says = last_left judge policy (got ++ left_of left) true (take before.room text) (left_past (script_by judge policy) before now got number holds past left) TooMuch (cut _ (take before.room text) holds.short);
      to_the_end = λ h. absurd (cc);
    }

  -- a line that is too long is refused, wherever it ends
  module _ (long : HoldsLongLine text before.room) (left : Option (List ℕ)) where
    world_by_pieces : (over : Bool) (e : Expecting) (line : List ℕ) (ps : List (List ℕ)) → MAX_LINE < length line → world_by e over now.number (line ∷ ps) ≡ NoWorld (Refused now.number part.World fault.Syntax)
    world_by_pieces false e line [] long = world_last e false now.number line
    world_by_pieces true e line [] long = world_last e true now.number line ∙ ap (λ b. NoWorld (cond b (Refused now.number part.World fault.Syntax) TooMuch)) (lt-ltb MAX_LINE (length line) long)
    world_by_pieces over e line (p ∷ ps) long = ap (begun_by over) (reading_more now.number e line (p ∷ ps) p ps refl)
        ∙ ap (λ (r : Parsed). begun_by over (after r now.number (p ∷ ps) (λ next. read_lines (now.number + 1) next (p ∷ ps)))) (world_long e line long)

    -- the last piece is too long
    long_piece : (over : Bool) (line : List ℕ) → MAX_LINE < length line → last_piece over now.number line ≡ Refused now.number part.Script fault.TooLong
    long_piece over [] long = absurd (omega (arith, long))
    long_piece false (x ∷ line) long = ap (λ b. Refused now.number part.Script (cond b fault.TooLong fault.Syntax)) (lt-ltb MAX_LINE (length (x ∷ line)) long)
    long_piece true (x ∷ line) long = ap (λ b. cond b (Refused now.number part.Script fault.TooLong) TooMuch) (lt-ltb MAX_LINE (length (x ∷ line)) long)

    script_by_pieces : (judge : Judge) (over : Bool) (policy : PolicyNames) (line : List ℕ) (ps : List (List ℕ)) → MAX_LINE < length line → lines_from judge over policy now.number (line ∷ ps) ≡ taken_lines [] (Refused now.number part.Script fault.TooLong)
    script_by_pieces judge over policy line [] long = script_last judge policy over now.number line ∙ ap (taken_lines []) (long_piece over line long)
    script_by_pieces judge over policy line (p ∷ ps) long = script_more judge over policy now.number line (p ∷ ps) p ps refl
        ∙ ap (λ (r : Result Line LineError). after_line judge r now.number line (lines_from judge over policy (now.number + 1) (p ∷ ps))) (script_long policy line long)

    pub world_long_line : (e : Expecting) → EndsWorld e before left got (Refused now.number part.World fault.Syntax)
    unfolding begun_at
    world_long_line e =
        let first = left_long (world_by e) before now got number long left in
        record { says = first.4 ∙ world_by_pieces first.0 e first.1 first.2 first.3; to_the_end = λ h. absurd (cc) }

    pub script_long_line : (judge : Judge) (policy : PolicyNames) → EndsScript judge policy before left got (Refused now.number part.Script fault.TooLong)
    unfolding lines_at
    script_long_line judge policy = record {
      says = let first = left_long (script_by judge policy) before now got number long left in first.4 ∙ script_by_pieces judge first.0 policy first.1 first.2 first.3;
      to_the_end = λ h. absurd (cc);
    }

  -- ---- a read that failed
  module _ (holds : HoldsPart text before.room) where
    pub failed_world : (e : Expecting) → (input_from (begun_at e before got)).accepted ≡ None
    unfolding begun_at
    failed_world e = ap (λ (b : Begun). (input_from b).accepted) (left_failed (world_by e) before now got number holds ∙ world_last e (nat_lt before.room (length text)) now.number (take before.room text))

    pub failed_script : (judge : Judge) (policy : PolicyNames) → (lines_at judge policy before got).lines ≡ []
    unfolding lines_at
    failed_script judge policy = ap (λ (m : ScriptLines). m.lines) (left_failed (script_by judge policy) before now got number holds ∙ script_last judge policy (nat_lt before.room (length text)) now.number (take before.room text))

-- ---- what a step leaves
module _ (before now : LinesState) (left left' : Option (List ℕ)) where
  pub step_takes : {r : Result Next ReadError} → (a : Advances r before now left left') → Takes before now left left' a.got
  step_takes a = record { took = a.took; within = a.within }

  -- a read that failed
  pub line_fails : (r : Result WorldLine Fault) (e : Expecting) (error : ReadError) → IsErrAnd r (λ q. q ≡ fault_of_read error) → Advances (Err error) before now left left' → ReadsLine r e before now left left'
  line_fails (Ok line) e error is a = absurd is
  line_fails (Err fault) e read.Failed is a = record { taken = a.got; takes = step_takes a; shows = λ _. failed_world before now a.got a.number a.answers.1 e }
  line_fails (Err fault) e read.NoMemory is a = absurd a.answers

  pub next_fails : (r : Result NextLine Fault) (judge : Judge) (policy : PolicyNames) (error : ReadError) → IsErrAnd r (λ q. q ≡ fault_of_read error) → Advances (Err error) before now left left' → Follows r judge policy before now left left'
  next_fails (Ok line) judge policy error is a = absurd is
  next_fails (Err fault) judge policy read.Failed is a = record { taken = a.got; takes = step_takes a; shows = λ _. failed_script before now a.got a.number a.answers.1 judge policy }
  next_fails (Err fault) judge policy read.NoMemory is a = absurd a.answers

  module _ (next : Next) (a : Advances (Ok next) before now left left') where
    answers : (n : Next) → next ≡ n → Answers n (before.held ++ a.got) before.room now left'
    answers n is = subst (λ k. Answers k (before.held ++ a.got) before.room now left') is a.answers

    ended_line : (e : Expecting) (ending : InputEnd) → EndsWorld e before left' a.got ending → (is : InputEnd) → is ≡ ending → ReadsLine (Ok (world_line_is.Ended is)) e before now left left'
    ended_line e ending ends is same = record { taken = a.got; takes = step_takes a; shows = subst (EndsWorld e before left' a.got) (sym same) ends }

    ended_next : (judge : Judge) (policy : PolicyNames) (ending : InputEnd) → EndsScript judge policy before left' a.got ending → (is : InputEnd) → is ≡ ending → Follows (Ok (next_is.Ended is)) judge policy before now left left'
    ended_next judge policy ending ends is same = record { taken = a.got; takes = step_takes a; shows = subst (EndsScript judge policy before left' a.got) (sym same) ends }

    -- a line was given
    module _ (given : next ≡ next_line.Line) (line : List ℕ) (line_is_now : line ≡ now.line) where
      abbrev gives : GivesLine (before.held ++ a.got) before.room now
      gives = answers next_line.Line given

      module _ (e : Expecting) (parsed : Parsed) (is : parsed ≡ parse_line e line) where
        as_now : parsed ≡ parse_line e now.line
        as_now = is ∙ ap (parse_line e) line_is_now

        pub reads_more : (after : Expecting) → parsed ≡ More after → ReadsLine (Ok (world_line_is.GoesOn after)) e before now left left'
        reads_more after more = record { taken = a.got; takes = step_takes a; shows = line_goes_on before now a.got a.number gives e parsed as_now after more }

        pub reads_world : (w : WorldText) → parsed ≡ Begins w → ReadsLine (Ok (world_line_is.World w)) e before now left left'
        reads_world w begins = record { taken = a.got; takes = step_takes a; shows = line_accepts before now a.got a.number gives e parsed as_now w begins }

        pub reads_refused : (why : LineFault) → parsed ≡ Refuses why → (ending : InputEnd) → ending ≡ Refused now.number part.World why → ReadsLine (Ok (world_line_is.Ended ending)) e before now left left'
        reads_refused why refuses ending same = ended_line e (Refused now.number part.World why) (line_refused before now a.got a.number gives e parsed as_now why refuses left') ending same

      module _ (judge : Judge) (policy : PolicyNames) where
        module _ (l : Line) (is : script_lines.parse_line policy line ≡ Ok l) where
          says_now : script_lines.parse_line policy now.line ≡ Ok l
          says_now = ap (script_lines.parse_line policy) (sym line_is_now) ∙ is

          pub follows_line : MayBePlayed (top_of policy) l → None ≡ judge l → Follows (Ok (next_is.Line l)) judge policy before now left left'
          follows_line calls none = record { taken = a.got; takes = step_takes a; shows = line_begins before now a.got a.number gives judge policy l says_now none calls }

          pub follows_judged : (why : LineFault) → Some why ≡ judge l → (ending : InputEnd) → ending ≡ Refused now.number part.Script why → Follows (Ok (next_is.Ended ending)) judge policy before now left left'
          follows_judged why by ending same = ended_next judge policy (Refused now.number part.Script why) (line_refused_for before now a.got a.number gives judge policy left' l says_now why by) ending same

        pub follows_refused : (e : LineError) (why : LineFault) → IsFaultOf e why → IsCause (script_lines.parse_line policy line) e → (ending : InputEnd) → ending ≡ Refused now.number part.Script why → Follows (Ok (next_is.Ended ending)) judge policy before now left left'
        follows_refused e why word is ending same = ended_next judge policy (Refused now.number part.Script why)
            (line_refused_by before now a.got a.number gives judge policy left' e why word (subst (λ (l : List ℕ). IsCause (script_lines.parse_line policy l) e) line_is_now is)) ending same

    -- no line was given
    pub reads_too_much : next ≡ next_line.TooMuch → (e : Expecting) → ReadsLine (Ok (world_line_is.Ended TooMuch)) e before now left left'
    reads_too_much is e = let x = answers next_line.TooMuch is in ended_line e TooMuch (world_too_much before now a.got a.number x.1 x.2 left' e) TooMuch refl

    pub reads_no_line : (next ≡ next_line.End) ⊎ ((next ≡ next_line.Unended) ⊎ (next ≡ next_line.LongLine)) → (e : Expecting) (ending : InputEnd) → ending ≡ Refused now.number part.World fault.Syntax → ReadsLine (Ok (world_line_is.Ended ending)) e before now left left'
    reads_no_line (inl is) e ending same = let x = answers next_line.End is in ended_line e _ (world_ends before now a.got a.number x.1 left' x.2 e) ending same
    reads_no_line (inr (inl is)) e ending same = let x = answers next_line.Unended is in ended_line e _ (world_unended before now a.got a.number x.1 x.3 left' x.4 e) ending same
    reads_no_line (inr (inr is)) e ending same = let x = answers next_line.LongLine is in ended_line e _ (world_long_line before now a.got a.number x.1 left' e) ending same

    pub follows_end : next ≡ next_line.End → (judge : Judge) (policy : PolicyNames) → Follows (Ok (next_is.Ended Whole)) judge policy before now left left'
    follows_end is judge policy = let x = answers next_line.End is in ended_next judge policy Whole (script_ends before now a.got a.number x.1 left' x.2 judge policy) Whole refl

    pub follows_unended : next ≡ next_line.Unended → (judge : Judge) (policy : PolicyNames) (ending : InputEnd) → ending ≡ Refused now.number part.Script fault.Syntax → Follows (Ok (next_is.Ended ending)) judge policy before now left left'
    follows_unended is judge policy ending same = let x = answers next_line.Unended is in ended_next judge policy _ (script_unended before now a.got a.number x.1 x.3 left' x.4 judge policy x.2) ending same

    pub follows_long_line : next ≡ next_line.LongLine → (judge : Judge) (policy : PolicyNames) (ending : InputEnd) → ending ≡ Refused now.number part.Script fault.TooLong → Follows (Ok (next_is.Ended ending)) judge policy before now left left'
    follows_long_line is judge policy ending same = let x = answers next_line.LongLine is in ended_next judge policy _ (script_long_line before now a.got a.number x.1 left' judge policy) ending same

    pub follows_too_much : next ≡ next_line.TooMuch → (judge : Judge) (policy : PolicyNames) → Follows (Ok (next_is.Ended TooMuch)) judge policy before now left left'
    follows_too_much is judge policy = let x = answers next_line.TooMuch is in ended_next judge policy TooMuch (script_too_much before now a.got a.number x.1 x.2 left' judge policy) TooMuch refl

-- a fault that is counted once
pub counts_failed : {T : Type 0} (r : Result T Fault) (error : ReadError) → IsErrAnd r (λ q. q ≡ fault_of_read error) → (n n' : ℕ) → CountsRead {T = Next} (Err error) n n' → (o t : ℕ) → CountsOnce r (counts n o t) (counts n' o t)
unfolding counted_by
counts_failed (Ok x) error is n n' once o t = absurd is
counts_failed (Err q) read.Failed is n n' once o t = subst (λ f. counts n' o t ≡ counted_by f (counts n o t)) (sym is) (ap (λ k. counts k o t) once)
counts_failed (Err q) read.NoMemory is n n' once o t = subst (λ f. counts n' o t ≡ counted_by f (counts n o t)) (sym is) (ap (λ k. counts k o t) once)

pub counts_memory : {T : Type 0} (r : Result T Fault) → IsErrAnd r (λ q. q ≡ NoMemory) → (n n' : ℕ) → n' ≡ n → (o t : ℕ) → CountsOnce r (counts n o t) (counts n' o t)
unfolding counted_by
counts_memory (Ok x) is n n' still o t = absurd is
counts_memory (Err q) is n n' still o t = subst (λ f. counts n' o t ≡ counted_by f (counts n o t)) (sym is) (ap (λ k. counts k o t) still)
