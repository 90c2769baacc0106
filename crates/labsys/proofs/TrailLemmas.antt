-- What a command did with the trail that a source holds.
use Rattle.std.proofs.Common.{◌≡◌, ℕ, ◌+◌, ◌<◌, ◌≤◌, ◌^◌, Bool, true, false, cond, nat_lt, List, [], ◌∷◌, ◌++◌, length, refl, sym, ◌∙◌, ap, subst, arith}
use Rattle.std.proofs.lemmas.Bool.{ltb-true, ltb-false, lt-ltb}
use Rattle.std.proofs.lemmas.List.{append-nil, length-append, length-map, take_all}
use Rattle.std.proofs.lemmas.Result.{IfOk-weaker}
use Rattle.std.specs.Bool.{MatchBool}
use Rattle.std.specs.Fmt.{decimal}
use Rattle.std.specs.Prelude.{⊤, Option, Result, Ok, Err, IsErrAnd, IfOk}
use Rattle.std.specs.Io.KnownBytes.{IsAtEnd}
use Rattle.io_ends.specs.Ends.{SinkView}
use Rattle.io_ends.specs.Whole.{CountsRead, ReadsWhole}
use Rattle.io_ends.specs.declared.whole.ReadError.{ReadError}
use Rattle.io_ends.specs.declared.whole.ReadError.TheVariants as read_error
use Rattle.io_ends.specs.declared.whole.Whole.{Whole as WholeRead}
use Rattle.lab_text.specs.Policy.{PolicyNames}
use Rattle.kern_model.specs.declared.records.Rec.{Rec}
use Rattle.aud_record.specs.Header.{bound_number}
use Rattle.aud_record.specs.Written.{header_text, line_of, rec_text, rec_words}
use Rattle.aud_record.specs.declared.reading.ReadRec.{ReadRec}
use Rattle.aud_red.specs.declared.lineage.Lineage.{Lineage as Answer}
use Rattle.aud_red.specs.declared.lineage.Lineage.TheVariants.{No}
use Rattle.aud_red.specs.declared.lineage.Why.{Why}
use Rattle.aud_red.specs.Lineage.{FailsAt, IfNo, recs_of}
use Rattle.aud_red.proofs.TrailLemmas.{trail_is}
use Rattle.fs_path.specs.Words.{line_text}
use Rattle.line_text.specs.Words.{are_none}
use Rattle.kern_model.specs.declared.limits.TheConstants.{MAX_INPUT}
use Rattle.aud_red.specs.declared.trail.Trail.{Trail}
use Rattle.aud_red.specs.declared.trail.TrailError.{TrailError}
use Rattle.aud_red.specs.declared.trail.TrailError.TheVariants as error
use Rattle.aud_red.specs.Trail.{IsTextOf, is_no_memory, parse_trail, recs_text, trail_text}
use Rattle.lab_engine.specs.declared.ending.Fault.{Fault}
use Rattle.lab_engine.specs.declared.ending.InputEnd.{InputEnd}
use Rattle.lab_engine.specs.declared.ending.InputEnd.TheVariants.{Whole, TooMuch}
use Rattle.lab_engine.specs.Counts.{Counts, CountsOnce, counts, counted_by, fault_of_read}
use Rattle.lab_engine.specs.Playing.{Ends, ends, Writes}
use Rattle.lab_engine.specs.Reading.{left_of}
use Rattle.lab_engine.proofs.LeftLemmas.{nothing_left}
use Rattle.lab_engine.proofs.ReadLemmas.{counts_failed}
use Rattle.lab_engine.proofs.Sending.{in_order, passes_on, prefix_nothing}
use Rattle.labsys.specs.declared.command.Command.{Command}
use Rattle.labsys.specs.declared.command.Command.TheVariants.{Lineage, OnInput, Select}
use Rattle.labsys.specs.declared.command.InputCommand.TheVariants.{Play}
use Rattle.labsys.specs.declared.trails.ReadTrail.{ReadTrail}
use Rattle.labsys.specs.declared.trails.ReadTrail.TheVariants as read_is
use Rattle.labsys.specs.Commands.{due, Due, ends_with}
use Rattle.labsys.specs.Playing.{Besides, CommandDid}
use Rattle.labsys.specs.Trails.{IfTrail, ReadsTrail, ending_of_error, trail_by, trail_in}
use Rattle.labsys.proofs.InputLemmas.{failed_ending}

-- ---- bytes that are no trail

not_whole_by : (r : Result Trail TrailError) (ending : InputEnd) → trail_by r ≡ read_is.Ended ending → ending ≡ Whole → ⊥
not_whole_by (Ok t) ending is whole = absurd (cc)
not_whole_by (Err (error.Header n)) ending is whole = absurd (cc)
not_whole_by (Err (error.Record n)) ending is whole = absurd (cc)
not_whole_by (Err (error.Unended n)) ending is whole = absurd (cc)
not_whole_by (Err (error.NoMemory e)) ending is whole = absurd (cc)

-- bytes that are no trail do not end as one that is whole
pub not_whole : (text : List ℕ) (ending : InputEnd) → trail_in text ≡ read_is.Ended ending → ending ≡ Whole → ⊥
unfolding trail_in
not_whole text ending is whole = by_test (nat_lt MAX_INPUT (length text)) is
  where
    by_test : (b : Bool) → cond b (read_is.Ended TooMuch) (trail_by (parse_trail text)) ≡ read_is.Ended ending → ⊥
    by_test true e = absurd (cc)
    by_test false e = not_whole_by (parse_trail text) ending e whole

-- ---- a source that was read

-- a read that failed was counted once, and nothing where memory ran out
pub read_counts : {T : Type 0} (r : Result T Fault) (e : ReadError) → IsErrAnd r (λ q. q ≡ fault_of_read e) → (n n' : ℕ) → CountsRead {T = WholeRead} (Err e) n n' → (o t : ℕ) → CountsOnce r (counts n o t) (counts n' o t)
read_counts r read_error.Failed is n n' h o t = counts_failed r read_error.Failed is n n' h o t
read_counts r read_error.NoMemory is n n' h o t = counts_failed r read_error.NoMemory is n n' h o t

module _ (w : WholeRead) (left left' : Option (List ℕ)) (reads : ReadsWhole (Ok w) MAX_INPUT left left') where
  -- it has more bytes than a trail may have
  pub read_too_much : w.more ≡ true → ReadsTrail (Ok (read_is.Ended TooMuch)) left left'
  unfolding trail_in
  read_too_much more =
      let past : MAX_INPUT < length reads.got = ltb-true MAX_INPUT (length reads.got) (sym reads.shows.more ∙ more) in
      let text = reads.got ++ left_of left' in
      let longer : nat_lt MAX_INPUT (length text) ≡ true = lt-ltb MAX_INPUT (length text) (omega (arith, past, length-append reads.got (left_of left'))) in
      record {
        taken = reads.got;
        took = reads.took;
        few = reads.few;
        shows = ap (λ b. cond b (read_is.Ended TooMuch) (trail_by (parse_trail text))) (sym longer);
        to_the_end = tt;
      }

  -- it was read to its end: the bytes are all that it had
  module _ (less : w.more ≡ false) (found : ReadTrail) (is : trail_by (parse_trail w.bytes) ≡ found) where
    abbrev all : List ℕ
    all = reads.got ++ left_of left'

    none_left : all ≡ reads.got
    none_left = ap (λ (x : List ℕ). reads.got ++ x) (nothing_left left' (reads.shows.to_the_end less)) ∙ append-nil reads.got

    short : length reads.got ≤ MAX_INPUT
    short = ltb-false MAX_INPUT (length reads.got) (sym reads.shows.more ∙ less)

    bytes_are : w.bytes ≡ all
    bytes_are = reads.shows.bytes ∙ take_all MAX_INPUT reads.got short ∙ sym none_left

    pub read_found : ReadsTrail (Ok found) left left'
    unfolding trail_in
    read_found = record {
      taken = reads.got;
      took = reads.took;
      few = reads.few;
      shows = sym (ap (λ b. cond b (read_is.Ended TooMuch) (trail_by (parse_trail all))) (ap (λ (x : List ℕ). nat_lt MAX_INPUT (length x)) none_left ∙ (sym reads.shows.more ∙ less)) ∙ (ap (λ (x : List ℕ). trail_by (parse_trail x)) (sym bytes_are) ∙ is));
      to_the_end = at_end found;
    }
      where
        at_end : (x : ReadTrail) → IfTrail x (λ _. IsAtEnd left')
        at_end (read_is.Trail t) = reads.shows.to_the_end less
        at_end (read_is.Ended e) = tt

-- the fault of bytes that are no trail, where memory did not run out
pub refused_by : (bytes : List ℕ) (e : TrailError) (ending : InputEnd) → MatchBool (is_no_memory e) ⊤ (parse_trail bytes ≡ Err e) → is_no_memory e ≡ false → ending ≡ ending_of_error e → trail_by (parse_trail bytes) ≡ read_is.Ended ending
refused_by bytes e ending cause counts is =
    ap trail_by (subst (λ b. MatchBool b ⊤ (parse_trail bytes ≡ Err e)) counts cause) ∙ ap (λ (x : InputEnd). read_is.Ended x) (sym is)

-- ---- how many records there are

line_long : (words : List (List ℕ)) → 1 ≤ length (line_of words)
unfolding line_of
line_long words = omega (arith, length-append (line_text words) (10 ∷ []))

rec_long : (p : PolicyNames) (call : ℕ) (r : Rec) → 1 ≤ length (rec_text p call r)
unfolding rec_text
rec_long p call r = line_long (decimal call ∷ rec_words p r)

recs_long : (p : PolicyNames) (recs : List ReadRec) → length recs ≤ length (recs_text p recs)
recs_long p [] = omega arith
recs_long p (r ∷ rs) =
    let first = rec_long p r.call r.rec in
    let rest = recs_long p rs in
    omega (arith, first, rest, length-append (rec_text p r.call r.rec) (recs_text p rs))

text_long : (text : List ℕ) (t : Trail) → IsTextOf text t → length t.recs ≤ length text
unfolding trail_text
text_long text t is =
    let recs = recs_long t.policy t.recs in
    let same : length text ≡ length (header_text t.policy t.bound ++ recs_text t.policy t.recs) = ap length is.whole in
    omega (arith, recs, same, length-append (header_text t.policy t.bound) (recs_text t.policy t.recs))

-- a trail has no more records than its text may have bytes
pub few_records : (text : List ℕ) (t : Trail) → trail_in text ≡ read_is.Trail t → length t.recs ≤ 2 ^ 24
unfolding trail_in
few_records text t is = by_test (nat_lt MAX_INPUT (length text)) refl is
  where
    read_as : (r : Result Trail TrailError) → trail_by r ≡ read_is.Trail t → r ≡ Ok t
    read_as (Ok u) e = cc
    read_as (Err e) f = absurd (cc)

    by_test : (b : Bool) → nat_lt MAX_INPUT (length text) ≡ b → cond b (read_is.Ended TooMuch) (trail_by (parse_trail text)) ≡ read_is.Trail t → length t.recs ≤ 2 ^ 24
    by_test true b e = absurd (cc)
    by_test false b e =
        let short : length text ≤ MAX_INPUT = ltb-false MAX_INPUT (length text) b in
        let long = text_long text t (trail_is text t (read_as (parse_trail text) e)) in
        omega (arith, short, long)

fails_within : (t : Trail) (at : ℕ) (why : Why) → FailsAt t.bound (recs_of t) at why → at < length t.recs
fails_within t at why fails =
    let same : length (recs_of t) ≡ length (fails.before ++ fails.r ∷ fails.after) = ap length fails.split in
    let place = fails.place in
    omega (arith, same, place, length-append fails.before (fails.r ∷ fails.after), length-map t.recs (λ (r : ReadRec). r.rec))

few_lines : (p : PolicyNames) → bound_number p ≤ 5
few_lines p = by_test (are_none p.grades)
  where
    by_test : (b : Bool) → cond b 4 5 ≤ 5
    by_test true = omega arith
    by_test false = omega arith

-- the number of the line of a record is small
pub line_fits : (t : Trail) (head : ℕ) → head ≡ bound_number t.policy → length t.recs ≤ 2 ^ 24 → (l : Answer) → IfNo l (FailsAt t.bound (recs_of t)) → (at : ℕ) (why : Why) → l ≡ No at why → head + at + 1 < 2 ^ 64
line_fits t head head_is few l fails_if at why is =
    let fails : FailsAt t.bound (recs_of t) at why = subst (λ x. IfNo x (FailsAt t.bound (recs_of t))) is fails_if in
    let within = fails_within t at why fails in
    let lines = few_lines t.policy in
    omega (arith, within, lines, few, head_is)

-- ---- a command that reads a trail

pub select_is_not_play : (word : List ℕ) → Select word ≡ OnInput Play → ⊥
select_is_not_play word is = absurd (cc)

pub lineage_is_not_play : Lineage ≡ OnInput Play → ⊥
lineage_is_not_play is = absurd (cc)

-- nothing holds besides of a command that reads a trail
abbrev pub HasNoMore : Command → Type 0
HasNoMore c = (text : List ℕ) (r : Result InputEnd Fault) (before after : Ends) → Besides c text r before after

module _ (c : Command) (other : c ≡ OnInput Play → ⊥) (no_more : HasNoMore c) (r : Result InputEnd Fault) (left left' : Option (List ℕ)) (n n' : ℕ) where
  -- memory ran out, or a read failed, before a trail was read
  pub trail_fails : (fault : Fault) (o t : SinkView) → ReadsTrail (Err fault) left left' → counts n' o.faults t.faults ≡ counted_by fault (counts n o.faults t.faults) → IsErrAnd r (λ q. q ≡ fault) → CommandDid c r left left' (ends n o t) (ends n' o t)
  trail_fails fault o t reads once is = record {
    taken = reads.taken;
    took = reads.took;
    few = reads.few;
    writes = passes_on r fault _ (ends n o t) (ends n' o t) (record { sends = prefix_nothing _ n n' o t; one_fault = once }) is;
    status = failed_ending r fault is _;
    to_the_end = λ _. failed_ending r fault is _;
    by_line = λ play. absurd (other play);
    besides = no_more _ r (ends n o t) (ends n' o t);
  }

  module _ (meaning : ReadTrail → Due) (means : (text : List ℕ) → due c text ≡ meaning (trail_in text)) (found : ReadTrail) (reads : ReadsTrail (Ok found) left left') (still : (u v : ℕ) → counts n' u v ≡ counts n u v) (o t : SinkView) (after : Ends) where
    -- what it means was written
    trail_did : Writes r (meaning found).order (ends n' o t) after → IfOk r (λ e. ends_with e ≡ (meaning found).status) → IfOk r (λ e. e ≡ Whole → IsAtEnd left') → CommandDid c r left left' (ends n o t) after
    trail_did writes status to_the_end =
        let text = reads.taken ++ left_of left' in
        let is_due : due c text ≡ meaning found = means text ∙ ap meaning (sym reads.shows) in
        record {
          taken = reads.taken;
          took = reads.took;
          few = reads.few;
          writes = subst (λ k. Writes r (due c text).order (ends k o t) after) (ap (λ (k : Counts). k.source) (still 0 0))
              (in_order r _ _ (ends n' o t) after (sym (ap (λ (d : Due). d.order) is_due)) writes);
          status = IfOk-weaker r _ _ (λ e is. is ∙ sym (ap (λ (d : Due). d.status) is_due)) status;
          to_the_end = λ _. to_the_end;
          by_line = λ play. absurd (other play);
          besides = no_more _ r (ends n o t) after;
        }

    -- what it means of a trail
    pub trail_read : (trail : Trail) → found ≡ read_is.Trail trail → Writes r (meaning (read_is.Trail trail)).order (ends n' o t) after → IfOk r (λ e. ends_with e ≡ (meaning (read_is.Trail trail)).status) → CommandDid c r left left' (ends n o t) after
    trail_read trail is writes status =
        trail_did (subst (λ x. Writes r (meaning x).order (ends n' o t) after) (sym is) writes) (subst (λ x. IfOk r (λ e. ends_with e ≡ (meaning x).status)) (sym is) status)
        (IfOk-weaker r _ _ (λ e s whole. subst (λ x. IfTrail x (λ _. IsAtEnd left')) is reads.to_the_end) status)

    -- what it means of bytes that are none
    pub trail_ended : (ending : InputEnd) → found ≡ read_is.Ended ending → Writes r (meaning (read_is.Ended ending)).order (ends n' o t) after → IfOk r (λ e. e ≡ ending) → ends_with ending ≡ (meaning (read_is.Ended ending)).status → CommandDid c r left left' (ends n o t) after
    trail_ended ending is writes same status =
        trail_did (subst (λ x. Writes r (meaning x).order (ends n' o t) after) (sym is) writes)
        (IfOk-weaker r _ _ (λ e k. ap ends_with k ∙ (status ∙ ap (λ x. (meaning x).status) (sym is))) same)
        (IfOk-weaker r _ _ (λ e k whole. absurd (not_whole (reads.taken ++ left_of left') ending (sym reads.shows ∙ is) (sym k ∙ whole))) same)
