-- How a trail is read, record by record, and that what is written is read again.
use Rattle.std.specs.Prelude.{◌≡◌, ℕ, ◌+◌, ◌^◌, ◌≤◌, ◌<◌, ◌==◌, ⊤, nat_le, Bool, true, false, cond, List, [], ◌∷◌, ◌++◌, length, take, drop, Option, None, Some, Result, Ok, Err, refl}
use Rattle.std.specs.Bool.{MatchBool}
use Rattle.std.specs.List.{All, AllByRecursion}
use Rattle.std.specs.Result.{IsErrAnd}
use Rattle.std.proofs.Common.{ap, sym, subst, ◌∙◌, arith, append_assoc}
use Rattle.std.proofs.lemmas.Bool.{eqb-true, le-leb, leb-true}
use Rattle.std.proofs.lemmas.List.{append-nil, drop_at, length-append, length-take-le, take-append-drop}
use Rattle.std.proofs.lemmas.List.Elements.{All-nil, All-cons, All-head, All-tail}
use Rattle.fs_path.specs.Split.{split_once, pieces}
use Rattle.fs_path.proofs.SplitLemmas.{pieces_some, pieces_none, pieces_first}
use Rattle.kern_model.specs.declared.records.Rec.{Rec}
use Rattle.lab_text.specs.Policy.{PolicyNames, MakePolicy}
use Rattle.aud_record.proofs.FitLemmas.{fits_from, labels_from}
use Rattle.aud_record.proofs.FormLaws.{bound_is}
use Rattle.aud_record.proofs.HeaderLaws.{header_round_trip, header_is}
use Rattle.aud_record.proofs.RoundTrip.{rec_round_trip, rec_is}
use Rattle.aud_record.proofs.WordLaws.{split_is}
use Rattle.aud_record.specs.Fits.{IsInRange, rec_fits}
use Rattle.aud_record.specs.Header.{bound_number, parse_header}
use Rattle.aud_record.specs.Parsed.{parse_line, line_read, read_by, parse_rec}
use Rattle.aud_record.specs.Results.{AnswersAs, FailsBy}
use Rattle.aud_record.specs.Words.{◌>>=◌}
use Rattle.aud_record.specs.Written.{header_text, rec_text}
use Rattle.aud_record.specs.declared.fault.Fault.{Fault}
use Rattle.aud_record.specs.declared.header.Header.{Header}
use Rattle.aud_record.specs.declared.header.HeaderError.{HeaderError}
use Rattle.aud_record.specs.declared.reading.ReadRec.{ReadRec}
use Rattle.aud_record.specs.declared.reading.RecError.{RecError}
use Rattle.aud_record.specs.declared.reading.RecError.TheVariants as rec
use Rattle.aud_red.specs.Trail.{recs_text, trail_text, IsRecOf, NeverFall, IsTextOf, is_no_memory, header_or, rec_from, parse_recs, parse_trail}
use Rattle.aud_red.specs.declared.trail.Trail.{Trail}
use Rattle.aud_red.specs.declared.trail.TrailError.{TrailError}
use Rattle.aud_red.specs.declared.trail.TrailError.TheVariants as error

-- ---- one record

-- records, and after them those that are read
abbrev pub onto : List ReadRec → Result (List ReadRec) TrailError → Result (List ReadRec) TrailError
onto recs read = read >>= λ (more : List ReadRec). Ok (recs ++ more)

-- the record with which a text begins, and then those of the text after its line
abbrev after_rec : PolicyNames → ℕ → List ℕ → ReadRec → Result (List ReadRec) TrailError
after_rec p n text r = onto (r ∷ []) (parse_recs p (n + 1) r.call (pieces 10 (drop r.used text)))

abbrev after_line : PolicyNames → ℕ → List (List ℕ) → ReadRec → Result (List ReadRec) TrailError
after_line p n rest r = onto (r ∷ []) (parse_recs p (n + 1) r.call rest)

-- the text after the line with which it begins
rest_is : (text line rest : List ℕ) → split_once 10 text ≡ Some (line, rest) → drop (length line + 1) text ≡ rest
rest_is text line rest h =
    let whole : text ≡ (line ++ 10 ∷ []) ++ rest = split_is 10 text line rest h ∙ sym (append_assoc line (10 ∷ []) rest) in
    ap (drop (length line + 1)) whole ∙ drop_at (line ++ 10 ∷ []) rest (length line + 1) (length-append line (10 ∷ []))

more_lines : (p : PolicyNames) (n low : ℕ) (line : List ℕ) (ls : List (List ℕ)) (q : List ℕ) (qs : List (List ℕ)) → ls ≡ q ∷ qs
    → parse_recs p n low (line ∷ ls) ≡ (rec_from n low (line_read (length line) (parse_line p line)) >>= after_line p n ls)
unfolding parse_recs
more_lines p n low line ls q qs e =
    ap (λ (x : List (List ℕ)). parse_recs p n low (line ∷ x)) e
    ∙ sym (ap (λ (x : List (List ℕ)). rec_from n low (line_read (length line) (parse_line p line)) >>= after_line p n x) e)

-- a text with some bytes gives the record with which it begins, and those of the text after its line
pub some_read : (p : PolicyNames) (n low b : ℕ) (bs : List ℕ) → parse_recs p n low (pieces 10 (b ∷ bs)) ≡ (rec_from n low (parse_rec p (b ∷ bs)) >>= after_rec p n (b ∷ bs))
unfolding parse_recs parse_rec
some_read p n low b bs = by_split (split_once 10 (b ∷ bs)) refl
  where
    by_line : (line rest : List ℕ) (parsed : Result (ℕ × Rec) Fault) → drop (length line + 1) (b ∷ bs) ≡ rest
        → (rec_from n low (line_read (length line) parsed) >>= after_line p n (pieces 10 rest)) ≡ (rec_from n low (line_read (length line) parsed) >>= after_rec p n (b ∷ bs))
    by_line line rest (Err f) after = refl
    by_line line rest (Ok x) after = by_order (nat_le low x.0)
      where
        r : ReadRec
        r = record { call = x.0; rec = x.1; used = length line + 1 }

        by_order : (v : Bool) → (cond v (Ok r) (Err (error.Record n)) >>= after_line p n (pieces 10 rest)) ≡ (cond v (Ok r) (Err (error.Record n)) >>= after_rec p n (b ∷ bs))
        by_order true = ap (λ (t : List ℕ). after_line p n (pieces 10 t) r) (sym after)
        by_order false = refl

    by_split : (o : Option (List ℕ × List ℕ)) → split_once 10 (b ∷ bs) ≡ o → parse_recs p n low (pieces 10 (b ∷ bs)) ≡ (rec_from n low (read_by p (split_once 10 (b ∷ bs))) >>= after_rec p n (b ∷ bs))
    by_split None e =
        ap (parse_recs p n low) (pieces_none 10 (b ∷ bs) e)
        ∙ sym (ap (λ (o : Option (List ℕ × List ℕ)). rec_from n low (read_by p o) >>= after_rec p n (b ∷ bs)) e)
    by_split (Some (line, rest)) e =
        let first = pieces_first 10 rest in
        ap (parse_recs p n low) (pieces_some 10 (b ∷ bs) line rest e)
        ∙ more_lines p n low line (pieces 10 rest) first.0 first.1 first.2
        ∙ by_line line rest (parse_line p line) (rest_is (b ∷ bs) line rest e)
        ∙ sym (ap (λ (o : Option (List ℕ × List ℕ)). rec_from n low (read_by p o) >>= after_rec p n (b ∷ bs)) e)

-- nothing stands after the last record
pub none_read : (p : PolicyNames) (n low : ℕ) → parse_recs p n low (pieces 10 []) ≡ Ok []
unfolding parse_recs
none_read p n low = refl

-- the line of a record has a byte and more, and stands in the text
pub record LineFits (text : List ℕ) (r : ReadRec) : Type 0 where
  pub some : 0 < r.used
  pub within : r.used ≤ length text

pub line_fits : (p : PolicyNames) (text : List ℕ) (r : ReadRec) → parse_rec p text ≡ Ok r → LineFits text r
unfolding parse_rec
line_fits p text r h = by_split (split_once 10 text) refl h
  where
    by_line : (line rest : List ℕ) (parsed : Result (ℕ × Rec) Fault) → split_once 10 text ≡ Some (line, rest) → line_read (length line) parsed ≡ Ok r → LineFits text r
    by_line line rest (Err f) e h = absurd (cc)
    by_line line rest (Ok x) e h =
        let same : record { call = x.0; rec = x.1; used = length line + 1 } ≡ r = cc in
        let size : length text ≡ length line + length (10 ∷ rest) = ap length (split_is 10 text line rest e) ∙ length-append line (10 ∷ rest) in
        subst (LineFits text) same (record { some = omega arith; within = omega arith })

    by_split : (o : Option (List ℕ × List ℕ)) → split_once 10 text ≡ o → read_by p o ≡ Ok r → LineFits text r
    by_split None e h = absurd (cc)
    by_split (Some (line, rest)) e h = by_line line rest (parse_line p line) e h

-- ---- what is read is written so

-- the record that is read is the one of the line, and its call number is not below the one before
record IsFrom (low : ℕ) (read : Result ReadRec RecError) (r : ReadRec) : Type 0 where
  is : read ≡ Ok r
  order : low ≤ r.call

from_is : (n low : ℕ) (read : Result ReadRec RecError) (r : ReadRec) → rec_from n low read ≡ Ok r → IsFrom low read r
from_is n low (Err e) r h = absurd (cc)
from_is n low (Ok x) r h = by_order (nat_le low x.call) refl h
  where
    by_order : (v : Bool) → nat_le low x.call ≡ v → cond v (Ok x) (Err (error.Record n)) ≡ Ok r → IsFrom low (Ok x) r
    by_order true le h =
        let same : x ≡ r = cc in
        subst (λ (r : ReadRec). IsFrom low (Ok x) r) same (record { is = refl; order = leb-true low x.call le })
    by_order false le h = absurd (cc)

-- a text gives a record and more
record BeginsSo (p : PolicyNames) (n low : ℕ) (text : List ℕ) (r : ReadRec) (rs : List ReadRec) : Type 0 where
  first : parse_rec p text ≡ Ok r
  order : low ≤ r.call
  more : parse_recs p (n + 1) r.call (pieces 10 (drop r.used text)) ≡ Ok rs

begins_so : (p : PolicyNames) (n low b : ℕ) (bs : List ℕ) (recs : List ReadRec) → parse_recs p n low (pieces 10 (b ∷ bs)) ≡ Ok recs
    → (r : ReadRec) × (rs : List ReadRec) × (r ∷ rs ≡ recs) × BeginsSo p n low (b ∷ bs) r rs
begins_so p n low b bs recs h =
    let first = bound_is (rec_from n low (parse_rec p (b ∷ bs))) (after_rec p n (b ∷ bs)) recs (sym (some_read p n low b bs) ∙ h) in
    let r = first.0 in
    let more = bound_is (parse_recs p (n + 1) r.call (pieces 10 (drop r.used (b ∷ bs)))) (λ (rest : List ReadRec). Ok (r ∷ rest)) recs first.2 in
    let from = from_is n low (parse_rec p (b ∷ bs)) r first.1 in
    (r, more.0, same_list (r ∷ more.0) recs more.2, record { first = from.is; order = from.order; more = more.1 })
  where
    same_list : (xs ys : List ReadRec) → ◌≡◌ {A = Result (List ReadRec) TrailError} (Ok xs) (Ok ys) → xs ≡ ys
    same_list xs ys e = cc

-- a text is the lines of records, each with a call number that is not below the one before
pub record AreRecs (p : PolicyNames) (low : ℕ) (text : List ℕ) (recs : List ReadRec) : Type 0 where
  pub whole : text ≡ recs_text p recs
  pub each : All (IsRecOf p) recs
  pub order : NeverFall low recs

-- one more record before others
rec_before : (p : PolicyNames) (n low : ℕ) (text : List ℕ) (r : ReadRec) (rs : List ReadRec) → BeginsSo p n low text r rs → AreRecs p r.call (drop r.used text) rs → AreRecs p low text (r ∷ rs)
rec_before p n low text r rs so others =
    let is = rec_is p text r so.first in
    let fits = line_fits p text r so.first in
    let within = fits.within in
    let line : take r.used text ≡ rec_text p r.call r.rec = is.prefix in
    record {
      whole = sym (take-append-drop r.used text) ∙ (λ i. line i ++ others.whole i);
      each = All-cons (IsRecOf p) r rs (record { labels = labels_from p r.rec is.fit; used = sym (length-take-le r.used text within) ∙ ap length line }) others.each;
      order = (so.order, others.order);
    }

pub recs_are : (p : PolicyNames) (recs : List ReadRec) (n low : ℕ) (text : List ℕ) → parse_recs p n low (pieces 10 text) ≡ Ok recs → AreRecs p low text recs
recs_are p [] n low [] h = record { whole = refl; each = All-nil (IsRecOf p); order = tt }
recs_are p [] n low (b ∷ bs) h = let so = begins_so p n low b bs [] h in let same : so.0 ∷ so.1 ≡ [] = so.2 in absurd (cc)
recs_are p (r ∷ rs) n low [] h = let none = none_read p n low in let same : ◌≡◌ {A = Result (List ReadRec) TrailError} (Ok []) (Ok (r ∷ rs)) = sym none ∙ h in absurd (cc)
recs_are p (r ∷ rs) n low (b ∷ bs) h =
    let so = begins_so p n low b bs (r ∷ rs) h in
    let one : so.0 ≡ r = heads_same so.2 in
    let rest : so.1 ≡ rs = tails_same so.2 in
    let begins : BeginsSo p n low (b ∷ bs) r rs = (subst (λ (x : ReadRec × List ReadRec). BeginsSo p n low (b ∷ bs) x.0 x.1) {x = (so.0, so.1)} (λ i. (one i, rest i)) so.3) in
    rec_before p n low (b ∷ bs) r rs begins (recs_are p rs (n + 1) r.call (drop r.used (b ∷ bs)) begins.more)
  where
    heads_same : {x y : ReadRec} {xs ys : List ReadRec} → x ∷ xs ≡ y ∷ ys → x ≡ y
    heads_same e = cc

    tails_same : {x y : ReadRec} {xs ys : List ReadRec} → x ∷ xs ≡ y ∷ ys → xs ≡ ys
    tails_same e = cc

-- ---- what is written so is read

-- a text that begins with a record gives the record and what comes after it
begins_read : (p : PolicyNames) (n low : ℕ) (text : List ℕ) (r : ReadRec) → parse_rec p text ≡ Ok r → low ≤ r.call → parse_recs p n low (pieces 10 text) ≡ after_rec p n text r
unfolding parse_rec split_once
begins_read p n low [] r h order = let none : ◌≡◌ {A = Result ReadRec RecError} (Err rec.Truncated) (Ok r) = h in absurd (cc)
begins_read p n low (b ∷ bs) r h order =
    some_read p n low b bs
    ∙ ap (λ (read : Result ReadRec RecError). rec_from n low read >>= after_rec p n (b ∷ bs)) h
    ∙ ap (λ (v : Bool). cond v (Ok r) (Err (error.Record n)) >>= after_rec p n (b ∷ bs)) (le-leb low r.call order)

-- a record is read from its line: the number of its call and the record itself fit, and it has the number of bytes of the line
pub record IsReadBack (p : PolicyNames) (r : ReadRec) : Type 0 where
  pub call : r.call < 2 ^ 64
  pub fit : rec_fits p r.rec ≡ true
  pub used : r.used ≡ length (rec_text p r.call r.rec)

-- so it is where its labels are valid and its numbers and bytes are in range
read_back : (p : PolicyNames) (recs : List ReadRec) → All (IsRecOf p) recs → All (λ (r : ReadRec). IsInRange r.call r.rec) recs → AllByRecursion (IsReadBack p) recs
read_back p [] each ranges = tt
read_back p (r ∷ rs) each ranges =
    let is = All-head (IsRecOf p) r rs each in
    let range = All-head (λ (r : ReadRec). IsInRange r.call r.rec) r rs ranges in (
      record { call = range.call_is; fit = fits_from p r.call r.rec is.labels range; used = is.used },
      read_back p rs (All-tail (IsRecOf p) r rs each) (All-tail (λ (r : ReadRec). IsInRange r.call r.rec) r rs ranges),
    )

recs_round_trip : (p : PolicyNames) (recs : List ReadRec) (n low : ℕ) → MakePolicy p → AllByRecursion (IsReadBack p) recs → NeverFall low recs
    → parse_recs p n low (pieces 10 (recs_text p recs)) ≡ Ok recs
recs_round_trip p [] n low makes each order = none_read p n low
recs_round_trip p (r ∷ rs) n low makes each order =
    let is = each.0 in
    let read : parse_rec p (rec_text p r.call r.rec ++ recs_text p rs) ≡ Ok r =
    rec_round_trip p r.call r.rec (recs_text p rs) makes is.call is.fit
    ∙ ap (λ (n : ℕ). Ok (record { call = r.call; rec = r.rec; used = n })) (sym is.used) in
    begins_read p n low (rec_text p r.call r.rec ++ recs_text p rs) r read order.0
    ∙ ap (λ (t : List ℕ). after_line p n (pieces 10 t) r) (drop_at (rec_text p r.call r.rec) (recs_text p rs) r.used (sym is.used))
    ∙ ap (onto (r ∷ [])) (recs_round_trip p rs (n + 1) r.call makes each.1 order.1)

-- ---- a whole trail

abbrev from_recs : Header → List ReadRec → Result Trail TrailError
from_recs h recs = Ok (record { policy = h.policy; bound = h.bound; recs = recs })

abbrev from_header : List ℕ → Header → Result Trail TrailError
from_header text h = parse_recs h.policy (bound_number h.policy + 1) 0 (pieces 10 (drop h.used text)) >>= from_recs h

header_or_is : (text : List ℕ) (read : Result Header HeaderError) (h : Header) → header_or text read ≡ Ok h → read ≡ Ok h
header_or_is text (Ok x) h e = cc
header_or_is text (Err f) h e = absurd (cc)

-- a text that is read is the text of the trail
pub trail_is : (text : List ℕ) (t : Trail) → parse_trail text ≡ Ok t → IsTextOf text t
unfolding parse_trail trail_text
trail_is text t e =
    let first = bound_is (header_or text (parse_header text)) (from_header text) t e in
    let h = first.0 in
    let more = bound_is (parse_recs h.policy (bound_number h.policy + 1) 0 (pieces 10 (drop h.used text))) (from_recs h) t first.2 in
    let same : record { policy = h.policy; bound = h.bound; recs = more.0 } ≡ t = same_trail more.2 in
    let begins = header_is text h (header_or_is text (parse_header text) h first.1) in
    let recs = recs_are h.policy more.0 (bound_number h.policy + 1) 0 (drop h.used text) more.1 in
    let prefix : take h.used text ≡ header_text h.policy h.bound = begins.prefix in
    let rest : drop h.used text ≡ recs_text h.policy more.0 = recs.whole in
    subst (IsTextOf text) same (record {
      names = begins.fine;
      whole = sym (take-append-drop h.used text) ∙ (λ i. prefix i ++ rest i);
      recs = recs.each;
      order = recs.order;
    })
  where
    same_trail : {x y : Trail} → ◌≡◌ {A = Result Trail TrailError} (Ok x) (Ok y) → x ≡ y
    same_trail e = cc

-- a trail whose records are read from their lines is read from its text
pub trail_read_back : (t : Trail) → MakePolicy t.policy → AllByRecursion (IsReadBack t.policy) t.recs → NeverFall 0 t.recs → parse_trail (trail_text t) ≡ Ok t
unfolding parse_trail trail_text
trail_read_back t makes each order =
    let h : Header = record { policy = t.policy; bound = t.bound; used = length (header_text t.policy t.bound) } in
    let whole = header_text t.policy t.bound ++ recs_text t.policy t.recs in
    ap (λ (read : Result Header HeaderError). header_or whole read >>= from_header whole) (header_round_trip t.policy t.bound (recs_text t.policy t.recs) makes)
    ∙ ap (λ (rest : List ℕ). parse_recs t.policy (bound_number t.policy + 1) 0 (pieces 10 rest) >>= from_recs h) (drop_at (header_text t.policy t.bound) (recs_text t.policy t.recs) (length (header_text t.policy t.bound)) refl)
    ∙ ap (λ (read : Result (List ReadRec) TrailError). read >>= from_recs h) (recs_round_trip t.policy t.recs (bound_number t.policy + 1) 0 makes each order)

-- the text of a trail is read as that trail
pub trail_round_trip : (text : List ℕ) (t : Trail) → IsTextOf text t → All (λ (r : ReadRec). IsInRange r.call r.rec) t.recs → parse_trail text ≡ Ok t
trail_round_trip text t is ranges = ap parse_trail is.whole ∙ trail_read_back t is.names (read_back t.policy t.recs is.recs ranges) is.order

-- ---- the loop over the records

-- records that were read, and one more
onto_more : (recs : List ReadRec) (r : ReadRec) (read : Result (List ReadRec) TrailError) → onto recs (onto (r ∷ []) read) ≡ onto (recs ++ r ∷ []) read
onto_more recs r (Ok more) = ap (λ (l : List ReadRec). Ok l) (sym (append_assoc recs (r ∷ []) more))
onto_more recs r (Err e) = refl

pub read_on : (whole : Result (List ReadRec) TrailError) (recs : List ReadRec) (p : PolicyNames) (n low : ℕ) (text : List ℕ) (r : ReadRec) → (length text == 0) ≡ false
    → whole ≡ onto recs (parse_recs p n low (pieces 10 text)) → rec_from n low (parse_rec p text) ≡ Ok r → whole ≡ onto (recs ++ r ∷ []) (parse_recs p (n + 1) r.call (pieces 10 (drop r.used text)))
read_on whole recs p n low [] r some so_far read = absurd (cc)
read_on whole recs p n low (b ∷ bs) r some so_far read =
    so_far ∙ ap (onto recs) (some_read p n low b bs ∙ ap (λ (x : Result ReadRec TrailError). x >>= after_rec p n (b ∷ bs)) read)
    ∙ onto_more recs r (parse_recs p (n + 1) r.call (pieces 10 (drop r.used (b ∷ bs))))

-- a record that is not read
pub read_fails : (whole : Result (List ReadRec) TrailError) (recs : List ReadRec) (p : PolicyNames) (n low : ℕ) (text : List ℕ) (e : TrailError) → (length text == 0) ≡ false
    → whole ≡ onto recs (parse_recs p n low (pieces 10 text)) → FailsBy is_no_memory e (rec_from n low (parse_rec p text)) → FailsBy is_no_memory e whole
read_fails whole recs p n low [] e some so_far fails = absurd (cc)
read_fails whole recs p n low (b ∷ bs) e some so_far fails = by_memory (is_no_memory e) fails
  where
    by_memory : (v : Bool) → MatchBool v ⊤ (rec_from n low (parse_rec p (b ∷ bs)) ≡ Err e) → MatchBool v ⊤ (whole ≡ Err e)
    by_memory true h = tt
    by_memory false h = so_far ∙ ap (onto recs) (some_read p n low b bs ∙ ap (λ (x : Result ReadRec TrailError). x >>= after_rec p n (b ∷ bs)) h)

-- no text is left
pub read_end : (whole : Result (List ReadRec) TrailError) (recs : List ReadRec) (p : PolicyNames) (n low : ℕ) (text : List ℕ) → (length text == 0) ≡ true
    → whole ≡ onto recs (parse_recs p n low (pieces 10 text)) → whole ≡ Ok recs
read_end whole recs p n low [] none so_far = so_far ∙ ap (onto recs) (none_read p n low) ∙ ap (λ (l : List ReadRec). Ok l) (append-nil recs)
read_end whole recs p n low (b ∷ bs) none so_far = let zero = eqb-true (length (b ∷ bs)) 0 none in absurd (omega arith)

-- an error that is handed on is the one that was found
pub handed_on : {X Y : Type 0} (r : Result X TrailError) (view : X → Y) (e : TrailError) (whole : Result Y TrailError) → IsErrAnd r (λ f. f ≡ e) → FailsBy is_no_memory e whole → AnswersAs is_no_memory view r whole
handed_on (Ok x) view e whole is h = absurd is
handed_on (Err f) view e whole is h = subst (λ (f : TrailError). FailsBy is_no_memory f whole) (sym is) h

-- a text that gives a record has its line
pub from_fits : (p : PolicyNames) (n low : ℕ) (text : List ℕ) (r : ReadRec) → rec_from n low (parse_rec p text) ≡ Ok r → LineFits text r
from_fits p n low text r h = line_fits p text r (from_is n low (parse_rec p text) r h).is
