-- The round trip of a record, and that a line that is read is the line of its record.
use Rattle.std.specs.Prelude.{◌≡◌, ℕ, ◌+◌, ◌^◌, ◌<◌, true, false, List, [], ◌∷◌, ◌++◌, length, take, drop, Option, None, Some, Result, Ok, Err, refl}
use Rattle.std.proofs.Common.{ap, sym, subst, ◌∙◌, inl, append_assoc}
use Rattle.std.specs.Fmt.{decimal}
use Rattle.std.proofs.lemmas.Bool.{and_parts, and_from}
use Rattle.std.proofs.lemmas.List.{append-nil, length-append, take_at, drop_at}
use Rattle.fs_path.proofs.RoundTrip.{decimal_bare, spaces_apart}
use Rattle.fs_path.specs.Split.{split_once}
use Rattle.fs_path.specs.Words.{after_spaces, line_text}
use Rattle.lab_text.specs.Policy.{PolicyNames, MakePolicy}
use Rattle.kern_model.specs.declared.numbers.Pid.{Pid}
use Rattle.kern_model.specs.declared.records.Rec.{Rec}
use Rattle.kern_model.specs.Named.{find_named}
use Rattle.line_text.specs.Words.{pid_text}
use Rattle.kern_model.specs.Records.{who_of}
use Rattle.aud_record.specs.Events.{event_of, event_word, all_events}
use Rattle.aud_record.proofs.FieldLaws.{canonical_is, canonical_round_trip, field_word}
use Rattle.aud_record.specs.Fits.{pid_fits, rest_tests, all_hold, rec_fits}
use Rattle.aud_record.proofs.FormLaws.{bound_is, word_round_trip, field_round_trip, Reads, word_is, field_is, after_text_is, record_of, values_fit, form_round_trip, words_lack, IsFormed, form_is}
use Rattle.aud_record.specs.Forms.{Kind, Process, form_of, parse_form}
use Rattle.aud_record.proofs.KindLaws.{form_wide, of_kind, made_by}
use Rattle.aud_record.proofs.Numbers.{number_is, number_round_trip}
use Rattle.aud_record.specs.Parsed.{parse_line, line_read, read_by, parse_rec}
use Rattle.aud_record.specs.Canonical.{canonical_number, canonical_pid}
use Rattle.aud_record.proofs.WordLaws.{lacks, lacks-append, split_round_trip, split_is, word_lacks}
use Rattle.aud_record.specs.Words.{◌>>=◌, parse_word, parse_field}
use Rattle.aud_record.specs.Written.{rest_words, rec_words, line_of, rec_text}
use Rattle.aud_record.specs.declared.event.Event.{Event}
use Rattle.aud_record.specs.declared.fault.Fault.{Fault}
use Rattle.aud_record.specs.declared.reading.ReadRec.{ReadRec}
use Rattle.aud_record.specs.declared.reading.RecError.{RecError}

-- ---- how a line is read, word by word

abbrev from_who : PolicyNames → ℕ → Event → Pid × List ℕ → Result (ℕ × Rec) Fault
from_who p call kind x = parse_form p (form_of kind x.0) x.1 >>= λ r. Ok (call, r)

abbrev from_kind : PolicyNames → ℕ → Event × List ℕ → Result (ℕ × Rec) Fault
from_kind p call x = parse_field false (canonical_pid p) x.1 >>= from_who p call x.0

abbrev from_call : PolicyNames → ℕ × List ℕ → Result (ℕ × Rec) Fault
from_call p x = parse_field true (find_named event_word all_events) x.1 >>= from_kind p x.0

-- ---- the round trip of a record

-- the words after the process are read as the record
rest_round_trip : (p : PolicyNames) (r : Rec) → MakePolicy p → all_hold (rest_tests p r) ≡ true → parse_form p (form_of (event_of r) (who_of r)) (after_spaces (rest_words p r)) ≡ Ok r
rest_round_trip p r h fits =
    let form = form_of (event_of r) (who_of r) in
    let by = made_by r in
    let kind = of_kind p (event_of r) (who_of r) by.values in
    let fit : values_fit p form by.values ≡ true = sym kind.fit ∙ ap (λ r. all_hold (rest_tests p r)) by.makes ∙ fits in
    ap (parse_form p form) (sym (kind.text ∙ ap (λ r. after_spaces (rest_words p r)) by.makes)) ∙ form_round_trip p form by.values h (form_wide (event_of r) (who_of r)) fit ∙ ap (λ (r : Rec). Ok r) by.makes

rest_lacks : (p : PolicyNames) (r : Rec) → MakePolicy p → all_hold (rest_tests p r) ≡ true → lacks 10 (after_spaces (rest_words p r)) ≡ true
rest_lacks p r h fits =
    let form = form_of (event_of r) (who_of r) in
    let by = made_by r in
    let kind = of_kind p (event_of r) (who_of r) by.values in
    let fit : values_fit p form by.values ≡ true = sym kind.fit ∙ ap (λ r. all_hold (rest_tests p r)) by.makes ∙ fits in
    ap (lacks 10) (sym (kind.text ∙ ap (λ r. after_spaces (rest_words p r)) by.makes)) ∙ words_lack p form by.values h (form_wide (event_of r) (who_of r)) fit

-- the line of a record, without its line feed
abbrev line_text_of : PolicyNames → ℕ → Rec → List ℕ
line_text_of p call r = line_text (decimal call ∷ rec_words p r)

line_round_trip : (p : PolicyNames) (call : ℕ) (r : Rec) → MakePolicy p → call < 2 ^ 64 → rec_fits p r ≡ true → parse_line p (line_text_of p call r) ≡ Ok (call, r)
unfolding parse_line rec_fits
line_round_trip p call r h small fits =
    let parts = and_parts (pid_fits p (who_of r)) (all_hold (rest_tests p r)) fits in
    let rest = after_spaces (rest_words p r) in
    let after_kind = after_spaces (pid_text p (who_of r) ∷ rest_words p r) in
    ap (λ (x : Result (ℕ × List ℕ) Fault). x >>= from_call p) (word_round_trip false (canonical_number (2 ^ 64)) (decimal call) (after_spaces (rec_words p r)) call (inl (decimal_bare call small)) refl (number_round_trip (2 ^ 64) call small small))
    ∙ ap (λ (x : Result (Event × List ℕ) Fault). x >>= from_kind p call) (field_round_trip true (find_named event_word all_events) (event_word (event_of r)) after_kind (event_of r) (field_word p Kind (event_of r) h refl refl) refl (canonical_round_trip p Kind (event_of r) h refl refl))
    ∙ ap (λ (x : Result (Pid × List ℕ) Fault). x >>= from_who p call (event_of r)) (field_round_trip false (canonical_pid p) (pid_text p (who_of r)) rest (who_of r) (field_word p Process (who_of r) h refl parts.0) (spaces_apart (rest_words p r)) (canonical_round_trip p Process (who_of r) h refl parts.0))
    ∙ ap (λ (x : Result Rec Fault). x >>= λ r. Ok (call, r)) (rest_round_trip p r h parts.1)

line_lacks : (p : PolicyNames) (call : ℕ) (r : Rec) → MakePolicy p → call < 2 ^ 64 → rec_fits p r ≡ true → lacks 10 (line_text_of p call r) ≡ true
unfolding rec_fits
line_lacks p call r h small fits =
    let parts = and_parts (pid_fits p (who_of r)) (all_hold (rest_tests p r)) fits in
    lacks-append 10 (decimal call) (after_spaces (rec_words p r)) (word_lacks (decimal call) (inl (decimal_bare call small)))
    (lacks-append 10 (event_word (event_of r)) (after_spaces (pid_text p (who_of r) ∷ rest_words p r)) (word_lacks (event_word (event_of r)) (field_word p Kind (event_of r) h refl refl))
    (lacks-append 10 (pid_text p (who_of r)) (after_spaces (rest_words p r)) (word_lacks (pid_text p (who_of r)) (field_word p Process (who_of r) h refl parts.0)) (rest_lacks p r h parts.1)))

-- a text that begins with the line of a record that fits is read as that record
pub rec_round_trip : (p : PolicyNames) (call : ℕ) (r : Rec) (rest : List ℕ) → MakePolicy p → call < 2 ^ 64 → rec_fits p r ≡ true
    → parse_rec p (rec_text p call r ++ rest) ≡ Ok (record { call = call; rec = r; used = length (rec_text p call r) })
unfolding parse_rec rec_text line_of
rec_round_trip p call r rest h small fits =
    let line = line_text_of p call r in
    ap (λ t. read_by p (split_once 10 t)) (append_assoc line (10 ∷ []) rest) ∙ ap (read_by p) (split_round_trip 10 line rest (line_lacks p call r h small fits)) ∙ ap (line_read (length line)) (line_round_trip p call r h small fits)
    ∙ ap (λ (n : ℕ). Ok (record { call = call; rec = r; used = n })) (sym (length-append line (10 ∷ [])))

-- ---- the line of the record that is read

-- a line is the line of a record that fits
record IsLine (p : PolicyNames) (line : List ℕ) (call : ℕ) (r : Rec) : Type 0 where
  small : call < 2 ^ 64
  fit : rec_fits p r ≡ true
  text : line ≡ line_text_of p call r

-- a line from its words
parts_are : {line number left kind_text kind after_kind who_text who rest digits kind_parsed parse_who tail : List ℕ} → line ≡ number ++ left → number ≡ digits → left ≡ 32 ∷ kind_text → kind_text ≡ kind ++ after_kind → kind ≡ kind_parsed
    → after_kind ≡ 32 ∷ who_text → who_text ≡ who ++ rest → who ≡ parse_who → rest ≡ tail → line ≡ digits ++ (32 ∷ kind_parsed ++ (32 ∷ parse_who ++ tail))
parts_are parts number space kind_parts kind second_space who_parts who rest = parts ∙ (λ i. number i ++ after_text_is space kind_parts kind (after_text_is second_space who_parts who rest) i)

-- a line whose words are read is the line of the record that they make
line_made : (p : PolicyNames) (line left after_kind rest : List ℕ) (call : ℕ) (e : Event) (who : Pid) (r : Rec) → Reads (canonical_number (2 ^ 64)) line left call
    → (text : List ℕ) × (left ≡ 32 ∷ text) × Reads (find_named event_word all_events) text after_kind e → (text : List ℕ) × (after_kind ≡ 32 ∷ text) × Reads (canonical_pid p) text rest who → IsFormed p (form_of e who) rest r → IsLine p line call r
unfolding rec_fits
line_made p line left after_kind rest call e who r number kind about formed =
    let n = number_is (2 ^ 64) call number.word number.says in
    let k = canonical_is p Kind kind.2.word e kind.2.says in
    let w = canonical_is p Process about.2.word who about.2.says in
    let of = of_kind p e who formed.values in
    let made_is : IsLine p line call (record_of (form_of e who) formed.values) = record {
      small = n.small;
      fit = and_from (pid_fits p (who_of (record_of (form_of e who) formed.values))) (all_hold (rest_tests p (record_of (form_of e who) formed.values))) (ap (pid_fits p) of.about ∙ w.fit) (of.fit ∙ formed.fit);
      text = parts_are number.parts n.text kind.1 kind.2.parts (k.text_is ∙ ap event_word (sym of.kind)) about.1 about.2.parts (w.text_is ∙ ap (pid_text p) (sym of.about)) (formed.text ∙ of.text);
    } in
    subst (IsLine p line call) formed.makes made_is

line_is : (p : PolicyNames) (line : List ℕ) (call : ℕ) (r : Rec) → parse_line p line ≡ Ok (call, r) → IsLine p line call r
unfolding parse_line
line_is p line call r h =
    let first = bound_is (parse_word false (canonical_number (2 ^ 64)) line) (from_call p) (call, r) h in
    let second = bound_is (parse_field true (find_named event_word all_events) first.0.1) (from_kind p first.0.0) (call, r) first.2 in
    let third = bound_is (parse_field false (canonical_pid p) second.0.1) (from_who p first.0.0 second.0.0) (call, r) second.2 in
    let last = bound_is (parse_form p (form_of second.0.0 third.0.0) third.0.1) (λ r. Ok (first.0.0, r)) (call, r) third.2 in
    let same : ◌≡◌ {A = ℕ × Rec} (first.0.0, last.0) (call, r) = cc in
    subst (λ (x : ℕ × Rec). IsLine p line x.0 x.1) {x = (first.0.0, last.0)} same
    (line_made p line first.0.1 second.0.1 third.0.1 first.0.0 second.0.0 third.0.0 last.0 (word_is false (canonical_number (2 ^ 64)) line first.0.1 first.0.0 first.1)
    (field_is true (find_named event_word all_events) first.0.1 second.0.1 second.0.0 second.1) (field_is false (canonical_pid p) second.0.1 third.0.1 third.0.0 third.1) (form_is p (form_of second.0.0 third.0.0) third.0.1 last.0 last.1))

-- the prefix of a text that is read is the line of the record, which fits
pub record IsRead (p : PolicyNames) (text : List ℕ) (read : ReadRec) : Type 0 where
  pub small : read.call < 2 ^ 64
  pub fit : rec_fits p read.rec ≡ true
  pub prefix : take read.used text ≡ rec_text p read.call read.rec

pub rec_is : (p : PolicyNames) (text : List ℕ) (read : ReadRec) → parse_rec p text ≡ Ok read → IsRead p text read
unfolding parse_rec rec_text line_of
rec_is p text read h = by_split (split_once 10 text) refl h
  where
    by_line : (line rest : List ℕ) (parsed : Result (ℕ × Rec) Fault) → split_once 10 text ≡ Some (line, rest) → parse_line p line ≡ parsed → line_read (length line) parsed ≡ Ok read → IsRead p text read
    by_line line rest (Err e) parted parsed h = absurd (cc)
    by_line line rest (Ok (call, r)) parted parsed h =
        let same : record { call = call; rec = r; used = length line + 1 } ≡ read = cc in
        let is = line_is p line call r parsed in
        let whole : text ≡ (line ++ 10 ∷ []) ++ rest = split_is 10 text line rest parted ∙ sym (append_assoc line (10 ∷ []) rest) in
        let size = length-append line (10 ∷ []) in
        subst (IsRead p text) same (record { small = is.small; fit = is.fit; prefix = ap (take (length line + 1)) whole ∙ take_at (line ++ 10 ∷ []) rest (length line + 1) size ∙ ap (λ l. l ++ 10 ∷ []) is.text })

    by_split : (o : Option (List ℕ × List ℕ)) → split_once 10 text ≡ o → read_by p o ≡ Ok read → IsRead p text read
    by_split None parted h = absurd (cc)
    by_split (Some (line, rest)) parted h = by_line line rest (parse_line p line) parted refl h

-- ---- no line is a prefix of another

-- two records with their numbers, and what comes after their lines, are equal
pub record AreOne (m n : ℕ) (a b : Rec) (x y : List ℕ) : Type 0 where
  pub call : m ≡ n
  pub rec : a ≡ b
  pub rest : x ≡ y

-- a text begins with the line of at most one record
pub one_record : (p : PolicyNames) (m n : ℕ) (a b : Rec) (x y : List ℕ) → MakePolicy p → m < 2 ^ 64 → n < 2 ^ 64 → rec_fits p a ≡ true → rec_fits p b ≡ true → rec_text p m a ++ x ≡ rec_text p n b ++ y → AreOne m n a b x y
one_record p m n a b x y h first second fits others same =
    let read : record { call = m; rec = a; used = length (rec_text p m a) } ≡ record { call = n; rec = b; used = length (rec_text p n b) } =
    same_Ok (sym (rec_round_trip p m a x h first fits) ∙ ap (parse_rec p) same ∙ rec_round_trip p n b y h second others) in
    record {
      call = ap (λ (r : ReadRec). r.call) read;
      rec = ap (λ (r : ReadRec). r.rec) read;
      rest = sym (drop_at (rec_text p m a) x (length (rec_text p m a)) refl) ∙ (λ i. drop (read i).used (same i)) ∙ drop_at (rec_text p n b) y (length (rec_text p n b)) refl;
    }
  where
    same_Ok : {r s : ReadRec} → ◌≡◌ {A = Result ReadRec RecError} (Ok r) (Ok s) → r ≡ s
    same_Ok e = cc

-- no line is a proper prefix of another
pub no_prefix : (p : PolicyNames) (m n : ℕ) (a b : Rec) (x : List ℕ) → MakePolicy p → m < 2 ^ 64 → n < 2 ^ 64 → rec_fits p a ≡ true → rec_fits p b ≡ true → rec_text p m a ++ x ≡ rec_text p n b → x ≡ []
no_prefix p m n a b x h first second fits others same = (one_record p m n a b x [] h first second fits others (same ∙ sym (append-nil (rec_text p n b)))).rest
