-- A form reads the words of its values and no others.
use Rattle.std.specs.Prelude.{◌≡◌, ℕ, ◌&&◌, Bool, true, false, cond, List, [], ◌∷◌, ◌++◌, Option, None, Some, Result, Ok, Err, length, refl}
use Rattle.std.proofs.Common.{ap, sym, ◌∙◌}
use Rattle.std.proofs.lemmas.Bool.{and_parts, and_from, eqb-true}
use Rattle.std.proofs.lemmas.List.{take-append-drop}
use Rattle.fs_path.specs.Words.{is_space, is_apart, after_spaces}
use Rattle.lab_text.specs.Policy.{PolicyNames, MakePolicy}
use Rattle.kern_model.specs.declared.records.Rec.{Rec}
use Rattle.aud_record.proofs.FieldLaws.{field_text, field_fits, is_wide, canonical_is, canonical_round_trip, field_word}
use Rattle.aud_record.specs.Forms.{Of, is_listed, canonical, Form, Done, Next, parse_form}
use Rattle.aud_record.proofs.WordLaws.{lacks, lacks-append, IsWord, first_round_trip, after_round_trip, word_lacks}
use Rattle.aud_record.specs.Words.{◌>>=◌, first_word, after_word, after_space, value_at_end, value_and_rest, parse_word, parse_field}
use Rattle.aud_record.specs.declared.fault.Fault.{Fault}
use Rattle.aud_record.specs.declared.fault.Fault.TheVariants as fault
use Rattle.fs_path.proofs.RoundTrip.{spaces_apart}

-- ---- one word

-- where two steps, one after the other, have a result, each of them has one
pub bound_is : {A B E : Type 0} (r : Result A E) (f : A → Result B E) (y : B) → (r >>= f) ≡ Ok y → (x : A) × (r ≡ Ok x) × (f x ≡ Ok y)
bound_is (Ok x) f y h = (x, refl, h)
bound_is (Err e) f y h = absurd (cc)

-- the word of a value is read as that value, and what comes after it is left
pub word_round_trip : {X : Type 0} (listed : Bool) (parsed : List ℕ → Option X) (word rest : List ℕ) (x : X) → IsWord word → is_apart rest ≡ true → parsed word ≡ Some x → parse_word listed parsed (word ++ rest) ≡ Ok (x, rest)
unfolding parse_word
word_round_trip listed parsed word rest x is ends h =
    ap (value_and_rest listed (word ++ rest)) (ap parsed (first_round_trip word rest is ends) ∙ h) ∙ ap (λ (t : List ℕ). Ok (x, t)) (after_round_trip word rest is ends)

pub field_round_trip : {X : Type 0} (listed : Bool) (parsed : List ℕ → Option X) (word rest : List ℕ) (x : X) → IsWord word → is_apart rest ≡ true → parsed word ≡ Some x → parse_field listed parsed (32 ∷ word ++ rest) ≡ Ok (x, rest)
unfolding parse_field after_space
field_round_trip listed parsed word rest x is ends h = word_round_trip listed parsed word rest x is ends h

-- a text begins with a word that denotes a value, and the rest is left
pub record Reads {X : Type 0} (parsed : List ℕ → Option X) (text rest : List ℕ) (x : X) : Type 0 where
  pub word : List ℕ
  pub says : parsed word ≡ Some x
  pub parts : text ≡ word ++ rest

pub word_is : {X : Type 0} (listed : Bool) (parsed : List ℕ → Option X) (text rest : List ℕ) (x : X) → parse_word listed parsed text ≡ Ok (x, rest) → Reads parsed text rest x
unfolding parse_word
word_is {X} listed parsed text rest x h = by_parsed (parsed (first_word text)) refl h
  where
    by_parsed : (o : Option X) → parsed (first_word text) ≡ o → value_and_rest listed text o ≡ Ok (x, rest) → Reads parsed text rest x
    by_parsed None e h = absurd (cc)
    by_parsed (Some y) e h = let same : ◌≡◌ {A = X × List ℕ} (y, after_word text) (x, rest) = cc in record { word = first_word text; says = e ∙ (λ i. Some (same i).0); parts = sym (take-append-drop _ text) ∙ (λ i. first_word text ++ (same i).1) }

space_is : (left text : List ℕ) → after_space left ≡ Ok text → left ≡ 32 ∷ text
unfolding after_space
space_is [] text h = absurd (cc)
space_is (b ∷ bs) text h = by_test (is_space b) refl h
  where
    by_test : (v : Bool) → is_space b ≡ v → cond v (Ok bs) (Err (fault.Syntax (length (b ∷ bs)))) ≡ Ok text → b ∷ bs ≡ 32 ∷ text
    by_test true e h = let same : bs ≡ text = cc in λ i. eqb-true b 32 e i ∷ same i
    by_test false e h = absurd (cc)

pub field_is : {X : Type 0} (listed : Bool) (parsed : List ℕ → Option X) (left rest : List ℕ) (x : X) → parse_field listed parsed left ≡ Ok (x, rest) → (text : List ℕ) × (left ≡ 32 ∷ text) × Reads parsed text rest x
unfolding parse_field
field_is listed parsed left rest x h =
    let due = bound_is (after_space left) (parse_word listed parsed) (x, rest) h in
    (due.0, space_is left due.0 due.1, word_is listed parsed due.0 rest x due.2)

-- a word after a space, and what comes after it
pub after_text_is : {left text word rest parsed tail : List ℕ} → left ≡ 32 ∷ text → text ≡ word ++ rest → word ≡ parsed → rest ≡ tail → left ≡ 32 ∷ parsed ++ tail
after_text_is space parts is after = space ∙ ap (λ t. 32 ∷ t) parts ∙ (λ i. 32 ∷ is i ++ after i)

-- ---- a form

-- the values of a form's words
abbrev pub Values : Form → Type 0
Values (Done r) = Unit {0}
Values (Next f more) = (v : Of f) × Values (more v)

-- the record that values make
abbrev pub record_of : (form : Form) → Values form → Rec
record_of (Done r) vs = r
record_of (Next f more) vs = record_of (more vs.0) vs.1

-- the words of a form's values
abbrev pub words_in : PolicyNames → (form : Form) → Values form → List (List ℕ)
words_in p (Done r) vs = []
words_in p (Next f more) vs = field_text p f vs.0 ∷ words_in p (more vs.0) vs.1

abbrev pub values_fit : PolicyNames → (form : Form) → Values form → Bool
values_fit p (Done r) vs = true
values_fit p (Next f more) vs = field_fits p f vs.0 && values_fit p (more vs.0) vs.1

-- the bounds of a form's numbers are within 64 bits
abbrev pub IsWide : Form → Type 0
IsWide (Done r) = Unit {0}
IsWide (Next f more) = (is_wide f ≡ true) × ((v : Of f) → IsWide (more v))

-- the words of values that fit are read as the record that they make
pub form_round_trip : (p : PolicyNames) (form : Form) (vs : Values form) → MakePolicy p → IsWide form → values_fit p form vs ≡ true → parse_form p form (after_spaces (words_in p form vs)) ≡ Ok (record_of form vs)
unfolding value_at_end
form_round_trip p (Done r) vs h wide fit = refl
form_round_trip p (Next f more) vs h wide fit =
    let parts = and_parts (field_fits p f vs.0) (values_fit p (more vs.0) vs.1) fit in
    let rest = after_spaces (words_in p (more vs.0) vs.1) in
    ap (λ (r : Result (Of f × List ℕ) Fault). r >>= λ x. parse_form p (more x.0) x.1)
    (field_round_trip (is_listed f) (canonical p f) (field_text p f vs.0) rest vs.0 (field_word p f vs.0 h wide.0 parts.0) (spaces_apart (words_in p (more vs.0) vs.1)) (canonical_round_trip p f vs.0 h wide.0 parts.0))
    ∙ form_round_trip p (more vs.0) vs.1 h (wide.1 vs.0) parts.1

-- the words of values that fit have no line feed
pub words_lack : (p : PolicyNames) (form : Form) (vs : Values form) → MakePolicy p → IsWide form → values_fit p form vs ≡ true → lacks 10 (after_spaces (words_in p form vs)) ≡ true
words_lack p (Done r) vs h wide fit = refl
words_lack p (Next f more) vs h wide fit =
    let parts = and_parts (field_fits p f vs.0) (values_fit p (more vs.0) vs.1) fit in
    lacks-append 10 (32 ∷ field_text p f vs.0) (after_spaces (words_in p (more vs.0) vs.1)) (word_lacks (field_text p f vs.0) (field_word p f vs.0 h wide.0 parts.0)) (words_lack p (more vs.0) vs.1 h (wide.1 vs.0) parts.1)

-- what is left of a line is made of the words of values that fit, and they make the record
pub record IsFormed (p : PolicyNames) (form : Form) (left : List ℕ) (r : Rec) : Type 0 where
  pub values : Values form
  pub fit : values_fit p form values ≡ true
  pub text : left ≡ after_spaces (words_in p form values)
  pub makes : record_of form values ≡ r

pub form_is : (p : PolicyNames) (form : Form) (left : List ℕ) (r : Rec) → parse_form p form left ≡ Ok r → IsFormed p form left r
unfolding value_at_end
form_is p (Done r') [] r h = record { values = tt; fit = refl; text = refl; makes = cc }
form_is p (Done r') (b ∷ bs) r h = absurd (cc)
form_is p (Next f more) left r h =
    let first = bound_is (parse_field (is_listed f) (canonical p f) left) (λ x. parse_form p (more x.0) x.1) r h in
    let read = field_is (is_listed f) (canonical p f) left first.0.1 first.0.0 first.1 in
    let is = canonical_is p f read.2.word first.0.0 read.2.says in
    let rest = form_is p (more first.0.0) first.0.1 r first.2 in
    record {
      values = (first.0.0, rest.values);
      fit = and_from (field_fits p f first.0.0) (values_fit p (more first.0.0) rest.values) is.fit rest.fit;
      text = after_text_is read.1 read.2.parts is.text_is rest.text;
      makes = rest.makes;
    }
