-- A word that the letters of flags make, in their order.
use Rattle.std.proofs.Common.{◌≡◌, ℕ, ◌&&◌, Bool, true, false, cond, List, [], ◌∷◌, length, drop, Option, Some, None, Err, refl, sym, ◌∙◌, ap}
use Rattle.std.specs.Prelude.{◌==◌}
use Rattle.std.specs.Bool.{beq, then_some}
use Rattle.std.specs.Cmp.Lexicographic.{same_text}
use Rattle.std.specs.List.{starts_with}
use Rattle.std.proofs.lemmas.Bool.{and_parts, both_ways, eqb-true, false_from_ne_true}
use Rattle.std.proofs.lemmas.List.{nil_from_length}
use Rattle.fs_path.specs.Options.{keep_if}
use Rattle.kern_model.specs.declared.calls.OpenFlags.{OpenFlags}
use Rattle.kern_model.specs.Arguments.{are_flags}
use Rattle.script_text.specs.Argument.{flags_in, flags as some_flags, value_or_syntax, is_in_order}
use Rattle.script_text.specs.Reading.{Reading}
use Rattle.script_text.specs.declared.fault.LineError.TheVariants as error

-- ---- one letter

-- a text with a letter before it, or the text alone
abbrev onto : Bool → ℕ → List ℕ → List ℕ
onto there letter text = cond there (letter ∷ text) text

abbrev begins : ℕ → List ℕ → Bool
begins letter text = starts_with ◌==◌ text (letter ∷ [])

abbrev past : ℕ → List ℕ → List ℕ
past letter text = drop (cond (begins letter text) 1 0) text

-- a letter at the front of a text, where it stands there, was taken off
pub record IsStripped (letter : ℕ) (text : List ℕ) (there : Bool) (rest : List ℕ) : Type 0 where
  pub first : there ≡ begins letter text
  pub after : rest ≡ drop (cond there 1 0) text

is_past : {letter : ℕ} {text rest : List ℕ} {there : Bool} → IsStripped letter text there rest → rest ≡ past letter text
is_past {text = text} h = h.after ∙ ap (λ v. drop (cond v 1 0) text) h.first

put_back : (letter : ℕ) (text : List ℕ) → text ≡ onto (begins letter text) letter (past letter text)
put_back letter [] = refl
put_back letter (b ∷ bs) = by_test (letter == b) refl
  where
    by_test : (v : Bool) → (letter == b) ≡ v → b ∷ bs ≡ onto (v && true) letter (drop (cond (v && true) 1 0) (b ∷ bs))
    by_test true e = ap (λ l. l ∷ bs) (sym (eqb-true letter b e))
    by_test false e = refl

-- ---- six letters

-- the text of the letters of flags
abbrev letters_of : OpenFlags → List ℕ
letters_of f = onto f.r 114 (onto f.w 119 (onto f.c 99 (onto f.x 120 (onto f.t 116 (onto f.a 97 [])))))

-- the flags whose letters are taken off the front of a word, in their order
abbrev taken : List ℕ → OpenFlags
taken word =
    let w = past 114 word in let c = past 119 w in let x = past 99 c in let t = past 120 x in let a = past 116 t in
    record { r = begins 114 word; w = begins 119 w; c = begins 99 c; x = begins 120 x; t = begins 116 t; a = begins 97 a }

-- what is left of the word then
abbrev left_of : List ℕ → List ℕ
left_of word = past 97 (past 116 (past 120 (past 99 (past 119 (past 114 word)))))

-- a word of which nothing is left is made of the letters that were taken
made_of : (word : List ℕ) → left_of word ≡ [] → word ≡ letters_of (taken word)
made_of word none =
    let w = past 114 word in let c = past 119 w in let x = past 99 c in let t = past 120 x in let a = past 116 t in
    put_back 114 word
    ∙ ap (onto (begins 114 word) 114) (put_back 119 w
    ∙ ap (onto (begins 119 w) 119) (put_back 99 c
    ∙ ap (onto (begins 99 c) 99) (put_back 120 x
    ∙ ap (onto (begins 120 x) 120) (put_back 116 t
    ∙ ap (onto (begins 116 t) 116) (put_back 97 a
    ∙ ap (onto (begins 97 a) 97) none)))))

-- ---- all flags

same_value : (a b : Bool) → beq a b ≡ true → a ≡ b
same_value true true h = refl
same_value true false h = absurd (cc)
same_value false true h = absurd (cc)
same_value false false h = refl

are_same : OpenFlags → OpenFlags → Bool
are_same f g = beq f.r g.r && (beq f.w g.w && (beq f.c g.c && (beq f.x g.x && (beq f.t g.t && beq f.a g.a))))

same_are : (f g : OpenFlags) → are_same f g ≡ true → f ≡ g
unfolding are_same
same_are f g h =
    let r = and_parts (beq f.r g.r) (beq f.w g.w && (beq f.c g.c && (beq f.x g.x && (beq f.t g.t && beq f.a g.a)))) h in
    let w = and_parts (beq f.w g.w) (beq f.c g.c && (beq f.x g.x && (beq f.t g.t && beq f.a g.a))) r.1 in
    let c = and_parts (beq f.c g.c) (beq f.x g.x && (beq f.t g.t && beq f.a g.a)) w.1 in
    let x = and_parts (beq f.x g.x) (beq f.t g.t && beq f.a g.a) c.1 in
    let t = and_parts (beq f.t g.t) (beq f.a g.a) x.1 in
    λ i. record { r = same_value f.r g.r r.0 i; w = same_value f.w g.w w.0 i; c = same_value f.c g.c c.0 i; x = same_value f.x g.x x.0 i; t = same_value f.t g.t t.0 i; a = same_value f.a g.a t.1 i }

-- what the letters of flags are: in order, of these flags, and all taken
are_read : OpenFlags → Bool
are_read f = is_in_order (letters_of f) && (are_same (flags_in (letters_of f)) f && length (left_of (letters_of f)) == 0)

both : (Bool → Bool) → Bool
both p = p true && p false

each : (p : Bool → Bool) → both p ≡ true → (b : Bool) → p b ≡ true
unfolding both
each p h true = (and_parts (p true) (p false) h).0
each p h false = (and_parts (p true) (p false) h).1

all_read : (f : OpenFlags) → are_read f ≡ true
unfolding both are_read are_same
all_read f =
    each (λ a. are_read (record { r = f.r; w = f.w; c = f.c; x = f.x; t = f.t; a = a }))
    (each (λ t. both (λ a. are_read (record { r = f.r; w = f.w; c = f.c; x = f.x; t = t; a = a })))
    (each (λ x. both (λ t. both (λ a. are_read (record { r = f.r; w = f.w; c = f.c; x = x; t = t; a = a }))))
    (each (λ c. both (λ x. both (λ t. both (λ a. are_read (record { r = f.r; w = f.w; c = c; x = x; t = t; a = a })))))
    (each (λ w. both (λ c. both (λ x. both (λ t. both (λ a. are_read (record { r = f.r; w = w; c = c; x = x; t = t; a = a }))))))
    (each (λ r. both (λ w. both (λ c. both (λ x. both (λ t. both (λ a. are_read (record { r = r; w = w; c = c; x = x; t = t; a = a })))))))
    refl f.r) f.w) f.c) f.x) f.t) f.a

-- ---- a whole word

module _ (word : List ℕ) where
  -- a word of which nothing is left has its letters in order, and these are the flags that were taken
  taken_whole : left_of word ≡ [] → Some (taken word) ≡ keep_if (is_in_order word) (flags_in word)
  unfolding are_read
  taken_whole none =
      let made = made_of word none in
      let read = and_parts (is_in_order (letters_of (taken word))) _ (all_read (taken word)) in
      let same = same_are (flags_in (letters_of (taken word))) (taken word) (and_parts (are_same (flags_in (letters_of (taken word))) (taken word)) _ read.1).0 in
      sym ((λ i. keep_if (is_in_order (made i)) (flags_in (made i))) ∙ (λ i. keep_if (read.0 i) (same i)))

  -- where its letters are in order, nothing is left
  nothing_left : is_in_order word ≡ true → (length (left_of word) == 0) ≡ true
  unfolding are_read
  nothing_left ordered =
      let f = flags_in word in
      let made : letters_of f ≡ word = same_text (letters_of f) word (sym ordered) in
      let read = and_parts (is_in_order (letters_of f)) _ (all_read f) in
      ap (λ t. length (left_of t) == 0) (sym made) ∙ (and_parts (are_same (flags_in (letters_of f)) f) _ read.1).1

  is_taken : keep_if (length (left_of word) == 0) (taken word) ≡ keep_if (is_in_order word) (flags_in word)
  is_taken = by_end (length (left_of word) == 0) refl
    where
      by_end : (v : Bool) → (length (left_of word) == 0) ≡ v → keep_if v (taken word) ≡ keep_if (is_in_order word) (flags_in word)
      by_end true e = taken_whole (nil_from_length (left_of word) (eqb-true (length (left_of word)) 0 e))
      by_end false e = ap (λ v. keep_if v (flags_in word)) (sym (false_from_ne_true (is_in_order word) (λ h. both_ways (length (left_of word) == 0) e (nothing_left h))))

  -- six letters taken off the front of a word, one after another, give the flags that it denotes
  pub flags_taken : (answer : Option OpenFlags) (end : Bool) (f : OpenFlags) {w c x t a left : List ℕ} → answer ≡ then_some end f → end ≡ (length left == 0) → IsStripped 114 word f.r w → IsStripped 119 w f.w c → IsStripped 99 c f.c x → IsStripped 120 x f.x t → IsStripped 116 t f.t a → IsStripped 97 a f.a left
      → answer ≡ keep_if (is_in_order word) (flags_in word)
  flags_taken answer end f {w = w} {c = c} {x = x} {t = t} {a = a} {left = left} answer_is end_is first second third fourth fifth sixth =
      let w_is = is_past first in
      let c_is = is_past second ∙ ap (past 119) w_is in
      let x_is = is_past third ∙ ap (past 99) c_is in
      let t_is = is_past fourth ∙ ap (past 120) x_is in
      let a_is = is_past fifth ∙ ap (past 116) t_is in
      let left_is = is_past sixth ∙ ap (past 97) a_is in
      let same : f ≡ taken word = λ i. record {
        r = first.first i;
        w = (second.first ∙ ap (begins 119) w_is) i;
        c = (third.first ∙ ap (begins 99) c_is) i;
        x = (fourth.first ∙ ap (begins 120) x_is) i;
        t = (fifth.first ∙ ap (begins 116) t_is) i;
        a = (sixth.first ∙ ap (begins 97) a_is) i;
      } in
      answer_is ∙ then_is end f ∙ (λ i. keep_if (end_is i) f) ∙ (λ i. keep_if (length (left_is i) == 0) (same i)) ∙ is_taken
    where
      then_is : (v : Bool) (g : OpenFlags) → then_some v g ≡ keep_if v g
      then_is true g = refl
      then_is false g = refl

-- flags that may stand together, as asked
abbrev pub fitting : Bool → Option OpenFlags → Reading OpenFlags
fitting creates None = Err error.Syntax
fitting creates (Some f) = value_or_syntax (keep_if (are_flags f && beq f.c creates) f)

-- where the letters of a word are in order, its flags have only to fit
pub flags_fitting : (creates : Bool) (word : List ℕ) → some_flags creates word ≡ fitting creates (keep_if (is_in_order word) (flags_in word))
unfolding some_flags
flags_fitting creates word = by_order (is_in_order word)
  where
    by_order : (v : Bool) → value_or_syntax (keep_if (v && are_flags (flags_in word) && beq (flags_in word).c creates) (flags_in word)) ≡ fitting creates (keep_if v (flags_in word))
    by_order true = refl
    by_order false = refl
