-- A word that denotes a value is the word of that value, and the word of a value that fits denotes it.
use Rattle.std.specs.Prelude.{◌≡◌, ℕ, ◌+◌, ◌%◌, ◌^◌, ◌≤◌, ◌<◌, ◌==◌, ◌&&◌, not, nat_lt, nat_le, Bool, true, false, cond, List, [], ◌∷◌, ◌++◌, Option, None, Some, codes, refl}
use Rattle.std.proofs.Common.{ap, sym, subst, ◌∙◌, inl, inr, arith}
use Rattle.std.specs.Fmt.{decimal}
use Rattle.std.specs.Option.{option_and_then, option_map, option_or}
use Rattle.std.specs.Result.{result_ok}
use Rattle.std.proofs.lemmas.Bool.{and_parts, and_from, cond-false, ltb-true, lt-ltb, eqb-true, ne_eqb, leb-true, not_from_false, false_from_ne_true, true≢false}
use Rattle.std.proofs.lemmas.Fmt.{decimal_by_steps}
use Rattle.std.proofs.lemmas.Option.{option_and_then_some, some_pair_parts, same_Some, cond_some}
use Rattle.cap_bits.specs.Cap.{cap_name}
use Rattle.cap_bits.specs.declared.cap.Cap.{Cap}
use Rattle.cap_bits.specs.declared.cap.Cap.TheVariants as cap
use Rattle.cap_bits.specs.declared.state.CapState.{CapState}
use Rattle.cap_clause.specs.Parsed.{parse_caps}
use Rattle.cap_clause.specs.Written.{caps_text}
use Rattle.cap_clause.proofs.WrittenRoundTrip.{caps_round_trip}
use Rattle.fs_path.proofs.RoundTrip.{decimal_bare}
use Rattle.fs_path.specs.Split.{split_once}
use Rattle.fs_path.specs.Options.{keep_if}
use Rattle.fs_path.specs.Words.{is_bare_text, quoted_text}
use Rattle.lab_lattice.specs.Label.{Label}
use Rattle.lab_text.specs.Names.{same_bytes}
use Rattle.lab_text.specs.Numbered.{numbered_text}
use Rattle.lab_text.specs.Policy.{PolicyNames, MakePolicy, is_valid}
use Rattle.lab_text.proofs.BareLemmas.{all_bare, bare_begins, bare_with, label_bare}
use Rattle.lab_text.proofs.Parsed.{parse_text}
use Rattle.lab_text.specs.Text.{label_text, parse_label, label_words}
use Rattle.kern_model.specs.Names.{word_of, check_word, errno_word, place_text}
use Rattle.kern_model.specs.declared.calls.CallName.{CallName}
use Rattle.kern_model.specs.declared.calls.CallName.TheVariants as name
use Rattle.kern_model.specs.declared.calls.Errno.{Errno}
use Rattle.kern_model.specs.declared.calls.Errno.TheVariants as errno
use Rattle.kern_model.specs.declared.checks.CheckName.{CheckName}
use Rattle.kern_model.specs.declared.checks.CheckName.TheVariants as check
use Rattle.kern_model.specs.declared.checks.Place.{Place}
use Rattle.kern_model.specs.declared.checks.Place.TheVariants as place
use Rattle.kern_model.specs.declared.checks.Thing.{Thing}
use Rattle.kern_model.specs.declared.checks.Thing.TheVariants as thing
use Rattle.kern_model.specs.declared.numbers.Oid.{Oid}
use Rattle.kern_model.specs.declared.numbers.Pid.{Pid}
use Rattle.kern_model.specs.Named.{find_named}
use Rattle.kern_model.proofs.NamedLaws.{named_is, call_round_trip, check_round_trip, errno_round_trip}
use Rattle.line_text.proofs.CapWords.{caps_text_bytes}
use Rattle.line_text.specs.Ranges.{are_bytes}
use Rattle.line_text.specs.Reading.{choice}
use Rattle.line_text.specs.Words.{pid_text, oid_text, caps_word, thing_text, new_label_text}
use Rattle.aud_record.specs.Events.{event_word}
use Rattle.aud_record.specs.Fits.{numbered_fits, pid_fits, oid_fits, thing_fits, new_label_fits, place_fits}
use Rattle.aud_record.specs.Forms.{Choice, first_of, other_of, OnOrOff, ExitOrKill, TermOrKill, Field, Number, Either, Kind, Capability, Check, Error, Call, Process, Object, Mark, NewMark, Caps, Bytes, About, Where, Of, canonical}
use Rattle.aud_record.proofs.ListedLaws.{event_round_trip, cap_round_trip}
use Rattle.aud_record.proofs.Numbers.{same_itself, same_is, number_is, number_round_trip}
use Rattle.aud_record.proofs.Quoted.{unquoted_bytes, quoted_unquoted}
use Rattle.aud_record.specs.Canonical.{canonical_number, canonical_label, canonical_numbered, canonical_pid, canonical_oid, after_prefix, canonical_thing, label_given, canonical_new_label, canonical_step, canonical_place, bytes_of_quoted, canonical_bytes, canonical_caps}
use Rattle.aud_record.proofs.WordLaws.{lacks, lacks-append, split_round_trip, split_is, IsWord}
use Rattle.aud_record.specs.declared.canonical.NewLabel.{NewLabel}
use Rattle.aud_record.specs.declared.canonical.NewLabel.TheVariants as new
use Rattle.aud_record.specs.declared.event.Event.{Event}
use Rattle.aud_record.specs.declared.event.Event.TheVariants as event

-- ---- values

-- the word of a value
abbrev pub field_text : PolicyNames → (f : Field) → Of f → List ℕ
field_text p (Number bound) n = decimal n
field_text p (Either choice) first = cond first (first_of choice) (other_of choice)
field_text p Kind event = event_word event
field_text p Capability cap = cap_name cap
field_text p Check check = check_word check
field_text p Error errno = errno_word errno
field_text p Call call = word_of call
field_text p Process pid = pid_text p pid
field_text p Object oid = oid_text p oid
field_text p Mark label = label_text p label
field_text p NewMark new_label = new_label_text p (label_given new_label)
field_text p Caps caps = caps_word caps
field_text p Bytes bytes = quoted_text bytes
field_text p About thing = thing_text p thing
field_text p Where place = place_text place

-- whether the word of a value denotes it: its labels are valid and its numbers fit
abbrev pub field_fits : PolicyNames → (f : Field) → Of f → Bool
field_fits p (Number bound) n = nat_lt n bound
field_fits p Process pid = pid_fits p pid
field_fits p Object oid = oid_fits p oid
field_fits p Mark label = is_valid p label
field_fits p NewMark new_label = new_label_fits p (label_given new_label)
field_fits p Bytes bytes = are_bytes bytes
field_fits p About thing = thing_fits p thing
field_fits p Where place = place_fits place
field_fits p _ value = true

-- a word is the text of a value, and the value fits
pub record Spells (word text : List ℕ) (fits : Bool) : Type 0 where
  pub text_is : word ≡ text
  pub fit : fits ≡ true

-- ---- labels

label_is : (p : PolicyNames) (word : List ℕ) (label : Label) → canonical_label p word ≡ Some label → Spells word (label_text p label) (is_valid p label)
unfolding canonical_label
label_is p word label h =
    option_and_then_some (λ label. keep_if (is_valid p label && same_bytes (label_text p label) word) label) (parse_label p word) label h (λ l parsed kept.
    let is = cond_some (is_valid p l && same_bytes (label_text p l) word) l label kept in
    let parts = and_parts (is_valid p l) (same_bytes (label_text p l) word) is.0 in
    subst (λ x. Spells word (label_text p x) (is_valid p x)) is.1 (record { text_is = sym (same_is (label_text p l) word parts.1); fit = parts.0 }))

label_round_trip : (p : PolicyNames) (label : Label) → MakePolicy p → is_valid p label ≡ true → canonical_label p (label_text p label) ≡ Some label
unfolding canonical_label
label_round_trip p label h valid =
    ap (option_and_then (λ l. keep_if (is_valid p l && same_bytes (label_text p l) (label_text p label)) l)) (parse_text p label h valid)
    ∙ ap (λ t. keep_if t label) (and_from (is_valid p label) (same_bytes (label_text p label) (label_text p label)) valid (same_itself (label_text p label)))

-- `-` denotes no label
parse_dash : (p : PolicyNames) → parse_label p (codes "-") ≡ None
unfolding parse_label label_words
parse_dash p = refl

no_dash : (p : PolicyNames) (label : Label) → MakePolicy p → is_valid p label ≡ true → same_bytes (label_text p label) (codes "-") ≡ false
no_dash p label h valid =
    false_from_ne_true _ (λ same. let none : parse_label p (label_text p label) ≡ None = ap (parse_label p) (same_is (label_text p label) (codes "-") same) ∙ parse_dash p in let some = parse_text p label h valid in cc)

new_label_is : (p : PolicyNames) (word : List ℕ) (o : NewLabel) → canonical_new_label p word ≡ Some o → Spells word (new_label_text p (label_given o)) (new_label_fits p (label_given o))
unfolding canonical_new_label
new_label_is p word o h = by_dash (same_bytes word (codes "-")) refl h
  where
    by_label : (parsed : Option Label) → canonical_label p word ≡ parsed → option_map new.Given parsed ≡ Some o → Spells word (new_label_text p (label_given o)) (new_label_fits p (label_given o))
    by_label None parsed h = absurd (cc)
    by_label (Some label) parsed h = subst (λ (x : NewLabel). Spells word (new_label_text p (label_given x)) (new_label_fits p (label_given x))) (same_Some (new.Given label) o h) (label_is p word label parsed)

    by_dash : (v : Bool) → same_bytes word (codes "-") ≡ v → cond v (Some new.Absent) (option_map new.Given (canonical_label p word)) ≡ Some o → Spells word (new_label_text p (label_given o)) (new_label_fits p (label_given o))
    by_dash true same h = subst (λ (x : NewLabel). Spells word (new_label_text p (label_given x)) (new_label_fits p (label_given x))) (same_Some new.Absent o h) (record { text_is = same_is word (codes "-") same; fit = refl })
    by_dash false other h = by_label (canonical_label p word) refl h

new_label_round_trip : (p : PolicyNames) (o : NewLabel) → MakePolicy p → new_label_fits p (label_given o) ≡ true → canonical_new_label p (new_label_text p (label_given o)) ≡ Some o
unfolding canonical_new_label
new_label_round_trip p new.Absent h fits = refl
new_label_round_trip p (new.Given label) h fits =
    cond-false (same_bytes (label_text p label) (codes "-")) (Some new.Absent) (option_map new.Given (canonical_label p (label_text p label))) (no_dash p label h fits) ∙ ap (option_map new.Given) (label_round_trip p label h fits)

-- ---- numbers at labels

-- the digits of a number have no byte from 58 on
digits_lack : (at n : ℕ) → 58 ≤ at → n < 2 ^ 64 → lacks at (decimal n) ≡ true
digits_lack at n high = decimal_by_steps (λ n ds. lacks at ds ≡ true) (λ n small. and_from (not (48 + n == at)) true (digit n small) refl)
    (λ n ds some h. let small : n % 10 < 10 = omega arith in lacks-append at ds ((48 + n % 10) ∷ []) h (and_from (not (48 + n % 10 == at)) true (digit (n % 10) small) refl)) n
  where
    digit : (d : ℕ) → d < 10 → not (48 + d == at) ≡ true
    digit d small = not_from_false (48 + d == at) (ne_eqb (48 + d) at (λ e. omega arith))

numbered_is : (p : PolicyNames) (word : List ℕ) (n : ℕ) (label : Label) → canonical_numbered p word ≡ Some (n, label) → Spells word (numbered_text p n label) (numbered_fits p n label)
unfolding canonical_numbered numbered_text
numbered_is p word n label h = by_split (split_once 64 word) refl h
  where
    by_label : (prefix rest : List ℕ) (m : ℕ) (o : Option Label) → split_once 64 word ≡ Some (prefix, rest) → canonical_number (2 ^ 16) prefix ≡ Some m → canonical_label p rest ≡ o → option_map {U = ℕ × Label} (λ l. (m, l)) o ≡ Some (n, label)
        → Spells word (decimal n ++ 64 ∷ label_text p label) (numbered_fits p n label)
    by_label prefix rest m None parted number parsed h = absurd (cc)
    by_label prefix rest m (Some l) parted number parsed h =
        let parts = some_pair_parts m n l label h in
        let first = number_is (2 ^ 16) m prefix number in
        let second = label_is p rest l parsed in
        record {
          text_is = split_is 64 word prefix rest parted ∙ (λ i. first.text i ++ 64 ∷ second.text_is i) ∙ (λ i. decimal (parts.0 i) ++ 64 ∷ label_text p (parts.1 i));
          fit = sym (λ i. numbered_fits p (parts.0 i) (parts.1 i)) ∙ and_from (nat_lt m (2 ^ 16)) (is_valid p l) (lt-ltb m (2 ^ 16) first.small) second.fit;
        }

    by_number : (prefix rest : List ℕ) (o : Option ℕ) → split_once 64 word ≡ Some (prefix, rest) → canonical_number (2 ^ 16) prefix ≡ o → option_and_then {U = ℕ × Label} (λ n. option_map (λ label. (n, label)) (canonical_label p rest)) o ≡ Some (n, label)
        → Spells word (decimal n ++ 64 ∷ label_text p label) (numbered_fits p n label)
    by_number prefix rest None parted number h = absurd (cc)
    by_number prefix rest (Some m) parted number h = by_label prefix rest m (canonical_label p rest) parted number refl h

    by_split : (o : Option (List ℕ × List ℕ)) → split_once 64 word ≡ o
        → option_and_then {U = ℕ × Label} (λ (parts : List ℕ × List ℕ). option_and_then (λ n. option_map (λ label. (n, label)) (canonical_label p parts.1)) (canonical_number (2 ^ 16) parts.0)) o ≡ Some (n, label)
        → Spells word (decimal n ++ 64 ∷ label_text p label) (numbered_fits p n label)
    by_split None parted h = absurd (cc)
    by_split (Some (prefix, rest)) parted h = by_number prefix rest (canonical_number (2 ^ 16) prefix) parted refl h

numbered_round_trip : (p : PolicyNames) (n : ℕ) (label : Label) → MakePolicy p → numbered_fits p n label ≡ true → canonical_numbered p (numbered_text p n label) ≡ Some (n, label)
unfolding canonical_numbered numbered_text
numbered_round_trip p n label h fits =
    let parts = and_parts (nat_lt n (2 ^ 16)) (is_valid p label) fits in
    let small = ltb-true n (2 ^ 16) parts.0 in
    ap (option_and_then {U = ℕ × Label} (λ (parts : List ℕ × List ℕ). option_and_then (λ n. option_map (λ label. (n, label)) (canonical_label p parts.1)) (canonical_number (2 ^ 16) parts.0)))
    (split_round_trip 64 (decimal n) (label_text p label) (digits_lack 64 n (omega arith) (omega arith)))
    ∙ ap (option_and_then {U = ℕ × Label} (λ n. option_map (λ label. (n, label)) (canonical_label p (label_text p label)))) (number_round_trip (2 ^ 16) n small (omega arith))
    ∙ ap (option_map {U = ℕ × Label} (λ label. (n, label))) (label_round_trip p label h parts.1)

pid_is : (p : PolicyNames) (word : List ℕ) (pid : Pid) → canonical_pid p word ≡ Some pid → Spells word (pid_text p pid) (pid_fits p pid)
pid_is p word pid h = by_number (canonical_numbered p word) refl h
  where
    by_number : (o : Option (ℕ × Label)) → canonical_numbered p word ≡ o → option_map (λ (x : ℕ × Label). record { label = x.1; n = x.0 }) o ≡ Some pid → Spells word (pid_text p pid) (pid_fits p pid)
    by_number None parsed h = absurd (cc)
    by_number (Some (n, label)) parsed h = subst (λ (x : Pid). Spells word (pid_text p x) (pid_fits p x)) (same_Some (record { label = label; n = n }) pid h) (numbered_is p word n label parsed)

pid_round_trip : (p : PolicyNames) (pid : Pid) → MakePolicy p → pid_fits p pid ≡ true → canonical_pid p (pid_text p pid) ≡ Some pid
pid_round_trip p pid h fits = ap (option_map (λ (x : ℕ × Label). record { label = x.1; n = x.0 })) (numbered_round_trip p pid.n pid.label h fits)

oid_is : (p : PolicyNames) (word : List ℕ) (oid : Oid) → canonical_oid p word ≡ Some oid → Spells word (oid_text p oid) (oid_fits p oid)
oid_is p word oid h = by_number (canonical_numbered p word) refl h
  where
    by_number : (o : Option (ℕ × Label)) → canonical_numbered p word ≡ o → option_map (λ (x : ℕ × Label). record { label = x.1; n = x.0 }) o ≡ Some oid → Spells word (oid_text p oid) (oid_fits p oid)
    by_number None parsed h = absurd (cc)
    by_number (Some (n, label)) parsed h = subst (λ (x : Oid). Spells word (oid_text p x) (oid_fits p x)) (same_Some (record { label = label; n = n }) oid h) (numbered_is p word n label parsed)

oid_round_trip : (p : PolicyNames) (oid : Oid) → MakePolicy p → oid_fits p oid ≡ true → canonical_oid p (oid_text p oid) ≡ Some oid
oid_round_trip p oid h fits = ap (option_map (λ (x : ℕ × Label). record { label = x.1; n = x.0 })) (numbered_round_trip p oid.n oid.label h fits)

-- ---- what a check is about

pub prefix_is : (prefix word rest : List ℕ) → after_prefix prefix word ≡ Some rest → word ≡ prefix ++ rest
prefix_is [] word rest h = same_Some word rest h
prefix_is (f ∷ fs) [] rest h = absurd (cc)
prefix_is (f ∷ fs) (b ∷ bs) rest h = by_test (f == b) refl h (λ h. prefix_is fs bs rest h)
  where
    by_test : (v : Bool) → (f == b) ≡ v → cond v (after_prefix fs bs) None ≡ Some rest → (after_prefix fs bs ≡ Some rest → bs ≡ fs ++ rest) → b ∷ bs ≡ f ∷ fs ++ rest
    by_test true e h more = λ i. sym (eqb-true f b e) i ∷ more h i
    by_test false e h more = absurd (cc)

object_is : (p : PolicyNames) (word : List ℕ) (t : Thing) → option_and_then (λ w. option_map thing.Object (canonical_oid p w)) (after_prefix (codes "obj:") word) ≡ Some t → Spells word (thing_text p t) (thing_fits p t)
object_is p word t h = option_and_then_some (λ w. option_map thing.Object (canonical_oid p w)) (after_prefix (codes "obj:") word) t h (λ rest after some. by_oid rest (canonical_oid p rest) after refl some)
  where
    by_oid : (rest : List ℕ) (o : Option Oid) → after_prefix (codes "obj:") word ≡ Some rest → canonical_oid p rest ≡ o → option_map thing.Object o ≡ Some t → Spells word (thing_text p t) (thing_fits p t)
    by_oid rest None after parsed h = absurd (cc)
    by_oid rest (Some oid) after parsed h =
        let is = oid_is p rest oid parsed in
        subst (λ x. Spells word (thing_text p x) (thing_fits p x)) (same_Some (thing.Object oid) t h) (record { text_is = prefix_is (codes "obj:") word rest after ∙ ap (λ w. codes "obj:" ++ w) is.text_is; fit = is.fit })

process_is : (p : PolicyNames) (word : List ℕ) (t : Thing) → option_and_then (λ w. option_map thing.Process (canonical_pid p w)) (after_prefix (codes "proc:") word) ≡ Some t → Spells word (thing_text p t) (thing_fits p t)
process_is p word t h = option_and_then_some (λ w. option_map thing.Process (canonical_pid p w)) (after_prefix (codes "proc:") word) t h (λ rest after some. by_pid rest (canonical_pid p rest) after refl some)
  where
    by_pid : (rest : List ℕ) (o : Option Pid) → after_prefix (codes "proc:") word ≡ Some rest → canonical_pid p rest ≡ o → option_map thing.Process o ≡ Some t → Spells word (thing_text p t) (thing_fits p t)
    by_pid rest None after parsed h = absurd (cc)
    by_pid rest (Some pid) after parsed h =
        let is = pid_is p rest pid parsed in
        subst (λ x. Spells word (thing_text p x) (thing_fits p x)) (same_Some (thing.Process pid) t h) (record { text_is = prefix_is (codes "proc:") word rest after ∙ ap (λ w. codes "proc:" ++ w) is.text_is; fit = is.fit })

thing_is : (p : PolicyNames) (word : List ℕ) (t : Thing) → canonical_thing p word ≡ Some t → Spells word (thing_text p t) (thing_fits p t)
unfolding canonical_thing
thing_is p word t h = by_object (option_and_then (λ w. option_map thing.Object (canonical_oid p w)) (after_prefix (codes "obj:") word)) refl h
  where
    by_object : (o : Option Thing) → option_and_then (λ w. option_map thing.Object (canonical_oid p w)) (after_prefix (codes "obj:") word) ≡ o
        → option_or o (option_and_then (λ w. option_map thing.Process (canonical_pid p w)) (after_prefix (codes "proc:") word)) ≡ Some t → Spells word (thing_text p t) (thing_fits p t)
    by_object None none h = process_is p word t h
    by_object (Some x) some h = object_is p word t (some ∙ h)

thing_round_trip : (p : PolicyNames) (t : Thing) → MakePolicy p → thing_fits p t ≡ true → canonical_thing p (thing_text p t) ≡ Some t
unfolding canonical_thing
thing_round_trip p (thing.Object oid) h fits = ap (λ (o : Option Oid). option_or (option_map thing.Object o) None) (oid_round_trip p oid h fits)
thing_round_trip p (thing.Process pid) h fits = ap (option_map thing.Process) (pid_round_trip p pid h fits)

-- ---- places

step_is : (word : List ℕ) (x : Place) → canonical_step word ≡ Some x → Spells word (place_text x) (place_fits x)
step_is [] x h = absurd (cc)
step_is (b ∷ bs) x h = by_first (b == 112) refl h
  where
    by_number : (letter : ℕ) (made : ℕ → Place) (o : Option ℕ) → b ≡ letter → ((n : ℕ) → place_text (made n) ≡ letter ∷ decimal n) → ((n : ℕ) → place_fits (made n) ≡ nat_lt n (2 ^ 8)) → canonical_number (2 ^ 8) bs ≡ o → option_map made o ≡ Some x
        → Spells (b ∷ bs) (place_text x) (place_fits x)
    by_number letter made None is text fits parsed h = absurd (cc)
    by_number letter made (Some n) is text fits parsed h =
        let number = number_is (2 ^ 8) n bs parsed in
        subst (λ y. Spells (b ∷ bs) (place_text y) (place_fits y)) (same_Some (made n) x h) (record { text_is = (λ i. is i ∷ number.text i) ∙ sym (text n); fit = fits n ∙ lt-ltb n (2 ^ 8) number.small })

    by_second : (v : Bool) → (b == 113) ≡ v → cond v (option_map place.Second (canonical_number (2 ^ 8) bs)) None ≡ Some x → Spells (b ∷ bs) (place_text x) (place_fits x)
    by_second true e h = by_number 113 place.Second (canonical_number (2 ^ 8) bs) (eqb-true b 113 e) (λ n. refl) (λ n. refl) refl h
    by_second false e h = absurd (cc)

    by_first : (v : Bool) → (b == 112) ≡ v → cond v (option_map place.First (canonical_number (2 ^ 8) bs)) (cond (b == 113) (option_map place.Second (canonical_number (2 ^ 8) bs)) None) ≡ Some x
        → Spells (b ∷ bs) (place_text x) (place_fits x)
    by_first true e h = by_number 112 place.First (canonical_number (2 ^ 8) bs) (eqb-true b 112 e) (λ n. refl) (λ n. refl) refl h
    by_first false e h = by_second (b == 113) refl h

place_is : (word : List ℕ) (x : Place) → canonical_place word ≡ Some x → Spells word (place_text x) (place_fits x)
unfolding canonical_place
place_is word x h = by_word (codes "fd") place.Handle (cond (same_bytes word (codes "pid")) (Some place.Target) (cond (same_bytes word (codes "self")) (Some place.Caller) (canonical_step word))) (same_bytes word (codes "fd")) refl refl refl
    (by_word (codes "pid") place.Target (cond (same_bytes word (codes "self")) (Some place.Caller) (canonical_step word)) (same_bytes word (codes "pid")) refl refl refl
    (by_word (codes "self") place.Caller (canonical_step word) (same_bytes word (codes "self")) refl refl refl (step_is word x))) h
  where
    by_word : (text : List ℕ) (y : Place) (o : Option Place) (v : Bool) → same_bytes word text ≡ v → place_text y ≡ text → place_fits y ≡ true → (o ≡ Some x → Spells word (place_text x) (place_fits x)) → cond v (Some y) o ≡ Some x
        → Spells word (place_text x) (place_fits x)
    by_word text y o true same is fits more h = subst (λ z. Spells word (place_text z) (place_fits z)) (same_Some y x h) (record { text_is = same_is word text same ∙ sym is; fit = fits })
    by_word text y o false other is fits more h = more h

no_word : (n : ℕ) → n < 2 ^ 64 → same_bytes (112 ∷ decimal n) (codes "pid") ≡ false
no_word n small = false_from_ne_true _ (λ same.
    let text = same_is (112 ∷ decimal n) (codes "pid") same in
    let digits : decimal n ≡ codes "id" = cc in
    true≢false (sym (digits_lack 105 n (omega arith) small) ∙ ap (lacks 105) digits))

place_round_trip : (x : Place) → place_fits x ≡ true → canonical_place (place_text x) ≡ Some x
unfolding canonical_place
place_round_trip (place.First n) fits =
    let small = ltb-true n (2 ^ 8) fits in
    cond-false (same_bytes (112 ∷ decimal n) (codes "pid")) (Some place.Target) (option_map place.First (canonical_number (2 ^ 8) (decimal n))) (no_word n (omega arith)) ∙ ap (option_map place.First) (number_round_trip (2 ^ 8) n small (omega arith))
place_round_trip (place.Second n) fits = let small = ltb-true n (2 ^ 8) fits in ap (option_map place.Second) (number_round_trip (2 ^ 8) n small (omega arith))
place_round_trip place.Handle fits = refl
place_round_trip place.Target fits = refl
place_round_trip place.Caller fits = refl

-- ---- between quotes

bytes_is : (word bytes : List ℕ) → canonical_bytes word ≡ Some bytes → Spells word (quoted_text bytes) (are_bytes bytes)
unfolding canonical_bytes
bytes_is word bytes h =
    option_and_then_some (λ bytes. keep_if (same_bytes (quoted_text bytes) word) bytes) (bytes_of_quoted word) bytes h (λ parsed some kept.
    let is = cond_some (same_bytes (quoted_text parsed) word) parsed bytes kept in
    subst (λ x. Spells word (quoted_text x) (are_bytes x)) is.1 (record { text_is = sym (same_is (quoted_text parsed) word is.0); fit = unquoted_bytes word parsed some }))

bytes_round_trip : (bytes : List ℕ) → are_bytes bytes ≡ true → canonical_bytes (quoted_text bytes) ≡ Some bytes
unfolding canonical_bytes
bytes_round_trip bytes fits =
    ap (option_and_then (λ b. keep_if (same_bytes (quoted_text b) (quoted_text bytes)) b)) (quoted_unquoted bytes fits) ∙ ap (λ t. keep_if t bytes) (same_itself (quoted_text bytes))

caps_is : (word : List ℕ) (caps : CapState) → canonical_caps word ≡ Some caps → Spells word (caps_word caps) true
unfolding canonical_caps
caps_is word caps h =
    option_and_then_some (λ caps. keep_if (same_bytes (caps_word caps) word) caps) (option_and_then (λ bytes. result_ok (parse_caps bytes)) (bytes_of_quoted word)) caps h (λ parsed some kept.
    let is = cond_some (same_bytes (caps_word parsed) word) parsed caps kept in
    subst (λ x. Spells word (caps_word x) true) is.1 (record { text_is = sym (same_is (caps_word parsed) word is.0); fit = refl }))

caps_read : (caps : CapState) → canonical_caps (caps_word caps) ≡ Some caps
unfolding canonical_caps
caps_read caps =
    ap (λ (o : Option (List ℕ)). option_and_then (λ x. keep_if (same_bytes (caps_word x) (caps_word caps)) x) (option_and_then (λ bytes. result_ok (parse_caps bytes)) o)) (quoted_unquoted (caps_text caps) (caps_text_bytes caps))
    ∙ ap (λ r. option_and_then (λ x. keep_if (same_bytes (caps_word x) (caps_word caps)) x) (result_ok r)) (caps_round_trip caps) ∙ ap (λ t. keep_if t caps) (same_itself (caps_word caps))

-- ---- one of two words

choice_is : (word first other : List ℕ) (b : Bool) → choice first other word ≡ Some b → Spells word (cond b first other) true
unfolding choice
choice_is word first other b h = by_first (same_bytes word first) refl h
  where
    by_other : (v : Bool) → same_bytes word other ≡ v → cond v (Some false) None ≡ Some b → Spells word (cond b first other) true
    by_other true same h = subst (λ x. Spells word (cond x first other) true) (same_Some false b h) (record { text_is = same_is word other same; fit = refl })
    by_other false none h = absurd (cc)

    by_first : (v : Bool) → same_bytes word first ≡ v → cond v (Some true) (cond (same_bytes word other) (Some false) None) ≡ Some b → Spells word (cond b first other) true
    by_first true same h = subst (λ x. Spells word (cond x first other) true) (same_Some true b h) (record { text_is = same_is word first same; fit = refl })
    by_first false none h = by_other (same_bytes word other) refl h

choice_round_trip : (c : Choice) (b : Bool) → choice (first_of c) (other_of c) (cond b (first_of c) (other_of c)) ≡ Some b
unfolding choice
choice_round_trip OnOrOff true = refl
choice_round_trip OnOrOff false = refl
choice_round_trip ExitOrKill true = refl
choice_round_trip ExitOrKill false = refl
choice_round_trip TermOrKill true = refl
choice_round_trip TermOrKill false = refl

-- ---- all fields

listed_is : {X : Type 0} (word_of : X → List ℕ) (values : List X) (word : List ℕ) (x : X) → find_named word_of values word ≡ Some x → Spells word (word_of x) true
listed_is word_of values word x h = record { text_is = named_is word_of values word x h; fit = refl }

-- a word that denotes a value is its word, and the value fits
pub canonical_is : (p : PolicyNames) (f : Field) (word : List ℕ) (v : Of f) → canonical p f word ≡ Some v → Spells word (field_text p f v) (field_fits p f v)
canonical_is p (Number bound) word n h = let is = number_is bound n word h in record { text_is = is.text; fit = lt-ltb n bound is.small }
canonical_is p (Either choice) word b h = choice_is word (first_of choice) (other_of choice) b h
canonical_is p Kind word event h = listed_is event_word _ word event h
canonical_is p Capability word cap h = listed_is cap_name _ word cap h
canonical_is p Check word check h = listed_is check_word _ word check h
canonical_is p Error word errno h = listed_is errno_word _ word errno h
canonical_is p Call word call h = listed_is word_of _ word call h
canonical_is p Process word pid h = pid_is p word pid h
canonical_is p Object word oid h = oid_is p word oid h
canonical_is p Mark word label h = label_is p word label h
canonical_is p NewMark word new_label h = new_label_is p word new_label h
canonical_is p Caps word caps h = caps_is word caps h
canonical_is p Bytes word bytes h = bytes_is word bytes h
canonical_is p About word thing h = thing_is p word thing h
canonical_is p Where word place h = place_is word place h

-- whether the bound of a number is within 64 bits
abbrev pub is_wide : Field → Bool
is_wide (Number bound) = nat_le bound (2 ^ 64)
is_wide _ = true

-- the word of a value that fits denotes it
pub canonical_round_trip : (p : PolicyNames) (f : Field) (v : Of f) → MakePolicy p → is_wide f ≡ true → field_fits p f v ≡ true → canonical p f (field_text p f v) ≡ Some v
canonical_round_trip p (Number bound) n h wide fits = let small = ltb-true n bound fits in let le = leb-true bound (2 ^ 64) wide in number_round_trip bound n small (omega arith)
canonical_round_trip p (Either choice) b h wide fits = choice_round_trip choice b
canonical_round_trip p Kind event h wide fits = event_round_trip event
canonical_round_trip p Capability cap h wide fits = cap_round_trip cap
canonical_round_trip p Check check h wide fits = check_round_trip check
canonical_round_trip p Error errno h wide fits = errno_round_trip errno
canonical_round_trip p Call call h wide fits = call_round_trip call
canonical_round_trip p Process pid h wide fits = pid_round_trip p pid h fits
canonical_round_trip p Object oid h wide fits = oid_round_trip p oid h fits
canonical_round_trip p Mark label h wide fits = label_round_trip p label h fits
canonical_round_trip p NewMark new_label h wide fits = new_label_round_trip p new_label h fits
canonical_round_trip p Caps caps h wide fits = caps_read caps
canonical_round_trip p Bytes bytes h wide fits = bytes_round_trip bytes fits
canonical_round_trip p About thing h wide fits = thing_round_trip p thing h fits
canonical_round_trip p Where place h wide fits = place_round_trip place fits

-- ---- where words end

numbered_bare : (p : PolicyNames) (n : ℕ) (label : Label) → MakePolicy p → numbered_fits p n label ≡ true → is_bare_text (numbered_text p n label) ≡ true
unfolding numbered_text
numbered_bare p n label h fits =
    let parts = and_parts (nat_lt n (2 ^ 16)) (is_valid p label) fits in
    let small = ltb-true n (2 ^ 16) parts.0 in
    bare_with (decimal n) (64 ∷ label_text p label) (decimal_bare n (omega arith)) (all_bare (label_text p label) (label_bare p label h parts.1))

thing_bare : (p : PolicyNames) (t : Thing) → MakePolicy p → thing_fits p t ≡ true → is_bare_text (thing_text p t) ≡ true
thing_bare p (thing.Object oid) h fits = bare_with (codes "obj:") (oid_text p oid) refl (all_bare (oid_text p oid) (numbered_bare p oid.n oid.label h fits))
thing_bare p (thing.Process pid) h fits = bare_with (codes "proc:") (pid_text p pid) refl (all_bare (pid_text p pid) (numbered_bare p pid.n pid.label h fits))

new_label_bare : (p : PolicyNames) (o : Option Label) → MakePolicy p → new_label_fits p o ≡ true → is_bare_text (new_label_text p o) ≡ true
new_label_bare p None h fits = refl
new_label_bare p (Some label) h fits = label_bare p label h fits

place_bare : (x : Place) → place_fits x ≡ true → is_bare_text (place_text x) ≡ true
place_bare (place.First n) fits = let small = ltb-true n (2 ^ 8) fits in bare_begins 112 (decimal n) refl (all_bare (decimal n) (decimal_bare n (omega arith)))
place_bare (place.Second n) fits = let small = ltb-true n (2 ^ 8) fits in bare_begins 113 (decimal n) refl (all_bare (decimal n) (decimal_bare n (omega arith)))
place_bare _ fits = refl

event_bare : (e : Event) → is_bare_text (event_word e) ≡ true
event_bare event.Boot = refl
event_bare _ = refl

cap_bare : (c : Cap) → is_bare_text (cap_name c) ≡ true
cap_bare cap.Chown = refl
cap_bare _ = refl

check_bare : (c : CheckName) → is_bare_text (check_word c) ≡ true
check_bare check.MacRead = refl
check_bare _ = refl

errno_bare : (e : Errno) → is_bare_text (errno_word e) ≡ true
errno_bare errno.EACCES = refl
errno_bare _ = refl

call_bare : (c : CallName) → is_bare_text (word_of c) ≡ true
call_bare name.OpenPath = refl
call_bare _ = refl

choice_bare : (c : Choice) (b : Bool) → is_bare_text (cond b (first_of c) (other_of c)) ≡ true
choice_bare OnOrOff true = refl
choice_bare OnOrOff false = refl
choice_bare ExitOrKill true = refl
choice_bare ExitOrKill false = refl
choice_bare TermOrKill true = refl
choice_bare TermOrKill false = refl

-- the text of a value that fits is one word
pub field_word : (p : PolicyNames) (f : Field) (v : Of f) → MakePolicy p → is_wide f ≡ true → field_fits p f v ≡ true → IsWord (field_text p f v)
field_word p (Number bound) n h wide fits = let small = ltb-true n bound fits in let le = leb-true bound (2 ^ 64) wide in inl (decimal_bare n (omega arith))
field_word p (Either choice) b h wide fits = inl (choice_bare choice b)
field_word p Kind event h wide fits = inl (event_bare event)
field_word p Capability cap h wide fits = inl (cap_bare cap)
field_word p Check check h wide fits = inl (check_bare check)
field_word p Error errno h wide fits = inl (errno_bare errno)
field_word p Call call h wide fits = inl (call_bare call)
field_word p Process pid h wide fits = inl (numbered_bare p pid.n pid.label h fits)
field_word p Object oid h wide fits = inl (numbered_bare p oid.n oid.label h fits)
field_word p Mark label h wide fits = inl (label_bare p label h fits)
field_word p NewMark new_label h wide fits = inl (new_label_bare p (label_given new_label) h fits)
field_word p Caps caps h wide fits = inr (caps_text caps, refl)
field_word p Bytes bytes h wide fits = inr (bytes, refl)
field_word p About thing h wide fits = inl (thing_bare p thing h fits)
field_word p Where place h wide fits = inl (place_bare place fits)
