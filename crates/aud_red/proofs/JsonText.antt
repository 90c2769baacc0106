-- The text that `serde_json` has for an object.
use Rattle.std.specs.Prelude.{◌≡◌, ℕ, ◌^◌, ◌<◌, ◌==◌, ◌||◌, nat_lt, max, Bool, true, false, cond, List, [], ◌∷◌, ◌++◌, map, decimal, refl, suc}
use Rattle.std.specs.Cmp.Lexicographic.{slice_cmp}
use Rattle.std.specs.List.{flat_map, join_with_byte}
use Rattle.std.specs.Ordering.{nat_cmp, match_ordering}
use Rattle.std.proofs.Common.{Ordering, Less, Equal, Greater, ap, sym, ◌∙◌, append_assoc, arith}
use Rattle.std.proofs.lemmas.Bool.{and_parts, and_from, cond_both, cond-false, cond-true, lt-ltb, ltb-true}
use Rattle.std.proofs.lemmas.Bool.Decides.{nat_tests}
use Rattle.json.specs.Print.{escape_letter, escape_byte, quoted}
use Rattle.serde_json.specs.Data as json
use Rattle.serde_json.specs.Data.{Data, Members, no_members, member, put, depth, members_depth}
use Rattle.serde_json.specs.Written.{has_float, members_have_float, compact_text, members_text}
use Rattle.aud_red.specs.Json.{JsonValue, Null, Number, Text, Member, escaped_byte, json_string, value_text, member_text, object_text, is_printable, are_printable}
use Rattle.aud_red.specs.JsonValue.{data_of, members_of}
use Rattle.aud_red.specs.Objects.{is_simple, are_simple}
use Rattle.aud_red.proofs.Printable.{append_printable, plain_printable, of_decimal}

-- ---- objects under construction

simple_at : (o : Ordering) (a b c : Members) → are_simple a ≡ true → are_simple b ≡ true → are_simple c ≡ true → are_simple (match_ordering o a b c) ≡ true
simple_at Less a b c first second third = first
simple_at Equal a b c first second third = second
simple_at Greater a b c first second third = third

-- what is put in such an object leaves it so
pub put_simple : (key : List ℕ) (value : Data) (ms : Members) → are_printable key ≡ true → is_simple value ≡ true → are_simple ms ≡ true → are_simple (put key value ms) ≡ true
put_simple key value no_members printable simple all = and_from _ _ printable (and_from _ true simple refl)
put_simple key value (member first old ms) printable simple all =
    let head = and_parts (are_printable first) _ all in
    let rest = and_parts (is_simple old) _ head.1 in
    simple_at (slice_cmp nat_cmp key first) _ _ _
    (and_from _ _ printable (and_from _ _ simple all))
    (and_from _ _ head.0 (and_from _ _ simple rest.1))
    (and_from _ _ head.0 (and_from _ _ rest.0 (put_simple key value ms printable simple rest.1)))

pub number_simple : (n : ℕ) → n < 2 ^ 64 → is_simple (json.number (json.unsigned n)) ≡ true
number_simple n small = lt-ltb n (2 ^ 64) small

-- ---- escapes

no_letter : (b : ℕ) → is_printable b ≡ true → (b == 34 || b == 92) ≡ false → escape_letter b ≡ 0
no_letter b h plain =
    let not_tab : (b == 9) ≡ false = grind (arith, nat_tests) in
    cond-false (b == 34 || b == 92) _ _ plain
    ∙ cond-false (b == 8) _ _ (grind (arith, nat_tests))
    ∙ cond-false (b == 12) _ _ (grind (arith, nat_tests))
    ∙ cond-false (b == 10) _ _ (grind (arith, nat_tests))
    ∙ cond-false (b == 13) _ _ (grind (arith, nat_tests))
    ∙ cond-false (b == 9) _ _ not_tab

-- a printable byte has the escape of JSON
byte_escaped : (b : ℕ) → is_printable b ≡ true → escape_byte b ≡ escaped_byte b
unfolding escape_byte
byte_escaped b h = by_mark (b == 34 || b == 92) refl
  where
    by_mark : (v : Bool) → (b == 34 || b == 92) ≡ v → escape_byte b ≡ cond v (92 ∷ b ∷ []) (b ∷ [])
    by_mark true mark =
        let letter : escape_letter b ≡ b = cond-true (b == 34 || b == 92) _ _ mark in
        cond-true (nat_lt 0 (escape_letter b)) _ _ (ap (nat_lt 0) letter ∙ grind (arith, nat_tests)) ∙ ap (λ x. 92 ∷ x ∷ []) letter
    by_mark false plain =
        cond-false (nat_lt 0 (escape_letter b)) _ _ (ap (nat_lt 0) (no_letter b h plain)) ∙ cond-false (nat_lt b 32) _ _ (grind (arith, nat_tests))

text_escaped : (text : List ℕ) → are_printable text ≡ true → flat_map escape_byte text ≡ flat_map escaped_byte text
text_escaped [] h = refl
text_escaped (b ∷ bs) h =
    let parts = and_parts (is_printable b) (are_printable bs) h in
    ap (λ (t : List ℕ). t ++ flat_map escape_byte bs) (byte_escaped b parts.0) ∙ ap (λ (t : List ℕ). escaped_byte b ++ t) (text_escaped bs parts.1)

string_is : (text : List ℕ) → are_printable text ≡ true → quoted text ≡ json_string text
string_is text h = ap (λ (t : List ℕ). 34 ∷ (t ++ 34 ∷ [])) (text_escaped text h)

-- ---- what is written

value_is : (v : JsonValue) → is_simple (data_of v) ≡ true → compact_text (data_of v) ≡ value_text v
value_is Null h = refl
value_is (Number n) h = refl
value_is (Text bytes) h = string_is bytes h

member_is : (m : Member) (rest : List ℕ) → are_printable m.0 ≡ true → is_simple (data_of m.1) ≡ true → quoted m.0 ++ 58 ∷ (compact_text (data_of m.1) ++ rest) ≡ member_text m ++ rest
member_is m rest printable simple =
    ap (λ (t : List ℕ). t ++ 58 ∷ (compact_text (data_of m.1) ++ rest)) (string_is m.0 printable)
    ∙ ap (λ (t : List ℕ). json_string m.0 ++ 58 ∷ (t ++ rest)) (value_is m.1 simple)
    ∙ sym (append_assoc (json_string m.0) (58 ∷ value_text m.1) rest)

members_are : (ms : List Member) → are_simple (members_of ms) ≡ true → members_text false (members_of ms) ≡ join_with_byte 44 (map member_text ms) ++ 125 ∷ []
members_are [] h = refl
members_are (m ∷ []) h =
    let head = and_parts (are_printable m.0) _ h in
    member_is m (125 ∷ []) head.0 (and_parts (is_simple (data_of m.1)) true head.1).0
members_are (m ∷ n ∷ ns) h =
    let head = and_parts (are_printable m.0) _ h in
    let rest = and_parts (is_simple (data_of m.1)) _ head.1 in
    let later = join_with_byte 44 (map member_text (n ∷ ns)) in
    ap (λ (t : List ℕ). quoted m.0 ++ 58 ∷ (compact_text (data_of m.1) ++ 44 ∷ t)) (members_are (n ∷ ns) rest.1)
    ∙ member_is m (44 ∷ later ++ 125 ∷ []) head.0 rest.0
    ∙ sym (append_assoc (member_text m) (44 ∷ later) (125 ∷ []))

-- the text of an object is what `serde_json` has for it
pub object_is : (ms : List Member) → are_simple (members_of ms) ≡ true → compact_text (json.object (members_of ms)) ≡ object_text ms
object_is ms h = ap (λ (t : List ℕ). 123 ∷ t) (members_are ms h)

-- ---- it is printable

escaped_printable : (text : List ℕ) → are_printable text ≡ true → are_printable (flat_map escaped_byte text) ≡ true
escaped_printable [] h = refl
escaped_printable (b ∷ bs) h =
    let parts = and_parts (is_printable b) (are_printable bs) h in
    let byte = cond_both (b == 34 || b == 92) (92 ∷ b ∷ []) (b ∷ []) (λ t. are_printable t ≡ true) (λ _. and_from _ true parts.0 refl) (λ _. and_from _ true parts.0 refl) in
    append_printable (escaped_byte b) (flat_map escaped_byte bs) byte (escaped_printable bs parts.1)

string_printable : (text : List ℕ) → are_printable text ≡ true → are_printable (json_string text) ≡ true
string_printable text h = append_printable (flat_map escaped_byte text) (34 ∷ []) (escaped_printable text h) refl

value_printable : (v : JsonValue) → is_simple (data_of v) ≡ true → are_printable (value_text v) ≡ true
value_printable Null h = refl
value_printable (Number n) h = plain_printable (decimal n) (of_decimal n (ltb-true n (2 ^ 64) h))
value_printable (Text bytes) h = string_printable bytes h

member_printable : (m : Member) → are_printable m.0 ≡ true → is_simple (data_of m.1) ≡ true → are_printable (member_text m) ≡ true
member_printable m printable simple = append_printable (json_string m.0) (58 ∷ value_text m.1) (string_printable m.0 printable) (value_printable m.1 simple)

members_printable : (ms : List Member) → are_simple (members_of ms) ≡ true → are_printable (join_with_byte 44 (map member_text ms)) ≡ true
members_printable [] h = refl
members_printable (m ∷ []) h =
    let head = and_parts (are_printable m.0) _ h in
    member_printable m head.0 (and_parts (is_simple (data_of m.1)) true head.1).0
members_printable (m ∷ n ∷ ns) h =
    let head = and_parts (are_printable m.0) _ h in
    let rest = and_parts (is_simple (data_of m.1)) _ head.1 in
    append_printable (member_text m) (44 ∷ join_with_byte 44 (map member_text (n ∷ ns))) (member_printable m head.0 rest.0) (members_printable (n ∷ ns) rest.1)

pub object_printable : (ms : List Member) → are_simple (members_of ms) ≡ true → are_printable (object_text ms) ≡ true
object_printable ms h = append_printable (join_with_byte 44 (map member_text ms)) (125 ∷ []) (members_printable ms h) refl

-- ---- it is read back

value_flat : (v : JsonValue) → depth (data_of v) ≡ 0
value_flat Null = refl
value_flat (Number n) = refl
value_flat (Text bytes) = refl

members_flat : (ms : List Member) → members_depth (members_of ms) ≡ 0
members_flat [] = refl
members_flat (m ∷ ms) = ap (λ n. max n (members_depth (members_of ms))) (value_flat m.1) ∙ ap (max 0) (members_flat ms)

-- nothing nests in the values of an object
pub object_flat : (ms : List Member) → depth (json.object (members_of ms)) ≡ 1
object_flat ms = ap suc (members_flat ms)

value_whole : (v : JsonValue) → has_float (data_of v) ≡ false
value_whole Null = refl
value_whole (Number n) = refl
value_whole (Text bytes) = refl

-- an object has no float
pub object_whole : (ms : List Member) → has_float (json.object (members_of ms)) ≡ false
object_whole [] = refl
object_whole (m ∷ ms) = ap (λ b. b || members_have_float (members_of ms)) (value_whole m.1) ∙ object_whole ms
