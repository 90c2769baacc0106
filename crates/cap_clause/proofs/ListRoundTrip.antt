-- The bytes of a written list, and its round trip.
use Rattle.std.specs.Prelude.{◌≡◌, ℕ, ◌+◌, ◌≤◌, ◌==◌, ◌&&◌, ◌||◌, not, nat_le, Bool, true, false, cond, List, [], ◌∷◌, ◌++◌, length, drop, map, Option, None, Some, Ok, codes, fold, is_some, unwrap_or, refl}
use Rattle.std.proofs.Common.{ap, sym, ◌∙◌, ◌⊎◌, arith, inl, inr}
use Rattle.std.specs.List.{join_with_byte, list_all, list_any, slice_split}
use Rattle.std.specs.Option.{option_map}
use Rattle.std.specs.Str.{str_eq_ignore_ascii_case}
use Rattle.std.proofs.Math.Bool.{and-true, or-false, or_assoc}
use Rattle.std.proofs.lemmas.Bool.{and_from, and_parts, eqb-true, leb-true, ne_eqb, or_cases, or_left, not_from_false}
use Rattle.std.proofs.lemmas.List.Folds.{list_all-append}
use Rattle.std.proofs.lemmas.List.Splits.{slice_split_at, slice_split_none}
use Rattle.std.proofs.lemmas.Map.Views.{any-filter_same}
use Rattle.cap_bits.specs.Cap.{cap_name, cap_named, all_caps}
use Rattle.cap_bits.proofs.Names.{cap_named_by, lower_name}
use Rattle.cap_bits.specs.CapSet.{CapSet, has, no_caps, all_of_caps, with_cap, union_of, same_cap, same_sets}
use Rattle.cap_bits.proofs.CapSets.{same_cap-decides, has-no_caps, has-union_of, has-with_cap}
use Rattle.cap_bits.specs.Laws.{same_sets-decides, same_caps}
use Rattle.cap_bits.specs.declared.cap.Cap.{Cap}
use Rattle.cap_bits.specs.declared.cap.Cap.TheVariants.{Chown, DacExecute, DacReadSearch, DacWrite, Fowner, Fsetid, Kill, LinkDir, Setfcap, Setgid, Setuid, MacDowngrade, MacRead, MacRelabelSubj, MacUpgrade, MacWrite, AuditControl, AuditWrite}
use Rattle.fs_path.specs.Split.{pieces_at}
use Rattle.cap_clause.specs.Clauses.{first_fault, unless_fault, caps_named, piece_fault, with_piece, caps_listed, parse_list}
use Rattle.cap_clause.proofs.Groups.{every_cap}
use Rattle.cap_clause.proofs.Steps.{all_weaker, item_fine, without}
use Rattle.cap_clause.specs.Written.{caps_of, list_text}
use Rattle.cap_clause.specs.declared.error.CapTextError.TheVariants as error

-- ---- bytes

-- a byte of a written name: a letter in lower case, or `_`
abbrev pub is_name_byte : ℕ → Bool
is_name_byte b = (nat_le 97 b && nat_le b 122) || b == 95

abbrev is_comma : ℕ → Bool
is_comma b = b == 44

-- a byte of a written list: one of a name, or a comma
abbrev pub is_list_byte : ℕ → Bool
is_list_byte b = is_name_byte b || is_comma b

pub name_byte_range : (b : ℕ) → is_name_byte b ≡ true → (95 ≤ b) × (b ≤ 122)
name_byte_range b is = elim (or_cases (nat_le 97 b && nat_le b 122) (b == 95) is) [
  | inl letter ↦ let parts = and_parts (nat_le 97 b) (nat_le b 122) letter in let low = leb-true 97 b parts.0 in (omega arith, leb-true b 122 parts.1)
  | inr line ↦ let same = eqb-true b 95 line in (omega arith, omega arith)
]

-- each byte of a capability's name is a name byte, and the first is `c`
pub name_is : (cap : Cap) → (list_all is_name_byte (cap_name cap) ≡ true) × (cap_name cap ≡ 99 ∷ drop 1 (cap_name cap))
name_is Chown = (refl, refl)
name_is DacExecute = (refl, refl)
name_is DacReadSearch = (refl, refl)
name_is DacWrite = (refl, refl)
name_is Fowner = (refl, refl)
name_is Fsetid = (refl, refl)
name_is Kill = (refl, refl)
name_is LinkDir = (refl, refl)
name_is Setfcap = (refl, refl)
name_is Setgid = (refl, refl)
name_is Setuid = (refl, refl)
name_is MacDowngrade = (refl, refl)
name_is MacRead = (refl, refl)
name_is MacRelabelSubj = (refl, refl)
name_is MacUpgrade = (refl, refl)
name_is MacWrite = (refl, refl)
name_is AuditControl = (refl, refl)
name_is AuditWrite = (refl, refl)

-- ---- joined pieces

-- where each byte of some pieces and the byte between them pass a test, each byte of the joined text does
pub joined_all : (p : ℕ → Bool) (c : ℕ) (pieces : List (List ℕ)) → p c ≡ true → list_all (list_all p) pieces ≡ true → list_all p (join_with_byte c pieces) ≡ true
joined_all p c [] mark all = refl
joined_all p c (x ∷ []) mark all = (and_parts (list_all p x) true all).0
joined_all p c (x ∷ y ∷ ys) mark all =
    let parts = and_parts (list_all p x) (list_all (list_all p) (y ∷ ys)) all in
    list_all-append p x (c ∷ join_with_byte c (y ∷ ys))
    ∙ and_from (list_all p x) _ parts.0 (and_from (p c) _ mark (joined_all p c (y ∷ ys) mark parts.1))

-- joined pieces are split into the same pieces, where no byte of a piece passes the test of the split
pub split_joined : (p : ℕ → Bool) (c : ℕ) (x : List ℕ) (xs : List (List ℕ)) → p c ≡ true → list_all (list_all (λ b. not (p b))) (x ∷ xs) ≡ true → slice_split p (join_with_byte c (x ∷ xs)) ≡ x ∷ xs
split_joined p c x [] mark none = slice_split_none p x (without p x (and_parts (list_all (λ b. not (p b)) x) true none).0)
split_joined p c x (y ∷ ys) mark none =
    let parts = and_parts (list_all (λ b. not (p b)) x) (list_all (list_all (λ b. not (p b))) (y ∷ ys)) none in
    slice_split_at p x c (join_with_byte c (y ∷ ys)) (without p x parts.0) mark ∙ ap (λ ps. x ∷ ps) (split_joined p c y ys mark parts.1)

names_all : (p : ℕ → Bool) (caps : List Cap) → ((b : ℕ) → is_name_byte b ≡ true → p b ≡ true) → list_all (list_all p) (map cap_name caps) ≡ true
names_all p [] weaker = refl
names_all p (cap ∷ caps) weaker = and_from (list_all p (cap_name cap)) _ (all_weaker is_name_byte p (cap_name cap) weaker (name_is cap).0) (names_all p caps weaker)

-- each byte of a written list is a list byte
pub list_bytes : (caps : CapSet) → list_all is_list_byte (list_text caps) ≡ true
unfolding list_text
list_bytes caps = elim (same_sets caps all_of_caps) as (λ v. list_all is_list_byte (cond v (codes "all") (join_with_byte 44 (map cap_name (caps_of caps)))) ≡ true)
    [ true ↦ refl | false ↦ joined_all is_list_byte 44 (map cap_name (caps_of caps)) refl (names_all is_list_byte (caps_of caps) (λ b is. or_left (is_name_byte b) (is_comma b) is)) ]

-- ---- members

-- a capability is listed exactly where it is in the set
pub among_caps : (caps : CapSet) (q : Cap) → list_any (same_cap q) (caps_of caps) ≡ has caps q
unfolding caps_of
among_caps caps q =
    any-filter_same (same_cap q) (has caps) (has caps q) (λ k same. ap (has caps) (sym ((same_cap-decides q k).0 same))) all_caps
    ∙ ap (λ v. has caps q && v) (every_cap q) ∙ and-true (has caps q)

-- the list of a set's capabilities is not empty
pub record ListsSome (caps : CapSet) : Type 0 where
  pub first : Cap
  pub more : List Cap
  pub lists : caps_of caps ≡ first ∷ more

pub lists_some : (caps : CapSet) (q : Cap) → has caps q ≡ true → ListsSome caps
lists_some caps q there = by_list (caps_of caps) refl
  where
    by_list : (listed : List Cap) → caps_of caps ≡ listed → ListsSome caps
    by_list [] none = let no : false ≡ true = sym (ap (list_any (same_cap q)) none) ∙ among_caps caps q ∙ there in absurd (cc)
    by_list (first ∷ more) lists = record { first = first; more = more; lists = lists }

-- ---- names

-- a capability's name denotes the set of it alone
name_round_trip : (cap : Cap) → caps_named (cap_name cap) ≡ Some (with_cap no_caps cap)
unfolding caps_named
name_round_trip cap =
    ap (λ (word : List ℕ). cond (str_eq_ignore_ascii_case (codes "all") word) (Some all_of_caps) (option_map (λ c. with_cap no_caps c) (cap_named (cap_name cap)))) (name_is cap).1
    ∙ ap (option_map (λ c. with_cap no_caps c)) (cap_named_by (cap_name cap) cap (lower_name cap))

abbrev with_one : CapSet → Cap → CapSet
with_one caps cap = union_of caps (with_cap no_caps cap)

parse_names : (at : ℕ) (named : List Cap) (caps : CapSet)
    → unless_fault (first_fault piece_fault (pieces_at at (map cap_name named))) (fold with_piece caps (pieces_at at (map cap_name named))) ≡ Ok (fold with_one caps named)
parse_names at [] caps = refl
parse_names at (cap ∷ named) caps =
    let rest = pieces_at (at + length (cap_name cap) + 1) (map cap_name named) in
    item_fine piece_fault with_piece caps (record { at = at; bytes = cap_name cap }) rest (ap (λ (o : Option CapSet). cond (is_some o) None (Some (error.UnknownName at))) (name_round_trip cap))
    ∙ ap (λ (o : Option CapSet). unless_fault (first_fault piece_fault rest) (fold with_piece (union_of caps (unwrap_or o no_caps)) rest)) (name_round_trip cap)
    ∙ parse_names (at + length (cap_name cap) + 1) named (with_one caps cap)

has_one : (cap q : Cap) → has (with_cap no_caps cap) q ≡ same_cap q cap
has_one cap q = has-with_cap no_caps cap q ∙ ap (λ v. same_cap q cap || v) (has-no_caps q) ∙ or-false (same_cap q cap)

has_named : (named : List Cap) (caps : CapSet) (q : Cap) → has (fold with_one caps named) q ≡ (has caps q || list_any (same_cap q) named)
has_named [] caps q = sym (or-false (has caps q))
has_named (cap ∷ named) caps q =
    has_named named (with_one caps cap) q ∙ ap (λ v. v || list_any (same_cap q) named) (has-union_of caps (with_cap no_caps cap) q ∙ ap (λ v. has caps q || v) (has_one cap q))
    ∙ or_assoc (has caps q) (same_cap q cap) (list_any (same_cap q) named)

named_round_trip : (caps : CapSet) → fold with_one no_caps (caps_of caps) ≡ caps
named_round_trip caps = same_caps _ caps (λ q. has_named (caps_of caps) no_caps q ∙ ap (λ v. v || list_any (same_cap q) (caps_of caps)) (has-no_caps q) ∙ among_caps caps q)

-- ---- lists

all_parsed : (at : ℕ) → parse_list at (codes "all") ≡ Ok all_of_caps
unfolding parse_list caps_named
all_parsed at = ap Ok (same_caps _ all_of_caps (λ q. has-union_of no_caps all_of_caps q ∙ ap (λ v. v || has all_of_caps q) (has-no_caps q)))

no_comma : (b : ℕ) → is_name_byte b ≡ true → not (is_comma b) ≡ true
no_comma b is = let range = name_byte_range b is in not_from_false (b == 44) (ne_eqb b 44 (λ same. omega arith))

parse_named : (at : ℕ) (caps : CapSet) → ListsSome caps → parse_list at (join_with_byte 44 (map cap_name (caps_of caps))) ≡ Ok caps
unfolding parse_list
parse_named at caps some =
    ap (λ (ps : List (List ℕ)). unless_fault (first_fault piece_fault (pieces_at at ps)) (caps_listed (pieces_at at ps))) pieces
    ∙ parse_names at (caps_of caps) no_caps ∙ ap Ok (named_round_trip caps)
  where
    pieces : slice_split is_comma (join_with_byte 44 (map cap_name (caps_of caps))) ≡ map cap_name (caps_of caps)
    pieces =
        ap (λ (cs : List Cap). slice_split is_comma (join_with_byte 44 (map cap_name cs))) some.lists
        ∙ split_joined is_comma 44 (cap_name some.first) (map cap_name some.more) refl (names_all (λ b. not (is_comma b)) (some.first ∷ some.more) no_comma)
        ∙ ap (map cap_name) (sym some.lists)

-- a written list denotes the set that was written
pub list_round_trip : (at : ℕ) (caps : CapSet) → ListsSome caps → parse_list at (list_text caps) ≡ Ok caps
unfolding list_text
list_round_trip at caps some = elim (same_sets caps all_of_caps) as (λ v. same_sets caps all_of_caps ≡ v → parse_list at (cond v (codes "all") (join_with_byte 44 (map cap_name (caps_of caps)))) ≡ Ok caps)
    [ true ↦ λ same. all_parsed at ∙ ap Ok (sym ((same_sets-decides caps all_of_caps).0 same)) | false ↦ λ _. parse_named at caps some ] refl

-- a text begins with `a` or with `c`
abbrev pub BeginsAsList : List ℕ → Type 0
BeginsAsList text = ((rest : List ℕ) × (text ≡ 97 ∷ rest)) ⊎ ((rest : List ℕ) × (text ≡ 99 ∷ rest))

pub list_begins : (caps : CapSet) → ListsSome caps → BeginsAsList (list_text caps)
unfolding list_text
list_begins caps some = elim (same_sets caps all_of_caps) as (λ v. BeginsAsList (cond v (codes "all") (join_with_byte 44 (map cap_name (caps_of caps)))))
    [ true ↦ inl (drop 1 (codes "all"), refl) | false ↦ inr (joined (map cap_name some.more), ap (λ (cs : List Cap). join_with_byte 44 (map cap_name cs)) some.lists ∙ join_prefix (map cap_name some.more)) ]
  where
    joined : List (List ℕ) → List ℕ
    joined [] = drop 1 (cap_name some.first)
    joined (y ∷ ys) = drop 1 (cap_name some.first) ++ 44 ∷ join_with_byte 44 (y ∷ ys)

    join_prefix : (more : List (List ℕ)) → join_with_byte 44 (cap_name some.first ∷ more) ≡ 99 ∷ joined more
    join_prefix [] = (name_is some.first).1
    join_prefix (y ∷ ys) = ap (λ (n : List ℕ). n ++ 44 ∷ join_with_byte 44 (y ∷ ys)) (name_is some.first).1
