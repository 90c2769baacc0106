-- Round trips of capability texts, and their bytes as words of a line.
use Rattle.std.specs.Prelude.{◌≡◌, ℕ, suc, ◌+◌, ◌<◌, ◌==◌, not, Bool, true, false, cond, List, [], ◌∷◌, ◌++◌, length, map, Option, None, Result, Ok, Err, codes, filter_map, fold, is_some, refl}
use Rattle.std.proofs.Common.{ap, sym, ◌∙◌, arith, inl, inr}
use Rattle.std.specs.List.{filter, join_with_byte, list_all, list_any}
use Rattle.std.specs.Str.{str_eq_ignore_ascii_case}
use Rattle.std.proofs.lemmas.Bool.{and_from, cond-false, eqb-true, le-leb, ne_eqb, not_from_false, or_cases, or_from}
use Rattle.std.proofs.lemmas.List.{append-nil}
use Rattle.std.proofs.lemmas.List.Folds.{list_all-append}
use Rattle.cap_bits.specs.CapSet.{CapSet, no_caps, all_of_caps, same_cap, same_sets}
use Rattle.cap_bits.proofs.CapSets.{has-no_caps}
use Rattle.cap_bits.specs.Laws.{same_sets-decides, same_caps}
use Rattle.cap_bits.specs.State.{no_flags, has_flag}
use Rattle.cap_bits.specs.declared.cap.Cap.{Cap}
use Rattle.cap_bits.specs.declared.state.CapState.{CapState}
use Rattle.cap_bits.specs.declared.state.Flag.{Flag}
use Rattle.cap_bits.specs.declared.state.Flag.TheVariants.{Effective, Inheritable, Permitted}
use Rattle.fs_path.specs.Split.{pieces_at}
use Rattle.fs_path.specs.Words.{is_plain, is_bare}
use Rattle.cap_clause.specs.Clauses.{is_blank, is_operator, flag_of, is_flag, are_some, has_bytes, clauses_of, pieces_of, caps_listed, first_fault_or, unless_fault, first_operator, after_operator, all_flags, clause_fault, with_clause, parse_list, first_fault, piece_fault}
use Rattle.cap_clause.proofs.Groups.{same_from, has-group_of, assigned, assigned_none, groups_round_trip}
use Rattle.cap_clause.proofs.ListRoundTrip.{is_name_byte, is_list_byte, name_byte_range, joined_all, split_joined, list_bytes, ListsSome, lists_some, among_caps, list_round_trip, BeginsAsList, list_begins}
use Rattle.cap_clause.specs.Reading.{parse_actions, parse_clause}
use Rattle.cap_clause.specs.Parsed.{caps_fault, caps_meant, parse_caps, parse_set}
use Rattle.cap_clause.proofs.Steps.{all_weaker, parsed_next, clause_listed, clause_for_all, no_fault_in, parse_clauses, clause_taken}
use Rattle.cap_clause.specs.Written.{caps_of, list_text, set_text, group_of, firsts_of, flag_byte, group_text, clauses_text, caps_text}
use Rattle.cap_clause.specs.declared.action.Operator.{Operator}
use Rattle.cap_clause.specs.declared.action.Operator.TheVariants.{Assign}
use Rattle.cap_clause.specs.declared.error.CapTextError.{CapTextError}
use Rattle.cap_clause.specs.declared.error.CapTextError.TheVariants as error

-- ---- the bytes of a clause

list_byte_cases : (p : ℕ → Bool) (b : ℕ) → ((n : ℕ) → is_name_byte n ≡ true → p n ≡ true) → p 44 ≡ true → is_list_byte b ≡ true → p b ≡ true
list_byte_cases p b names comma is = elim (or_cases (is_name_byte b) (b == 44) is) [ inl name ↦ names b name | inr mark ↦ ap p (eqb-true b 44 mark) ∙ comma ]

-- each byte of a written list passes a test that name bytes and the comma pass
list_passes : (p : ℕ → Bool) (caps : CapSet) → ((n : ℕ) → is_name_byte n ≡ true → p n ≡ true) → p 44 ≡ true → list_all p (list_text caps) ≡ true
list_passes p caps names comma = all_weaker is_list_byte p (list_text caps) (λ b is. list_byte_cases p b names comma is) (list_bytes caps)

flag_bytes : (p : ℕ → Bool) (flags : List Flag) → p 101 ≡ true → p 105 ≡ true → p 112 ≡ true → list_all p (map flag_byte flags) ≡ true
flag_bytes p [] e i q = refl
flag_bytes p (Effective ∷ flags) e i q = and_from (p 101) _ e (flag_bytes p flags e i q)
flag_bytes p (Inheritable ∷ flags) e i q = and_from (p 105) _ i (flag_bytes p flags e i q)
flag_bytes p (Permitted ∷ flags) e i q = and_from (p 112) _ q (flag_bytes p flags e i q)

-- each byte of a written clause passes a test that name bytes and the other bytes of clauses pass
clause_passes : (p : ℕ → Bool) (s : CapState) (cap : Cap) → ((n : ℕ) → is_name_byte n ≡ true → p n ≡ true) → p 44 ≡ true → p 61 ≡ true → p 101 ≡ true → p 105 ≡ true → p 112 ≡ true → list_all p (group_text s cap) ≡ true
unfolding group_text
clause_passes p s cap names comma operator e i q =
    list_all-append p (list_text (group_of s cap)) (61 ∷ map flag_byte (filter (has_flag s cap) all_flags))
    ∙ and_from _ _ (list_passes p (group_of s cap) names comma) (and_from (p 61) _ operator (flag_bytes p (filter (has_flag s cap) all_flags) e i q))

not_that : (b n : ℕ) → is_name_byte b ≡ true → n < 95 → not (b == n) ≡ true
not_that b n is small = let range = name_byte_range b is in not_from_false (b == n) (ne_eqb b n (λ same. omega arith))

no_operator : (b : ℕ) → is_name_byte b ≡ true → not (is_operator b) ≡ true
no_operator b is =
    let range = name_byte_range b is in
    ap (λ (o : Option Operator). not (is_some o)) (cond-false (b == 61) _ _ (ne_eqb b 61 (λ same. omega arith)) ∙ cond-false (b == 43) _ _ (ne_eqb b 43 (λ same. omega arith)) ∙ cond-false (b == 45) _ _ (ne_eqb b 45 (λ same. omega arith)))

no_blank : (b : ℕ) → is_name_byte b ≡ true → not (is_blank b) ≡ true
no_blank b is = let range = name_byte_range b is in not_from_false (is_blank b) (or_from (b == 32) (b == 9) (ne_eqb b 32 (λ same. omega arith)) (ne_eqb b 9 (λ same. omega arith)))

-- ---- the round trip of a clause

flags_round_trip : (flags : List Flag) → filter_map flag_of (map flag_byte flags) ≡ flags
flags_round_trip [] = refl
flags_round_trip (Effective ∷ flags) = ap (λ fs. Effective ∷ fs) (flags_round_trip flags)
flags_round_trip (Inheritable ∷ flags) = ap (λ fs. Inheritable ∷ fs) (flags_round_trip flags)
flags_round_trip (Permitted ∷ flags) = ap (λ fs. Permitted ∷ fs) (flags_round_trip flags)

actions_round_trip : (at : ℕ) (caps : CapSet) (flags : List Flag) (t : CapState) → parse_actions at caps (61 ∷ map flag_byte flags) t ≡ Ok (after_operator caps Assign flags t)
actions_round_trip at caps flags t =
    ap (λ (bytes : List ℕ). parse_actions at caps (61 ∷ bytes) t) (sym (append-nil (map flag_byte flags)))
    ∙ parsed_next at 61 caps Assign (map flag_byte flags) [] t refl (flag_bytes is_flag flags refl refl refl) tt refl
    ∙ ap (λ fs. Ok (after_operator caps Assign fs t)) (flags_round_trip flags)

no_operator_first : (text rest : List ℕ) → BeginsAsList text → first_operator (text ++ rest) ≡ None
no_operator_first text rest (inl begins) = ap (λ (bytes : List ℕ). first_operator (bytes ++ rest)) begins.1
no_operator_first text rest (inr begins) = ap (λ (bytes : List ℕ). first_operator (bytes ++ rest)) begins.1

group_some : (s : CapState) (cap : Cap) → ListsSome (group_of s cap)
group_some s cap = lists_some (group_of s cap) cap (has-group_of s cap cap ∙ same_from s cap cap (λ f. refl))

-- a written clause assigns the flags of its group
clause_round_trip : (at : ℕ) (s t : CapState) (cap : Cap) → parse_clause t (record { at = at; bytes = group_text s cap }) ≡ Ok (assigned s t cap)
unfolding group_text parse_list
clause_round_trip at s t cap =
    let caps = group_of s cap in
    let some = group_some s cap in
    let flags = filter (has_flag s cap) all_flags in
    let listed = no_fault_in (first_fault piece_fault (pieces_of at (list_text caps))) (caps_listed (pieces_of at (list_text caps))) caps (list_round_trip at caps some) in
    clause_listed at (list_text caps) (61 ∷ map flag_byte flags) t (list_passes (λ b. not (is_operator b)) caps no_operator refl) refl (no_operator_first (list_text caps) (61 ∷ map flag_byte flags) (list_begins caps some)) listed.0
    ∙ ap (λ named. parse_actions (at + length (list_text caps)) named (61 ∷ map flag_byte flags) t) listed.1
    ∙ actions_round_trip (at + length (list_text caps)) caps flags t

-- ---- states

clauses_round_trip : (at : ℕ) (s t : CapState) (caps : List Cap) → parse_clauses (pieces_at at (map (group_text s) caps)) t ≡ Ok (fold (assigned s) t caps)
clauses_round_trip at s t [] = refl
clauses_round_trip at s t (cap ∷ caps) =
    let rest = pieces_at (at + length (group_text s cap) + 1) (map (group_text s) caps) in
    clause_taken (record { at = at; bytes = group_text s cap }) rest t (assigned s t cap) (clause_round_trip at s t cap)
    ∙ clauses_round_trip (at + length (group_text s cap) + 1) s (assigned s t cap) caps

-- a written clause is not empty
pub clause_some : (s : CapState) (cap : Cap) → are_some (group_text s cap) ≡ true
unfolding group_text
clause_some s cap = some_before (list_text (group_of s cap)) 61 (map flag_byte (filter (has_flag s cap) all_flags))
  where
    some_before : (prefix : List ℕ) (b : ℕ) (bs : List ℕ) → are_some (prefix ++ b ∷ bs) ≡ true
    some_before [] b bs = refl
    some_before (f ∷ fs) b bs = refl

kept_all : (at : ℕ) (s : CapState) (caps : List Cap) → filter has_bytes (pieces_at at (map (group_text s) caps)) ≡ pieces_at at (map (group_text s) caps)
kept_all at s [] = refl
kept_all at s (cap ∷ caps) =
    let rest = pieces_at (at + length (group_text s cap) + 1) (map (group_text s) caps) in
    ap (λ v. cond v (record { at = at; bytes = group_text s cap } ∷ filter has_bytes rest) (filter has_bytes rest)) (clause_some s cap)
    ∙ ap (λ ps. record { at = at; bytes = group_text s cap } ∷ ps) (kept_all (at + length (group_text s cap) + 1) s caps)

no_blanks : (s : CapState) (caps : List Cap) → list_all (list_all (λ b. not (is_blank b))) (map (group_text s) caps) ≡ true
no_blanks s [] = refl
no_blanks s (cap ∷ caps) = and_from _ _ (clause_passes (λ b. not (is_blank b)) s cap no_blank refl refl refl refl refl) (no_blanks s caps)

joined_round_trip : (s : CapState) (cap : Cap) (caps : List Cap) → parse_caps (join_with_byte 32 (map (group_text s) (cap ∷ caps))) ≡ Ok (fold (assigned s) no_flags (cap ∷ caps))
unfolding parse_caps caps_fault caps_meant clauses_of
joined_round_trip s cap caps =
    ap (λ cs. unless_fault (first_fault_or error.Empty clause_fault cs) (fold with_clause no_flags cs))
    (ap (λ ps. filter has_bytes (pieces_at 0 ps)) (split_joined is_blank 32 (group_text s cap) (map (group_text s) caps) refl (no_blanks s (cap ∷ caps))) ∙ kept_all 0 s (cap ∷ caps))
    ∙ clauses_round_trip 0 s no_flags (cap ∷ caps)

none_round_trip : parse_caps (codes "=") ≡ Ok no_flags
unfolding parse_caps caps_fault caps_meant clauses_of
none_round_trip = clause_taken (record { at = 0; bytes = codes "=" }) [] no_flags (after_operator all_of_caps Assign [] no_flags) (clause_for_all 0 (codes "=") no_flags refl ∙ actions_round_trip 0 all_of_caps [] no_flags) ∙ ap Ok (assigned_none all_of_caps)

-- a state's text denotes that state
pub caps_round_trip : (s : CapState) → parse_caps (caps_text s) ≡ Ok s
unfolding caps_text
caps_round_trip s = by_first (firsts_of s) (groups_round_trip s)
  where
    by_first : (firsts : List Cap) → fold (assigned s) no_flags firsts ≡ s → parse_caps (clauses_text (map (group_text s) firsts)) ≡ Ok s
    by_first [] is = none_round_trip ∙ ap Ok is
    by_first (cap ∷ caps) is = joined_round_trip s cap caps ∙ ap Ok is

one_ok : {V : Type 0} (a b : V) (parsed : Result V CapTextError) → parsed ≡ Ok a → parsed ≡ Ok b → a ≡ b
one_ok a b parsed is_a is_b = cc

-- states with equal texts are equal
pub caps_text_exact : (a b : CapState) → caps_text a ≡ caps_text b → a ≡ b
caps_text_exact a b same = one_ok a b (parse_caps (caps_text a)) (caps_round_trip a) (ap parse_caps same ∙ caps_round_trip b)

-- ---- sets

nonempty : (caps : CapSet) → same_sets caps no_caps ≡ false → ListsSome caps
nonempty caps some = by_list (caps_of caps) refl
  where
    by_list : (listed : List Cap) → caps_of caps ≡ listed → ListsSome caps
    by_list [] none =
        let same = same_caps caps no_caps (λ q. sym (among_caps caps q) ∙ ap (list_any (same_cap q)) none ∙ sym (has-no_caps q)) in
        let no : false ≡ true = sym some ∙ (same_sets-decides caps no_caps).1 same in
        absurd (cc)
    by_list (first ∷ more) lists = record { first = first; more = more; lists = lists }

none_parsed : parse_set (codes "none") ≡ Ok no_caps
unfolding parse_set
none_parsed = refl

read_as_list : (text : List ℕ) → BeginsAsList text → parse_set text ≡ parse_list 0 text
unfolding parse_set
read_as_list text (inl begins) =
    ap (λ (bytes : List ℕ). cond (length bytes == 0) (Err error.Empty) (cond (str_eq_ignore_ascii_case (codes "none") bytes) (Ok no_caps) (parse_list 0 text))) begins.1
    ∙ cond-false _ _ _ (ne_eqb (suc (length begins.0)) 0 (λ same. omega arith))
read_as_list text (inr begins) =
    ap (λ (bytes : List ℕ). cond (length bytes == 0) (Err error.Empty) (cond (str_eq_ignore_ascii_case (codes "none") bytes) (Ok no_caps) (parse_list 0 text))) begins.1
    ∙ cond-false _ _ _ (ne_eqb (suc (length begins.0)) 0 (λ same. omega arith))

-- a set's text denotes that set
pub set_round_trip : (caps : CapSet) → parse_set (set_text caps) ≡ Ok caps
unfolding set_text
set_round_trip caps = elim (same_sets caps no_caps) as (λ v. same_sets caps no_caps ≡ v → parse_set (cond v (codes "none") (list_text caps)) ≡ Ok caps) [
  | true ↦ λ same. none_parsed ∙ ap Ok (sym ((same_sets-decides caps no_caps).0 same))
  | false ↦ λ some. let lists = nonempty caps some in read_as_list (list_text caps) (list_begins caps lists) ∙ list_round_trip 0 caps lists
] refl

-- ---- words of a line

plain_name : (b : ℕ) → is_name_byte b ≡ true → is_plain b ≡ true
plain_name b is =
    let range = name_byte_range b is in
    and_from _ _ (and_from _ _ (and_from _ _ (le-leb 32 b (omega arith)) (le-leb b 126 (omega arith))) (not_that b 34 is (omega arith))) (not_that b 92 is (omega arith))

bare_name : (b : ℕ) → is_name_byte b ≡ true → is_bare b ≡ true
bare_name b is = and_from _ _ (plain_name b is) (not_that b 32 is (omega arith))

plain_clauses : (s : CapState) (caps : List Cap) → list_all (list_all is_plain) (map (group_text s) caps) ≡ true
plain_clauses s [] = refl
plain_clauses s (cap ∷ caps) = and_from _ _ (clause_passes is_plain s cap plain_name refl refl refl refl refl) (plain_clauses s caps)

-- each byte of a state's text stands for itself between quotes
pub caps_text_plain : (s : CapState) → list_all is_plain (caps_text s) ≡ true
unfolding caps_text
caps_text_plain s = by_first (firsts_of s)
  where
    by_first : (firsts : List Cap) → list_all is_plain (clauses_text (map (group_text s) firsts)) ≡ true
    by_first [] = refl
    by_first (cap ∷ caps) = joined_all is_plain 32 (map (group_text s) (cap ∷ caps)) refl (plain_clauses s (cap ∷ caps))

-- each byte of a set's text may be in a bare word
pub set_text_bare : (caps : CapSet) → list_all is_bare (set_text caps) ≡ true
unfolding set_text
set_text_bare caps = elim (same_sets caps no_caps) as (λ v. list_all is_bare (cond v (codes "none") (list_text caps)) ≡ true) [ true ↦ refl | false ↦ list_passes is_bare caps bare_name refl ]

some_length : (text : List ℕ) → BeginsAsList text → 0 < length text
some_length text (inl begins) = let len = ap (λ (bytes : List ℕ). length bytes) begins.1 in omega arith
some_length text (inr begins) = let len = ap (λ (bytes : List ℕ). length bytes) begins.1 in omega arith

-- a set's text is not empty
pub set_text_some : (caps : CapSet) → 0 < length (set_text caps)
unfolding set_text
set_text_some caps = elim (same_sets caps no_caps) as (λ v. same_sets caps no_caps ≡ v → 0 < length (cond v (codes "none") (list_text caps)))
    [ true ↦ λ _. omega arith | false ↦ λ some. some_length (list_text caps) (list_begins caps (nonempty caps some)) ] refl
