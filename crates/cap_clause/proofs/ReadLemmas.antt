-- What a capability text denotes, by the prefixes at which it is split.
use Rattle.std.proofs.Common.{◌≡◌, ℕ, ◌+◌, ◌-◌, ◌≤◌, Bool, true, false, cond, List, [], ◌∷◌, ◌++◌, length, take, drop, refl, sym, ◌∙◌, ap, subst, arith, Option, Some, None, Ok, Err}
use Rattle.std.specs.Prelude.{◌==◌, ◌&&◌, not, filter_map, fold, is_some}
use Rattle.std.specs.List.{list_all, position_or_len, prefix_len}
use Rattle.std.proofs.Math.Nat.{add-zero}
use Rattle.std.proofs.Math.Numerals.{one-add}
use Rattle.std.proofs.lemmas.Bool.{and_parts, eqb-true}
use Rattle.std.proofs.lemmas.List.{length-append, length-drop, nil_from_length, take-append-drop}
use Rattle.std.proofs.lemmas.List.Sums.{prefix_len-le-length}
use Rattle.cap_bits.specs.CapSet.{CapSet, all_of_caps}
use Rattle.cap_bits.specs.State.{no_flags}
use Rattle.cap_bits.specs.declared.state.CapState.{CapState}
use Rattle.cap_clause.specs.Clauses.{is_blank, operator_of, is_operator, flag_of, is_flag, clauses_of, first_fault, first_fault_or, unless_fault, parse_list, needs_flag, after_operator, first_operator, clause_fault, with_clause}
use Rattle.cap_clause.specs.Reading.{parse_actions, parse_prefix, parse_clause}
use Rattle.cap_clause.specs.Parsed.{caps_fault, caps_meant, parse_caps}
use Rattle.cap_clause.proofs.Steps.{Stops, prefix_passes, after_stops, parsed_rest, parsed_no_flag, parsed_next, clauses_blank, clauses_next, clause_unnamed, clause_unknown, clause_listed, clause_for_all, no_fault_in, fault_in, parse_clauses}
use Rattle.cap_clause.specs.declared.action.Operator.{Operator}
use Rattle.cap_clause.specs.declared.action.Operator.TheVariants.{Assign, Raise, Lower}
use Rattle.cap_clause.specs.declared.error.CapTextError.{CapTextError}
use Rattle.cap_clause.specs.declared.error.CapTextError.TheVariants as error

-- bytes, their longest prefix that passes a test, and the rest
pub record IsPrefix (p : ℕ → Bool) (bytes prefix rest : List ℕ) : Type 0 where
  pub whole : bytes ≡ prefix ++ rest
  pub passes : list_all p prefix ≡ true
  pub stops : Stops p rest

-- a split at the length of the longest prefix gives that prefix and the rest
pub prefix_of : (p : ℕ → Bool) (n : ℕ) (bytes prefix rest : List ℕ) → n ≡ prefix_len p bytes → prefix ≡ take n bytes → rest ≡ drop n bytes → IsPrefix p bytes prefix rest
prefix_of p n bytes prefix rest count before after = record {
  whole = sym (take-append-drop n bytes) ∙ (λ i. sym before i ++ sym after i);
  passes = ap (list_all p) before ∙ ap (λ k. list_all p (take k bytes)) count ∙ prefix_passes p bytes;
  stops = subst (Stops p) (sym (after ∙ ap (λ k. drop k bytes) count)) (after_stops p bytes);
}

-- a text begins with an operator and flags
pub record IsAction (text : List ℕ) (operator : Operator) (flags rest : List ℕ) : Type 0 where
  pub first : first_operator text ≡ Some operator
  pub flags_are : IsPrefix is_flag (drop 1 text) flags rest

-- an action without a flag that it needs is refused
pub no_flag : (at : ℕ) (caps : CapSet) (text flags rest : List ℕ) (s : CapState) (operator : Operator) → IsAction text operator flags rest
    → (needs_flag operator && length flags == 0) ≡ true → parse_actions at caps text s ≡ Err (error.NoFlag (at + 1))
no_flag at caps [] flags rest s operator is missing = absurd (cc is.first)
no_flag at caps (b ∷ bs) flags rest s operator is missing =
    ap (λ (after : List ℕ). parse_actions at caps (b ∷ after) s) is.flags_are.whole
    ∙ parsed_no_flag at b caps operator flags rest s is.first is.flags_are.passes is.flags_are.stops missing

next_of : (at : ℕ) (caps : CapSet) (text flags rest : List ℕ) (s : CapState) (operator : Operator) → IsAction text operator flags rest
    → (needs_flag operator && length flags == 0) ≡ false → parse_actions at caps text s ≡ parsed_rest (at + 1 + length flags) caps rest (after_operator caps operator (filter_map flag_of flags) s)
next_of at caps [] flags rest s operator is enough = absurd (cc is.first)
next_of at caps (b ∷ bs) flags rest s operator is enough =
    ap (λ (after : List ℕ). parse_actions at caps (b ∷ after) s) is.flags_are.whole
    ∙ parsed_next at b caps operator flags rest s is.first is.flags_are.passes is.flags_are.stops enough

-- an action with nothing after it is the last
pub last_action : (at : ℕ) (caps : CapSet) (text flags rest : List ℕ) (s : CapState) (operator : Operator) → IsAction text operator flags rest
    → (needs_flag operator && length flags == 0) ≡ false → (length rest == 0) ≡ true → parse_actions at caps text s ≡ Ok (after_operator caps operator (filter_map flag_of flags) s)
last_action at caps text flags rest s operator is enough none =
    next_of at caps text flags rest s operator is enough
    ∙ ap (λ (r : List ℕ). parsed_rest (at + 1 + length flags) caps r (after_operator caps operator (filter_map flag_of flags) s)) (nil_from_length rest (eqb-true (length rest) 0 none))

-- after an action the next ones follow
pub more_actions : (at : ℕ) (caps : CapSet) (text flags rest : List ℕ) (s : CapState) (operator : Operator) → IsAction text operator flags rest
    → (needs_flag operator && length flags == 0) ≡ false → (length rest == 0) ≡ false → parse_actions at caps text s ≡ parse_actions (at + (length flags + 1)) caps rest (after_operator caps operator (filter_map flag_of flags) s)
more_actions at caps text flags [] s operator is enough some = absurd (cc)
more_actions at caps text flags (r ∷ rs) s operator is enough some =
    next_of at caps text flags (r ∷ rs) s operator is enough ∙ ap (λ n. parse_actions n caps (r ∷ rs) (after_operator caps operator (filter_map flag_of flags) s)) (one_on at (length flags))
  where
    one_on : (n k : ℕ) → n + 1 + k ≡ n + (k + 1)
    one_on n k = omega arith

-- ---- clauses

-- a clause, the list before its first operator, and its actions from there on
abbrev pub IsClause : List ℕ → List ℕ → List ℕ → Type 0
IsClause bytes list actions = IsPrefix (λ b. not (is_operator b)) bytes list actions

unknown_clause : (at : ℕ) (bytes list actions : List ℕ) (s : CapState) (e : CapTextError) → IsClause bytes list actions → first_operator bytes ≡ None → parse_list at list ≡ Err e
    → parse_clause s (record { at = at; bytes = bytes }) ≡ Err e
unfolding parse_list
unknown_clause at bytes list actions s e is first unknown =
    ap (λ (bs : List ℕ). parse_clause s (record { at = at; bytes = bs })) is.whole
    ∙ clause_unknown at list actions s e is.passes is.stops (ap first_operator (sym is.whole) ∙ first) (fault_in _ _ e unknown)

listed_clause : (at : ℕ) (bytes list actions : List ℕ) (s : CapState) (caps : CapSet) → IsClause bytes list actions → first_operator bytes ≡ None → parse_list at list ≡ Ok caps
    → parse_clause s (record { at = at; bytes = bytes }) ≡ parse_actions (at + length list) caps actions s
unfolding parse_list
listed_clause at bytes list actions s caps is first known =
    let fine = no_fault_in _ _ caps known in
    ap (λ (bs : List ℕ). parse_clause s (record { at = at; bytes = bs })) is.whole
    ∙ clause_listed at list actions s is.passes is.stops (ap first_operator (sym is.whole) ∙ first) fine.0
    ∙ ap (λ named. parse_actions (at + length list) named actions s) fine.1

clause_of_all : (at : ℕ) (bytes list actions : List ℕ) (s : CapState) → IsClause bytes list actions → first_operator bytes ≡ Some Assign
    → parse_clause s (record { at = at; bytes = bytes }) ≡ parse_actions (at + length list) all_of_caps actions s
clause_of_all at bytes [] actions s is first =
    clause_for_all at bytes s first ∙ (λ i. parse_actions (sym (add-zero at) i) all_of_caps (is.whole i) s)
clause_of_all at bytes (b ∷ bs) actions s is first =
    let begun : operator_of b ≡ Some Assign = ap first_operator (sym is.whole) ∙ first in
    let passes = (and_parts (not (is_operator b)) (list_all (λ c. not (is_operator c)) bs) is.passes).0 in
    let no : false ≡ true = sym (ap (λ (o : Option Operator). not (is_some o)) begun) ∙ passes in
    absurd (cc)

-- a clause whose list has a fault is refused with that fault
pub clause_wrong : (at : ℕ) (bytes list actions : List ℕ) (s : CapState) (e : CapTextError) → IsClause bytes list actions → parse_prefix at list (first_operator bytes) ≡ Err e
    → parse_clause s (record { at = at; bytes = bytes }) ≡ Err e
clause_wrong at bytes list actions s e is = by_first (first_operator bytes) refl
  where
    by_first : (o : Option Operator) → first_operator bytes ≡ o → parse_prefix at list o ≡ Err e → parse_clause s (record { at = at; bytes = bytes }) ≡ Err e
    by_first None first wrong = unknown_clause at bytes list actions s e is first wrong
    by_first (Some Assign) first wrong = absurd (cc)
    by_first (Some Raise) first wrong = let same : error.NoNames at ≡ e = cc in clause_unnamed at bytes s Raise first refl ∙ ap Err same
    by_first (Some Lower) first wrong = let same : error.NoNames at ≡ e = cc in clause_unnamed at bytes s Lower first refl ∙ ap Err same

-- a clause whose list has no fault goes on with its actions
pub clause_about : (at : ℕ) (bytes list actions : List ℕ) (s : CapState) (caps : CapSet) → IsClause bytes list actions → parse_prefix at list (first_operator bytes) ≡ Ok caps
    → parse_clause s (record { at = at; bytes = bytes }) ≡ parse_actions (at + length list) caps actions s
clause_about at bytes list actions s caps is = by_first (first_operator bytes) refl
  where
    by_first : (o : Option Operator) → first_operator bytes ≡ o → parse_prefix at list o ≡ Ok caps → parse_clause s (record { at = at; bytes = bytes }) ≡ parse_actions (at + length list) caps actions s
    by_first None first named = listed_clause at bytes list actions s caps is first named
    by_first (Some Assign) first named =
        let same : all_of_caps ≡ caps = cc in
        clause_of_all at bytes list actions s is first ∙ ap (λ about. parse_actions (at + length list) about actions s) same
    by_first (Some Raise) first named = absurd (cc)
    by_first (Some Lower) first named = absurd (cc)

-- ---- texts

-- blanks before a clause are skipped
past : (at : ℕ) (text : List ℕ) → clauses_of at text ≡ clauses_of (at + prefix_len is_blank text) (drop (prefix_len is_blank text) text)
past at [] = ap (λ n. clauses_of n []) (sym (add-zero at))
past at (b ∷ bs) = elim (is_blank b) as (λ v. is_blank b ≡ v → clauses_of at (b ∷ bs) ≡ clauses_of (at + cond v (1 + prefix_len is_blank bs) 0) (drop (cond v (1 + prefix_len is_blank bs) 0) (b ∷ bs))) [
  | true ↦ λ e. clauses_blank at b bs e ∙ past (at + 1) bs ∙ (λ i. clauses_of (one_on at (prefix_len is_blank bs) i) (drop (sym (one-add (prefix_len is_blank bs)) i) (b ∷ bs)))
  | false ↦ λ _. ap (λ n. clauses_of n (b ∷ bs)) (sym (add-zero at))
] refl
  where
    one_on : (n k : ℕ) → n + 1 + k ≡ n + (1 + k)
    one_on n k = omega arith

past_to : (at place : ℕ) (text left : List ℕ) → left ≡ drop (prefix_len is_blank text) text → at + length text ≡ place + length left → clauses_of at text ≡ clauses_of place left
past_to at place text left is places =
    let short = prefix_len-le-length is_blank text in
    let len = ap length is ∙ length-drop (prefix_len is_blank text) text in
    let same : at + prefix_len is_blank text ≡ place = omega arith in
    past at text ∙ (λ i. clauses_of (same i) (sym is i))

-- a clause ends at the next blank
cut_clause : (at : ℕ) (left clause rest : List ℕ) → IsPrefix (λ b. not (is_blank b)) left clause rest → (length left == 0) ≡ false → Stops is_blank left
    → clauses_of at left ≡ record { at = at; bytes = clause } ∷ clauses_of (at + length clause) rest
cut_clause at left (c ∷ cs) rest is some stops = ap (clauses_of at) is.whole ∙ clauses_next at c cs rest is.passes is.stops
cut_clause at [] [] rest is some stops = absurd (cc)
cut_clause at (b ∷ bs) [] rest is some stops =
    let clear : not (is_blank b) ≡ false = subst (Stops (λ c. not (is_blank c))) (sym is.whole) is.stops in
    let no : true ≡ false = sym (ap not stops) ∙ clear in
    absurd (cc)

-- after a clause the next one follows, past blanks
pub next_clause : (total : ℕ) (left clause rest next : List ℕ) → IsPrefix (λ b. not (is_blank b)) left clause rest → (length left == 0) ≡ false → Stops is_blank left
    → next ≡ drop (prefix_len is_blank rest) rest → length left ≤ total
    → clauses_of (total - length left) left ≡ record { at = total - length left; bytes = clause } ∷ clauses_of (total - length next) next
next_clause total left clause rest next is some stops after within =
    let whole = ap length is.whole ∙ length-append clause rest in
    let short = ap length after ∙ length-drop (prefix_len is_blank rest) rest in
    cut_clause (total - length left) left clause rest is some stops
    ∙ ap (λ cs. record { at = total - length left; bytes = clause } ∷ cs) (past_to (total - length left + length clause) (total - length next) rest next after (omega arith))

-- a text of blanks alone is refused
pub no_clause : (text left : List ℕ) → left ≡ drop (prefix_len is_blank text) text → (length left == 0) ≡ true → parse_caps text ≡ Err error.Empty
unfolding parse_caps caps_fault caps_meant clauses_of
no_clause text left is none =
    let empty = nil_from_length left (eqb-true (length left) 0 none) in
    let clauses : clauses_of 0 text ≡ [] = past_to 0 (length text) text left is (omega (arith, ap length empty)) ∙ ap (clauses_of (length text)) empty in
    ap (λ cs. unless_fault (first_fault_or error.Empty clause_fault cs) (fold with_clause no_flags cs)) clauses

-- a text with other bytes than blanks has a first clause
pub first_clause : (text left : List ℕ) → left ≡ drop (prefix_len is_blank text) text → (length left == 0) ≡ false
    → parse_caps text ≡ unless_fault (first_fault clause_fault (clauses_of (length text - length left) left)) (fold with_clause no_flags (clauses_of (length text - length left) left))
unfolding parse_caps caps_fault caps_meant
first_clause text left is some =
    let n = position_or_len is_blank left in
    let prefix = prefix_of (λ b. not (is_blank b)) n left (take n left) (drop n left) refl refl refl in
    let stops = subst (Stops is_blank) (sym is) (after_stops is_blank text) in
    let short = ap length is ∙ length-drop (prefix_len is_blank text) text in
    let place = length text - length left in
    let clauses = past_to 0 place text left is (omega arith) in
    let cons = cut_clause place left (take n left) (drop n left) prefix some stops in
    ap (λ cs. unless_fault (first_fault_or error.Empty clause_fault cs) (fold with_clause no_flags cs)) (clauses ∙ cons)
    ∙ sym (ap (λ cs. unless_fault (first_fault clause_fault cs) (fold with_clause no_flags cs)) cons)

pub no_more : (at : ℕ) (left : List ℕ) (s : CapState) → (length left == 0) ≡ true → parse_clauses (clauses_of at left) s ≡ Ok s
unfolding clauses_of
no_more at left s none = ap (λ (l : List ℕ). parse_clauses (clauses_of at l) s) (nil_from_length left (eqb-true (length left) 0 none))
