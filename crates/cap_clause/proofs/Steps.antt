-- How clauses, lists and actions are read from the left.
use Rattle.std.specs.Prelude.{◌≡◌, ℕ, suc, ◌+◌, ◌==◌, ◌&&◌, not, nat_lt, Bool, true, false, cond, List, [], ◌∷◌, ◌++◌, length, take, Option, None, Some, Result, Ok, Err, fold, filter_map, is_some, refl}
use Rattle.std.proofs.Common.{ap, sym, ◌∙◌, drop, arith, subst, inl, inr}
use Rattle.std.specs.List.{before_first, cons_option, filter, list_all, position_or_len, prefix_len, slice_split, All}
use Rattle.std.specs.Option.{option_map, option_or}
use Rattle.std.proofs.Math.Nat.{add-zero}
use Rattle.std.proofs.Math.Numerals.{one-add}
use Rattle.std.proofs.lemmas.Bool.{and_from, and_parts, cases_Bool, cond-true, cond-false, eqb-true, le-ltb, lt-ltb, not-true, not-false}
use Rattle.std.proofs.lemmas.List.{append-nil, length-append}
use Rattle.std.proofs.lemmas.List.Elements.{All-nil, All-cons}
use Rattle.std.proofs.lemmas.List.Splits.{slice_split_at, slice_split_none}
use Rattle.cap_bits.specs.CapSet.{CapSet, all_of_caps}
use Rattle.cap_bits.specs.declared.state.CapState.{CapState}
use Rattle.fs_path.specs.Split.{Piece, pieces_at}
use Rattle.cap_clause.specs.Clauses.{is_blank, operator_of, is_operator, flag_of, is_flag, has_bytes, clauses_of, pieces_of, first_fault, first_fault_or, unless_fault, piece_fault, caps_listed, Action, actions_in, needs_flag, action_fault, with_action, after_operator, first_operator, list_in, actions_fault, clause_fault_by, clause_fault, with_clause}
use Rattle.cap_clause.specs.Reading.{parse_actions, parse_clause}
use Rattle.cap_clause.specs.declared.action.Operator.{Operator}
use Rattle.cap_clause.specs.declared.action.Operator.TheVariants.{Assign, Raise, Lower}
use Rattle.cap_clause.specs.declared.error.CapTextError.{CapTextError}
use Rattle.cap_clause.specs.declared.error.CapTextError.TheVariants as error

-- ---- items one after another

-- where the first item has no fault, its step is made
pub item_fine : {X V : Type 0} (fault : X → Option CapTextError) (step : V → X → V) (v : V) (x : X) (xs : List X) → fault x ≡ None
    → unless_fault (first_fault fault (x ∷ xs)) (fold step v (x ∷ xs)) ≡ unless_fault (first_fault fault xs) (fold step (step v x) xs)
item_fine fault step v x xs fine = ap (λ (o : Option CapTextError). unless_fault (option_or o (first_fault fault xs)) (fold step (step v x) xs)) fine

-- where the first item has a fault, that is the result
pub item_fault : {X V : Type 0} (fault : X → Option CapTextError) (step : V → X → V) (v : V) (x : X) (xs : List X) (e : CapTextError) → fault x ≡ Some e
    → unless_fault (first_fault fault (x ∷ xs)) (fold step v (x ∷ xs)) ≡ Err e
item_fault fault step v x xs e wrong = ap (λ (o : Option CapTextError). unless_fault (option_or o (first_fault fault xs)) (fold step (step v x) xs)) wrong

-- ---- prefixes of bytes

-- bytes that are empty, or begin with one that fails a test
abbrev pub Stops : (ℕ → Bool) → List ℕ → Type 0
Stops p [] = Unit {0}
Stops p (b ∷ bs) = p b ≡ false

pub prefix_passes : (p : ℕ → Bool) (bs : List ℕ) → list_all p (take (prefix_len p bs) bs) ≡ true
prefix_passes p [] = refl
prefix_passes p (b ∷ bs) = elim (p b) as (λ v. p b ≡ v → list_all p (take (cond v (1 + prefix_len p bs) 0) (b ∷ bs)) ≡ true)
    [ true ↦ λ e. ap (λ n. list_all p (take n (b ∷ bs))) (one-add (prefix_len p bs)) ∙ and_from (p b) _ e (prefix_passes p bs) | false ↦ λ _. refl ] refl

pub after_stops : (p : ℕ → Bool) (bs : List ℕ) → Stops p (drop (prefix_len p bs) bs)
after_stops p [] = tt
after_stops p (b ∷ bs) = elim (p b) as (λ v. p b ≡ v → Stops p (drop (cond v (1 + prefix_len p bs) 0) (b ∷ bs)))
    [ true ↦ λ e. let next = one-add (prefix_len p bs) in rw next (after_stops p bs) | false ↦ λ e. e ] refl

-- a prefix that passes a test is the longest such prefix where the rest stops
pub len_of_prefix : (p : ℕ → Bool) (prefix rest : List ℕ) → list_all p prefix ≡ true → Stops p rest → prefix_len p (prefix ++ rest) ≡ length prefix
len_of_prefix p [] [] all stops = refl
len_of_prefix p [] (b ∷ bs) all stops = cond-false (p b) _ _ stops
len_of_prefix p (b ∷ bs) rest all stops =
    let parts = and_parts (p b) (list_all p bs) all in
    cond-true (p b) _ _ parts.0 ∙ ap (λ n. 1 + n) (len_of_prefix p bs rest parts.1 stops) ∙ one-add (length bs)

-- bytes that all fail a test, in terms of `All`
pub without : (p : ℕ → Bool) (bs : List ℕ) → list_all (λ b. not (p b)) bs ≡ true → All (λ b. p b ≡ false) bs
without p [] all = All-nil (λ b. p b ≡ false)
without p (b ∷ bs) all =
    let parts = and_parts (not (p b)) (list_all (λ c. not (p c)) bs) all in
    All-cons (λ b. p b ≡ false) b bs (not-true (p b) parts.0) (without p bs parts.1)

-- ---- clauses

-- a blank at the start of a text is skipped
pub clauses_blank : (at b : ℕ) (bs : List ℕ) → is_blank b ≡ true → clauses_of at (b ∷ bs) ≡ clauses_of (at + 1) bs
unfolding clauses_of
clauses_blank at b bs blank = ap (λ (ps : List (List ℕ)). filter has_bytes (pieces_at at ps)) (cond-true (is_blank b) _ _ blank) ∙ ap (λ n. filter has_bytes (pieces_at (n + 1) (slice_split is_blank bs))) (add-zero at)

-- the bytes before the first blank are a clause
pub clauses_next : (at b : ℕ) (bs rest : List ℕ) → list_all (λ c. not (is_blank c)) (b ∷ bs) ≡ true → Stops (λ c. not (is_blank c)) rest
    → clauses_of at ((b ∷ bs) ++ rest) ≡ record { at = at; bytes = b ∷ bs } ∷ clauses_of (at + length (b ∷ bs)) rest
unfolding clauses_of
clauses_next at b bs [] all stops = ap (λ (ps : List (List ℕ)). filter has_bytes (pieces_at at ps)) (ap (slice_split is_blank) (append-nil (b ∷ bs)) ∙ slice_split_none is_blank (b ∷ bs) (without is_blank (b ∷ bs) all))
clauses_next at b bs (r ∷ rs) all stops =
    ap (λ (ps : List (List ℕ)). filter has_bytes (pieces_at at ps)) (slice_split_at is_blank (b ∷ bs) r rs (without is_blank (b ∷ bs) all) blank)
    ∙ ap (λ cs. record { at = at; bytes = b ∷ bs } ∷ cs) (sym (clauses_blank (at + length (b ∷ bs)) r rs blank))
  where
    blank : is_blank r ≡ true
    blank = not-false (is_blank r) stops

-- ---- tests of bytes

pub all_weaker : {X : Type 0} (p q : X → Bool) (xs : List X) → ((x : X) → p x ≡ true → q x ≡ true) → list_all p xs ≡ true → list_all q xs ≡ true
all_weaker p q [] weaker all = refl
all_weaker p q (x ∷ xs) weaker all =
    let parts = and_parts (p x) (list_all p xs) all in
    and_from (q x) (list_all q xs) (weaker x parts.0) (all_weaker p q xs weaker parts.1)

-- no flag is an operator
pub flag_apart : (b : ℕ) → is_flag b ≡ true → not (is_operator b) ≡ true
flag_apart b flag = elim (cases_Bool (b == 101)) [
  | inl e ↦ same 101 e refl
  | inr no_e ↦ elim (cases_Bool (b == 105)) [
    | inl i ↦ same 105 i refl
    | inr no_i ↦ elim (cases_Bool (b == 112)) [ inl p ↦ same 112 p refl | inr no_p ↦ absurd (none no_e no_i no_p) ]
  ]
]
  where
    same : (n : ℕ) → (b == n) ≡ true → not (is_operator n) ≡ true → not (is_operator b) ≡ true
    same n e h = subst (λ k. not (is_operator k) ≡ true) (sym (eqb-true b n e)) h

    none : (b == 101) ≡ false → (b == 105) ≡ false → (b == 112) ≡ false → ⊥
    none no_e no_i no_p =
        let is : flag_of b ≡ None = cond-false (b == 101) _ _ no_e ∙ cond-false (b == 105) _ _ no_i ∙ cond-false (b == 112) _ _ no_p in
        let no : false ≡ true = sym (ap is_some is) ∙ flag in
        cc

none_there : {T : Type 0} (o : Option T) → not (is_some o) ≡ true → o ≡ None
none_there None e = refl
none_there (Some x) e = cc

-- ---- actions

-- the actions that begin at a byte, by the operator that it is, if any
abbrev actions_by : ℕ → List ℕ → Option Operator → List Action
actions_by at bs o = cons_option (option_map (λ operator. record { at = at; operator = operator; rest = before_first is_operator bs }) o) (actions_in (at + 1) bs)

-- bytes before an operator begin no action
pub actions_after : (at : ℕ) (prefix rest : List ℕ) → list_all (λ b. not (is_operator b)) prefix ≡ true → actions_in at (prefix ++ rest) ≡ actions_in (at + length prefix) rest
actions_after at [] rest none = ap (λ n. actions_in n rest) (sym (add-zero at))
actions_after at (b ∷ bs) rest none =
    let parts = and_parts (not (is_operator b)) (list_all (λ c. not (is_operator c)) bs) none in
    ap (actions_by at (bs ++ rest)) (none_there (operator_of b) parts.0)
    ∙ actions_after (at + 1) bs rest parts.1 ∙ ap (λ n. actions_in n rest) (one_on at (length bs))
  where
    one_on : (n k : ℕ) → n + 1 + k ≡ n + suc k
    one_on n k = omega arith

before_more : (p : ℕ → Bool) (prefix rest : List ℕ) → list_all (λ b. not (p b)) prefix ≡ true → before_first p (prefix ++ rest) ≡ prefix ++ before_first p rest
before_more p [] rest none = refl
before_more p (b ∷ bs) rest none =
    let parts = and_parts (not (p b)) (list_all (λ c. not (p c)) bs) none in
    ap (λ n. take n (b ∷ (bs ++ rest))) (cond-true (not (p b)) _ 0 parts.0 ∙ one-add (position_or_len p (bs ++ rest))) ∙ ap (λ cs. b ∷ cs) (before_more p bs rest parts.1)

before_stops : (p q : ℕ → Bool) (bs : List ℕ) → Stops q bs → Stops q (before_first p bs)
before_stops p q [] stops = tt
before_stops p q (b ∷ bs) stops = elim (not (p b)) as (λ v. Stops q (take (cond v (1 + position_or_len p bs) 0) (b ∷ bs)))
    [ true ↦ let next = one-add (position_or_len p bs) in rw next stops | false ↦ tt ]

flags_apart : (flags : List ℕ) → list_all is_flag flags ≡ true → list_all (λ b. not (is_operator b)) flags ≡ true
flags_apart flags all = all_weaker is_flag (λ b. not (is_operator b)) flags flag_apart all

-- an action of an operator and flags, with the bytes up to the next operator
abbrev first_action : ℕ → Operator → List ℕ → List ℕ → Action
first_action at operator flags rest = record { at = at; operator = operator; rest = flags ++ before_first is_operator rest }

-- an operator and flags after it begin an action
pub actions_next : (at b : ℕ) (operator : Operator) (flags rest : List ℕ) → operator_of b ≡ Some operator → list_all is_flag flags ≡ true
    → actions_in at (b ∷ flags ++ rest) ≡ first_action at operator flags rest ∷ actions_in (at + 1 + length flags) rest
actions_next at b operator flags rest is all =
    ap (actions_by at (flags ++ rest)) is
    ∙ (λ i. record { at = at; operator = operator; rest = before_more is_operator flags rest (flags_apart flags all) i } ∷ actions_after (at + 1) flags rest (flags_apart flags all) i)

-- the fault of an action of which the flags are known
abbrev fault_after : ℕ → Operator → ℕ → ℕ → Option CapTextError
fault_after at operator count len =
    cond (needs_flag operator && count == 0) (Some (error.NoFlag (at + 1)))
    (cond (nat_lt count len) (Some (error.NoOperator (at + 1 + count))) None)

fault_is : (at : ℕ) (operator : Operator) (flags rest : List ℕ) → list_all is_flag flags ≡ true → Stops is_flag rest
    → action_fault (first_action at operator flags rest) ≡ fault_after at operator (length flags) (length flags + length (before_first is_operator rest))
fault_is at operator flags rest all stops =
    (λ i. fault_after at operator (len_of_prefix is_flag flags (before_first is_operator rest) all (before_stops is_operator is_flag rest stops) i) (length-append flags (before_first is_operator rest) i))

parsed_some : (at : ℕ) (caps : CapSet) (b : ℕ) (bs : List ℕ) (s : CapState) (operator : Operator) → operator_of b ≡ Some operator
    → parse_actions at caps (b ∷ bs) s ≡ unless_fault (first_fault action_fault (actions_in at (b ∷ bs))) (fold (with_action caps) s (actions_in at (b ∷ bs)))
unfolding parse_actions
parsed_some at caps b bs s operator is = cond-true _ _ _ (ap (λ (o : Option Operator). is_some o) is)

begins : (at b : ℕ) (caps : CapSet) (operator : Operator) (flags rest : List ℕ) (s : CapState) → operator_of b ≡ Some operator → list_all is_flag flags ≡ true
    → parse_actions at caps (b ∷ flags ++ rest) s ≡ unless_fault (first_fault action_fault (first_action at operator flags rest ∷ actions_in (at + 1 + length flags) rest))
    (fold (with_action caps) s (first_action at operator flags rest ∷ actions_in (at + 1 + length flags) rest))
begins at b caps operator flags rest s is all =
    parsed_some at caps b (flags ++ rest) s operator is
    ∙ ap (λ more. unless_fault (first_fault action_fault more) (fold (with_action caps) s more)) (actions_next at b operator flags rest is all)

-- bytes that do not begin with an operator are refused
pub parsed_none : (at : ℕ) (caps : CapSet) (actions : List ℕ) (s : CapState) → first_operator actions ≡ None → parse_actions at caps actions s ≡ Err (error.NoOperator at)
unfolding parse_actions
parsed_none at caps actions s none = cond-false _ _ _ (ap (λ (o : Option Operator). is_some o) none)

-- an operator without a flag that it needs is refused
pub parsed_no_flag : (at b : ℕ) (caps : CapSet) (operator : Operator) (flags rest : List ℕ) (s : CapState) → operator_of b ≡ Some operator → list_all is_flag flags ≡ true → Stops is_flag rest
    → (needs_flag operator && length flags == 0) ≡ true → parse_actions at caps (b ∷ flags ++ rest) s ≡ Err (error.NoFlag (at + 1))
parsed_no_flag at b caps operator flags rest s is all stops missing =
    begins at b caps operator flags rest s is all
    ∙ item_fault action_fault (with_action caps) s (first_action at operator flags rest) (actions_in (at + 1 + length flags) rest) (error.NoFlag (at + 1))
    (fault_is at operator flags rest all stops ∙ cond-true _ _ _ missing)

-- the state after the bytes that follow an action: none, or further actions from a place on
abbrev pub parsed_rest : ℕ → CapSet → List ℕ → CapState → Result CapState CapTextError
parsed_rest at caps [] s = Ok s
parsed_rest at caps (r ∷ rs) s = parse_actions at caps (r ∷ rs) s

fine_after : (at count : ℕ) (operator : Operator) → (needs_flag operator && count == 0) ≡ false → fault_after at operator count (count + 0) ≡ None
fine_after at count operator enough = cond-false (needs_flag operator && count == 0) _ _ enough ∙ cond-false (nat_lt count (count + 0)) _ _ (le-ltb count (count + 0) (omega arith))

wrong_after : (at count more : ℕ) (operator : Operator) → (needs_flag operator && count == 0) ≡ false → fault_after at operator count (count + suc more) ≡ Some (error.NoOperator (at + 1 + count))
wrong_after at count more operator enough = cond-false (needs_flag operator && count == 0) _ _ enough ∙ cond-true (nat_lt count (count + suc more)) _ _ (lt-ltb count (count + suc more) (omega arith))

-- an action changes the state, and the rest follows
pub parsed_next : (at b : ℕ) (caps : CapSet) (operator : Operator) (flags rest : List ℕ) (s : CapState) → operator_of b ≡ Some operator → list_all is_flag flags ≡ true → Stops is_flag rest
    → (needs_flag operator && length flags == 0) ≡ false
    → parse_actions at caps (b ∷ flags ++ rest) s ≡ parsed_rest (at + 1 + length flags) caps rest (after_operator caps operator (filter_map flag_of flags) s)
parsed_next at b caps operator flags [] s is all stops enough =
    begins at b caps operator flags [] s is all
    ∙ item_fine action_fault (with_action caps) s (first_action at operator flags []) [] (fault_is at operator flags [] all stops ∙ fine_after at (length flags) operator enough)
    ∙ ap (λ (rest : List ℕ). Ok (after_operator caps operator (filter_map flag_of rest) s)) (append-nil flags)
parsed_next at b caps operator flags (r ∷ rs) s is all stops enough = by_rest (operator_of r) refl
  where
    prefix : (o : Option Operator) → operator_of r ≡ o → before_first is_operator (r ∷ rs) ≡ take (cond (not (is_some o)) (1 + position_or_len is_operator rs) 0) (r ∷ rs)
    prefix o is = ap (λ (o : Option Operator). take (cond (not (is_some o)) (1 + position_or_len is_operator rs) 0) (r ∷ rs)) is

    by_rest : (o : Option Operator) → operator_of r ≡ o → parse_actions at caps (b ∷ flags ++ r ∷ rs) s ≡ parse_actions (at + 1 + length flags) caps (r ∷ rs) (after_operator caps operator (filter_map flag_of flags) s)
    by_rest None none =
        let more : length (before_first is_operator (r ∷ rs)) ≡ suc (length (take (position_or_len is_operator rs) rs)) =
        ap length (prefix None none) ∙ ap (λ n. length (take n (r ∷ rs))) (one-add (position_or_len is_operator rs)) in
        begins at b caps operator flags (r ∷ rs) s is all
        ∙ item_fault action_fault (with_action caps) s (first_action at operator flags (r ∷ rs)) (actions_in (at + 1 + length flags) (r ∷ rs)) (error.NoOperator (at + 1 + length flags))
        (fault_is at operator flags (r ∷ rs) all stops ∙ ap (λ n. fault_after at operator (length flags) (length flags + n)) more ∙ wrong_after at (length flags) (length (take (position_or_len is_operator rs) rs)) operator enough)
        ∙ sym (parsed_none (at + 1 + length flags) caps (r ∷ rs) (after_operator caps operator (filter_map flag_of flags) s) none)
    by_rest (Some other) found =
        begins at b caps operator flags (r ∷ rs) s is all
        ∙ item_fine action_fault (with_action caps) s (first_action at operator flags (r ∷ rs)) (actions_in (at + 1 + length flags) (r ∷ rs))
        (fault_is at operator flags (r ∷ rs) all stops ∙ ap (λ (f : List ℕ). fault_after at operator (length flags) (length flags + length f)) (prefix (Some other) found) ∙ fine_after at (length flags) operator enough)
        ∙ ap (λ (rest : List ℕ). unless_fault (first_fault action_fault (actions_in (at + 1 + length flags) (r ∷ rs))) (fold (with_action caps) (after_operator caps operator (filter_map flag_of rest) s) (actions_in (at + 1 + length flags) (r ∷ rs))))
        (ap (λ (f : List ℕ). flags ++ f) (prefix (Some other) found) ∙ append-nil flags)
        ∙ sym (parsed_some (at + 1 + length flags) caps r rs (after_operator caps operator (filter_map flag_of flags) s) other found)

-- ---- a clause

-- bytes that begin with an operator have an action
one_at_least : (missing : CapTextError) (at b : ℕ) (bs : List ℕ) (operator : Operator) → operator_of b ≡ Some operator
    → first_fault_or missing action_fault (actions_in at (b ∷ bs)) ≡ first_fault action_fault (actions_in at (b ∷ bs))
one_at_least missing at b bs operator is =
    ap (λ (o : Option Operator). first_fault_or missing action_fault (actions_by at bs o)) is
    ∙ sym (ap (λ (o : Option Operator). first_fault action_fault (actions_by at bs o)) is)

-- the state after a clause's actions, of which there must be one
abbrev actions_meant : Piece → CapSet → CapState → Result CapState CapTextError
actions_meant clause caps s = unless_fault (actions_fault clause) (fold (with_action caps) s (actions_in clause.at clause.bytes))

meant_after : (at : ℕ) (caps : CapSet) (list actions : List ℕ) (s : CapState) → list_all (λ b. not (is_operator b)) list ≡ true → Stops (λ b. not (is_operator b)) actions
    → actions_meant (record { at = at; bytes = list ++ actions }) caps s ≡ parse_actions (at + length list) caps actions s
meant_after at caps list [] s none stops =
    ap (λ more. unless_fault (first_fault_or (error.NoOperator (at + length (list ++ []))) action_fault more) (fold (with_action caps) s more)) (actions_after at list [] none)
    ∙ ap (λ (l : List ℕ). Err (error.NoOperator (at + length l))) (append-nil list)
    ∙ sym (parsed_none (at + length list) caps [] s refl)
meant_after at caps list (b ∷ bs) s none stops =
    ap (λ more. unless_fault (first_fault_or (error.NoOperator (at + length (list ++ b ∷ bs))) action_fault more) (fold (with_action caps) s more)) (actions_after at list (b ∷ bs) none)
    ∙ by_operator (operator_of b) refl (not-false (is_operator b) stops)
  where
    by_operator : (o : Option Operator) → operator_of b ≡ o → is_some o ≡ true
        → unless_fault (first_fault_or (error.NoOperator (at + length (list ++ b ∷ bs))) action_fault (actions_in (at + length list) (b ∷ bs))) (fold (with_action caps) s (actions_in (at + length list) (b ∷ bs)))
        ≡ parse_actions (at + length list) caps (b ∷ bs) s
    by_operator None is some = absurd (cc)
    by_operator (Some operator) is some =
        ap (λ (f : Option CapTextError). unless_fault f (fold (with_action caps) s (actions_in (at + length list) (b ∷ bs)))) (one_at_least (error.NoOperator (at + length (list ++ b ∷ bs))) (at + length list) b bs operator is)
        ∙ sym (parsed_some (at + length list) caps b bs s operator is)

before_none : (b : ℕ) (bs : List ℕ) → not (is_operator b) ≡ false → before_first is_operator (b ∷ bs) ≡ []
before_none b bs is = ap (λ v. take (cond v (1 + position_or_len is_operator bs) 0) (b ∷ bs)) is

list_is : (list actions : List ℕ) → list_all (λ b. not (is_operator b)) list ≡ true → Stops (λ b. not (is_operator b)) actions → before_first is_operator (list ++ actions) ≡ list
list_is list [] none stops = before_more is_operator list [] none ∙ append-nil list
list_is list (b ∷ bs) none stops = before_more is_operator list (b ∷ bs) none ∙ ap (λ (l : List ℕ). list ++ l) (before_none b bs stops) ∙ append-nil list

-- a clause that begins with `+` or `-` is refused
pub clause_unnamed : (at : ℕ) (bytes : List ℕ) (s : CapState) (operator : Operator) → first_operator bytes ≡ Some operator → needs_flag operator ≡ true
    → parse_clause s (record { at = at; bytes = bytes }) ≡ Err (error.NoNames at)
unfolding parse_clause clause_fault
clause_unnamed at bytes s Assign is needs = absurd (cc)
clause_unnamed at bytes s Raise is needs = ap (λ (o : Option Operator). unless_fault (clause_fault_by o (record { at = at; bytes = bytes })) (with_clause s (record { at = at; bytes = bytes }))) is
clause_unnamed at bytes s Lower is needs = ap (λ (o : Option Operator). unless_fault (clause_fault_by o (record { at = at; bytes = bytes })) (with_clause s (record { at = at; bytes = bytes }))) is

-- a clause that begins with `=` does its actions on all capabilities
pub clause_for_all : (at : ℕ) (actions : List ℕ) (s : CapState) → first_operator actions ≡ Some Assign
    → parse_clause s (record { at = at; bytes = actions }) ≡ parse_actions at all_of_caps actions s
unfolding parse_clause clause_fault with_clause
clause_for_all at [] s is = absurd (cc)
clause_for_all at (b ∷ bs) s is =
    ap (λ (o : Option Operator). unless_fault (clause_fault_by o (record { at = at; bytes = b ∷ bs })) (fold (with_action (cond (is_some o) all_of_caps (caps_listed (list_in (record { at = at; bytes = b ∷ bs }))))) s (actions_in at (b ∷ bs)))) is
    ∙ meant_after at all_of_caps [] (b ∷ bs) s refl (ap (λ (o : Option Operator). not (is_some o)) is)
    ∙ ap (λ n. parse_actions n all_of_caps (b ∷ bs) s) (add-zero at)

listed_by : (at : ℕ) (list actions : List ℕ) (s : CapState) → list_all (λ b. not (is_operator b)) list ≡ true → Stops (λ b. not (is_operator b)) actions → first_operator (list ++ actions) ≡ None
    → parse_clause s (record { at = at; bytes = list ++ actions })
    ≡ unless_fault (option_or (first_fault piece_fault (pieces_of at list)) (actions_fault (record { at = at; bytes = list ++ actions }))) (fold (with_action (caps_listed (pieces_of at list))) s (actions_in at (list ++ actions)))
unfolding parse_clause clause_fault with_clause
listed_by at list actions s none stops first =
    ap (λ (o : Option Operator). unless_fault (clause_fault_by o (record { at = at; bytes = list ++ actions })) (fold (with_action (cond (is_some o) all_of_caps (caps_listed (list_in (record { at = at; bytes = list ++ actions }))))) s (actions_in at (list ++ actions)))) first
    ∙ ap (λ (l : List ℕ). unless_fault (option_or (first_fault piece_fault (pieces_of at l)) (actions_fault (record { at = at; bytes = list ++ actions }))) (fold (with_action (caps_listed (pieces_of at l))) s (actions_in at (list ++ actions)))) (list_is list actions none stops)

-- a clause with an unknown name is refused
pub clause_unknown : (at : ℕ) (list actions : List ℕ) (s : CapState) (e : CapTextError) → list_all (λ b. not (is_operator b)) list ≡ true → Stops (λ b. not (is_operator b)) actions
    → first_operator (list ++ actions) ≡ None → first_fault piece_fault (pieces_of at list) ≡ Some e
    → parse_clause s (record { at = at; bytes = list ++ actions }) ≡ Err e
clause_unknown at list actions s e none stops first unknown =
    listed_by at list actions s none stops first
    ∙ ap (λ (f : Option CapTextError). unless_fault (option_or f (actions_fault (record { at = at; bytes = list ++ actions }))) (fold (with_action (caps_listed (pieces_of at list))) s (actions_in at (list ++ actions)))) unknown

-- a clause with a list of names does its actions on these
pub clause_listed : (at : ℕ) (list actions : List ℕ) (s : CapState) → list_all (λ b. not (is_operator b)) list ≡ true → Stops (λ b. not (is_operator b)) actions
    → first_operator (list ++ actions) ≡ None → first_fault piece_fault (pieces_of at list) ≡ None
    → parse_clause s (record { at = at; bytes = list ++ actions }) ≡ parse_actions (at + length list) (caps_listed (pieces_of at list)) actions s
clause_listed at list actions s none stops first known =
    listed_by at list actions s none stops first
    ∙ ap (λ (f : Option CapTextError). unless_fault (option_or f (actions_fault (record { at = at; bytes = list ++ actions }))) (fold (with_action (caps_listed (pieces_of at list))) s (actions_in at (list ++ actions)))) known
    ∙ meant_after at (caps_listed (pieces_of at list)) list actions s none stops

-- ---- clauses one after another

-- where a value is returned, there is no fault
pub no_fault_in : {V : Type 0} (f : Option CapTextError) (v w : V) → unless_fault f v ≡ Ok w → (f ≡ None) × (v ≡ w)
no_fault_in None v w e = (refl, cc)
no_fault_in (Some e) v w is = absurd (cc)

pub fault_in : {V : Type 0} (f : Option CapTextError) (v : V) (e : CapTextError) → unless_fault f v ≡ Err e → f ≡ Some e
fault_in None v e is = absurd (cc)
fault_in (Some f) v e is = cc

-- the state after clauses, one after another
abbrev pub parse_clauses : List Piece → CapState → Result CapState CapTextError
parse_clauses clauses s = unless_fault (first_fault clause_fault clauses) (fold with_clause s clauses)

pub clause_taken : (clause : Piece) (clauses : List Piece) (s after : CapState) → parse_clause s clause ≡ Ok after → parse_clauses (clause ∷ clauses) s ≡ parse_clauses clauses after
unfolding parse_clause
clause_taken clause clauses s after is =
    let fine = no_fault_in _ _ after is in
    item_fine clause_fault with_clause s clause clauses fine.0 ∙ ap (parse_clauses clauses) fine.1

pub clause_refused : (clause : Piece) (clauses : List Piece) (s : CapState) (e : CapTextError) → parse_clause s clause ≡ Err e → parse_clauses (clause ∷ clauses) s ≡ Err e
unfolding parse_clause
clause_refused clause clauses s e is = item_fault clause_fault with_clause s clause clauses e (fault_in _ _ e is)
