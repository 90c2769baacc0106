-- Texts that are written piece by piece.
use Rattle.std.proofs.Common.{◌≡◌, ◌≢◌, ℕ, ◌+◌, ◌<◌, ◌≤◌, Bool, true, false, cond, List, [], ◌∷◌, ◌++◌, length, drop, map, refl, sym, ◌∙◌, ap, arith, zero, suc, inl, inr, subst}
use Rattle.std.specs.Prelude.{not, ◌&&◌, ◌||◌, ◌==◌, nat_lt, Option, None, Some, MatchOption}
use Rattle.std.specs.Bool.{beq}
use Rattle.std.specs.List.{filter, find, join_with_byte, list_any}
use Rattle.std.proofs.Math.Bool.{and-true, and-false}
use Rattle.std.proofs.lemmas.Bool.{and_from, and_left, and_parts, and_right, cases_lt, cond-false, cond-true, cond_above, cond_below, eqb-true, false_from_ne_true, lt-ltb, ltb-true, or_from}
use Rattle.std.proofs.lemmas.List.{append-nil, append_assoc, drop_more, drop_all, length-append, nil_from_length}
use Rattle.cap_bits.specs.Cap.{cap_number, cap_name, all_caps, cap_at, cap_at-number}
use Rattle.cap_bits.proofs.Caps.{few_caps}
use Rattle.cap_bits.specs.CapSet.{CapSet, has, no_caps, without_cap, same_cap, same_sets, union_of, minus_of}
use Rattle.cap_bits.specs.Laws.{same_caps, same_number, same_sets-decides}
use Rattle.cap_bits.proofs.CapSets.{same_cap-decides, has-no_caps, has-without_cap, has-union_of, has-minus_of}
use Rattle.cap_bits.specs.State.{has_flag}
use Rattle.cap_bits.specs.declared.cap.Cap.{Cap}
use Rattle.cap_bits.specs.declared.cap.Cap.TheVariants.{Chown}
use Rattle.cap_bits.specs.declared.state.CapState.{CapState}
use Rattle.cap_bits.specs.declared.state.Flag.TheVariants.{Effective, Inheritable, Permitted}
use Rattle.cap_clause.specs.Clauses.{are_some, all_flags}
use Rattle.cap_clause.proofs.Groups.{flags_same, same_from, has-group_of, every_cap, any_kept, earlier, is_first_from}
use Rattle.cap_clause.proofs.WrittenRoundTrip.{clause_some}
use Rattle.cap_clause.specs.Written.{caps_of, same_flags, group_of, is_first, firsts_of, group_text, clauses_text, caps_text}

-- ---- pieces

-- pieces with a mark before the first, and a byte before each further one
abbrev after : List ℕ → ℕ → List (List ℕ) → List ℕ
after mark c [] = []
after mark c (x ∷ xs) = mark ++ x ++ after (c ∷ []) c xs

after_nothing : (c : ℕ) (pieces : List (List ℕ)) → after [] c pieces ≡ join_with_byte c pieces
after_nothing c [] = refl
after_nothing c (x ∷ []) = append-nil x
after_nothing c (x ∷ y ∷ ys) = ap (λ (t : List ℕ). x ++ c ∷ t) (after_nothing c (y ∷ ys))

-- after a mark and a piece were written, the rest makes the whole
piece_written : (old marked new mark piece rest prefix whole : List ℕ) → marked ≡ old ++ mark → new ≡ marked ++ piece → prefix ≡ mark ++ piece ++ rest → old ++ prefix ≡ whole → new ++ rest ≡ whole
piece_written old marked new mark piece rest prefix whole mark_is new_is next all =
    ap (λ (t : List ℕ). t ++ rest) (new_is ∙ ap (λ (t : List ℕ). t ++ piece) mark_is) ∙ append_assoc (old ++ mark) piece rest ∙ append_assoc old mark (piece ++ rest)
    ∙ ap (λ (t : List ℕ). old ++ t) (sym (append_assoc mark piece rest)) ∙ ap (λ (t : List ℕ). old ++ t) (sym next) ∙ all

-- ---- the capabilities from a number on

caps_from : (cap : Cap) (n : ℕ) → cap_number cap ≡ n → drop n all_caps ≡ cap ∷ drop (n + 1) all_caps
caps_from cap n is =
    let small = few_caps cap in
    drop_more all_caps n Chown (omega arith) ∙ ap (λ c. c ∷ drop (n + 1) all_caps) (ap cap_at (sym is) ∙ cap_at-number cap)

no_more_caps : (n : ℕ) → 17 < n → drop n all_caps ≡ []
no_more_caps n past = drop_all n all_caps (omega arith)

-- the numbers of capabilities count up from k
abbrev count_up : ℕ → List Cap → Bool
count_up k [] = true
count_up k (c ∷ cs) = (cap_number c == k) && count_up (k + 1) cs

-- where no capability from a number on passes a test, none from that number on is kept
none_kept : (p : Cap → Bool) (k n : ℕ) (cs : List Cap) → count_up k cs ≡ true → ((q : Cap) → k + n ≤ cap_number q → p q ≡ false) → filter p (drop n cs) ≡ []
none_kept p k zero [] up none = refl
none_kept p k (suc n) [] up none = refl
none_kept p k zero (c ∷ cs) up none =
    let parts = and_parts (cap_number c == k) (count_up (k + 1) cs) up in
    let here = eqb-true (cap_number c) k parts.0 in
    ap (λ v. cond v (c ∷ filter p cs) (filter p cs)) (none c (omega arith)) ∙ none_kept p (k + 1) zero cs parts.1 (λ q past. none q (omega arith))
none_kept p k (suc n) (c ∷ cs) up none =
    none_kept p (k + 1) n cs (and_parts (cap_number c == k) (count_up (k + 1) cs) up).1 (λ q past. none q (omega arith))

-- the set with no capability has none
none_in : (left empty : CapSet) (q : Cap) → empty ≡ no_caps → same_sets left empty ≡ true → has left q ≡ false
none_in left empty q is same = ap (λ (caps : CapSet). has caps q) ((same_sets-decides left empty).0 same ∙ is) ∙ has-no_caps q

-- the names of a set's capabilities from a number on, the first after a mark and each further one after a comma
unfoldable pub names_from : List ℕ → CapSet → ℕ → List ℕ
names_from mark caps n = after mark 44 (map cap_name (filter (has caps) (drop n all_caps)))

names_all : (caps : CapSet) → names_from [] caps 0 ≡ join_with_byte 44 (map cap_name (caps_of caps))
unfolding names_from caps_of
names_all caps = after_nothing 44 (map cap_name (filter (has caps) all_caps))

names_there : (mark : List ℕ) (caps : CapSet) (cap : Cap) (n : ℕ) → cap_number cap ≡ n → has caps cap ≡ true → names_from mark caps n ≡ mark ++ cap_name cap ++ names_from (44 ∷ []) caps (n + 1)
unfolding names_from
names_there mark caps cap n is there =
    ap (λ (cs : List Cap). after mark 44 (map cap_name (filter (has caps) cs))) (caps_from cap n is)
    ∙ ap (λ v. after mark 44 (map cap_name (cond v (cap ∷ filter (has caps) (drop (n + 1) all_caps)) (filter (has caps) (drop (n + 1) all_caps))))) there

names_absent : (mark : List ℕ) (caps : CapSet) (cap : Cap) (n : ℕ) → cap_number cap ≡ n → has caps cap ≡ false → names_from mark caps n ≡ names_from mark caps (n + 1)
unfolding names_from
names_absent mark caps cap n is absent =
    ap (λ (cs : List Cap). after mark 44 (map cap_name (filter (has caps) cs))) (caps_from cap n is)
    ∙ ap (λ v. after mark 44 (map cap_name (cond v (cap ∷ filter (has caps) (drop (n + 1) all_caps)) (filter (has caps) (drop (n + 1) all_caps))))) absent

pub names_end : (mark : List ℕ) (caps : CapSet) (n : ℕ) → 17 < n → names_from mark caps n ≡ []
unfolding names_from
names_end mark caps n past = ap (λ (cs : List Cap). after mark 44 (map cap_name (filter (has caps) cs))) (no_more_caps n past)

-- the name of a capability in the set is written, and then the names after it
pub name_written : (old marked new mark name whole : List ℕ) (caps : CapSet) (cap : Cap) (n : ℕ) → cap_number cap ≡ n → has caps cap ≡ true → name ≡ cap_name cap → marked ≡ old ++ mark → new ≡ marked ++ name
    → old ++ names_from mark caps n ≡ whole → new ++ names_from (44 ∷ []) caps (n + 1) ≡ whole
name_written old marked new mark name whole caps cap n is there name_is mark_is new_is so_far =
    piece_written old marked new mark (cap_name cap) (names_from (44 ∷ []) caps (n + 1)) (names_from mark caps n) whole mark_is (new_is ∙ ap (λ (t : List ℕ). marked ++ t) name_is) (names_there mark caps cap n is there) so_far

-- a capability that is not in the set is passed over
pub name_passed : (old mark whole : List ℕ) (caps : CapSet) (cap : Cap) (n : ℕ) → cap_number cap ≡ n → has caps cap ≡ false
    → old ++ names_from mark caps n ≡ whole → old ++ names_from mark caps (n + 1) ≡ whole
name_passed old mark whole caps cap n is absent so_far = ap (λ (t : List ℕ). old ++ t) (sym (names_absent mark caps cap n is absent)) ∙ so_far

-- where none of the set's capabilities from a number on is left, there are no more names
pub names_none : (mark : List ℕ) (caps left empty : CapSet) (n : ℕ) → ((q : Cap) → n ≤ cap_number q → has left q ≡ has caps q) → empty ≡ no_caps → same_sets left empty ≡ true → names_from mark caps n ≡ []
unfolding names_from
names_none mark caps left empty n so_far is none =
    ap (λ (cs : List Cap). after mark 44 (map cap_name cs)) (none_kept (has caps) 0 n all_caps refl (λ q past. sym (so_far q (omega arith)) ∙ none_in left empty q is none))

-- a capability is in the set where it is left at its turn
pub still_there : (caps left : CapSet) (cap : Cap) (n : ℕ) → cap_number cap ≡ n → ((q : Cap) → n ≤ cap_number q → has left q ≡ has caps q) → has caps cap ≡ has left cap
still_there caps left cap n is so_far = sym (so_far cap (omega arith))

-- what is left of a set's capabilities after one of them was written
pub names_left : (caps left new : CapSet) (cap : Cap) (n : ℕ) → cap_number cap ≡ n → new ≡ without_cap left cap → ((q : Cap) → n ≤ cap_number q → has left q ≡ has caps q)
    → (q : Cap) → n + 1 ≤ cap_number q → has new q ≡ has caps q
names_left caps left new cap n is new_is so_far q past =
    ap (λ (c : CapSet). has c q) new_is ∙ has-without_cap left cap q ∙ ap (λ v. not v && has left q) (false_from_ne_true (same_cap q cap) other) ∙ so_far q (omega arith)
  where
    other : same_cap q cap ≡ true → ⊥
    other same = let number = ap cap_number ((same_cap-decides q cap).0 same) in omega arith

pub names_written : (old new mark : List ℕ) (caps : CapSet) (n : ℕ) → names_from mark caps n ≡ [] → new ++ names_from mark caps n ≡ old ++ names_from [] caps 0
    → new ≡ old ++ join_with_byte 44 (map cap_name (caps_of caps))
names_written old new mark caps n done written =
    sym (append-nil new) ∙ ap (λ (t : List ℕ). new ++ t) (sym done) ∙ written ∙ ap (λ (t : List ℕ). old ++ t) (names_all caps)

-- ---- the first capability of a set

-- the capability with a number, if there is one
abbrev pub numbered : ℕ → Option Cap
numbered n = cond (nat_lt n 18) (Some (cap_at n)) None

pub numbered_is : (n : ℕ) (found : Option Cap) → MatchOption found (17 < n) (λ cap. cap_number cap ≡ n) → found ≡ numbered n
numbered_is n None past = cond_above n 18 (Some (cap_at n)) None None (omega arith) refl
numbered_is n (Some cap) is = let few = few_caps cap in ap (λ (c : Cap). Some c) (sym (cap_at-number cap) ∙ ap cap_at is) ∙ cond_below n 18 (Some (cap_at n)) None (omega arith)

-- no capability with a number from k on and below n passes a test
abbrev NoneBetween : (Cap → Bool) → ℕ → ℕ → Type 0
NoneBetween p k n = (q : Cap) → k ≤ cap_number q → cap_number q < n → p q ≡ false

none_between : (p : Cap → Bool) (k n : ℕ) (c : Cap) → cap_number c ≡ k → p c ≡ false → NoneBetween p (k + 1) n → NoneBetween p k n
none_between p k n c here absent none q from below = elim (cases_lt k (cap_number q)) [ inl past ↦ none q (omega arith) below | inr still ↦ ap p (same_number q c (omega arith)) ∙ absent ]

-- what is found among capabilities that count up has the lowest number of those that pass
found_first : (p : Cap → Bool) (k : ℕ) (cs : List Cap) → count_up k cs ≡ true → MatchOption (find p cs) (NoneBetween p k (k + length cs)) (λ cap. (p cap ≡ true) × NoneBetween p k (cap_number cap))
found_first p k [] up = λ q from below. absurd (omega arith)
found_first p k (c ∷ cs) up =
    let parts = and_parts (cap_number c == k) (count_up (k + 1) cs) up in
    let here = eqb-true (cap_number c) k parts.0 in
    elim (p c) as (λ v. p c ≡ v → MatchOption (cond v (Some c) (find p cs)) (NoneBetween p k (k + suc (length cs))) (λ cap. (p cap ≡ true) × NoneBetween p k (cap_number cap))) [
      | true ↦ λ there. (there, λ q from lower. absurd (omega arith))
      | false ↦ λ absent. one_before here absent (find p cs) (found_first p (k + 1) cs parts.1)
    ] refl
  where
    one_before : cap_number c ≡ k → p c ≡ false → (found : Option Cap) → MatchOption found (NoneBetween p (k + 1) (k + 1 + length cs)) (λ cap. (p cap ≡ true) × NoneBetween p (k + 1) (cap_number cap))
        → MatchOption found (NoneBetween p k (k + suc (length cs))) (λ cap. (p cap ≡ true) × NoneBetween p k (cap_number cap))
    one_before here absent None none = none_between p k (k + suc (length cs)) c here absent (λ q from below. none q from (omega arith))
    one_before here absent (Some cap) first = (first.0, none_between p k (cap_number cap) c here absent first.1)

-- a capability of a set, which has none with a lower number
abbrev pub IsFirstOf : CapSet → Cap → Type 0
IsFirstOf caps cap = (has caps cap ≡ true) × ((q : Cap) → cap_number q < cap_number cap → has caps q ≡ false)

-- the first of all capabilities that a set has
pub first_found : (caps : CapSet) (found : Option Cap) → found ≡ find (has caps) all_caps → MatchOption found (caps ≡ no_caps) (IsFirstOf caps)
first_found caps found is = subst (λ (o : Option Cap). MatchOption o (caps ≡ no_caps) (IsFirstOf caps)) (sym is) (by_found (find (has caps) all_caps) (found_first (has caps) 0 all_caps refl))
  where
    by_found : (o : Option Cap) → MatchOption o (NoneBetween (has caps) 0 18) (λ cap. (has caps cap ≡ true) × NoneBetween (has caps) 0 (cap_number cap)) → MatchOption o (caps ≡ no_caps) (IsFirstOf caps)
    by_found None none = same_caps caps no_caps (λ q. none q (omega arith) (few_caps q) ∙ sym (has-no_caps q))
    by_found (Some cap) first = (first.0, λ q lower. first.1 q (omega arith) lower)

-- ---- groups

-- the first capability of each group that is left, in their order
unfoldable pub firsts_in : CapState → CapSet → List Cap
firsts_in s left = filter (λ q. has left q && is_first s q) all_caps

-- whole groups with some flag are left
pub record AreGroups (s : CapState) (left : CapSet) : Type 0 where
  whole : (a b : Cap) → same_flags s a b ≡ true → has left a ≡ has left b
  flagged : (q : Cap) → has left q ≡ true → list_any (has_flag s q) all_flags ≡ true

any_flag : (s : CapState) (q : Cap) → has (union_of (union_of s.e s.i) s.p) q ≡ list_any (has_flag s q) all_flags
any_flag s q = has-union_of (union_of s.e s.i) s.p q ∙ ap (λ v. v || has s.p q) (has-union_of s.e s.i q) ∙ regroup (has s.e q) (has s.i q) (has s.p q)
  where
    regroup : (a b c : Bool) → ((a || b) || c) ≡ (a || (b || (c || false)))
    regroup true b c = refl
    regroup false true c = refl
    regroup false false true = refl
    regroup false false false = refl

-- at first, each group with some flag is left
pub groups_at_first : (s : CapState) → AreGroups s (union_of (union_of s.e s.i) s.p)
groups_at_first s = record {
  whole = λ a b same. any_flag s a ∙ (λ i. flags_same s a b same Effective i || (flags_same s a b same Inheritable i || (flags_same s a b same Permitted i || false))) ∙ sym (any_flag s b);
  flagged = λ q there. sym (any_flag s q) ∙ there;
}

pub firsts_at_first : (s : CapState) → firsts_in s (union_of (union_of s.e s.i) s.p) ≡ firsts_of s
unfolding firsts_in firsts_of is_first
firsts_at_first s = λ i. filter (λ q. each q i) all_caps
  where
    twice : (a b : Bool) → (a && (a && b)) ≡ (a && b)
    twice true b = refl
    twice false b = refl

    each : (q : Cap) → (has (union_of (union_of s.e s.i) s.p) q && is_first s q) ≡ is_first s q
    each q = ap (λ v. v && is_first s q) (any_flag s q) ∙ twice (list_any (has_flag s q) all_flags) _

-- the same flags as those of two capabilities with equal flags
same_among : (s : CapState) (cap a b : Cap) → same_flags s a b ≡ true → same_flags s cap a ≡ same_flags s cap b
unfolding same_flags
same_among s cap a b same = λ i. beq (has s.e cap) (flags_same s a b same Effective i) && (beq (has s.i cap) (flags_same s a b same Inheritable i) && (beq (has s.p cap) (flags_same s a b same Permitted i) && true))

left_after : (s : CapState) (left : CapSet) (cap q : Cap) → has (minus_of left (group_of s cap)) q ≡ (has left q && not (same_flags s cap q))
left_after s left cap q = has-minus_of left (group_of s cap) q ∙ ap (λ v. has left q && not v) (has-group_of s cap q)

-- after a group was taken out, whole groups are left
pub groups_after : (s : CapState) (left rest : CapSet) (cap : Cap) → AreGroups s left → rest ≡ minus_of left (group_of s cap) → AreGroups s rest
groups_after s left rest cap groups rest_is = subst (AreGroups s) (sym rest_is) (record {
  whole = λ a b same. left_after s left cap a ∙ (λ i. groups.whole a b same i && not (same_among s cap a b same i)) ∙ sym (left_after s left cap b);
  flagged = λ q there. groups.flagged q (and_parts (has left q) (not (same_flags s cap q)) (sym (left_after s left cap q) ∙ there)).0;
})

any_none : (p : Cap → Bool) (cs : List Cap) → ((q : Cap) → p q ≡ false) → list_any p cs ≡ false
any_none p [] none = refl
any_none p (c ∷ cs) none = or_from (p c) (list_any p cs) (none c) (any_none p cs none)

-- the first capability that is left is the first of its group
first_left : (s : CapState) (left : CapSet) (cap : Cap) → AreGroups s left → IsFirstOf left cap → is_first s cap ≡ true
first_left s left cap groups first = is_first_from s cap (groups.flagged cap first.0) (any_none (earlier s cap) all_caps (λ q. false_from_ne_true (earlier s cap q) (not_earlier q)))
  where
    not_earlier : (q : Cap) → earlier s cap q ≡ true → ⊥
    not_earlier q is =
        let parts = and_parts (nat_lt (cap_number q) (cap_number cap)) (same_flags s cap q) is in
        let absent = first.1 q (ltb-true (cap_number q) (cap_number cap) parts.0) in
        let same = groups.whole cap q parts.1 in
        let there = first.0 in
        cc

-- a capability after another one with equal flags is not the first of its group
not_first_after : (s : CapState) (cap q : Cap) → same_flags s cap q ≡ true → cap_number cap < cap_number q → is_first s q ≡ false
unfolding is_first
not_first_after s cap q same lower =
    ap (λ v. list_any (has_flag s q) all_flags && not v)
    (any_kept (λ _. true) (earlier s q) cap all_caps (every_cap cap) refl (and_from _ _ (lt-ltb (cap_number cap) (cap_number q) lower) (same_from s q cap (λ f. sym (flags_same s cap q same f)))))
    ∙ and-false (list_any (has_flag s q) all_flags)

-- two tests that agree from a number on keep the same of the capabilities that count up from it
kept_same : (p r : Cap → Bool) (k : ℕ) (cs : List Cap) → count_up k cs ≡ true → ((q : Cap) → k ≤ cap_number q → p q ≡ r q) → filter p cs ≡ filter r cs
kept_same p r k [] up same = refl
kept_same p r k (c ∷ cs) up same =
    let parts = and_parts (cap_number c == k) (count_up (k + 1) cs) up in
    let here = eqb-true (cap_number c) k parts.0 in
    let rest = kept_same p r (k + 1) cs parts.1 (λ q past. same q (omega arith)) in
    let one = same c (omega arith) in
    λ i. cond (one i) (c ∷ rest i) (rest i)

-- where a test passes a capability and none before it, and another test differs from it at that one alone, what the first keeps is that one and then what the other keeps
first_kept : (p r : Cap → Bool) (cap : Cap) (k : ℕ) (cs : List Cap) → count_up k cs ≡ true → k ≤ cap_number cap → cap_number cap < k + length cs → p cap ≡ true → r cap ≡ false
    → ((q : Cap) → cap_number q < cap_number cap → p q ≡ false) → ((q : Cap) → cap_number q ≢ cap_number cap → p q ≡ r q) → filter p cs ≡ cap ∷ filter r cs
first_kept p r cap k [] up from below passes fails lowest others = absurd (omega arith)
first_kept p r cap k (c ∷ cs) up from below passes fails lowest others =
    let parts = and_parts (cap_number c == k) (count_up (k + 1) cs) up in
    let here = eqb-true (cap_number c) k parts.0 in
    elim (cases_lt k (cap_number cap)) [
      | inl lower ↦
          let absent = lowest c (omega arith) in
          cond-false (p c) _ _ absent ∙ first_kept p r cap (k + 1) cs parts.1 (omega arith) (omega arith) passes fails lowest others
          ∙ ap (λ (rest : List Cap). cap ∷ rest) (sym (cond-false (r c) _ _ (sym (others c (λ same. omega arith)) ∙ absent)))
      | inr reached ↦
          let is = same_number c cap (omega arith) in
          cond-true (p c) _ _ (ap p is ∙ passes) ∙ (λ i. is i ∷ kept_same p r (k + 1) cs parts.1 (λ q past. others q (λ same. omega arith)) i)
          ∙ ap (λ (rest : List Cap). cap ∷ rest) (sym (cond-false (r c) _ _ (ap r is ∙ fails)))
    ]

-- the first capability that is left is the next of the firsts
pub firsts_next : (s : CapState) (left rest : CapSet) (cap : Cap) → AreGroups s left → IsFirstOf left cap → rest ≡ minus_of left (group_of s cap) → firsts_in s left ≡ cap ∷ firsts_in s rest
unfolding firsts_in
firsts_next s left rest cap groups first rest_is =
    first_kept (λ q. has left q && is_first s q) (λ q. has rest q && is_first s q) cap 0 all_caps refl (omega arith) (few_caps cap)
    (and_from (has left cap) (is_first s cap) first.0 (first_left s left cap groups first))
    (ap (λ v. v && is_first s cap) (in_rest cap ∙ (λ i. first.0 i && not (same_from s cap cap (λ f. refl) i))))
    (λ q lower. ap (λ v. v && is_first s q) (first.1 q lower))
    (λ q other. by_flags q other (same_flags s cap q) refl ∙ sym (ap (λ v. v && is_first s q) (in_rest q)))
  where
    in_rest : (q : Cap) → has rest q ≡ (has left q && not (same_flags s cap q))
    in_rest q = ap (λ (caps : CapSet). has caps q) rest_is ∙ left_after s left cap q

    out : (a b : Bool) → (a && b) ≡ false → (a && b) ≡ ((a && false) && b)
    out true b none = none
    out false b none = refl

    not_first : (q : Cap) → cap_number q ≢ cap_number cap → same_flags s cap q ≡ true → (has left q && is_first s q) ≡ false
    not_first q other same = elim (cases_lt (cap_number q) (cap_number cap)) [
      | inl lower ↦ and_left (has left q) (is_first s q) (first.1 q lower)
      | inr later ↦ and_right (has left q) (is_first s q) (not_first_after s cap q same (omega arith))
    ]

    by_flags : (q : Cap) → cap_number q ≢ cap_number cap → (v : Bool) → same_flags s cap q ≡ v → (has left q && is_first s q) ≡ ((has left q && not v) && is_first s q)
    by_flags q other true same = out (has left q) (is_first s q) (not_first q other same)
    by_flags q other false differ = ap (λ v. v && is_first s q) (sym (and-true (has left q)))

-- the clauses of the groups that are left, the first after a mark and each further one after a space
unfoldable pub groups_left : List ℕ → CapState → CapSet → List ℕ
groups_left mark s left = after mark 32 (map (group_text s) (firsts_in s left))

pub all_groups_left : (s : CapState) → groups_left [] s (union_of (union_of s.e s.i) s.p) ≡ join_with_byte 32 (map (group_text s) (firsts_of s))
unfolding groups_left
all_groups_left s = after_nothing 32 (map (group_text s) (firsts_in s (union_of (union_of s.e s.i) s.p))) ∙ ap (λ (firsts : List Cap). join_with_byte 32 (map (group_text s) firsts)) (firsts_at_first s)

-- the clause of the next group is written, and then the clauses after it
pub group_written : (old marked new mark whole : List ℕ) (s : CapState) (left rest : CapSet) (cap : Cap) → firsts_in s left ≡ cap ∷ firsts_in s rest → marked ≡ old ++ mark → new ≡ marked ++ group_text s cap
    → old ++ groups_left mark s left ≡ whole → new ++ groups_left (32 ∷ []) s rest ≡ whole
unfolding groups_left
group_written old marked new mark whole s left rest cap next mark_is new_is so_far =
    piece_written old marked new mark (group_text s cap) (groups_left (32 ∷ []) s rest) (groups_left mark s left) whole mark_is new_is (ap (λ (firsts : List Cap). after mark 32 (map (group_text s) firsts)) next) so_far

no_firsts : (s : CapState) (cs : List Cap) → filter (λ q. has no_caps q && is_first s q) cs ≡ []
no_firsts s [] = refl
no_firsts s (c ∷ cs) = cond-false (has no_caps c && is_first s c) _ _ (ap (λ v. v && is_first s c) (has-no_caps c)) ∙ no_firsts s cs

-- where no capability is left, all clauses are written
pub groups_written : (new mark whole : List ℕ) (s : CapState) (left : CapSet) → left ≡ no_caps → new ++ groups_left mark s left ≡ whole → new ≡ whole
unfolding groups_left firsts_in
groups_written new mark whole s left none written =
    sym (append-nil new) ∙ ap (λ (t : List ℕ). new ++ t) (sym (ap (λ (caps : CapSet). groups_left mark s caps) none ∙ ap (λ (firsts : List Cap). after mark 32 (map (group_text s) firsts)) (no_firsts s all_caps))) ∙ written

-- ---- a state's text

some_joined : (c : ℕ) (x : List ℕ) (xs : List (List ℕ)) → are_some x ≡ true → join_with_byte c (x ∷ xs) ≡ [] → ⊥
some_joined c [] xs some none = cc
some_joined c (b ∷ bs) [] some none = cc
some_joined c (b ∷ bs) (y ∷ ys) some none = cc

-- a list that makes no other list longer is empty
nothing_more : (old more : List ℕ) → length (old ++ more) ≡ length old → more ≡ []
nothing_more old more same = let len = length-append old more in nil_from_length more (omega arith)

-- where no clause was written, `=` makes the text
pub none_written : (s : CapState) (old text : List ℕ) → text ≡ old ++ join_with_byte 32 (map (group_text s) (firsts_of s)) → length text ≡ length old → text ++ 61 ∷ [] ≡ old ++ caps_text s
unfolding caps_text
none_written s old text is same = by_firsts (firsts_of s) is
  where
    by_firsts : (firsts : List Cap) → text ≡ old ++ join_with_byte 32 (map (group_text s) firsts) → text ++ 61 ∷ [] ≡ old ++ clauses_text (map (group_text s) firsts)
    by_firsts [] e = ap (λ (t : List ℕ). t ++ 61 ∷ []) (e ∙ append-nil old)
    by_firsts (cap ∷ caps) e = absurd (some_joined 32 (group_text s cap) (map (group_text s) caps) (clause_some s cap) (nothing_more old _ (sym (ap (λ (t : List ℕ). length t) e) ∙ same)))

-- where clauses were written, they are the text
pub some_written : (s : CapState) (old text : List ℕ) → text ≡ old ++ join_with_byte 32 (map (group_text s) (firsts_of s)) → length text ≢ length old → text ≡ old ++ caps_text s
unfolding caps_text
some_written s old text is more = is ∙ by_firsts (firsts_of s) is
  where
    by_firsts : (firsts : List Cap) → text ≡ old ++ join_with_byte 32 (map (group_text s) firsts) → old ++ join_with_byte 32 (map (group_text s) firsts) ≡ old ++ clauses_text (map (group_text s) firsts)
    by_firsts [] e = absurd (more (ap (λ (t : List ℕ). length t) (e ∙ append-nil old)))
    by_firsts (cap ∷ caps) e = refl
