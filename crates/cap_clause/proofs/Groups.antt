-- Groups of capabilities with equal flags: assigning its flags to each group makes the state.
use Rattle.std.specs.Prelude.{◌≡◌, ℕ, zero, suc, ◌<◌, Bool, true, false, cond, not, ◌&&◌, ◌||◌, nat_lt, List, [], ◌∷◌, fold, refl}
use Rattle.std.proofs.Common.{ap, sym, ◌∙◌, arith}
use Rattle.std.specs.Bool.{beq}
use Rattle.std.specs.FinSet as set
use Rattle.std.specs.List.{filter, list_any}
use Rattle.std.proofs.Math.Bool.{and-true}
use Rattle.std.proofs.lemmas.Bool.{and_from, and_parts, ltb-true, or_left, or_right}
use Rattle.std.proofs.lemmas.Map.Views.{any-filter_same}
use Rattle.cap_bits.specs.Cap.{cap_number, all_caps}
use Rattle.cap_bits.specs.Laws.{cap_cmp_exact, cap_cmp_total}
use Rattle.cap_bits.specs.CapSet.{CapSet, has, all_of_caps, same_cap}
use Rattle.cap_bits.proofs.CapSets.{same_cap-decides, has-no_caps, has-union_of, has-minus_of}
use Rattle.cap_bits.specs.Laws.{has-all_of_caps, same_caps}
use Rattle.cap_bits.specs.State.{no_flags, has_flag}
use Rattle.cap_bits.specs.declared.cap.Cap.{Cap}
use Rattle.cap_bits.specs.declared.state.CapState.{CapState}
use Rattle.cap_bits.specs.declared.state.Flag.{Flag}
use Rattle.cap_bits.specs.declared.state.Flag.TheVariants.{Effective, Inheritable, Permitted}
use Rattle.cap_clause.specs.Clauses.{all_flags, put_caps, put_flag, put_flags, after_operator}
use Rattle.cap_clause.specs.Written.{same_flags, group_of, is_first, firsts_of}
use Rattle.cap_clause.specs.declared.action.Operator.TheVariants.{Assign}

-- ---- equal flags

same_bits : (a b : Bool) → beq a b ≡ true → a ≡ b
same_bits true true e = refl
same_bits true false e = cc
same_bits false true e = cc
same_bits false false e = refl

bit_itself : (a b : Bool) → a ≡ b → beq a b ≡ true
bit_itself true true e = refl
bit_itself true false e = cc
bit_itself false true e = cc
bit_itself false false e = refl

pub flags_same : (s : CapState) (a b : Cap) → same_flags s a b ≡ true → (f : Flag) → has_flag s a f ≡ has_flag s b f
unfolding same_flags
flags_same s a b same Effective = same_bits (has s.e a) (has s.e b) (and_parts (beq (has s.e a) (has s.e b)) _ same).0
flags_same s a b same Inheritable = same_bits (has s.i a) (has s.i b) (and_parts (beq (has s.i a) (has s.i b)) _ (and_parts (beq (has s.e a) (has s.e b)) _ same).1).0
flags_same s a b same Permitted =
    same_bits (has s.p a) (has s.p b) (and_parts (beq (has s.p a) (has s.p b)) true (and_parts (beq (has s.i a) (has s.i b)) _ (and_parts (beq (has s.e a) (has s.e b)) _ same).1).1).0

pub same_from : (s : CapState) (a b : Cap) → ((f : Flag) → has_flag s a f ≡ has_flag s b f) → same_flags s a b ≡ true
unfolding same_flags
same_from s a b each =
    and_from (beq (has s.e a) (has s.e b)) _ (bit_itself _ _ (each Effective))
    (and_from (beq (has s.i a) (has s.i b)) _ (bit_itself _ _ (each Inheritable)) (and_from (beq (has s.p a) (has s.p b)) true (bit_itself _ _ (each Permitted)) refl))

pub has-group_of : (s : CapState) (cap q : Cap) → has (group_of s cap) q ≡ same_flags s cap q
unfolding group_of
has-group_of s cap q =
    set.contains-retain all_of_caps (same_flags s cap) q (λ x tie. ap (same_flags s cap) (sym (cap_cmp_exact q x tie)))
    ∙ ap (λ b. b && same_flags s cap q) (has-all_of_caps q)

-- ---- flags after actions

with_or_without : (caps set : CapSet) (raised : Bool) (q : Cap) → has (put_caps set caps raised) q ≡ cond (has caps q) raised (has set q)
with_or_without caps set true q = has-union_of set caps q ∙ either (has set q) (has caps q)
  where
    either : (a b : Bool) → (a || b) ≡ cond b true a
    either true true = refl
    either true false = refl
    either false true = refl
    either false false = refl
with_or_without caps set false q = has-minus_of set caps q ∙ but (has set q) (has caps q)
  where
    but : (a b : Bool) → (a && not b) ≡ cond b false a
    but true true = refl
    but true false = refl
    but false true = refl
    but false false = refl

-- whether two flags are the same
abbrev same_flag : Flag → Flag → Bool
same_flag Effective Effective = true
same_flag Inheritable Inheritable = true
same_flag Permitted Permitted = true
same_flag _ _ = false

flag_after : (caps : CapSet) (raised : Bool) (s : CapState) (g : Flag) (q : Cap) (f : Flag) → has_flag (put_flag caps raised s g) q f ≡ cond (same_flag f g && has caps q) raised (has_flag s q f)
flag_after caps raised s Effective q Effective = with_or_without caps s.e raised q
flag_after caps raised s Effective q Inheritable = refl
flag_after caps raised s Effective q Permitted = refl
flag_after caps raised s Inheritable q Effective = refl
flag_after caps raised s Inheritable q Inheritable = with_or_without caps s.i raised q
flag_after caps raised s Inheritable q Permitted = refl
flag_after caps raised s Permitted q Effective = refl
flag_after caps raised s Permitted q Inheritable = refl
flag_after caps raised s Permitted q Permitted = with_or_without caps s.p raised q

flags_after : (caps : CapSet) (raised : Bool) (flags : List Flag) (s : CapState) (q : Cap) (f : Flag) → has_flag (put_flags caps raised flags s) q f ≡ cond (list_any (same_flag f) flags && has caps q) raised (has_flag s q f)
flags_after caps raised [] s q f = refl
flags_after caps raised (g ∷ gs) s q f =
    flags_after caps raised gs (put_flag caps raised s g) q f ∙ ap (λ v. cond (list_any (same_flag f) gs && has caps q) raised v) (flag_after caps raised s g q f)
    ∙ joined (same_flag f g) (list_any (same_flag f) gs) (has caps q) raised (has_flag s q f)
  where
    joined : (a b h r x : Bool) → cond (b && h) r (cond (a && h) r x) ≡ cond ((a || b) && h) r x
    joined true true true r x = refl
    joined true true false r x = refl
    joined true false true r x = refl
    joined true false false r x = refl
    joined false true true r x = refl
    joined false true false r x = refl
    joined false false h r x = refl

every_flag : (f : Flag) → list_any (same_flag f) all_flags ≡ true
every_flag Effective = refl
every_flag Inheritable = refl
every_flag Permitted = refl

assigned_after : (caps : CapSet) (flags : List Flag) (s : CapState) (q : Cap) (f : Flag) → has_flag (after_operator caps Assign flags s) q f ≡ cond (has caps q) (list_any (same_flag f) flags) (has_flag s q f)
assigned_after caps flags s q f =
    flags_after caps true flags (put_flags caps false all_flags s) q f
    ∙ ap (λ v. cond (list_any (same_flag f) flags && has caps q) true v) (flags_after caps false all_flags s q f ∙ ap (λ v. cond (v && has caps q) false (has_flag s q f)) (every_flag f))
    ∙ joined (list_any (same_flag f) flags) (has caps q) (has_flag s q f)
  where
    joined : (a h x : Bool) → cond (a && h) true (cond h false x) ≡ cond h a x
    joined true true x = refl
    joined true false x = refl
    joined false true x = refl
    joined false false x = refl

-- ---- groups

-- the state t after the group of a capability was assigned the flags that it has in s
abbrev pub assigned : CapState → CapState → Cap → CapState
assigned s t cap = after_operator (group_of s cap) Assign (filter (has_flag s cap) all_flags) t

same_flag_is : (p : Flag → Bool) (f g : Flag) → same_flag f g ≡ true → p g ≡ p f
same_flag_is p Effective Effective e = refl
same_flag_is p Effective Inheritable e = cc
same_flag_is p Effective Permitted e = cc
same_flag_is p Inheritable Effective e = cc
same_flag_is p Inheritable Inheritable e = refl
same_flag_is p Inheritable Permitted e = cc
same_flag_is p Permitted Effective e = cc
same_flag_is p Permitted Inheritable e = cc
same_flag_is p Permitted Permitted e = refl

among_flags : (p : Flag → Bool) (f : Flag) → list_any (same_flag f) (filter p all_flags) ≡ p f
among_flags p f = any-filter_same (same_flag f) p (p f) (same_flag_is p f) all_flags ∙ ap (λ v. p f && v) (every_flag f) ∙ and-true (p f)

group_after : (s t : CapState) (cap q : Cap) (f : Flag) → has_flag (assigned s t cap) q f ≡ cond (same_flags s cap q) (has_flag s q f) (has_flag t q f)
group_after s t cap q f =
    assigned_after (group_of s cap) (filter (has_flag s cap) all_flags) t q f
    ∙ (λ i. cond (has-group_of s cap q i) (among_flags (has_flag s cap) f i) (has_flag t q f))
    ∙ by_group (same_flags s cap q) refl
  where
    by_group : (v : Bool) → same_flags s cap q ≡ v → cond v (has_flag s cap f) (has_flag t q f) ≡ cond v (has_flag s q f) (has_flag t q f)
    by_group true same = flags_same s cap q same f
    by_group false same = refl

groups_after : (s t : CapState) (caps : List Cap) (q : Cap) (f : Flag) → has_flag (fold (assigned s) t caps) q f ≡ cond (list_any (λ cap. same_flags s cap q) caps) (has_flag s q f) (has_flag t q f)
groups_after s t [] q f = refl
groups_after s t (cap ∷ caps) q f =
    groups_after s (assigned s t cap) caps q f ∙ ap (λ v. cond (list_any (λ cap. same_flags s cap q) caps) (has_flag s q f) v) (group_after s t cap q f)
    ∙ joined (same_flags s cap q) (list_any (λ cap. same_flags s cap q) caps) (has_flag s q f) (has_flag t q f)
  where
    joined : (a b x y : Bool) → cond b x (cond a x y) ≡ cond (a || b) x y
    joined true true x y = refl
    joined true false x y = refl
    joined false b x y = refl

-- ---- the first of each group

-- where some element passes a test, what each one that passes implies holds
any_gives : (p : Cap → Bool) (P : Type 0) (caps : List Cap) → list_any p caps ≡ true → ((cap : Cap) → p cap ≡ true → P) → P
any_gives p P [] some gives = absurd (cc)
any_gives p P (cap ∷ caps) some gives = elim (p cap) as (λ v. p cap ≡ v → (v || list_any p caps) ≡ true → P)
    [ true ↦ λ here _. gives cap here | false ↦ λ _ later. any_gives p P caps later gives ] refl some

-- each capability is in the list of all
pub every_cap : (cap : Cap) → list_any (same_cap cap) all_caps ≡ true
unfolding all_of_caps
every_cap cap = sym (set.contains-from_list cap_cmp_total all_caps cap) ∙ has-all_of_caps cap

pub any_kept : (keep p : Cap → Bool) (cap : Cap) (caps : List Cap) → list_any (same_cap cap) caps ≡ true → keep cap ≡ true → p cap ≡ true → list_any p (filter keep caps) ≡ true
any_kept keep p cap [] there kept passes = absurd (cc)
any_kept keep p cap (x ∷ xs) there kept passes = elim (same_cap cap x) as (λ v. same_cap cap x ≡ v → (v || list_any (same_cap cap) xs) ≡ true → list_any p (filter keep (x ∷ xs)) ≡ true)
    [ true ↦ λ same _. here ((same_cap-decides cap x).0 same) | false ↦ λ _ later. after (any_kept keep p cap xs later kept passes) ] refl there
  where
    here : cap ≡ x → list_any p (cond (keep x) (x ∷ filter keep xs) (filter keep xs)) ≡ true
    here same =
        let keeps = ap keep (sym same) ∙ kept in
        let hit = ap p (sym same) ∙ passes in
        ap (λ v. list_any p (cond v (x ∷ filter keep xs) (filter keep xs))) keeps ∙ or_left (p x) (list_any p (filter keep xs)) hit

    after : list_any p (filter keep xs) ≡ true → list_any p (cond (keep x) (x ∷ filter keep xs) (filter keep xs)) ≡ true
    after rest = elim (keep x) as (λ v. list_any p (cond v (x ∷ filter keep xs) (filter keep xs)) ≡ true) [ true ↦ or_right (p x) (list_any p (filter keep xs)) rest | false ↦ rest ]

-- whether a capability with a lower number has equal flags
abbrev pub earlier : CapState → Cap → Cap → Bool
earlier s cap other = nat_lt (cap_number other) (cap_number cap) && same_flags s cap other

some_flag : (s : CapState) (cap : Cap) (f : Flag) → has_flag s cap f ≡ true → list_any (has_flag s cap) all_flags ≡ true
some_flag s cap Effective has = or_left (has_flag s cap Effective) _ has
some_flag s cap Inheritable has = or_right (has_flag s cap Effective) _ (or_left (has_flag s cap Inheritable) _ has)
some_flag s cap Permitted has = or_right (has_flag s cap Effective) _ (or_right (has_flag s cap Inheritable) _ (or_left (has_flag s cap Permitted) _ has))

pub is_first_from : (s : CapState) (q : Cap) → list_any (has_flag s q) all_flags ≡ true → list_any (earlier s q) all_caps ≡ false → is_first s q ≡ true
unfolding is_first
is_first_from s q flagged none = and_from (list_any (has_flag s q) all_flags) _ flagged (ap not none)

same_any : (p r : Cap → Bool) (caps : List Cap) → ((cap : Cap) → p cap ≡ true → r cap ≡ true) → list_any p caps ≡ true → list_any r caps ≡ true
same_any p r [] gives some = some
same_any p r (cap ∷ caps) gives some = elim (p cap) as (λ v. p cap ≡ v → (v || list_any p caps) ≡ true → (r cap || list_any r caps) ≡ true)
    [ true ↦ λ here _. or_left (r cap) (list_any r caps) (gives cap here) | false ↦ λ _ later. or_right (r cap) (list_any r caps) (same_any p r caps gives later) ] refl some

-- where a capability has a flag, the first one with equal flags is among the firsts of their groups
first_below : (n : ℕ) (s : CapState) (q : Cap) (f : Flag) → cap_number q < n → has_flag s q f ≡ true → list_any (λ cap. same_flags s cap q) (filter (is_first s) all_caps) ≡ true
first_below zero s q f below flagged = absurd (omega arith)
first_below (suc n) s q f below flagged = by_earlier (list_any (earlier s q) all_caps) refl (λ other lower flagged. first_below n s other f lower flagged)
  where
    first_is : list_any (earlier s q) all_caps ≡ false → is_first s q ≡ true
    first_is none = is_first_from s q (some_flag s q f flagged) none

    along : (other : Cap) → same_flags s q other ≡ true → (caps : List Cap) → list_any (λ cap. same_flags s cap other) caps ≡ true → list_any (λ cap. same_flags s cap q) caps ≡ true
    along other same caps some = same_any (λ cap. same_flags s cap other) (λ cap. same_flags s cap q) caps (λ cap is. same_from s cap q (λ g. flags_same s cap other is g ∙ sym (flags_same s q other same g))) some

    by_earlier : (v : Bool) → list_any (earlier s q) all_caps ≡ v
        → ((other : Cap) → cap_number other < n → has_flag s other f ≡ true → list_any (λ cap. same_flags s cap other) (filter (is_first s) all_caps) ≡ true)
        → list_any (λ cap. same_flags s cap q) (filter (is_first s) all_caps) ≡ true
    by_earlier false none round_trip = any_kept (is_first s) (λ cap. same_flags s cap q) q all_caps (every_cap q) (first_is none) (same_from s q q (λ g. refl))
    by_earlier true some round_trip = any_gives (earlier s q) _ all_caps some (λ other is.
        let parts = and_parts (nat_lt (cap_number other) (cap_number q)) (same_flags s q other) is in
        let lower = ltb-true (cap_number other) (cap_number q) parts.0 in
        along other parts.1 (filter (is_first s) all_caps) (round_trip other (omega arith) (sym (flags_same s q other parts.1 f) ∙ flagged)))

same_states : (s t : CapState) → ((q : Cap) (f : Flag) → has_flag s q f ≡ has_flag t q f) → s ≡ t
same_states s t each = λ i. record {
  e = same_caps s.e t.e (λ q. each q Effective) i;
  i = same_caps s.i t.i (λ q. each q Inheritable) i;
  p = same_caps s.p t.p (λ q. each q Permitted) i;
}

no_flag : (q : Cap) (f : Flag) → has_flag no_flags q f ≡ false
no_flag q Effective = has-no_caps q
no_flag q Inheritable = has-no_caps q
no_flag q Permitted = has-no_caps q

-- assigning no flags in a state without flags changes nothing
pub assigned_none : (caps : CapSet) → after_operator caps Assign [] no_flags ≡ no_flags
assigned_none caps = same_states _ no_flags (λ q f. assigned_after caps [] no_flags q f ∙ ap (λ v. cond (has caps q) false v) (no_flag q f) ∙ none (has caps q) ∙ sym (no_flag q f))
  where
    none : (h : Bool) → cond h false false ≡ false
    none true = refl
    none false = refl

-- assigning its flags to each group, from a state without flags, makes the state
pub groups_round_trip : (s : CapState) → fold (assigned s) no_flags (firsts_of s) ≡ s
unfolding firsts_of
groups_round_trip s = same_states _ s (λ q f.
    groups_after s no_flags (filter (is_first s) all_caps) q f ∙ ap (λ v. cond (list_any (λ cap. same_flags s cap q) (filter (is_first s) all_caps)) (has_flag s q f) v) (no_flag q f)
    ∙ all_there (has_flag s q f) (list_any (λ cap. same_flags s cap q) (filter (is_first s) all_caps)) (λ flagged. first_below (suc (cap_number q)) s q f (omega arith) flagged))
  where
    all_there : (h v : Bool) → (h ≡ true → v ≡ true) → cond v h false ≡ h
    all_there true v there = ap (λ v. cond v true false) (there refl)
    all_there false true there = refl
    all_there false false there = refl
