-- The form of the path that a text without a fault denotes.
use Rattle.std.specs.Prelude.{◌≡◌, ℕ, suc, ◌+◌, ◌≤◌, ◌<◌, Bool, true, false, not, cond, ◌==◌, ◌&&◌, List, [], ◌∷◌, length, refl, Option, None, Some}
use Rattle.std.proofs.Common.{sym, ◌∙◌, ap, arith}
use Rattle.std.specs.List.{filter, list_all, onto_first, position, prefix_len, starts_with}
use Rattle.std.specs.Option.{option_map, option_or}
use Rattle.std.proofs.Math.Bool.{and-true}
use Rattle.std.proofs.lemmas.Bool.Decides.{nat_tests}
use Rattle.std.proofs.lemmas.Bool.{ltb-false, leb-false, le-leb, and_from, and_parts, or_parts}
use Rattle.std.proofs.lemmas.List.Sums.{sum_by-cons}
use Rattle.std.proofs.lemmas.List.{length-map}
use Rattle.fs_path.specs.Name.{Name, is_name, is_dots}
use Rattle.fs_path.specs.Path.{HasForm, written_len}
use Rattle.fs_path.specs.Split.{Piece, pieces, pieces_at}
use Rattle.fs_path.specs.PathText.{is_slash, has_no_slash, is_empty_or_dot, starts_badly, counts, names_of, component_fault, first_fault, components_of, path_fault, parse_path}

-- ---- pieces

onto_no_slash : (x : ℕ) (ps : List (List ℕ)) → is_slash x ≡ false → list_all has_no_slash ps ≡ true → list_all has_no_slash (onto_first x ps) ≡ true
onto_no_slash x [] e h = ap (λ v. not v && true && true) e
onto_no_slash x (p ∷ ps) e h = ap (λ v. not v && has_no_slash p && list_all has_no_slash ps) e ∙ h

no_slash_in_pieces : (text : List ℕ) → list_all has_no_slash (pieces 47 text) ≡ true
no_slash_in_pieces [] = refl
no_slash_in_pieces (x ∷ xs) = by_head (is_slash x) refl (no_slash_in_pieces xs)
  where
    by_head : (v : Bool) → is_slash x ≡ v → list_all has_no_slash (pieces 47 xs) ≡ true
        → list_all has_no_slash (cond v ([] ∷ pieces 47 xs) (onto_first x (pieces 47 xs))) ≡ true
    by_head true e h = h
    by_head false e h = onto_no_slash x (pieces 47 xs) e h

-- a text's first piece has no slash
pub no_slash_before : (text piece : List ℕ) (more : List (List ℕ)) → pieces 47 text ≡ piece ∷ more → has_no_slash piece ≡ true
no_slash_before text piece more e = (and_parts (has_no_slash piece) (list_all has_no_slash more) (sym (ap (list_all has_no_slash) e) ∙ no_slash_in_pieces text)).0

written_onto : (x n : ℕ) (ps : List (List ℕ)) → written_len ps ≡ n + 1 → written_len (onto_first x ps) ≡ n + 2
written_onto x n [] h = absurd (omega arith)
written_onto x n (p ∷ ps) h =
    let before = sum_by-cons (λ (name : Name). length name + 1) p ps in
    let after = sum_by-cons (λ (name : Name). length name + 1) (x ∷ p) ps in
    omega arith

-- pieces with a slash before each take one byte more than the text
pub written_pieces : (text : List ℕ) → written_len (pieces 47 text) ≡ length text + 1
written_pieces [] = refl
written_pieces (x ∷ xs) = by_head (is_slash x) (written_pieces xs)
  where
    by_head : (v : Bool) → written_len (pieces 47 xs) ≡ length xs + 1
        → written_len (cond v ([] ∷ pieces 47 xs) (onto_first x (pieces 47 xs))) ≡ length (x ∷ xs) + 1
    by_head true h = let more = sum_by-cons (λ (name : Name). length name + 1) [] (pieces 47 xs) in omega arith
    by_head false h = let more = written_onto x (length xs) (pieces 47 xs) h in omega arith

-- the pieces that count, each with a slash before it, take no more than all pieces do
written_kept : (at : ℕ) (ps : List (List ℕ)) → written_len (names_of (filter counts (pieces_at at ps))) ≤ written_len ps
written_kept at [] = omega arith
written_kept at (p ∷ ps) = by_head (counts (record { at = at; bytes = p })) (written_kept (at + length p + 1) ps)
  where
    left : List Piece
    left = filter counts (pieces_at (at + length p + 1) ps)

    by_head : (v : Bool) → written_len (names_of left) ≤ written_len ps → written_len (names_of (cond v (record { at = at; bytes = p } ∷ left) left)) ≤ written_len (p ∷ ps)
    by_head true h =
        let kept = sum_by-cons (λ (name : Name). length name + 1) p (names_of left) in
        let all = sum_by-cons (λ (name : Name). length name + 1) p ps in
        omega arith
    by_head false h = let all = sum_by-cons (λ (name : Name). length name + 1) p ps in omega arith

-- ---- components without a fault

pub cond_none : {T : Type 0} (v : Bool) (e : T) (o : Option T) → cond v (Some e) o ≡ None → (v ≡ false) × (o ≡ None)
cond_none true e o h = absurd (cc)
cond_none false e o h = (refl, h)

map_none : {T U : Type 0} (f : T → U) (o : Option T) → option_map f o ≡ None → o ≡ None
map_none f None h = refl
map_none f (Some x) h = absurd (cc)

or_none : {T : Type 0} (o p : Option T) → option_or o p ≡ None → (o ≡ None) × (p ≡ None)
or_none None p h = (refl, h)
or_none (Some x) p h = absurd (cc)

record HasNoFault (count : ℕ) (bytes : List ℕ) : Type 0 where
  short : length bytes ≤ 63
  good : starts_badly bytes ≡ false
  few : count < 32
  whole : position (λ b. b == 0) bytes ≡ None

no_fault : (count : ℕ) (c : Piece) → component_fault count c ≡ None → HasNoFault count c.bytes
unfolding component_fault
no_fault count c h =
    let long = cond_none _ _ _ h in
    let bad = cond_none _ _ _ long.1 in
    let deep = cond_none _ _ _ bad.1 in
    record { short = ltb-false _ _ long.0; good = bad.0; few = leb-false _ _ deep.0; whole = map_none _ _ deep.1 }

all_before : (p : ℕ → Bool) (xs : List ℕ) → length xs ≤ prefix_len p xs → list_all p xs ≡ true
all_before p [] h = refl
all_before p (x ∷ xs) h = by_head (p x) h (all_before p xs)
  where
    by_head : (v : Bool) → suc (length xs) ≤ cond v (1 + prefix_len p xs) 0 → (length xs ≤ prefix_len p xs → list_all p xs ≡ true) → (v && list_all p xs) ≡ true
    by_head true h rest = rest (omega arith)
    by_head false h rest = absurd (omega arith)

no_zero : (bytes : List ℕ) → position (λ b. b == 0) bytes ≡ None → list_all (λ b. not (b == 0)) bytes ≡ true
no_zero bytes h = all_before (λ b. not (b == 0)) bytes (ltb-false _ _ (cond_none _ _ _ h).0)

both : (p q : ℕ → Bool) (xs : List ℕ) → list_all p xs ≡ true → list_all q xs ≡ true → list_all (λ x. p x && q x) xs ≡ true
both p q [] h k = refl
both p q (x ∷ xs) h k =
    let ps = and_parts _ _ h in
    let qs = and_parts _ _ k in
    and_from _ _ (and_from _ _ ps.0 qs.0) (both p q xs ps.1 qs.1)

some_byte : (bytes : List ℕ) → is_empty_or_dot bytes ≡ false → 1 ≤ length bytes
some_byte [] h = absurd (cc)
some_byte (b ∷ bs) h = omega arith

no_dots : (bytes : List ℕ) → is_empty_or_dot bytes ≡ false → starts_badly bytes ≡ false → is_dots bytes ≡ false
no_dots [] h k = refl
no_dots (a ∷ []) h k = sym (and-true (a == 46)) ∙ h
no_dots (a ∷ b ∷ []) h k = ap (λ v. a == 46 && v) (sym (and-true (b == 46))) ∙ (or_parts _ _ k).0
no_dots (a ∷ b ∷ d ∷ ds) h k = refl

-- a component that counts, and has no slash and no fault, is a name
pub is_name_without_fault : (count at : ℕ) (bytes : List ℕ) → is_empty_or_dot bytes ≡ false → has_no_slash bytes ≡ true → component_fault count (record { at = at; bytes = bytes }) ≡ None → is_name bytes ≡ true
unfolding is_name
is_name_without_fault count at bytes some clear h =
    let fine = no_fault count (record { at = at; bytes = bytes }) h in
    and_from _ _ (and_from _ _ (and_from _ _ (le-leb 1 (length bytes) (some_byte bytes some)) (le-leb (length bytes) 63 fine.short))
    (both (λ b. not (b == 0)) (λ b. not (b == 47)) bytes (no_zero bytes fine.whole) clear)) (ap not (no_dots bytes some fine.good))

all_names : (count at : ℕ) (ps : List (List ℕ)) → list_all has_no_slash ps ≡ true → first_fault count (filter counts (pieces_at at ps)) ≡ None → list_all is_name (names_of (filter counts (pieces_at at ps))) ≡ true
all_names count at [] clear h = refl
all_names count at (p ∷ ps) clear h =
    let parts = and_parts (has_no_slash p) (list_all has_no_slash ps) clear in
    by_head (is_empty_or_dot p) refl parts.0 (λ n k. all_names n (at + length p + 1) ps parts.1 k) h
  where
    left : List Piece
    left = filter counts (pieces_at (at + length p + 1) ps)

    by_head : (v : Bool) → is_empty_or_dot p ≡ v → has_no_slash p ≡ true → ((n : ℕ) → first_fault n left ≡ None → list_all is_name (names_of left) ≡ true)
        → first_fault count (cond (not v) (record { at = at; bytes = p } ∷ left) left) ≡ None
        → list_all is_name (names_of (cond (not v) (record { at = at; bytes = p } ∷ left) left)) ≡ true
    by_head true e clear rest h = rest count h
    by_head false e clear rest h =
        let none = or_none _ _ h in
        and_from _ _ (is_name_without_fault count at p e clear none.0) (rest (count + 1) none.1)

few_components : (count : ℕ) (cs : List Piece) → count ≤ 32 → first_fault count cs ≡ None → count + length cs ≤ 32
few_components count [] few h = omega arith
few_components count (c ∷ cs) few h =
    let none = or_none _ _ h in
    let fine = no_fault count c none.0 in
    let rest = few_components (count + 1) cs (omega (arith, fine.few)) none.1 in
    omega arith

-- ---- texts

record IsFine (text : List ℕ) : Type 0 where
  short : length text ≤ 1023
  none : first_fault 0 (components_of text) ≡ None

fine : (text : List ℕ) → path_fault text ≡ None → IsFine text
unfolding path_fault
fine text h =
    let some = cond_none _ _ _ h in
    let short = cond_none _ _ _ some.1 in
    record { short = ltb-false _ _ short.0; none = short.1 }

-- each name of the path of a text without a fault is a name
path_names : (text : List ℕ) → path_fault text ≡ None → list_all is_name (parse_path text).names ≡ true
unfolding parse_path components_of
path_names text h = all_names 0 0 (pieces 47 text) (no_slash_in_pieces text) (fine text h).none

same_slash : (x : ℕ) → (x == 47) ≡ false → (47 == x && true) ≡ false
same_slash x e = let other : (47 == x) ≡ false = grind (arith, nat_tests) in ap (λ v. v && true) other

-- the names, each with a slash before it, take at most the bytes of the text, and one more where it begins with no slash
written_text : (text : List ℕ) → written_len (names_of (components_of text)) ≤ length text + cond (starts_with ◌==◌ text (47 ∷ [])) 0 1
unfolding components_of
written_text [] = omega arith
written_text (x ∷ xs) = by_head (x == 47) refl
  where
    by_head : (v : Bool) → (x == 47) ≡ v → written_len (names_of (components_of (x ∷ xs))) ≤ suc (length xs) + cond (47 == x && true) 0 1
    by_head true e =
        let is : pieces 47 (x ∷ xs) ≡ [] ∷ pieces 47 xs = ap (λ v. cond v ([] ∷ pieces 47 xs) (onto_first x (pieces 47 xs))) e in
        let same = ap (λ (ps : List (List ℕ)). written_len (names_of (filter counts (pieces_at 0 ps)))) is in
        let kept = written_kept 1 (pieces 47 xs) in
        let all = written_pieces xs in
        omega arith
    by_head false e =
        let none = ap (λ v. cond {A = ℕ} v 0 1) (same_slash x e) in
        let kept = written_kept 0 (pieces 47 (x ∷ xs)) in
        let all = written_pieces (x ∷ xs) in
        omega arith

-- the path of a text without a fault has the form of a path
pub path_form : (text : List ℕ) → path_fault text ≡ None → HasForm (parse_path text).absolute (parse_path text).names
unfolding parse_path
path_form text h =
    let good = fine text h in
    let few = few_components 0 (components_of text) (omega arith) good.none in
    let same = length-map (components_of text) (λ (c : Piece). c.bytes) in
    let written = written_text text in
    record { few = omega arith; named = path_names text h; short = by_start (starts_with ◌==◌ text (47 ∷ [])) (omega (arith, good.short)) written }
  where
    by_start : (v : Bool) → length text ≤ 1023 → written_len (names_of (components_of text)) ≤ length text + cond v 0 1 → written_len (names_of (components_of text)) ≤ 1023 + cond v 0 1
    by_start v short h = omega arith
