-- Round trips of paths, labels and capability texts.
use Rattle.std.specs.Prelude.{◌≡◌, ℕ, ◌+◌, ◌≤◌, ◌<◌, ◌==◌, ◌&&◌, not, nat_le, Bool, true, false, cond, List, [], ◌∷◌, ◌++◌, length, Option, None, Some, is_none, codes, position, map, refl}
use Rattle.std.proofs.Common.{ap, sym, ◌∙◌, subst, append-nil, arith}
use Rattle.std.specs.Cmp.{unsigned_Decides}
use Rattle.std.specs.Cmp.Lexicographic.{pointwise_decides}
use Rattle.std.specs.List.{All, filter, flat_map, list_all, list_any, position_or_len, slice_split, starts_with}
use Rattle.std.specs.Option.{option_map, option_or}
use Rattle.std.proofs.lemmas.Bool.{and_parts, and_from, and_left, and_right, or_from, not-true, leb-true, lt-ltb, le-ltb, lt-leb, ne_eqb, cond-true, cond-false}
use Rattle.std.proofs.Math.Bool.{and-true}
use Rattle.std.proofs.lemmas.Bool.Decides.{nat_tests}
use Rattle.std.proofs.lemmas.List.Elements.{All-nil, All-cons}
use Rattle.std.proofs.lemmas.List.Splits.{slice_split_none, slice_split_at}
use Rattle.std.proofs.lemmas.List.Sums.{sum_by-cons}
use Rattle.std.proofs.lemmas.List.{length-append}
use Rattle.cap_bits.specs.declared.cap.Cap.{Cap}
use Rattle.cap_bits.specs.declared.state.CapState.{CapState}
use Rattle.cap_bits.specs.Cap.{all_caps}
use Rattle.cap_bits.specs.CapSet.{CapSet, is_within}
use Rattle.cap_bits.proofs.CapSets.{has-no_caps}
use Rattle.cap_bits.specs.State.{no_flags}
use Rattle.cap_clause.specs.Written.{firsts_of, is_first, group_text, clauses_text, caps_text, set_text}
use Rattle.cap_clause.proofs.WrittenRoundTrip.{caps_round_trip, caps_text_exact, set_round_trip, set_text_bare, set_text_some}
use Rattle.fs_path.specs.declared.path.PathError.{PathError}
use Rattle.fs_path.specs.declared.path.PathError.TheVariants as error
use Rattle.fs_path.proofs.RoundTrip.{word_spelling}
use Rattle.fs_path.specs.Name.{Name, is_name, is_name_byte, is_dots}
use Rattle.fs_path.specs.Options.{keep_if, then}
use Rattle.fs_path.specs.Path.{PathValue, HasForm, written_len}
use Rattle.fs_path.specs.PathText.{is_slash, is_empty_or_dot, starts_badly, counts, names_of, component_fault, first_fault, components_of, path_fault, parse_path}
use Rattle.fs_path.specs.Split.{Piece, pieces_at}
use Rattle.fs_path.specs.Words.{is_bare_text, has_spelling, with_quotes_if_needed}
use Rattle.lab_lattice.specs.Label.{Label}
use Rattle.fs_path.proofs.SplitLemmas.{any_before_end}
use Rattle.lab_text.specs.Names.{same_bytes}
use Rattle.lab_text.specs.Policy.{PolicyNames, MakePolicy, is_valid}
use Rattle.lab_text.proofs.Parsed.{parse_text}
use Rattle.lab_text.specs.Text.{label_text}
use Rattle.line_text.proofs.CapWords.{caps_text_bytes}
use Rattle.line_text.specs.Reading.{path_of}
use Rattle.world_text.specs.declared.values.WordValue.TheVariants as value
use Rattle.world_text.specs.Values.{caps_value, label_of, caps_of}
use Rattle.world_text.specs.Head.{set_of}
use Rattle.world_text.specs.TreeLines.{absolute_path}
use Rattle.world_text.specs.Processes.{proc_caps, proc_caps_of}
use Rattle.world_text.specs.Written.{quoted_form, path_text}
use Rattle.world_text.proofs.LineLemmas.{label_known}
use Rattle.world_text.proofs.WrittenForms.{IsCanonicalPath}

-- ---- names

-- what holds of the bytes of a name
record NameParts (n : Name) : Type 0 where
  some : 1 ≤ length n
  short : length n ≤ 63
  bytes : list_all is_name_byte n ≡ true
  no_dots : is_dots n ≡ false

name_parts : (n : Name) → is_name n ≡ true → NameParts n
unfolding is_name
name_parts n h =
    let three = and_parts _ (not (is_dots n)) h in
    let two = and_parts _ (list_all is_name_byte n) three.0 in
    let one = and_parts (nat_le 1 (length n)) (nat_le (length n) 63) two.0 in
    record { some = leb-true 1 (length n) one.0; short = leb-true (length n) 63 one.1; bytes = two.1; no_dots = not-true (is_dots n) three.1 }

no_slashes : (n : List ℕ) → list_all is_name_byte n ≡ true → All (λ b. is_slash b ≡ false) n
no_slashes [] h = All-nil (λ b. is_slash b ≡ false)
no_slashes (b ∷ bs) h =
    let parts = and_parts (is_name_byte b) (list_all is_name_byte bs) h in
    All-cons (λ b. is_slash b ≡ false) b bs (not-true (is_slash b) (and_parts (not (b == 0)) (not (b == 47)) parts.0).1) (no_slashes bs parts.1)

-- a name counts as a component
name_counts : (n : Name) → is_name n ≡ true → is_empty_or_dot n ≡ false
name_counts n h = let parts = name_parts n h in by_bytes n parts.some parts.no_dots
  where
    by_bytes : (n : List ℕ) → 1 ≤ length n → is_dots n ≡ false → is_empty_or_dot n ≡ false
    by_bytes [] some no_dots = absurd (omega arith)
    by_bytes (a ∷ []) some no_dots = ap (λ v. v && true) no_dots
    by_bytes (a ∷ b ∷ bs) some no_dots = elim (a == 46) as (λ v. (v && false) ≡ false) [ true ↦ refl | false ↦ refl ]

-- ---- paths

-- names, each after a slash
abbrev after_slashes : List Name → List ℕ
after_slashes names = flat_map (λ (name : Name). 47 ∷ name) names

split_round_trip : (n : Name) (ns : List Name) → list_all is_name (n ∷ ns) ≡ true → slice_split is_slash (n ++ after_slashes ns) ≡ n ∷ ns
split_round_trip n [] h =
    let parts = and_parts (is_name n) true h in
    ap (slice_split is_slash) (append-nil n) ∙ slice_split_none is_slash n (no_slashes n (name_parts n parts.0).bytes)
split_round_trip n (m ∷ ms) h =
    let parts = and_parts (is_name n) (list_all is_name (m ∷ ms)) h in
    slice_split_at is_slash n 47 (m ++ after_slashes ms) (no_slashes n (name_parts n parts.0).bytes) refl ∙ ap (λ (ns : List Name). n ∷ ns) (split_round_trip m ms parts.1)

-- each name counts as a component
kept_all : (at : ℕ) (ns : List Name) → list_all is_name ns ≡ true → filter counts (pieces_at at ns) ≡ pieces_at at ns
kept_all at [] h = refl
kept_all at (n ∷ ns) h =
    let parts = and_parts (is_name n) (list_all is_name ns) h in
    let counted : counts (record { at = at; bytes = n }) ≡ true = ap not (name_counts n parts.0) in
    cond-true _ _ _ counted ∙ ap (λ (cs : List Piece). record { at = at; bytes = n } ∷ cs) (kept_all (at + length n + 1) ns parts.1)

names_placed : (at : ℕ) (ns : List Name) → names_of (pieces_at at ns) ≡ ns
names_placed at [] = refl
names_placed at (n ∷ ns) = ap (λ (ms : List Name). n ∷ ms) (names_placed (at + length n + 1) ns)

components_round_trip : (names : List Name) → list_all is_name names ≡ true → components_of (path_text names) ≡ pieces_at 1 names
unfolding components_of
components_round_trip [] h = refl
components_round_trip (n ∷ ns) h = ap (λ (ps : List (List ℕ)). filter counts (pieces_at 1 ps)) (split_round_trip n ns h) ∙ kept_all 1 (n ∷ ns) h

no_zero : (a : ℕ) → is_name_byte a ≡ true → (0 == a && true) ≡ false
no_zero a h = grind (arith, nat_tests)

no_zeros : (n : List ℕ) → list_all is_name_byte n ≡ true → list_any (λ b. b == 0) n ≡ false
no_zeros [] h = refl
no_zeros (b ∷ bs) h =
    let parts = and_parts (is_name_byte b) (list_all is_name_byte bs) h in
    or_from (b == 0) (list_any (λ b. b == 0) bs) (not-true (b == 0) (and_parts (not (b == 0)) (not (b == 47)) parts.0).0) (no_zeros bs parts.1)

starts_well : (n : List ℕ) → 1 ≤ length n → list_all is_name_byte n ≡ true → is_dots n ≡ false → starts_badly n ≡ false
starts_well [] some bytes no_dots = absurd (omega arith)
starts_well (a ∷ []) some bytes no_dots = or_from _ _ (and_right (a == 46) false refl) (no_zero a (and_parts (is_name_byte a) true bytes).0)
starts_well (a ∷ b ∷ []) some bytes no_dots = or_from _ _ (ap (λ v. a == 46 && v) (and-true (b == 46)) ∙ no_dots) (no_zero a (and_parts (is_name_byte a) (list_all is_name_byte (b ∷ [])) bytes).0)
starts_well (a ∷ b ∷ c ∷ cs) some bytes no_dots =
    or_from _ _ (and_right (a == 46) (b == 46 && false) (and_right (b == 46) false refl)) (no_zero a (and_parts (is_name_byte a) (list_all is_name_byte (b ∷ c ∷ cs)) bytes).0)

name_fine : (count at : ℕ) (n : Name) → is_name n ≡ true → count < 32 → component_fault count (record { at = at; bytes = n }) ≡ None
unfolding component_fault
name_fine count at n h few =
    let parts = name_parts n h in
    let place : position (λ b. b == 0) n ≡ None = ap (λ v. cond v (Some (position_or_len (λ b. b == 0) n)) None) (sym (any_before_end (λ b. b == 0) n) ∙ no_zeros n parts.bytes) in
    cond-false _ _ _ (le-ltb 63 (length n) parts.short) ∙ cond-false _ _ _ (starts_well n parts.some parts.bytes parts.no_dots) ∙ cond-false _ _ _ (lt-leb 32 count few)
    ∙ ap (option_map (λ i. error.BadByte (at + i))) place

-- names that are not too many have no fault as components
names_fine : (count at : ℕ) (ns : List Name) → list_all is_name ns ≡ true → count + length ns ≤ 32 → first_fault count (pieces_at at ns) ≡ None
names_fine count at [] h few = refl
names_fine count at (n ∷ ns) h few =
    let parts = and_parts (is_name n) (list_all is_name ns) h in
    ap (λ (o : Option PathError). option_or o (first_fault (count + 1) (pieces_at (at + length n + 1) ns))) (name_fine count at n parts.0 (omega arith)) ∙ names_fine (count + 1) (at + length n + 1) ns parts.1 (omega arith)

text_length : (ns : List Name) → length (after_slashes ns) ≡ written_len ns
text_length [] = refl
text_length (n ∷ ns) =
    let one = length-append n (after_slashes ns) in
    let more = sum_by-cons (λ (name : Name). length name + 1) n ns in
    let rest = text_length ns in
    omega arith

path_length : (names : List Name) → HasForm true names → (1 ≤ length (path_text names)) × (length (path_text names) ≤ 1023)
path_length [] form = (omega arith, omega arith)
path_length (n ∷ ns) form =
    let text = text_length (n ∷ ns) in
    let short = form.short in
    (omega arith, omega arith)

path_fine : (names : List Name) → HasForm true names → list_all is_name names ≡ true → path_fault (path_text names) ≡ None
unfolding path_fault
path_fine names form h =
    let size = path_length names form in
    let some : (length (path_text names) == 0) ≡ false = ne_eqb (length (path_text names)) 0 (λ e. omega arith) in
    cond-false _ _ _ some ∙ cond-false _ _ _ (le-ltb 1023 (length (path_text names)) size.1) ∙ ap (first_fault 0) (components_round_trip names h) ∙ names_fine 0 1 names h (omega (arith, form.few))

starts_absolute : (names : List Name) → starts_with ◌==◌ (path_text names) (47 ∷ []) ≡ true
starts_absolute [] = refl
starts_absolute (n ∷ ns) = refl

-- the text of names is that of the absolute path with these names
pub path_is : (names : List Name) → list_all is_name names ≡ true → parse_path (path_text names) ≡ record { absolute = true; names = names }
unfolding parse_path
path_is names h =
    let parsed = ap names_of (components_round_trip names h) ∙ names_placed 1 names in
    λ i. record { absolute = starts_absolute names i; names = parsed i }

-- a path's text denotes that path
pub path_round_trip : (p : PathValue) → IsCanonicalPath p → absolute_path (path_text p.names) ≡ Some p
path_round_trip p h =
    let form : HasForm true p.names = subst (λ v. HasForm v p.names) h.absolute h.form in
    let same : p ≡ record { absolute = true; names = p.names } = ap (λ v. record { absolute = v; names = p.names }) h.absolute in
    let parsed : path_of (path_text p.names) ≡ Some p = cond-true _ _ _ (ap is_none (path_fine p.names form h.form.named)) ∙ ap Some (path_is p.names h.form.named ∙ sym same) in
    ap (λ (o : Option PathValue). then o (λ path. keep_if path.absolute path)) parsed ∙ cond-true _ _ _ h.absolute

-- a path's text can be written as a word
pub path_spelling : (p : PathValue) → IsCanonicalPath p → has_spelling (with_quotes_if_needed (path_text p.names)) ≡ true
path_spelling p h = word_spelling (path_text p.names) h.bytes

-- ---- labels

-- the text of a valid label denotes that label
pub label_round_trip : (p : PolicyNames) (label : Label) → MakePolicy p → is_valid p label ≡ true → label_of p (label_text p label) ≡ value.Known label
label_round_trip p label h valid = sym (label_known p (label_text p label) label (parse_text p label h valid))

-- ---- capabilities

-- the text of a state denotes that state
pub caps_known : (caps : CapState) → caps_of (caps_text caps) ≡ value.Known caps
caps_known caps = ap caps_value (caps_round_trip caps)

-- the text of a state in which what is effective is permitted denotes it as the state of a process
pub proc_caps_known : (caps : CapState) → is_within caps.e caps.p ≡ true → proc_caps_of (caps_text caps) ≡ value.Known caps
proc_caps_known caps within = ap proc_caps (caps_known caps) ∙ cond-true _ _ _ within

no_flag_first : (cap : Cap) → is_first no_flags cap ≡ false
unfolding is_first
no_flag_first cap = and_left _ _ (or_from _ _ (has-no_caps cap) (or_from _ _ (has-no_caps cap) (or_from _ _ (has-no_caps cap) refl)))

no_flags_text : caps_text no_flags ≡ codes "="
unfolding caps_text firsts_of
no_flags_text = ap (λ (test : Cap → Bool). clauses_text (map (group_text no_flags) (filter test all_caps))) (λ i cap. no_flag_first cap i)

-- the state whose text is `=` has no flag
pub none_known : (caps : CapState) → same_bytes (caps_text caps) (codes "=") ≡ true → caps ≡ no_flags
none_known caps e = caps_text_exact caps no_flags ((pointwise_decides unsigned_Decides (caps_text caps) (codes "=")).0 e ∙ sym no_flags_text)

-- the text of a state can be written between quotes
pub caps_spelling : (caps : CapState) → has_spelling (quoted_form (caps_text caps)) ≡ true
caps_spelling caps = caps_text_bytes caps

-- the text of a bound denotes that bound
pub bound_known : (bound : CapSet) → set_of (set_text bound) ≡ value.Known bound
bound_known bound = ap caps_value (set_round_trip bound)

-- the text of a bound is a bare word
pub bound_bare : (bound : CapSet) → is_bare_text (set_text bound) ≡ true
bound_bare bound = and_from _ _ (lt-ltb 0 (length (set_text bound)) (set_text_some bound)) (set_text_bare bound)
