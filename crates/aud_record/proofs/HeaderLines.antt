-- The lines of a header: what is written is read again, and what is read is written so.
use Rattle.std.specs.Prelude.{◌≡◌, ℕ, ◌+◌, ◌<◌, ◌≤◌, ◌==◌, not, nat_lt, Bool, true, false, cond, List, [], ◌∷◌, ◌++◌, length, Option, None, Some, Result, Ok, Err, ◌⊎◌, codes, refl}
use Rattle.std.proofs.Common.{ap, sym, subst, ◌∙◌, inl, inr, arith, append_assoc, drop, drop-cons, add-one, get_or}
use Rattle.std.specs.List.{join_with_byte, list_all}
use Rattle.std.specs.Option.{ok_or}
use Rattle.std.specs.Result.{IsErrAnd}
use Rattle.std.proofs.lemmas.Bool.{and_parts, and_from, lt-ltb, both_ways}
use Rattle.std.proofs.lemmas.List.{append-nil, drop_all}
use Rattle.std.proofs.lemmas.List.Splits.{join_with_byte-slice_split}
use Rattle.std.proofs.lemmas.Option.{cond_some}
use Rattle.cap_bits.specs.CapSet.{CapSet}
use Rattle.cap_clause.proofs.ListRoundTrip.{split_joined}
use Rattle.cap_clause.proofs.Steps.{all_weaker}
use Rattle.cap_clause.proofs.WrittenRoundTrip.{set_round_trip, set_text_bare, set_text_some}
use Rattle.cap_clause.specs.Parsed.{parse_set}
use Rattle.cap_clause.specs.Written.{set_text}
use Rattle.cap_clause.specs.declared.error.CapTextError.{CapTextError}
use Rattle.fs_path.specs.Options.{keep_if}
use Rattle.fs_path.specs.Split.{split_once, pieces}
use Rattle.fs_path.specs.Words.{is_space, is_plain, is_bare, is_bare_text, after_spaces, line_text}
use Rattle.lab_text.proofs.BareLemmas.{all_bare, label_name_bare}
use Rattle.lab_text.proofs.PolicyFacts.{policy_facts, levels_alone, without_grades}
use Rattle.lab_text.specs.Lists.{all_lists, keyword_of}
use Rattle.lab_text.specs.Names.{Names, same_bytes, is_label_name}
use Rattle.lab_text.specs.Policy.{PolicyNames, with_names, no_names, names_fault, MakePolicy}
use Rattle.lab_text.specs.declared.lists.NameList.{NameList}
use Rattle.lab_text.specs.declared.lists.NameList.TheVariants.{Levels, Categories, Grades}
use Rattle.lab_text.specs.declared.policy.PolicyError.{PolicyError}
use Rattle.aud_record.proofs.FieldLaws.{prefix_is}
use Rattle.aud_record.proofs.FormLaws.{bound_is}
use Rattle.aud_record.proofs.Numbers.{same_itself, same_is}
use Rattle.aud_record.proofs.WordLaws.{lacks, lacks-append, split_round_trip, split_is, word_lacks}
use Rattle.aud_record.specs.Canonical.{after_prefix}
use Rattle.aud_record.specs.Results.{AnswersAs, FailsBy}
use Rattle.aud_record.specs.Header.{is_no_memory, after_keyword, keyword_line, names_unless, policy_of, names_line, is_before, has_no_line, list_line, names_lines, canonical_set, bound_of, format_line}
use Rattle.aud_record.specs.Words.{◌>>=◌}
use Rattle.aud_record.specs.Written.{line_of}
use Rattle.aud_record.specs.declared.header.HeaderError.{HeaderError}
use Rattle.aud_record.specs.declared.header.HeaderError.TheVariants as error

-- ---- results

found_is : {A : Type 0} (o : Option A) (e : HeaderError) (x : A) → ok_or o e ≡ Ok x → o ≡ Some x
found_is None e x h = absurd (cc)
found_is (Some y) e x h = cc

-- ---- words with one space between them

joined : (w : List ℕ) (ws : List (List ℕ)) → join_with_byte 32 (w ∷ ws) ≡ line_text (w ∷ ws)
joined w [] = sym (append-nil w)
joined w (v ∷ vs) = ap (λ (t : List ℕ). w ++ 32 ∷ t) (joined v vs)

no_space : (ws : List (List ℕ)) → list_all is_bare_text ws ≡ true → list_all (list_all (λ b. not (b == 32))) ws ≡ true
no_space ws bare =
    all_weaker is_bare_text (list_all (λ b. not (b == 32))) ws (λ w is. all_weaker is_bare (λ b. not (b == 32)) w (λ b h. (and_parts (is_plain b) (not (is_space b)) h).1) (all_bare w is)) bare

words_lack : (ws : List (List ℕ)) → list_all is_bare_text ws ≡ true → lacks 10 (after_spaces ws) ≡ true
words_lack [] bare = refl
words_lack (w ∷ ws) bare = let parts = and_parts (is_bare_text w) (list_all is_bare_text ws) bare in lacks-append 10 w (after_spaces ws) (word_lacks w (inl parts.0)) (words_lack ws parts.1)

-- bare words with one space between them are the pieces between spaces
pieces_made : (w : List ℕ) (ws : List (List ℕ)) → list_all is_bare_text (w ∷ ws) ≡ true → pieces 32 (line_text (w ∷ ws)) ≡ w ∷ ws
pieces_made w ws bare = ap (pieces 32) (sym (joined w ws)) ∙ split_joined (λ b. b == 32) 32 w ws refl (no_space (w ∷ ws) bare)

pieces_are : (line w : List ℕ) (ws : List (List ℕ)) → pieces 32 line ≡ w ∷ ws → line ≡ line_text (w ∷ ws)
pieces_are line w ws h = sym (join_with_byte-slice_split 32 line) ∙ ap (join_with_byte 32) h ∙ joined w ws

-- ---- a line that begins with a keyword

abbrev from_pieces : ℕ → List ℕ → List ℕ → List (List ℕ) → Result (List (List ℕ) × List ℕ) HeaderError
from_pieces n keyword rest ps = ok_or (after_keyword keyword ps) (error.Form n) >>= λ words. Ok (words, rest)

abbrev from_split : ℕ → List ℕ → List ℕ × List ℕ → Result (List (List ℕ) × List ℕ) HeaderError
from_split n keyword parts = from_pieces n keyword parts.1 (pieces 32 parts.0)

line_round_trip : (n : ℕ) (keyword : List ℕ) (words : List (List ℕ)) (rest : List ℕ) → is_bare_text keyword ≡ true → list_all is_bare_text words ≡ true
    → keyword_line n keyword (line_of (keyword ∷ words) ++ rest) ≡ Ok (words, rest)
unfolding keyword_line line_of
line_round_trip n keyword words rest is are =
    let line = line_text (keyword ∷ words) in
    let whole = lacks-append 10 keyword (after_spaces words) (word_lacks keyword (inl is)) (words_lack words are) in
    ap (λ t. ok_or (split_once 10 t) (error.Form n) >>= from_split n keyword) (append_assoc line (10 ∷ []) rest)
    ∙ ap (λ (o : Option (List ℕ × List ℕ)). ok_or o (error.Form n) >>= from_split n keyword) (split_round_trip 10 line rest whole)
    ∙ ap (from_pieces n keyword rest) (pieces_made keyword words (and_from (is_bare_text keyword) (list_all is_bare_text words) is are))
    ∙ ap (λ b. ok_or (keep_if b words) (error.Form n) >>= λ (ws : List (List ℕ)). Ok (ws, rest)) (same_itself keyword)

keyword_is : (keyword : List ℕ) (ps ws : List (List ℕ)) → after_keyword keyword ps ≡ Some ws → ps ≡ keyword ∷ ws
keyword_is keyword [] ws h = absurd (cc)
keyword_is keyword (p ∷ ps) ws h = let kept = cond_some (same_bytes p keyword) ps ws h in λ i. same_is p keyword kept.0 i ∷ kept.1 i

line_is : (n : ℕ) (keyword text rest : List ℕ) (words : List (List ℕ)) → keyword_line n keyword text ≡ Ok (words, rest) → text ≡ line_of (keyword ∷ words) ++ rest
unfolding keyword_line line_of
line_is n keyword text rest words h =
    let first = bound_is (ok_or (split_once 10 text) (error.Form n)) (from_split n keyword) (words, rest) h in
    let second = bound_is (ok_or (after_keyword keyword (pieces 32 first.0.0)) (error.Form n)) (λ ws. Ok (ws, first.0.1)) (words, rest) first.2 in
    let same : ◌≡◌ {A = List (List ℕ) × List ℕ} (second.0, first.0.1) (words, rest) = cc in
    let line = line_text (keyword ∷ second.0) in
    subst (λ (x : List (List ℕ) × List ℕ). text ≡ (line_text (keyword ∷ x.0) ++ 10 ∷ []) ++ x.1) same
    (split_is 10 text first.0.0 first.0.1 (found_is (split_once 10 text) (error.Form n) first.0 first.1)
    ∙ ap (λ (l : List ℕ). l ++ 10 ∷ first.0.1) (pieces_are first.0.0 keyword second.0 (keyword_is keyword (pieces 32 first.0.0) second.0 (found_is (after_keyword keyword (pieces 32 first.0.0)) (error.Form n) second.0 second.1)))
    ∙ sym (append_assoc line (10 ∷ []) first.0.1))

-- ---- names

names_bare : (ns : Names) → list_all is_label_name ns ≡ true → list_all is_bare_text ns ≡ true
names_bare ns h = all_weaker is_label_name is_bare_text ns label_name_bare h

made_of : (n : ℕ) (p : PolicyNames) → MakePolicy p → policy_of n p ≡ Ok p
unfolding policy_of
made_of n p h = ap (names_unless n p) h

-- the policy that was made of names
record IsMadeOf (q p : PolicyNames) : Type 0 where
  same : q ≡ p
  fine : MakePolicy p

policy_is : (n : ℕ) (p q : PolicyNames) → policy_of n p ≡ Ok q → IsMadeOf q p
unfolding policy_of
policy_is n p q h = by_fault (names_fault p) refl h
  where
    by_fault : (o : Option PolicyError) → names_fault p ≡ o → names_unless n p o ≡ Ok q → IsMadeOf q p
    by_fault None e h = record { same = cc; fine = e }
    by_fault (Some fault) e h = absurd (cc)

-- ---- the lines

pub format_is : (text rest : List ℕ) → format_line text ≡ Ok rest → text ≡ line_of (codes "trail" ∷ codes "1" ∷ []) ++ rest
unfolding format_line line_of
format_is text rest h = prefix_is (codes "trail 1" ++ 10 ∷ []) text rest (found_is (after_prefix (codes "trail 1" ++ 10 ∷ []) text) (error.Form 1) rest h)

pub format_round_trip : (rest : List ℕ) → format_line (line_of (codes "trail" ∷ codes "1" ∷ []) ++ rest) ≡ Ok rest
unfolding format_line line_of
format_round_trip rest = refl

-- the line of a list of names
abbrev pub line_for : NameList → Names → List ℕ
line_for list names = line_of (keyword_of list ∷ names)

keyword_bare : (list : NameList) → is_bare_text (keyword_of list) ≡ true
keyword_bare Levels = refl
keyword_bare Categories = refl
keyword_bare Grades = refl

abbrev with_words : ℕ → NameList → PolicyNames → Names × List ℕ → Result (PolicyNames × List ℕ) HeaderError
with_words n list p x = policy_of n (with_names p list x.0) >>= λ policy. Ok (policy, x.1)

names_line_round_trip : (n : ℕ) (list : NameList) (p : PolicyNames) (names : Names) (rest : List ℕ) → list_all is_label_name names ≡ true → MakePolicy (with_names p list names)
    → names_line n list p (line_for list names ++ rest) ≡ Ok (with_names p list names, rest)
unfolding names_line
names_line_round_trip n list p names rest named fine =
    ap (λ (r : Result (Names × List ℕ) HeaderError). r >>= with_words n list p) (line_round_trip n (keyword_of list) names rest (keyword_bare list) (names_bare names named))
    ∙ ap (λ (r : Result PolicyNames HeaderError). r >>= λ policy. Ok (policy, rest)) (made_of n (with_names p list names) fine)

-- the names that a line adds, and the text after it
pub record HasNames (n : ℕ) (list : NameList) (p q : PolicyNames) (text rest : List ℕ) : Type 0 where
  pub names : Names
  pub same : q ≡ with_names p list names
  pub fine : MakePolicy q
  pub begins : text ≡ line_for list names ++ rest

pub names_line_is : (n : ℕ) (list : NameList) (p q : PolicyNames) (text rest : List ℕ) → names_line n list p text ≡ Ok (q, rest) → HasNames n list p q text rest
unfolding names_line
names_line_is n list p q text rest h =
    let first = bound_is (keyword_line n (keyword_of list) text) (with_words n list p) (q, rest) h in
    let second = bound_is (policy_of n (with_names p list first.0.0)) (λ policy. Ok (policy, first.0.1)) (q, rest) first.2 in
    let same : ◌≡◌ {A = PolicyNames × List ℕ} (second.0, first.0.1) (q, rest) = cc in
    let is = policy_is n (with_names p list first.0.0) second.0 second.1 in
    let has : HasNames n list p second.0 text first.0.1 = record {
      names = first.0.0;
      same = is.same;
      fine = subst (λ (r : PolicyNames). MakePolicy r) (sym is.same) is.fine;
      begins = line_is n (keyword_of list) text first.0.1 first.0.0 first.1;
    } in
    subst (λ (x : PolicyNames × List ℕ). HasNames n list p x.0 text x.1) same has

-- ---- lines that may be left out

line_there : (n : ℕ) (list : NameList) (p : PolicyNames) (text : List ℕ) → has_no_line list text ≡ false → list_line n list p text ≡ names_line n list p text
unfolding list_line
line_there n list p text there = ap (λ b. cond b (Ok (p, text)) (names_line n list p text)) there

line_absent : (n : ℕ) (list : NameList) (p : PolicyNames) (text : List ℕ) → has_no_line list text ≡ true → list_line n list p text ≡ Ok (p, text)
unfolding list_line
line_absent n list p text absent = ap (λ b. cond b (Ok (p, text)) (names_line n list p text)) absent

-- a line whose names make a policy with those before them is read
list_line_round_trip : (n : ℕ) (list : NameList) (p : PolicyNames) (names : Names) (rest : List ℕ) → has_no_line list (line_for list names ++ rest) ≡ false → list_all is_label_name names ≡ true → MakePolicy (with_names p list names)
    → list_line n list p (line_for list names ++ rest) ≡ Ok (with_names p list names, rest)
list_line_round_trip n list p names rest there named fine = line_there n list p (line_for list names ++ rest) there ∙ names_line_round_trip n list p names rest named fine

-- what a line says of the names: those that it has, or nothing where it is left out
list_line_is : (n : ℕ) (list : NameList) (p q : PolicyNames) (text rest : List ℕ) → list_line n list p text ≡ Ok (q, rest)
    → (◌≡◌ {A = Result (PolicyNames × List ℕ) HeaderError} (Ok (p, text)) (Ok (q, rest)) × (has_no_line list text ≡ true)) ⊎ (HasNames n list p q text rest × (has_no_line list text ≡ false))
unfolding list_line
list_line_is n list p q text rest h = by_test (has_no_line list text) refl h
  where
    by_test : (b : Bool) → has_no_line list text ≡ b → cond b (Ok (p, text)) (names_line n list p text) ≡ Ok (q, rest)
        → (◌≡◌ {A = Result (PolicyNames × List ℕ) HeaderError} (Ok (p, text)) (Ok (q, rest)) × (has_no_line list text ≡ true)) ⊎ (HasNames n list p q text rest × (has_no_line list text ≡ false))
    by_test true e h = inl (h, e)
    by_test false e h = inr (names_line_is n list p q text rest h, e)

-- ---- the lines of names, one after another

-- a line that is read, before others
pub first_line : (n : ℕ) (list : NameList) (lists : List NameList) (p q : PolicyNames) (text rest : List ℕ) → list_line n list p text ≡ Ok (q, rest) → names_lines n (list ∷ lists) p text ≡ names_lines (n + 1) lists q rest
unfolding names_lines
first_line n list lists p q text rest h = ap (λ (r : Result (PolicyNames × List ℕ) HeaderError). r >>= λ first. names_lines (n + 1) lists first.0 first.1) h

-- a line at fault, before others
pub first_fails : (n : ℕ) (list : NameList) (lists : List NameList) (p : PolicyNames) (text : List ℕ) (e : HeaderError) → FailsBy is_no_memory e (list_line n list p text) → FailsBy is_no_memory e (names_lines n (list ∷ lists) p text)
unfolding names_lines
first_fails n list lists p text (error.Form k) h = ap (λ (r : Result (PolicyNames × List ℕ) HeaderError). r >>= λ first. names_lines (n + 1) lists first.0 first.1) h
first_fails n list lists p text (error.Name k) h = ap (λ (r : Result (PolicyNames × List ℕ) HeaderError). r >>= λ first. names_lines (n + 1) lists first.0 first.1) h
first_fails n list lists p text (error.NoMemory m) h = tt

no_lines : (n : ℕ) (p : PolicyNames) (text : List ℕ) → names_lines n [] p text ≡ Ok (p, text)
unfolding names_lines
no_lines n p text = refl

ok_first : {p q : PolicyNames} {text rest : List ℕ} → ◌≡◌ {A = Result (PolicyNames × List ℕ) HeaderError} (Ok (p, text)) (Ok (q, rest)) → p ≡ q
ok_first {p} {q} {text} {rest} h = let same : ◌≡◌ {A = PolicyNames × List ℕ} (p, text) (q, rest) = cc in ap (λ (x : PolicyNames × List ℕ). x.0) same

-- names that are a policy's, and those of a further line, make a policy
list_made : (n : ℕ) (list : NameList) (p q : PolicyNames) (text rest : List ℕ) → MakePolicy p → list_line n list p text ≡ Ok (q, rest) → MakePolicy q
list_made n list p q text rest fine h = elim (list_line_is n list p q text rest h) [
  | inl absent ↦ let same : p ≡ q = ok_first absent.0 in subst (λ (x : PolicyNames). MakePolicy x) same fine
  | inr there ↦ there.0.fine
]

lists_made : (n : ℕ) (lists : List NameList) (p q : PolicyNames) (text rest : List ℕ) → MakePolicy p → names_lines n lists p text ≡ Ok (q, rest) → MakePolicy q
unfolding names_lines
lists_made n [] p q text rest fine h = let is : ◌≡◌ {A = Result (PolicyNames × List ℕ) HeaderError} (Ok (p, text)) (Ok (q, rest)) = h in let same : p ≡ q = ok_first is in subst (λ (x : PolicyNames). MakePolicy x) same fine
lists_made n (list ∷ lists) p q text rest fine h =
    let first = bound_is (list_line n list p text) (λ first. names_lines (n + 1) lists first.0 first.1) (q, rest) h in
    lists_made (n + 1) lists first.0.0 q first.0.1 rest (list_made n list p first.0.0 text first.0.1 fine first.1) first.2

-- the line of levels is always there
levels_line : (n : ℕ) (p q : PolicyNames) (text rest : List ℕ) → list_line n Levels p text ≡ Ok (q, rest) → HasNames n Levels p q text rest
levels_line n p q text rest h = names_line_is n Levels p q text rest (sym (line_there n Levels p text refl) ∙ h)

-- so is that of categories
cats_line : (n : ℕ) (p q : PolicyNames) (text rest : List ℕ) → list_line n Categories p text ≡ Ok (q, rest) → HasNames n Categories p q text rest
cats_line n p q text rest h = names_line_is n Categories p q text rest (sym (line_there n Categories p text refl) ∙ h)

-- the names of all lists make a policy
pub names_made : (n : ℕ) (p q : PolicyNames) (text rest : List ℕ) → names_lines n all_lists p text ≡ Ok (q, rest) → MakePolicy q
unfolding names_lines
names_made n p q text rest h =
    let first = bound_is (list_line n Levels p text) (λ first. names_lines (n + 1) (Categories ∷ Grades ∷ []) first.0 first.1) (q, rest) h in
    lists_made (n + 1) (Categories ∷ Grades ∷ []) first.0.0 q first.0.1 rest (levels_line n p first.0.0 text first.0.1 first.1).fine first.2

-- ---- line by line, of all lists

abbrev pub Read : Type 0
Read = Result (PolicyNames × List ℕ) HeaderError

from_place : (place : ℕ) (d : NameList) (p : PolicyNames) (text : List ℕ) → place < length all_lists → names_lines (place + 2) (drop place all_lists) p text ≡ names_lines (place + 2) (get_or all_lists place d ∷ drop (place + 1) all_lists) p text
from_place place d p text within =
    ap (λ (lists : List NameList). names_lines (place + 2) lists p text) (drop-cons all_lists place d within ∙ ap (λ k. get_or all_lists place d ∷ drop k all_lists) (sym (add-one place)))

pub line_read : (place : ℕ) (d : NameList) (p q : PolicyNames) (text rest : List ℕ) (whole : Read) → place < length all_lists → whole ≡ names_lines (place + 2) (drop place all_lists) p text
    → list_line (place + 2) (get_or all_lists place d) p text ≡ Ok (q, rest) → whole ≡ names_lines (place + 1 + 2) (drop (place + 1) all_lists) q rest
line_read place d p q text rest whole within is h =
    let next : place + 2 + 1 ≡ place + 1 + 2 = omega arith in
    is ∙ from_place place d p text within ∙ first_line (place + 2) (get_or all_lists place d) (drop (place + 1) all_lists) p q text rest h ∙ ap (λ n. names_lines n (drop (place + 1) all_lists) q rest) next

pub line_fails : (place : ℕ) (d : NameList) (p : PolicyNames) (text : List ℕ) (e : HeaderError) (whole : Read) → place < length all_lists → whole ≡ names_lines (place + 2) (drop place all_lists) p text
    → FailsBy is_no_memory e (list_line (place + 2) (get_or all_lists place d) p text) → FailsBy is_no_memory e whole
line_fails place d p text e whole within is h = subst (λ (r : Read). FailsBy is_no_memory e r) (sym (is ∙ from_place place d p text within)) (first_fails (place + 2) (get_or all_lists place d) (drop (place + 1) all_lists) p text e h)

pub lines_read : (place : ℕ) (p : PolicyNames) (text : List ℕ) (whole : Read) → length all_lists ≤ place → whole ≡ names_lines (place + 2) (drop place all_lists) p text → whole ≡ Ok (p, text)
lines_read place p text whole past is = is ∙ ap (λ (lists : List NameList). names_lines (place + 2) lists p text) (drop_all place all_lists past) ∙ no_lines (place + 2) p text

-- an error that is handed on is the one that the line gives
pub handed_on : {X Y : Type 0} (r : Result X HeaderError) (view : X → Y) (e : HeaderError) (whole : Result Y HeaderError) → IsErrAnd r (λ f. f ≡ e) → FailsBy is_no_memory e whole → AnswersAs is_no_memory view r whole
handed_on (Ok x) view e whole is h = absurd is
handed_on (Err f) view e whole is h = subst (λ (f : HeaderError). FailsBy is_no_memory f whole) (sym is) h

-- ---- the lines of names of a policy

-- the line of grades, where there are some
abbrev pub grades_for : Names → List ℕ → List ℕ
grades_for [] rest = rest
grades_for (name ∷ names) rest = line_for Grades (name ∷ names) ++ rest

-- the lines of names of a policy
abbrev pub lines_for : PolicyNames → List ℕ → List ℕ
lines_for p rest = line_for Levels p.levels ++ (line_for Categories p.cats ++ grades_for p.grades rest)

-- the line of grades is there
grades_there : (name : List ℕ) (names : Names) (rest : List ℕ) → has_no_line Grades (line_for Grades (name ∷ names) ++ rest) ≡ false
unfolding line_of
grades_there name names rest =
    let keyword = codes "grades" in
    let more = (name ++ after_spaces names) ++ 10 ∷ [] in
    ap (λ o. not (is_before keyword o)) (split_round_trip 32 keyword (more ++ rest) refl) ∙ ap not (same_itself keyword)

grades_round_trip : (n : ℕ) (p : PolicyNames) (grades : Names) (rest : List ℕ) → list_all is_label_name grades ≡ true → MakePolicy (with_names p Grades grades) → p.grades ≡ [] → has_no_line Grades rest ≡ true
    → list_line n Grades p (grades_for grades rest) ≡ Ok (with_names p Grades grades, rest)
grades_round_trip n p [] rest named fine none absent = line_absent n Grades p rest absent ∙ ap (λ (names : Names). Ok (with_names p Grades names, rest)) none
grades_round_trip n p (name ∷ names) rest named fine none absent = list_line_round_trip n Grades p (name ∷ names) rest (grades_there name names rest) named fine

-- the lines of names are read, where the text after them begins with no line of grades
pub names_round_trip : (p : PolicyNames) (rest : List ℕ) → MakePolicy p → has_no_line Grades rest ≡ true → names_lines 2 all_lists no_names (lines_for p rest) ≡ Ok (p, rest)
names_round_trip p rest h absent =
    let levels = with_names no_names Levels p.levels in
    let cats = with_names levels Categories p.cats in
    let after_cats = grades_for p.grades rest in
    let after_levels = line_for Categories p.cats ++ after_cats in
    first_line 2 Levels (Categories ∷ Grades ∷ []) no_names levels (lines_for p rest) after_levels (list_line_round_trip 2 Levels no_names p.levels after_levels refl (policy_facts p h Levels).named (levels_alone p h))
    ∙ first_line 3 Categories (Grades ∷ []) levels cats after_levels after_cats (list_line_round_trip 3 Categories levels p.cats after_cats refl (policy_facts p h Categories).named (without_grades p h))
    ∙ first_line 4 Grades [] cats p after_cats rest (grades_round_trip 4 cats p.grades rest (policy_facts p h Grades).named h refl absent)
    ∙ no_lines 5 p rest

-- the lines of names with which a text begins, and the text after them
pub record HasLines (p : PolicyNames) (text rest : List ℕ) : Type 0 where
  pub fine : MakePolicy p
  pub begins : text ≡ lines_for p rest

-- texts that go on after one beginning go on with one byte
same_next : (start s t : List ℕ) (b c : ℕ) → start ++ b ∷ s ≡ start ++ c ∷ t → b ≡ c
same_next [] s t b c h = ap (λ (l : List ℕ). get_or l 0 0) h
same_next (x ∷ start) s t b c h = same_next start s t b c (ap (λ (l : List ℕ). drop 1 l) h)

bare_keyword : (rest : List ℕ) → line_for Grades [] ++ rest ≡ keyword_of Grades ++ 10 ∷ rest
unfolding line_of
bare_keyword rest = refl

-- a keyword alone in its line has no space after it
no_space_after : (keyword rest : List ℕ) → not (is_before keyword (split_once 32 (keyword ++ 10 ∷ rest))) ≡ true
no_space_after keyword rest = by_split (split_once 32 (keyword ++ 10 ∷ rest)) refl
  where
    by_test : (parts : List ℕ × List ℕ) (v : Bool) → split_once 32 (keyword ++ 10 ∷ rest) ≡ Some parts → same_bytes parts.0 keyword ≡ v → not v ≡ true
    by_test parts false e is = refl
    by_test parts true e is =
        let begins : keyword ++ 10 ∷ rest ≡ keyword ++ 32 ∷ parts.1 = split_is 32 (keyword ++ 10 ∷ rest) parts.0 parts.1 e ∙ ap (λ (w : List ℕ). w ++ 32 ∷ parts.1) (same_is parts.0 keyword is) in
        let next : 10 ≡ 32 = same_next keyword rest parts.1 10 32 begins in
        absurd (cc next)

    by_split : (o : Option (List ℕ × List ℕ)) → split_once 32 (keyword ++ 10 ∷ rest) ≡ o → not (is_before keyword o) ≡ true
    by_split None e = refl
    by_split (Some parts) e = by_test parts (same_bytes parts.0 keyword) e refl

-- a line of grades that is there has names
some_grades : (names : Names) (rest : List ℕ) → has_no_line Grades (line_for Grades names ++ rest) ≡ false → line_for Grades names ++ rest ≡ grades_for names rest
some_grades (name ∷ names) rest there = refl
some_grades [] rest there = absurd (both_ways _ there (ap (has_no_line Grades) (bare_keyword rest) ∙ no_space_after (keyword_of Grades) rest))

grades_are : (n : ℕ) (p q : PolicyNames) (text rest : List ℕ) → MakePolicy p → p.grades ≡ [] → list_line n Grades p text ≡ Ok (q, rest) → (q ≡ with_names p Grades q.grades) × (text ≡ grades_for q.grades rest)
grades_are n p q text rest fine none h = elim (list_line_is n Grades p q text rest h) [
  | inl absent ↦
      let same : ◌≡◌ {A = PolicyNames × List ℕ} (p, text) (q, rest) = let is = absent.0 in cc in
      subst (λ (x : PolicyNames × List ℕ). (x.0 ≡ with_names p Grades x.0.grades) × (text ≡ grades_for x.0.grades x.1)) same (ap (λ (names : Names). with_names p Grades names) refl, ap (λ (names : Names). grades_for names text) (sym none))
  | inr there ↦
      let has = there.0 in
      let text_is = has.begins in
      let some = some_grades has.names rest (sym (ap (has_no_line Grades) text_is) ∙ there.1) in
      subst (λ (x : PolicyNames). (x ≡ with_names p Grades x.grades) × (text ≡ grades_for x.grades rest)) (sym has.same) (refl, text_is ∙ some)
]

pub names_are : (p : PolicyNames) (text rest : List ℕ) → names_lines 2 all_lists no_names text ≡ Ok (p, rest) → HasLines p text rest
unfolding names_lines
names_are p text rest h =
    let first = bound_is (list_line 2 Levels no_names text) (λ first. names_lines 3 (Categories ∷ Grades ∷ []) first.0 first.1) (p, rest) h in
    let levels = levels_line 2 no_names first.0.0 text first.0.1 first.1 in
    let second = bound_is (list_line 3 Categories first.0.0 first.0.1) (λ first. names_lines 4 (Grades ∷ []) first.0 first.1) (p, rest) first.2 in
    let cats = cats_line 3 first.0.0 second.0.0 first.0.1 second.0.1 second.1 in
    let third = bound_is (list_line 4 Grades second.0.0 second.0.1) (λ first. names_lines 5 [] first.0 first.1) (p, rest) second.2 in
    let before : second.0.0 ≡ record { levels = levels.names; cats = cats.names; grades = [] } = cats.same ∙ ap (λ (q : PolicyNames). with_names q Categories cats.names) levels.same in
    let grades = grades_are 4 second.0.0 third.0.0 second.0.1 third.0.1 cats.fine (ap (λ (q : PolicyNames). q.grades) before) third.1 in
    let same : ◌≡◌ {A = PolicyNames × List ℕ} (third.0.0, third.0.1) (p, rest) = cc in
    let is : third.0.0 ≡ record { levels = levels.names; cats = cats.names; grades = third.0.0.grades } = grades.0 ∙ ap (λ (q : PolicyNames). with_names q Grades third.0.0.grades) before in
    let has : HasLines third.0.0 text third.0.1 = record {
      fine = list_made 4 Grades second.0.0 third.0.0 second.0.1 third.0.1 cats.fine third.1;
      begins = levels.begins ∙ ap (λ (t : List ℕ). line_for Levels levels.names ++ t) (cats.begins ∙ ap (λ (t : List ℕ). line_for Categories cats.names ++ t) grades.1) ∙ ap (λ (q : PolicyNames). lines_for q third.0.1) (sym is);
    } in
    subst (λ (x : PolicyNames × List ℕ). HasLines x.0 text x.1) same has

pub set_made : (n : ℕ) (bound : CapSet) → bound_of n (set_text bound ∷ []) ≡ Ok bound
unfolding bound_of
set_made n bound = ap (canonical_set n (set_text bound)) (set_round_trip bound) ∙ ap (λ b. cond b (Ok bound) (Err (error.Form n))) (same_itself (set_text bound))

set_is : (n : ℕ) (words : List (List ℕ)) (bound : CapSet) → bound_of n words ≡ Ok bound → words ≡ set_text bound ∷ []
unfolding bound_of
set_is n [] bound h = absurd (cc)
set_is n (word ∷ []) bound h = by_set (parse_set word) h
  where
    by_test : (set : CapSet) (v : Bool) → same_bytes (set_text set) word ≡ v → cond v (Ok set) (Err (error.Form n)) ≡ Ok bound → word ∷ [] ≡ set_text bound ∷ []
    by_test set true e h = let same : set ≡ bound = cc in ap (λ (t : List ℕ). t ∷ []) (sym (same_is (set_text set) word e) ∙ ap set_text same)
    by_test set false e h = absurd (cc)

    by_set : (r : Result CapSet CapTextError) → canonical_set n word r ≡ Ok bound → word ∷ [] ≡ set_text bound ∷ []
    by_set (Ok set) h = by_test set (same_bytes (set_text set) word) refl h
    by_set (Err e) h = absurd (cc)
set_is n (word ∷ other ∷ words) bound h = absurd (cc)

-- the line of the bound
abbrev pub bound_text : CapSet → List ℕ
bound_text bound = line_of (codes "bound" ∷ set_text bound ∷ [])

-- the line of the bound is none of grades
pub bound_no_grades : (bound : CapSet) (rest : List ℕ) → has_no_line Grades (bound_text bound ++ rest) ≡ true
unfolding line_of
bound_no_grades bound rest =
    let keyword = codes "bound" in
    ap (λ o. not (is_before (codes "grades") o)) (split_round_trip 32 keyword (((set_text bound ++ []) ++ 10 ∷ []) ++ rest) refl)

pub bound_round_trip : (n : ℕ) (bound : CapSet) (rest : List ℕ) → keyword_line n (codes "bound") (bound_text bound ++ rest) ≡ Ok (set_text bound ∷ [], rest)
bound_round_trip n bound rest =
    let bare = and_from (nat_lt 0 (length (set_text bound))) (list_all is_bare (set_text bound)) (lt-ltb 0 (length (set_text bound)) (set_text_some bound)) (set_text_bare bound) in
    line_round_trip n (codes "bound") (set_text bound ∷ []) rest refl (and_from (is_bare_text (set_text bound)) true bare refl)

pub bound_are : (n : ℕ) (text rest : List ℕ) (words : List (List ℕ)) (bound : CapSet) → keyword_line n (codes "bound") text ≡ Ok (words, rest) → bound_of n words ≡ Ok bound → text ≡ bound_text bound ++ rest
bound_are n text rest words bound line set = line_is n (codes "bound") text rest words line ∙ ap (λ (ws : List (List ℕ)). line_of (codes "bound" ∷ ws) ++ rest) (set_is n words bound set)
