-- The round trip of a world's text.
use Rattle.std.specs.Prelude.{◌≡◌, ℕ, ◌+◌, ◌≤◌, ◌==◌, ◌||◌, not, nat_le, Bool, true, false, cond, List, [], ◌∷◌, ◌++◌, length, map, Option, Some, is_some, codes, count_by, refl}
use Rattle.std.proofs.Common.{ap, sym, ◌∙◌, subst, append-nil, append_assoc, arith}
use Rattle.std.specs.Fmt.{decimal}
use Rattle.std.specs.List.{AllByRecursion, list_all}
use Rattle.std.proofs.lemmas.Bool.{and_parts, and_from, and_left, and_right, or_right, lt-leb, ne_eqb, cond-true, cond-false}
use Rattle.std.proofs.lemmas.List.Folds.{list_all-append}
use Rattle.std.proofs.lemmas.List.Sums.{sum_by-append, sum_by-cons}
use Rattle.std.proofs.lemmas.List.{length-append, length-map}
use Rattle.cap_bits.specs.declared.state.CapState.{CapState}
use Rattle.cap_bits.specs.CapSet.{CapSet, is_within}
use Rattle.cap_bits.specs.declared.file_caps.FileCaps.{FileCaps}
use Rattle.cap_bits.specs.FileCaps.{no_file_caps, shown}
use Rattle.cap_bits.specs.State.{no_flags}
use Rattle.cap_bits.proofs.RoundTrips.{uniform-shown}
use Rattle.cap_clause.specs.Written.{caps_text, set_text}
use Rattle.fs_path.specs.declared.words.LineWord.{LineWord}
use Rattle.fs_path.proofs.RoundTrip.{number_round_trip, mode_round_trip, groups_round_trip, decimal_bare, mode_bare, groups_bare}
use Rattle.fs_path.specs.Name.{Name}
use Rattle.fs_path.specs.Options.{then}
use Rattle.fs_path.specs.Path.{PathValue}
use Rattle.fs_path.specs.Split.{pieces}
use Rattle.fs_path.proofs.SplitLemmas.{pieces_first}
use Rattle.fs_path.specs.Values.{mode_text, groups_text}
use Rattle.fs_path.specs.Words.{has_spelling, with_quotes_if_needed, spelling, line_text}
use Rattle.lab_lattice.specs.Label.{Label, dominates, bottom}
use Rattle.lab_lattice.proofs.Labels.{dominates_itself}
use Rattle.lab_text.proofs.PolicyFacts.{policy_facts, levels_alone, without_grades}
use Rattle.lab_text.specs.Names.{Names, same_bytes, is_label_name}
use Rattle.lab_text.specs.Policy.{PolicyNames, with_names, no_names, MakePolicy, is_valid}
use Rattle.lab_text.specs.Lists.{next_list, keyword_of}
use Rattle.lab_text.specs.declared.lists.NameList.{NameList}
use Rattle.lab_text.specs.declared.lists.NameList.TheVariants.{Levels, Categories, Grades}
use Rattle.lab_text.specs.Text.{label_text}
use Rattle.kern_model.specs.declared.limits.TheConstants.{MAX_OBJECTS, MAX_PROCS}
use Rattle.kern_model.specs.declared.numbers.Ids.{Ids}
use Rattle.kern_model.specs.declared.objects.Attr.{Attr}
use Rattle.kern_model.specs.declared.objects.Body.{Body}
use Rattle.kern_model.specs.declared.objects.Body.TheVariants as body
use Rattle.kern_model.specs.declared.world.WorldObject.{WorldObject}
use Rattle.kern_model.specs.declared.world.WorldProc.{WorldProc}
use Rattle.kern_model.specs.Named.{find_named}
use Rattle.kern_model.specs.Kinds.{kind_of}
use Rattle.kern_model.specs.Kinds.{is_dir, is_file}
use Rattle.kern_model.specs.Rules.{same_label}
use Rattle.kern_model.specs.World.{IsPlaced, ArePlaced, object_with_path, parent_names, objects_at, procs_at, same_names}
use Rattle.line_text.specs.Ranges.{IsNumber}
use Rattle.world_text.specs.declared.expecting.Expecting.{Expecting}
use Rattle.world_text.specs.declared.expecting.Expecting.TheVariants as at
use Rattle.world_text.specs.declared.format.Format.{Format}
use Rattle.world_text.specs.declared.format.Format.TheVariants.{One, Two}
use Rattle.world_text.specs.declared.expecting.Parsed.{Parsed}
use Rattle.world_text.specs.declared.expecting.Parsed.TheVariants.{GoesOn, Begins}
use Rattle.world_text.specs.declared.world.WorldText.{WorldText}
use Rattle.world_text.specs.declared.expecting.PartialWorld.{PartialWorld}
use Rattle.world_text.specs.declared.values.WordValue.{WordValue}
use Rattle.world_text.specs.declared.values.WordValue.TheVariants as value
use Rattle.world_text.specs.Placing.{is_directory, is_above, directory_of, is_root, object_fault, process_fault}
use Rattle.world_text.specs.Values.{bytes_in, refuse_or, with_form, with_value, both, label_of, caps_of}
use Rattle.world_text.specs.Head.{unless_fault, due_after, parse_names, parse_bound}
use Rattle.world_text.specs.TreeLines.{object_fields_of, parse_object, parse_tree}
use Rattle.world_text.specs.Processes.{proc_caps_of, proc_fields_of, ids_of, parse_process}
use Rattle.world_text.specs.Expecting.{world_of, parse_words, parse_line}
use Rattle.world_text.specs.Formats.{format_word}
use Rattle.world_text.specs.Reading.{Accepted, after, read_lines, read_text}
use Rattle.world_text.specs.Written.{bare, quoted_form, path_text, names_words, head_words, body_keyword, body_words, object_words, process_words, script_words, lines_of, next_number, text_of_world}
use Rattle.world_text.specs.CanBeRead.{IsShort, CanBeRead}
use Rattle.lab_text.proofs.BareLemmas.{label_bare, label_name_bare}
use Rattle.world_text.proofs.FileCapsLemmas.{caps_by-shown}
use Rattle.world_text.proofs.RangeLemmas.{all_parts}
use Rattle.world_text.proofs.WrittenForms.{IsCanonicalBody, IsCanonicalObject, IsCanonicalIds, canonical_objects, objects_below, objects_plain, canonical_procs, procs_below, procs_within}
use Rattle.world_text.proofs.WrittenWords.{written_pieces, pieces_round_trip, begins_line, line_is}
use Rattle.world_text.proofs.WrittenValues.{path_round_trip, path_spelling, label_round_trip, caps_known, proc_caps_known, none_known, bound_known, caps_spelling, bound_bare}

-- ---- a line and what follows it

-- the text of a line, without its line feed
abbrev text_of : List LineWord → List ℕ
text_of words = line_text (map spelling words)

-- pieces of a text, of which there is at least one
record IsRest (pieces : List (List ℕ)) : Type 0 where
  first : List ℕ
  others : List (List ℕ)
  is : pieces ≡ first ∷ others

-- after a line the reading goes on with what is expected next
step_on : (n : ℕ) (expecting next : Expecting) (words : List LineWord) (more : List (List LineWord)) (rest : List (List ℕ)) → IsRest rest → parse_line expecting (text_of words) ≡ GoesOn next
    → read_lines n expecting (written_pieces (words ∷ more) rest) ≡ read_lines (n + 1) next (written_pieces more rest)
unfolding read_lines
step_on n expecting next words [] rest some e =
    ap (λ (ls : List (List ℕ)). read_lines n expecting (text_of words ∷ ls)) some.is
    ∙ ap (λ (parsed : Parsed). after parsed n (some.first ∷ some.others) (λ expecting. read_lines (n + 1) expecting (some.first ∷ some.others))) e
    ∙ ap (read_lines (n + 1) next) (sym some.is)
step_on n expecting next words (m ∷ ms) rest some e = ap (λ (parsed : Parsed). after parsed n (written_pieces (m ∷ ms) rest) (λ expecting. read_lines (n + 1) expecting (written_pieces (m ∷ ms) rest))) e

-- the world begins after the last line
step_last : (n : ℕ) (expecting : Expecting) (w : WorldText) (words : List LineWord) (rest : List (List ℕ)) → IsRest rest → parse_line expecting (text_of words) ≡ Begins w
    → read_lines n expecting (written_pieces (words ∷ []) rest) ≡ Accepted w (n + 1) rest
unfolding read_lines
step_last n expecting w words rest some e =
    ap (λ (ls : List (List ℕ)). read_lines n expecting (text_of words ∷ ls)) some.is
    ∙ ap (λ (parsed : Parsed). after parsed n (some.first ∷ some.others) (λ expecting. read_lines (n + 1) expecting (some.first ∷ some.others))) e
    ∙ ap (Accepted w (n + 1)) (sym some.is)

-- the line of each item adds it after those before it
abbrev EachAdds : {X : Type 0} → (X → List LineWord) → (List X → Expecting) → List X → List X → Type 0
EachAdds words expecting done [] = Unit {0}
EachAdds words expecting done (x ∷ xs) = (parse_line (expecting done) (text_of (words x)) ≡ GoesOn (expecting (done ++ x ∷ []))) × EachAdds words expecting (done ++ x ∷ []) xs

steps_on : {X : Type 0} (words : X → List LineWord) (expecting : List X → Expecting) (n : ℕ) (done xs : List X) (more : List (List LineWord)) (rest : List (List ℕ)) → IsRest rest → EachAdds words expecting done xs
    → read_lines n (expecting done) (written_pieces (map words xs ++ more) rest) ≡ read_lines (n + length xs) (expecting (done ++ xs)) (written_pieces more rest)
steps_on words expecting n done [] more rest some adds =
    let same : n ≡ n + 0 = omega arith in
    λ i. read_lines (same i) (expecting (sym (append-nil done) i)) (written_pieces more rest)
steps_on {X = X} words expecting n done (x ∷ xs) more rest some adds =
    let same : n + 1 + length xs ≡ n + length (x ∷ xs) = omega arith in
    step_on n (expecting done) (expecting (done ++ x ∷ [])) (words x) (map words xs ++ more) rest some adds.0
    ∙ steps_on words expecting (n + 1) (done ++ x ∷ []) xs more rest some adds.1 ∙ (λ i. read_lines (same i) (expecting (append_assoc done (x ∷ []) xs i)) (written_pieces more rest))

-- ---- head lines

canonical_names : (names : Names) → map (λ (w : LineWord). w.bytes) (map bare names) ≡ names
canonical_names [] = refl
canonical_names (n ∷ ns) = ap (λ (ms : Names). n ∷ ms) (canonical_names ns)

names_spelling : (names : Names) → list_all is_label_name names ≡ true → list_all has_spelling (map bare names) ≡ true
names_spelling [] h = refl
names_spelling (n ∷ ns) h =
    let parts = and_parts (is_label_name n) (list_all is_label_name ns) h in
    and_from _ _ (label_name_bare n parts.0) (names_spelling ns parts.1)

format_spelling : (format : Format) → has_spelling (bare (format_word format)) ≡ true
format_spelling One = refl
format_spelling Two = refl

format_line : (format : Format) → parse_line (at.Format format) (text_of (names_words (codes "world") (format_word format ∷ []))) ≡ GoesOn (at.Names format Levels no_names)
unfolding find_named parse_words
format_line One = line_is (at.Format One) (codes "world") (bare (codes "1") ∷ []) refl refl (omega arith)
format_line Two = line_is (at.Format Two) (codes "world") (bare (codes "2") ∷ []) refl refl (omega arith)

names_begin : (list : NameList) → begins_line (keyword_of list) ≡ true
names_begin Levels = refl
names_begin Categories = refl
names_begin Grades = refl

list_spelling : (list : NameList) (names : Names) → list_all is_label_name names ≡ true → list_all has_spelling (names_words (keyword_of list) names) ≡ true
list_spelling Levels names h = names_spelling names h
list_spelling Categories names h = names_spelling names h
list_spelling Grades names h = names_spelling names h

names_said : (format : Format) (list : NameList) (before : PolicyNames) (names : Names) → parse_words (at.Names format list before) (names_words (keyword_of list) names) ≡ parse_names format list before (bytes_in (map bare names))
unfolding parse_words
names_said format Levels before names = refl
names_said format Categories before names = refl
names_said format Grades before names = refl

-- names that make a policy with those before them are read
names_parsed : (format : Format) (list : NameList) (before : PolicyNames) (names : Names) → list_all is_label_name names ≡ true → MakePolicy (with_names before list names)
    → parse_names format list before (bytes_in (map bare names)) ≡ GoesOn (due_after format (with_names before list names) (next_list list))
names_parsed format list before names are fine =
    let known = with_names before list names in
    ap (parse_names format list before) (canonical_names names) ∙ cond-false _ _ _ (ap not are) ∙ ap (λ o. unless_fault o (GoesOn (due_after format known (next_list list)))) fine

names_line : (format : Format) (list : NameList) (before : PolicyNames) (names : Names) → list_all is_label_name names ≡ true → MakePolicy (with_names before list names) → IsShort (names_words (keyword_of list) names)
    → parse_line (at.Names format list before) (text_of (names_words (keyword_of list) names)) ≡ GoesOn (due_after format (with_names before list names) (next_list list))
names_line format list before names are fine short =
    line_is (at.Names format list before) (keyword_of list) (map bare names) (names_begin list) (list_spelling list names are) short ∙ names_said format list before names ∙ names_parsed format list before names are fine

-- the line of grades, of which there are some
grades_line : (format : Format) (policy : PolicyNames) (name : List ℕ) (names : Names) → list_all is_label_name (name ∷ names) ≡ true → MakePolicy (with_names policy Grades (name ∷ names))
    → IsShort (names_words (keyword_of Grades) (name ∷ names))
    → parse_line (at.Grades format policy) (text_of (names_words (keyword_of Grades) (name ∷ names))) ≡ GoesOn (at.Bound format (with_names policy Grades (name ∷ names)))
unfolding parse_words
grades_line format policy name names are fine short =
    line_is (at.Grades format policy) (keyword_of Grades) (map bare (name ∷ names)) (names_begin Grades) (list_spelling Grades (name ∷ names) are) short ∙ names_parsed format Grades policy (name ∷ names) are fine

-- a tree line is expected, after these objects and processes
abbrev tree_at : Format → PolicyNames → CapSet → List WorldObject → List WorldProc → Expecting
tree_at format policy bound objects procs = at.Tree (record { format = format; policy = policy; bound = bound; builder = record { objects = objects; procs = procs } })

-- the line of the bound
abbrev bound_words : CapSet → List LineWord
bound_words bound = names_words (codes "bound") (set_text bound ∷ [])

bound_line : (expecting : Expecting) (format : Format) (policy : PolicyNames) (bound : CapSet) → parse_words expecting (bound_words bound) ≡ parse_bound format policy (set_text bound ∷ []) → IsShort (bound_words bound)
    → parse_line expecting (text_of (bound_words bound)) ≡ GoesOn (tree_at format policy bound [] [])
bound_line expecting format policy bound says short =
    line_is expecting (codes "bound") (bare (set_text bound) ∷ []) refl (and_from _ _ (bound_bare bound) refl) short
    ∙ says ∙ ap (λ (v : WordValue CapSet). with_value v (λ bound. GoesOn (tree_at format policy bound [] []))) (bound_known bound)

-- the bound comes after grades, or where they are due
bound_said : (format : Format) (policy : PolicyNames) (bound : CapSet) → parse_words (at.Bound format policy) (bound_words bound) ≡ parse_bound format policy (set_text bound ∷ [])
unfolding parse_words
bound_said format policy bound = refl

no_grades_said : (format : Format) (policy : PolicyNames) (bound : CapSet) → parse_words (at.Grades format policy) (bound_words bound) ≡ parse_bound format policy (set_text bound ∷ [])
unfolding parse_words
no_grades_said format policy bound = refl

abbrev policy_of : (levels cats grades : Names) → PolicyNames
policy_of levels cats grades = record { levels = levels; cats = cats; grades = grades }

-- after the lines of levels and categories, grades are due
names_read : (format : Format) (levels cats : Names) (more : List (List LineWord)) (rest : List (List ℕ)) → IsRest rest → MakePolicy (policy_of levels cats []) → IsShort (names_words (codes "levels") levels) → IsShort (names_words (codes "categories") cats)
    → read_lines 1 (at.Format format) (written_pieces (names_words (codes "world") (format_word format ∷ []) ∷ names_words (codes "levels") levels ∷ names_words (codes "categories") cats ∷ more) rest)
    ≡ read_lines 4 (at.Grades format (policy_of levels cats [])) (written_pieces more rest)
names_read format levels cats more rest some h first second =
    let policy = policy_of levels cats [] in
    let known = policy_of levels [] [] in
    let after_levels = names_words (codes "categories") cats ∷ more in
    step_on 1 (at.Format format) (at.Names format Levels no_names) (names_words (codes "world") (format_word format ∷ [])) (names_words (codes "levels") levels ∷ after_levels) rest some (format_line format)
    ∙ step_on 2 (at.Names format Levels no_names) (at.Names format Categories known) (names_words (codes "levels") levels) after_levels rest some
    (names_line format Levels no_names levels (policy_facts policy h Levels).named (levels_alone policy h) first)
    ∙ step_on 3 (at.Names format Categories known) (at.Grades format policy) (names_words (codes "categories") cats) more rest some
    (names_line format Categories known cats (policy_facts policy h Categories).named h second)

-- after the head lines, a tree line is expected
head_read : (format : Format) (levels cats grades : Names) (bound : CapSet) (more : List (List LineWord)) (rest : List (List ℕ)) → IsRest rest → MakePolicy (policy_of levels cats grades) → AllByRecursion IsShort (head_words format (policy_of levels cats grades) bound)
    → read_lines 1 (at.Format format) (written_pieces (head_words format (policy_of levels cats grades) bound ++ more) rest)
    ≡ read_lines (length (head_words format (policy_of levels cats grades) bound) + 1) (tree_at format (policy_of levels cats grades) bound [] []) (written_pieces more rest)
head_read format levels cats [] bound more rest some h short =
    let policy = policy_of levels cats [] in
    names_read format levels cats (bound_words bound ∷ more) rest some h short.1.0 short.1.1.0
    ∙ step_on 4 (at.Grades format policy) (tree_at format policy bound [] []) (bound_words bound) more rest some (bound_line (at.Grades format policy) format policy bound (no_grades_said format policy bound) short.1.1.1.0)
head_read format levels cats (name ∷ names) bound more rest some h short =
    let policy = policy_of levels cats (name ∷ names) in
    let before = policy_of levels cats [] in
    let grades = names_words (codes "grades") (name ∷ names) in
    names_read format levels cats (grades ∷ bound_words bound ∷ more) rest some (without_grades policy h) short.1.0 short.1.1.0
    ∙ step_on 4 (at.Grades format before) (at.Bound format policy) grades (bound_words bound ∷ more) rest some (grades_line format before name names (policy_facts policy h Grades).named h short.1.1.1.0)
    ∙ step_on 5 (at.Bound format policy) (tree_at format policy bound [] []) (bound_words bound) more rest some (bound_line (at.Bound format policy) format policy bound (bound_said format policy bound) short.1.1.1.1.0)

-- ---- values that are there

then_some : {A X : Type 0} (o : Option A) (x : A) (k : A → Option X) → o ≡ Some x → then o k ≡ k x
then_some {A} o x k e = ap (λ (o : Option A). then o k) e

form_some : {X : Type 0} (o : Option X) (x : X) (k : X → Parsed) → o ≡ Some x → with_form o k ≡ k x
form_some {X} o x k e = ap (λ (o : Option X). with_form o k) e

-- two values that are known are passed on
values_known : {A B : Type 0} (v : WordValue A) (u : WordValue B) (a : A) (b : B) (k : A × B → Parsed) → v ≡ value.Known a → u ≡ value.Known b → with_value (both v u) k ≡ k (a, b)
values_known v u a b k e f = λ i. with_value (both (e i) (f i)) k

number_spelling : (n : ℕ) → IsNumber n → has_spelling (bare (decimal n)) ≡ true
number_spelling n small = decimal_bare n (omega arith)

-- before an item there is room at its label, where there are not too many with the item
room_left : {X : Type 0} (label : X → Label) (done : List X) (x : X) (more : List X) (most : ℕ) → ((l : Label) → count_by (λ y. same_label (label y) l) (done ++ x ∷ more) ≤ most)
    → nat_le most (count_by (λ y. same_label (label y) (label x)) done) ≡ false
room_left {X} label done x more most room =
    let test : X → ℕ = λ y. cond (same_label (label y) (label x)) 1 0 in
    let both = sum_by-append test done (x ∷ more) in
    let next = sum_by-cons test x more in
    let one : test x ≡ 1 = cond-true _ 1 0 (and_from _ _ (dominates_itself (label x)) (dominates_itself (label x))) in
    let few = room (label x) in
    lt-leb most (count_by (λ y. same_label (label y) (label x)) done) (omega arith)

-- ---- tree lines

object_fields_round_trip : (policy : PolicyNames) (o : WorldObject) → MakePolicy policy → is_valid policy o.label ≡ true → IsCanonicalObject o
    → object_fields_of policy (path_text o.path.names) (mode_text o.attr.mode) (decimal o.attr.owner) (decimal o.attr.group) (label_text policy o.label)
    ≡ Some (record { path = o.path; mode = o.attr.mode; owner = o.attr.owner; group = o.attr.group; label = label_of policy (label_text policy o.label) })
unfolding object_fields_of
object_fields_round_trip policy o h valid is =
    then_some _ _ _ (path_round_trip o.path is.path) ∙ then_some _ _ _ (mode_round_trip o.attr.mode is.mode) ∙ then_some _ _ _ (number_round_trip o.attr.owner is.owner)
    ∙ then_some _ _ _ (number_round_trip o.attr.group is.group)

tree_says : (w : PartialWorld) (o : WorldObject) (caps : WordValue CapState) → MakePolicy w.policy → is_valid w.policy o.label ≡ true → IsCanonicalObject o → caps ≡ value.Known (shown o.attr.caps)
    → parse_tree w (object_fields_of w.policy (path_text o.path.names) (mode_text o.attr.mode) (decimal o.attr.owner) (decimal o.attr.group) (label_text w.policy o.label)) caps o.body ≡ parse_object w o true
tree_says w o caps h valid is e =
    form_some _ _ _ (object_fields_round_trip w.policy o h valid is) ∙ values_known (label_of w.policy (label_text w.policy o.label)) caps o.label (shown o.attr.caps) _ (label_round_trip w.policy o.label h valid) e
    ∙ (λ i. parse_object w (record o { attr = record o.attr { caps = caps_by-shown o.attr.caps i } }) (uniform-shown o.attr.caps i))

-- an object of these parts
abbrev object_from : PathValue → Label → Attr → Body → WorldObject
object_from path label attr b = record { path = path; label = label; attr = attr; body = b }

-- the words of a file whose capability text is `=` or not
abbrev file_words : PolicyNames → PathValue → Label → Attr → List ℕ → Bool → List LineWord
file_words policy path label attr bytes none =
    bare (codes "file") ∷ with_quotes_if_needed (path_text path.names) ∷ bare (mode_text attr.mode) ∷ bare (decimal attr.owner) ∷ bare (decimal attr.group) ∷ bare (label_text policy label)
    ∷ quoted_form bytes ∷ cond none [] (quoted_form (caps_text (shown attr.caps)) ∷ [])

object_says : (w : PartialWorld) (path : PathValue) (label : Label) (attr : Attr) (b : Body) → MakePolicy w.policy → is_valid w.policy label ≡ true
    → IsCanonicalObject (object_from path label attr b) → (is_file (kind_of b) ≡ false → attr.caps ≡ no_file_caps)
    → parse_words (at.Tree w) (object_words w.policy (object_from path label attr b)) ≡ parse_object w (object_from path label attr b) true
unfolding find_named parse_words object_words
object_says w path label attr body.Dir h valid is plain = tree_says w (object_from path label attr body.Dir) (value.Known no_flags) h valid is (ap (λ (c : FileCaps). value.Known (shown c)) (sym (plain refl)))
object_says w path label attr body.Fifo h valid is plain = tree_says w (object_from path label attr body.Fifo) (value.Known no_flags) h valid is (ap (λ (c : FileCaps). value.Known (shown c)) (sym (plain refl)))
object_says w path label attr body.Pipe h valid is plain = absurd is.body
object_says w path label attr (body.File bytes) h valid is plain = by_caps (same_bytes (caps_text (shown attr.caps)) (codes "=")) refl
  where
    file : WorldObject
    file = object_from path label attr (body.File bytes)

    by_caps : (none : Bool) → same_bytes (caps_text (shown attr.caps)) (codes "=") ≡ none → parse_words (at.Tree w) (file_words w.policy path label attr bytes (same_bytes (caps_text (shown attr.caps)) (codes "="))) ≡ parse_object w file true
    by_caps true e =
        ap (λ v. parse_words (at.Tree w) (file_words w.policy path label attr bytes v)) e
        ∙ tree_says w file (value.Known no_flags) h valid is (ap (λ (c : CapState). value.Known c) (sym (none_known (shown attr.caps) e)))
    by_caps false e =
        ap (λ v. parse_words (at.Tree w) (file_words w.policy path label attr bytes v)) e ∙ tree_says w file (caps_of (caps_text (shown attr.caps))) h valid is (caps_known (shown attr.caps))

keyword_spelling : (b : Body) → has_spelling (bare (body_keyword b)) ≡ true
keyword_spelling body.Dir = refl
keyword_spelling (body.File bytes) = refl
keyword_spelling body.Fifo = refl
keyword_spelling body.Pipe = refl

keyword_begins : (b : Body) → begins_line (body_keyword b) ≡ true
keyword_begins body.Dir = refl
keyword_begins (body.File bytes) = refl
keyword_begins body.Fifo = refl
keyword_begins body.Pipe = refl

body_spelling : (b : Body) (caps : CapState) → IsCanonicalBody b → list_all has_spelling (body_words b caps) ≡ true
body_spelling body.Dir caps h = refl
body_spelling (body.File bytes) caps h =
    and_from _ _ h (elim (same_bytes (caps_text caps) (codes "=")) as (λ v. list_all has_spelling (cond v [] (quoted_form (caps_text caps) ∷ [])) ≡ true) [ true ↦ refl | false ↦ and_from _ _ (caps_spelling caps) refl ])
body_spelling body.Fifo caps h = refl
body_spelling body.Pipe caps h = refl

object_spelling : (policy : PolicyNames) (o : WorldObject) → MakePolicy policy → is_valid policy o.label ≡ true → IsCanonicalObject o → list_all has_spelling (object_words policy o) ≡ true
unfolding object_words
object_spelling policy o h valid is =
    and_from _ _ (keyword_spelling o.body) (and_from _ _ (path_spelling o.path is.path) (and_from _ _ (mode_bare o.attr.mode) (and_from _ _ (number_spelling o.attr.owner is.owner)
    (and_from _ _ (number_spelling o.attr.group is.group) (and_from _ _ (label_bare policy o.label h valid) (body_spelling o.body (shown o.attr.caps) is.body))))))

object_line : (w : PartialWorld) (o : WorldObject) → MakePolicy w.policy → is_valid w.policy o.label ≡ true → IsCanonicalObject o → (is_file (kind_of o.body) ≡ false → o.attr.caps ≡ no_file_caps)
    → IsShort (object_words w.policy o) → parse_line (at.Tree w) (text_of (object_words w.policy o)) ≡ parse_object w o true
unfolding object_words
object_line w o h valid is plain short =
    line_is (at.Tree w) (body_keyword o.body) _ (keyword_begins o.body) (object_spelling w.policy o h valid is) short ∙ object_says w o.path o.label o.attr o.body h valid is plain

-- the root may be given first
root_adds : (format : Format) (policy : PolicyNames) (bound : CapSet) (o : WorldObject) → o.path.names ≡ [] → o.body ≡ body.Dir → o.label ≡ bottom
    → parse_object (record { format = format; policy = policy; bound = bound; builder = record { objects = []; procs = [] } }) o true ≡ GoesOn (tree_at format policy bound (o ∷ []) [])
unfolding object_fault
root_adds format policy bound o no_names dir lowest =
    ap (λ f. refuse_or f (GoesOn (tree_at format policy bound (o ∷ []) []))) (
    cond-false _ _ _ (ap (λ (ns : List Name). not (is_root ns || is_directory (directory_of [] ns))) no_names)
    ∙ cond-false _ _ _ (and_right (is_root o.path.names) _ (ap not (and_from _ _ (ap (λ b. is_dir (kind_of b)) dir) (ap (dominates bottom) lowest ∙ dominates_itself bottom))))
    ∙ cond-false _ _ _ (ap (λ (ns : List Name). not (is_above o.label (directory_of [] ns))) no_names))

-- an object after the root is in a directory that was given
below_root : (first : WorldObject) (rest : List WorldObject) (o : WorldObject) (p : IsPlaced (first ∷ rest) o) (names : List Name) → first.path.names ≡ [] → o.path.names ≡ names
    → (is_root o.path.names ≡ false) × (directory_of (first ∷ rest) o.path.names ≡ Some p.parent)
below_root first rest o p [] root e =
    let first_given : object_with_path (first ∷ rest) [] ≡ Some first = ap (λ ns. cond (same_names ns []) (Some first) (object_with_path rest [])) root in
    let new = sym (ap (object_with_path (first ∷ rest)) e) ∙ p.new in
    absurd (cc)
below_root first rest o p (n ∷ ns) root e =
    (ap is_root e, ap (directory_of (first ∷ rest)) e ∙ sym (ap (λ ns. object_with_path (first ∷ rest) (parent_names ns)) e) ∙ p.parent_given)

placed_adds : (format : Format) (policy : PolicyNames) (bound : CapSet) (first : WorldObject) (rest : List WorldObject) (o : WorldObject) → first.path.names ≡ [] → IsPlaced (first ∷ rest) o
    → nat_le MAX_OBJECTS (objects_at o.label (first ∷ rest)) ≡ false
    → parse_object (record { format = format; policy = policy; bound = bound; builder = record { objects = first ∷ rest; procs = [] } }) o true ≡ GoesOn (tree_at format policy bound (first ∷ (rest ++ o ∷ [])) [])
unfolding object_fault
placed_adds format policy bound first rest o root p room =
    let below = below_root first rest o p o.path.names root refl in
    let dir = ap is_directory below.1 ∙ ap (λ b. is_dir (kind_of b)) p.parent_dir in
    ap (λ f. refuse_or f (GoesOn (tree_at format policy bound (first ∷ (rest ++ o ∷ [])) []))) (
    cond-false _ _ _ (ap is_some p.new) ∙ cond-false _ _ _ (ap not (or_right (is_root o.path.names) _ dir)) ∙ cond-false _ _ _ (and_left _ _ below.0)
    ∙ cond-false _ _ _ (ap not (ap (is_above o.label) below.1 ∙ p.order)) ∙ cond-false _ _ _ room)

-- the line of each object after the root adds it
objects_add : (format : Format) (policy : PolicyNames) (bound : CapSet) (first : WorldObject) (rest os : List WorldObject) → MakePolicy policy → first.path.names ≡ [] → ArePlaced (first ∷ rest) os
    → AllByRecursion (λ (o : WorldObject). is_valid policy o.label ≡ true) os → AllByRecursion (λ (o : WorldObject). IsCanonicalObject o) os
    → AllByRecursion (λ (o : WorldObject). is_file (kind_of o.body) ≡ false → o.attr.caps ≡ no_file_caps) os → AllByRecursion IsShort (map (object_words policy) os)
    → ((l : Label) → objects_at l (first ∷ (rest ++ os)) ≤ MAX_OBJECTS) → EachAdds (object_words policy) (λ os. tree_at format policy bound os []) (first ∷ rest) os
objects_add format policy bound first rest [] h root placed valid written plain short room = tt
objects_add format policy bound first rest (o ∷ os) h root placed valid written plain short room =
    let left = room_left (λ (o : WorldObject). o.label) (first ∷ rest) o os MAX_OBJECTS room in
    let more : (l : Label) → objects_at l (first ∷ ((rest ++ o ∷ []) ++ os)) ≤ MAX_OBJECTS = λ l. subst (λ (os : List WorldObject). objects_at l (first ∷ os) ≤ MAX_OBJECTS) (sym (append_assoc rest (o ∷ []) os)) (room l) in (
      object_line (record { format = format; policy = policy; bound = bound; builder = record { objects = first ∷ rest; procs = [] } }) o h valid.0 written.0 plain.0 short.0 ∙ placed_adds format policy bound first rest o root placed.0 left,
      objects_add format policy bound first (rest ++ o ∷ []) os h root placed.1 valid.1 written.1 plain.1 short.1 more,
    )

-- the line of each object of a world adds it
tree_adds : (format : Format) (policy : PolicyNames) (bound : CapSet) (os : List WorldObject) (first : WorldObject) (others : List WorldObject) → MakePolicy policy → os ≡ first ∷ others
    → first.path.names ≡ [] → first.body ≡ body.Dir → first.label ≡ bottom → ArePlaced (first ∷ []) others
    → AllByRecursion (λ (o : WorldObject). is_valid policy o.label ≡ true) os → AllByRecursion (λ (o : WorldObject). IsCanonicalObject o) os
    → AllByRecursion (λ (o : WorldObject). is_file (kind_of o.body) ≡ false → o.attr.caps ≡ no_file_caps) os → AllByRecursion IsShort (map (object_words policy) os)
    → ((l : Label) → objects_at l os ≤ MAX_OBJECTS) → EachAdds (object_words policy) (λ os. tree_at format policy bound os []) [] os
tree_adds format policy bound [] first others h e no_names dir lowest placed valid written plain short room = tt
tree_adds format policy bound (o ∷ os) first others h e no_names dir lowest placed valid written plain short room =
    let same : first ≡ o = cc in
    let rest : others ≡ os = cc in
    let root = sym (ap (λ (o : WorldObject). o.path.names) same) ∙ no_names in
    let body = sym (ap (λ (o : WorldObject). o.body) same) ∙ dir in
    let label = sym (ap (λ (o : WorldObject). o.label) same) ∙ lowest in
    let after : ArePlaced (o ∷ []) os = subst (λ (os : List WorldObject). ArePlaced (o ∷ []) os) rest (subst (λ (o : WorldObject). ArePlaced (o ∷ []) others) same placed) in (
      object_line (record { format = format; policy = policy; bound = bound; builder = record { objects = []; procs = [] } }) o h valid.0 written.0 plain.0 short.0 ∙ root_adds format policy bound o root body label,
      objects_add format policy bound o [] os h root after valid.1 written.1 plain.1 short.1 room,
    )

-- ---- process lines

proc_fields_round_trip : (policy : PolicyNames) (p : WorldProc) → IsCanonicalIds p.ids
    → proc_fields_of policy (label_text policy p.label) (decimal p.ids.euid) (decimal p.ids.egid) (groups_text p.ids.groups)
    ≡ Some (record { label = label_of policy (label_text policy p.label); user = p.ids.euid; group = p.ids.egid; groups = p.ids.groups })
unfolding proc_fields_of
proc_fields_round_trip policy p is =
    then_some _ _ _ (number_round_trip p.ids.euid is.user) ∙ then_some _ _ _ (number_round_trip p.ids.egid is.group) ∙ then_some _ _ _ (groups_round_trip p.ids.groups is.groups is.few)

ids_round_trip : (ids : Ids) (label : WordValue Label) → IsCanonicalIds ids → ids_of (record { label = label; user = ids.euid; group = ids.egid; groups = ids.groups }) ≡ ids
ids_round_trip ids label is =
    λ i. record { ruid = sym is.ruid i; euid = ids.euid; suid = sym is.suid i; rgid = sym is.rgid i; egid = ids.egid; sgid = sym is.sgid i; groups = ids.groups }

process_says : (w : PartialWorld) (p : WorldProc) → MakePolicy w.policy → is_valid w.policy p.label ≡ true → IsCanonicalIds p.ids → is_within p.caps.e p.caps.p ≡ true
    → parse_words (at.Tree w) (process_words w.policy p) ≡ parse_process w p
unfolding find_named parse_words process_words
process_says w p h valid is within =
    form_some _ _ _ (proc_fields_round_trip w.policy p is)
    ∙ values_known (label_of w.policy (label_text w.policy p.label)) (proc_caps_of (caps_text p.caps)) p.label p.caps _ (label_round_trip w.policy p.label h valid) (proc_caps_known p.caps within)
    ∙ ap (λ (ids : Ids). parse_process w (record { label = p.label; ids = ids; caps = p.caps })) (ids_round_trip p.ids (label_of w.policy (label_text w.policy p.label)) is)

process_spelling : (policy : PolicyNames) (p : WorldProc) → MakePolicy policy → is_valid policy p.label ≡ true → IsCanonicalIds p.ids → list_all has_spelling (process_words policy p) ≡ true
unfolding process_words
process_spelling policy p h valid is =
    and_from _ _ (label_bare policy p.label h valid) (and_from _ _ (number_spelling p.ids.euid is.user) (and_from _ _ (number_spelling p.ids.egid is.group)
    (and_from _ _ (groups_bare p.ids.groups is.groups) (and_from _ _ (caps_spelling p.caps) refl))))

process_line : (w : PartialWorld) (p : WorldProc) → MakePolicy w.policy → is_valid w.policy p.label ≡ true → IsCanonicalIds p.ids → is_within p.caps.e p.caps.p ≡ true → IsShort (process_words w.policy p)
    → parse_line (at.Tree w) (text_of (process_words w.policy p)) ≡ parse_process w p
unfolding process_words
process_line w p h valid is within short = line_is (at.Tree w) (codes "proc") _ refl (process_spelling w.policy p h valid is) short ∙ process_says w p h valid is within

processes_add : (format : Format) (policy : PolicyNames) (bound : CapSet) (objects : List WorldObject) (done ps : List WorldProc) → MakePolicy policy → (length objects == 0) ≡ false
    → AllByRecursion (λ (p : WorldProc). is_valid policy p.label ≡ true) ps → AllByRecursion (λ (p : WorldProc). IsCanonicalIds p.ids) ps → AllByRecursion (λ (p : WorldProc). is_within p.caps.e p.caps.p ≡ true) ps
    → AllByRecursion IsShort (map (process_words policy) ps) → ((l : Label) → procs_at l (done ++ ps) ≤ MAX_PROCS) → EachAdds (process_words policy) (tree_at format policy bound objects) done ps
unfolding process_fault
processes_add format policy bound objects done [] h some valid written within short room = tt
processes_add format policy bound objects done (p ∷ ps) h some valid written within short room =
    let left = room_left (λ (p : WorldProc). p.label) done p ps MAX_PROCS room in
    let more : (l : Label) → procs_at l ((done ++ p ∷ []) ++ ps) ≤ MAX_PROCS = λ l. subst (λ (ps : List WorldProc). procs_at l ps ≤ MAX_PROCS) (sym (append_assoc done (p ∷ []) ps)) (room l) in (
      process_line (record { format = format; policy = policy; bound = bound; builder = record { objects = objects; procs = done } }) p h valid.0 written.0 within.0 short.0
          ∙ ap (λ f. refuse_or f (GoesOn (tree_at format policy bound objects (done ++ p ∷ [])))) (cond-false _ _ _ some ∙ cond-false _ _ _ left),
      processes_add format policy bound objects (done ++ p ∷ []) ps h some valid.1 written.1 within.1 short.1 more,
    )

-- ---- the world

script_line : (format : Format) (policy : PolicyNames) (bound : CapSet) (objects : List WorldObject) (procs : List WorldProc) → (length objects == 0) ≡ false
    → parse_line (tree_at format policy bound objects procs) (text_of script_words) ≡ Begins (world_of (record { format = format; policy = policy; bound = bound; builder = record { objects = objects; procs = procs } }))
unfolding find_named parse_words
script_line format policy bound objects procs some = line_is (tree_at format policy bound objects procs) (codes "script") [] refl refl (omega arith) ∙ cond-false _ _ _ some

objects_spelling : (policy : PolicyNames) (os : List WorldObject) → MakePolicy policy → AllByRecursion (λ (o : WorldObject). is_valid policy o.label ≡ true) os
    → AllByRecursion (λ (o : WorldObject). IsCanonicalObject o) os → list_all (list_all has_spelling) (map (object_words policy) os) ≡ true
objects_spelling policy [] h valid written = refl
objects_spelling policy (o ∷ os) h valid written = and_from _ _ (object_spelling policy o h valid.0 written.0) (objects_spelling policy os h valid.1 written.1)

processes_spelling : (policy : PolicyNames) (ps : List WorldProc) → MakePolicy policy → AllByRecursion (λ (p : WorldProc). is_valid policy p.label ≡ true) ps
    → AllByRecursion (λ (p : WorldProc). IsCanonicalIds p.ids) ps → list_all (list_all has_spelling) (map (process_words policy) ps) ≡ true
processes_spelling policy [] h valid written = refl
processes_spelling policy (p ∷ ps) h valid written = and_from _ _ (process_spelling policy p h valid.0 written.0) (processes_spelling policy ps h valid.1 written.1)

head_spelling : (format : Format) (levels cats grades : Names) (bound : CapSet) → MakePolicy (policy_of levels cats grades) → list_all (list_all has_spelling) (head_words format (policy_of levels cats grades) bound) ≡ true
head_spelling format levels cats grades bound h = by_grades grades h
  where
    last : list_all (list_all has_spelling) (bound_words bound ∷ []) ≡ true
    last = and_from _ _ (and_from _ _ (bound_bare bound) refl) refl

    first : (grades : Names) (more : List (List LineWord)) → MakePolicy (policy_of levels cats grades) → list_all (list_all has_spelling) more ≡ true
        → list_all (list_all has_spelling) (names_words (codes "world") (format_word format ∷ []) ∷ names_words (codes "levels") levels ∷ names_words (codes "categories") cats ∷ more) ≡ true
    first grades more h rest =
        let facts = policy_facts (policy_of levels cats grades) h in
        and_from _ _ (and_from _ _ (format_spelling format) refl) (and_from _ _ (list_spelling Levels levels (facts Levels).named) (and_from _ _ (list_spelling Categories cats (facts Categories).named) rest))

    by_grades : (grades : Names) → MakePolicy (policy_of levels cats grades) → list_all (list_all has_spelling) (head_words format (policy_of levels cats grades) bound) ≡ true
    by_grades [] h = first [] (bound_words bound ∷ []) h last
    by_grades (name ∷ names) h =
        let named = (policy_facts (policy_of levels cats (name ∷ names)) h Grades).named in
        first (name ∷ names) (names_words (codes "grades") (name ∷ names) ∷ bound_words bound ∷ []) h (and_from _ _ (list_spelling Grades (name ∷ names) named) last)

some_objects : (os : List WorldObject) (first : WorldObject) (others : List WorldObject) → os ≡ first ∷ others → (length os == 0) ≡ false
some_objects [] first others e = absurd (cc)
some_objects (o ∷ os) first others e = ne_eqb (length (o ∷ os)) 0 (λ z. omega arith)

-- what begins with the text of a world is read as that world, and the rest is its script
pub written_before : (w : WorldText) (rest : List ℕ) → CanBeRead w → read_text Two (text_of_world w ++ rest) ≡ Accepted w (next_number w) (pieces 10 rest)
unfolding text_of_world
written_before w rest h =
    ap (read_lines 1 (at.Format Two)) (pieces_round_trip (lines_of w) rest canonical)
    ∙ head_read Two w.policy.levels w.policy.cats w.policy.grades w.world.bound (map (object_words w.policy) w.world.objects ++ (map (process_words w.policy) w.world.procs ++ script_words ∷ [])) script some_rest h.policy parts.0
    ∙ steps_on (object_words w.policy) (λ os. tree_at Two w.policy w.world.bound os []) first [] w.world.objects (map (process_words w.policy) w.world.procs ++ script_words ∷ []) script some_rest
    (tree_adds Two w.policy w.world.bound w.world.objects h.is.world.first h.is.world.others h.policy h.is.world.objects_are h.is.world.no_names h.is.world.root_body h.is.world.root_label h.is.world.others_placed
    objects_valid written (objects_plain w.world.top w.world.objects h.is.world.objects) tails.0 h.is.world.room.objects)
    ∙ steps_on (process_words w.policy) (tree_at Two w.policy w.world.bound w.world.objects) (first + length w.world.objects) [] w.world.procs (script_words ∷ []) script some_rest
    (processes_add Two w.policy w.world.bound w.world.objects [] w.world.procs h.policy some procs_valid owned (procs_within w.world.top w.world.procs h.is.world.procs) ends.0 h.is.world.room.procs)
    ∙ step_last (first + length w.world.objects + length w.world.procs) (tree_at Two w.policy w.world.bound w.world.objects w.world.procs) world script_words script some_rest (script_line Two w.policy w.world.bound w.world.objects w.world.procs some)
    ∙ (λ i. Accepted (world_is i) (number i) script)
  where
    script : List (List ℕ)
    script = pieces 10 rest

    some_rest : IsRest script
    some_rest = let first = pieces_first 10 rest in record { first = first.0; others = first.1; is = first.2 }

    objects_valid : AllByRecursion (λ (o : WorldObject). is_valid w.policy o.label ≡ true) w.world.objects
    objects_valid = subst (λ (top : Label). AllByRecursion (λ (o : WorldObject). dominates top o.label ≡ true) w.world.objects) h.is.top (objects_below w.world.top w.world.objects h.is.world.objects)

    procs_valid : AllByRecursion (λ (p : WorldProc). is_valid w.policy p.label ≡ true) w.world.procs
    procs_valid = subst (λ (top : Label). AllByRecursion (λ (p : WorldProc). dominates top p.label ≡ true) w.world.procs) h.is.top (procs_below w.world.top w.world.procs h.is.world.procs)

    written : AllByRecursion (λ (o : WorldObject). IsCanonicalObject o) w.world.objects
    written = canonical_objects w.world.top w.world.objects h.is.world.objects h.objects

    owned : AllByRecursion (λ (p : WorldProc). IsCanonicalIds p.ids) w.world.procs
    owned = canonical_procs w.world.top w.world.procs h.is.world.procs h.procs

    some : (length w.world.objects == 0) ≡ false
    some = some_objects w.world.objects h.is.world.first h.is.world.others h.is.world.objects_are

    head : List (List LineWord)
    head = head_words Two w.policy w.world.bound

    -- the number of the line after the head
    first : ℕ
    first = length head + 1

    parts : AllByRecursion IsShort head × AllByRecursion IsShort (map (object_words w.policy) w.world.objects ++ (map (process_words w.policy) w.world.procs ++ script_words ∷ []))
    parts = all_parts IsShort head (map (object_words w.policy) w.world.objects ++ (map (process_words w.policy) w.world.procs ++ script_words ∷ [])) h.lines

    tails : AllByRecursion IsShort (map (object_words w.policy) w.world.objects) × AllByRecursion IsShort (map (process_words w.policy) w.world.procs ++ script_words ∷ [])
    tails = all_parts IsShort (map (object_words w.policy) w.world.objects) (map (process_words w.policy) w.world.procs ++ script_words ∷ []) parts.1

    ends : AllByRecursion IsShort (map (process_words w.policy) w.world.procs) × AllByRecursion IsShort (script_words ∷ [])
    ends = all_parts IsShort (map (process_words w.policy) w.world.procs) (script_words ∷ []) tails.1

    canonical : list_all (list_all has_spelling) (lines_of w) ≡ true
    canonical =
        let objects = map (object_words w.policy) w.world.objects in
        let procs = map (process_words w.policy) w.world.procs in
        list_all-append (list_all has_spelling) (head_words Two w.policy w.world.bound) (objects ++ (procs ++ script_words ∷ [])) ∙ and_from _ _ (head_spelling Two w.policy.levels w.policy.cats w.policy.grades w.world.bound h.policy)
        (list_all-append (list_all has_spelling) objects (procs ++ script_words ∷ []) ∙ and_from _ _ (objects_spelling w.policy w.world.objects h.policy objects_valid written)
        (list_all-append (list_all has_spelling) procs (script_words ∷ []) ∙ and_from _ _ (processes_spelling w.policy w.world.procs h.policy procs_valid owned) refl))

    world : WorldText
    world = world_of (record { format = Two; policy = w.policy; bound = w.world.bound; builder = record { objects = w.world.objects; procs = w.world.procs } })

    world_is : world ≡ w
    world_is = ap (λ (top : Label). record { policy = w.policy; world = record { top = top; bound = w.world.bound; objects = w.world.objects; procs = w.world.procs } }) (sym h.is.top)

    number : first + length w.world.objects + length w.world.procs + 1 ≡ next_number w
    number =
        let objects = map (object_words w.policy) w.world.objects in
        let procs = map (process_words w.policy) w.world.procs in
        let one = length-map w.world.objects (object_words w.policy) in
        let two = length-map w.world.procs (process_words w.policy) in
        let three = length-append objects (procs ++ script_words ∷ []) in
        let four = length-append procs (script_words ∷ []) in
        let five = length-append head (objects ++ (procs ++ script_words ∷ [])) in
        omega arith

-- the text of a world is read as that world
pub written_round_trip : (w : WorldText) → CanBeRead w → read_text Two (text_of_world w) ≡ Accepted w (next_number w) ([] ∷ [])
written_round_trip w h = ap (read_text Two) (sym (append-nil (text_of_world w))) ∙ written_before w [] h
