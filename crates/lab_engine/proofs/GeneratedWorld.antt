-- The head of the generated input is read as a world.
use Rattle.std.proofs.Common.{◌≡◌, ℕ, ◌+◌, ◌<◌, Bool, true, false, cond, not, List, [], ◌∷◌, ◌++◌, length, codes, refl, ◌∙◌, ap, arith, Option, Some, None}
use Rattle.std.specs.Prelude.{count_by, is_some, nat_le, nat_lt, option_and_then, drop, take}
use Rattle.std.proofs.lemmas.Bool.{and_left, both_ways, cond-false, lt-leb, or_right}
use Rattle.std.proofs.lemmas.List.Sums.{count_by-le-length}
use Rattle.std.proofs.lemmas.Option.{same_Some}
use Rattle.cap_bits.specs.declared.state.CapState.{CapState}
use Rattle.cap_bits.specs.CapSet.{CapSet}
use Rattle.cap_bits.specs.FileCaps.{no_file_caps}
use Rattle.cap_bits.specs.Laws.{has-within}
use Rattle.cap_bits.specs.State.{no_flags}
use Rattle.cap_bits.proofs.RoundTrips.{uniform-shown}
use Rattle.cap_clause.specs.Clauses.{caps_named, clause_fault, clauses_of, parse_list, with_clause}
use Rattle.cap_clause.specs.Parsed.{caps_fault, caps_meant, parse_caps, parse_set}
use Rattle.fs_path.specs.Name.{Name}
use Rattle.fs_path.specs.Path.{PathValue}
use Rattle.fs_path.specs.PathText.{component_fault, components_of, parse_path, path_fault}
use Rattle.fs_path.specs.Values.{digits_value, groups_of, numeral}
use Rattle.fs_path.specs.Words.{is_blank, words_of}
use Rattle.gen_world.specs.Text.{head_lines}
use Rattle.kern_model.specs.declared.limits.TheConstants.{MAX_OBJECTS, MAX_PROCS}
use Rattle.kern_model.specs.declared.objects.Body.TheVariants as body
use Rattle.kern_model.specs.declared.world.WorldObject.{WorldObject}
use Rattle.kern_model.specs.declared.world.WorldProc.{WorldProc}
use Rattle.kern_model.specs.Kinds.{is_dir, kind_of}
use Rattle.kern_model.specs.Named.{find_named}
use Rattle.kern_model.specs.Rules.{same_label}
use Rattle.kern_model.specs.World.{object_with_path}
use Rattle.lab_lattice.specs.Label.{Label, bottom, dominates}
use Rattle.lab_lattice.proofs.Labels.{dominates_bottom, dominates_itself}
use Rattle.lab_text.specs.Names.{same_bytes}
use Rattle.lab_text.specs.Policy.{PolicyNames, with_names, no_names, names_fault, top_of}
use Rattle.lab_text.specs.declared.lists.NameList.TheVariants.{Levels, Categories}
use Rattle.lab_text.specs.Text.{LabelWords, label_of as label_of_words, label_text, label_words, label_of_parts, grade_named, parse_label, places_of}
use Rattle.lab_text.proofs.Parsed.{parse_text}
use Rattle.line_text.specs.declared.fault.LineFault.{LineFault}
use Rattle.line_text.specs.declared.fault.LineFault.TheVariants.{RootLabel, TooMany}
use Rattle.world_text.specs.declared.expecting.Expecting.{Expecting}
use Rattle.world_text.specs.declared.expecting.Expecting.TheVariants as at
use Rattle.world_text.specs.declared.tree.ObjectFields.{ObjectFields}
use Rattle.world_text.specs.declared.format.Format.TheVariants.{Two}
use Rattle.world_text.specs.declared.expecting.Parsed.{Parsed}
use Rattle.world_text.specs.declared.expecting.Parsed.TheVariants.{GoesOn, Begins}
use Rattle.world_text.specs.declared.expecting.PartialWorld.{PartialWorld}
use Rattle.world_text.specs.declared.processes.ProcFields.{ProcFields}
use Rattle.world_text.specs.declared.values.WordValue.{WordValue}
use Rattle.world_text.specs.declared.values.WordValue.TheVariants as value
use Rattle.world_text.specs.declared.world.WorldText.{WorldText}
use Rattle.world_text.specs.Values.{label_of, refuse_or, with_value}
use Rattle.world_text.specs.Head.{set_of}
use Rattle.world_text.specs.TreeLines.{object_fields_of, object_of, parse_object, parse_plain, parse_tree}
use Rattle.world_text.specs.Processes.{parse_proc, parse_proc_line, proc_caps_of, proc_fields_of}
use Rattle.world_text.specs.Expecting.{parse_line, parse_words, world_of}
use Rattle.world_text.specs.Placing.{directory_of, is_above, is_directory, is_root, object_fault, process_fault}
use Rattle.world_text.specs.Reading.{Accepted, after, read_lines}
use Rattle.world_text.proofs.FileCapsLemmas.{none_by}
use Rattle.lab_engine.proofs.GeneratedLines.{policy}

-- ---- values of words

-- the value that a word has
abbrev Has : {X : Type 0} → WordValue X → Type 0
Has {X} v = (x : X) × (v ≡ value.Known x)

abbrev is_known : {X : Type 0} → WordValue X → Bool
is_known (value.Known x) = true
is_known _ = false

known : {X : Type 0} (v : WordValue X) → is_known v ≡ true → Has v
known (value.Known x) e = (x, refl)
known value.Malformed e = absurd (both_ways false refl e)
known value.UnknownName e = absurd (both_ways false refl e)

-- `all` denotes a set
bound_value : Has (set_of (codes "all"))
unfolding parse_set parse_list caps_named
bound_value = known (set_of (codes "all")) refl

-- the state that `=` denotes
abbrev caps : CapState
caps = caps_meant (codes "=")

-- no more is effective in this state than permitted
caps_known : proc_caps_of (codes "=") ≡ value.Known caps
unfolding parse_caps caps_fault clause_fault clauses_of caps_meant with_clause
caps_known = ap (λ v. cond v (value.Known caps) value.Malformed) (has-within caps.e caps.e (λ q h. h))

-- ---- labels

-- the names of the higher levels denote labels
level_1 : Has (label_of policy (codes "l1"))
unfolding label_words parse_label
level_1 = known (label_of policy (codes "l1")) refl

level_2 : Has (label_of policy (codes "l2"))
unfolding label_words parse_label
level_2 = known (label_of policy (codes "l2")) refl

level_3 : Has (label_of policy (codes "l3"))
unfolding label_words parse_label
level_3 = known (label_of policy (codes "l3")) refl

-- the name of the lowest level denotes a label
lowest_value : Has (label_of policy (codes "l0"))
unfolding label_words parse_label
lowest_value = known (label_of policy (codes "l0")) refl

-- the name of the lowest level alone
abbrev lowest : PolicyNames
lowest = record { levels = codes "l0" ∷ []; cats = []; grades = [] }

-- what is made of the place of a name in a list of one name, of no categories and of no grade
by_level : (label : Label) (b : Bool) (cats : List (List ℕ)) (grade : Option (List ℕ))
    → label_of_parts (cond (nat_lt (cond (not b) 1 0) 1) (Some (cond (not b) 1 0)) None) (places_of [] cats) (grade_named [] grade) ≡ Some label → lowest_value.0 ≡ label
unfolding known label_words lowest_value parse_label
by_level label true [] None e = same_Some lowest_value.0 label e
by_level label true [] (Some g) e = absurd (cc)
by_level label true (c ∷ cs) grade e = absurd (cc)
by_level label false cats grade e = absurd (cc)

-- by that name alone, all texts of labels denote one label
only_label : (text : List ℕ) (label : Label) → parse_label lowest text ≡ Some label → lowest_value.0 ≡ label
unfolding parse_label
only_label text label e = by_words (label_words text) e
  where
    by_words : (w : Option LabelWords) → option_and_then (label_of_words lowest) w ≡ Some label → lowest_value.0 ≡ label
    by_words None e = absurd (cc)
    by_words (Some w) e = by_level label (same_bytes w.level (codes "l0")) w.cats w.grade e

-- the bottom label has a text by that name too, so it is this label
bottom_only : lowest_value.0 ≡ bottom
unfolding names_fault
bottom_only = only_label (label_text lowest bottom) bottom (parse_text lowest bottom refl (dominates_bottom (top_of lowest)))

-- the name of the lowest level denotes the bottom label
level_0 : label_of policy (codes "l0") ≡ value.Known bottom
level_0 = lowest_value.1 ∙ ap (λ (l : Label). value.Known l) bottom_only

-- ---- directories

-- a line of the tree is expected, after these objects and processes
abbrev tree_at : List WorldObject → List WorldProc → Expecting
tree_at objects procs = at.Tree (record { format = Two; policy = policy; bound = bound_value.0; builder = record { objects = objects; procs = procs } })

-- an absolute path
abbrev path_at : List Name → PathValue
path_at names = record { absolute = true; names = names }

-- a directory at a path, with a label
abbrev dir_at : List Name → Label → WorldObject
dir_at names label = record { path = path_at names; label = label; attr = record { owner = 0; group = 0; mode = 511; caps = no_file_caps }; body = body.Dir }

-- fewer items than a limit leave room below it
few_before : {X : Type 0} (test : X → Bool) (xs : List X) (most : ℕ) → length xs < most → nat_le most (count_by test xs) ≡ false
few_before test xs most few = lt-leb most (count_by test xs) (omega (arith, count_by-le-length test xs))

-- the root has no fault as the first object
root_fits : object_fault (record { objects = []; procs = [] }) (dir_at [] bottom) ≡ None
unfolding object_fault
root_fits = cond-false (not (dominates bottom bottom)) (Some RootLabel) None (ap not (dominates_itself bottom))

-- an object in a directory that was given has no fault
object_fits : (done : List WorldObject) (o parent : WorldObject) → object_with_path done o.path.names ≡ None → is_root o.path.names ≡ false → directory_of done o.path.names ≡ Some parent → is_dir (kind_of parent.body) ≡ true
    → dominates o.label parent.label ≡ true → length done < MAX_OBJECTS → object_fault (record { objects = done; procs = [] }) o ≡ None
unfolding object_fault
object_fits done o parent new below in_dir dir above few =
    cond-false _ _ _ (ap is_some new) ∙ cond-false _ _ _ (ap not (or_right (is_root o.path.names) _ (ap is_directory in_dir ∙ dir))) ∙ cond-false _ _ _ (and_left _ _ below)
    ∙ cond-false _ _ _ (ap not (ap (is_above o.label) in_dir ∙ above)) ∙ cond-false _ _ _ (few_before (λ (x : WorldObject). same_label x.label o.label) done MAX_OBJECTS few)

-- the root of the generated world
abbrev root : WorldObject
root = dir_at [] bottom

-- a directory in the root has no fault, where its path was not given
dir_fits : (more : List WorldObject) (n : Name) (label : Label) → object_with_path (root ∷ more) (n ∷ []) ≡ None → length (root ∷ more) < MAX_OBJECTS → object_fault (record { objects = root ∷ more; procs = [] }) (dir_at (n ∷ []) label) ≡ None
dir_fits more n label new few = object_fits (root ∷ more) (dir_at (n ∷ []) label) root new refl refl refl (dominates_bottom label) few

-- the words of a directory
abbrev dir_words : List ℕ → List ℕ → List (List ℕ)
dir_words path name = path ∷ codes "0777" ∷ codes "0" ∷ codes "0" ∷ name ∷ []

-- the line of a directory that has no fault adds it
dir_line : (done : List WorldObject) (line path name : List ℕ) (names : List Name) (label : Label)
    → parse_line (tree_at done []) line ≡ parse_plain (record { format = Two; policy = policy; bound = bound_value.0; builder = record { objects = done; procs = [] } }) body.Dir (dir_words path name)
    → object_fields_of policy path (codes "0777") (codes "0") (codes "0") name ≡ Some (record { path = path_at names; mode = 511; owner = 0; group = 0; label = label_of policy name })
    → label_of policy name ≡ value.Known label → object_fault (record { objects = done; procs = [] }) (dir_at names label) ≡ None
    → parse_line (tree_at done []) line ≡ GoesOn (tree_at (done ++ dir_at names label ∷ []) [])
dir_line done line path name names label words fields labelled fits =
    let w : PartialWorld = record { format = Two; policy = policy; bound = bound_value.0; builder = record { objects = done; procs = [] } } in
    let f : WordValue Label → ObjectFields = λ v. record { path = path_at names; mode = 511; owner = 0; group = 0; label = v } in
    words
    ∙ ap (λ (o : Option ObjectFields). parse_tree w o (value.Known no_flags) body.Dir) fields
    ∙ ap (λ (v : WordValue Label). parse_tree w (Some (f v)) (value.Known no_flags) body.Dir) labelled
    ∙ (λ i. parse_object w (object_of (f (value.Known label)) label (none_by i) body.Dir) (uniform-shown no_file_caps i))
    ∙ ap (λ (o : Option LineFault). refuse_or o (GoesOn (tree_at (done ++ dir_at names label ∷ []) []))) fits

-- the directories after each line
abbrev after_root : List WorldObject
after_root = root ∷ []

abbrev after_d0 : List WorldObject
after_d0 = after_root ++ dir_at (codes "d0" ∷ []) bottom ∷ []

abbrev after_d1 : List WorldObject
after_d1 = after_d0 ++ dir_at (codes "d1" ∷ []) level_1.0 ∷ []

abbrev after_d2 : List WorldObject
after_d2 = after_d1 ++ dir_at (codes "d2" ∷ []) level_2.0 ∷ []

abbrev all_dirs : List WorldObject
all_dirs = after_d2 ++ dir_at (codes "d3" ∷ []) level_3.0 ∷ []

root_line : parse_line (tree_at [] []) (codes "dir / 0777 0 0 l0") ≡ GoesOn (tree_at after_root [])
unfolding parse_line find_named parse_words words_of is_blank object_fields_of path_fault component_fault components_of parse_path numeral digits_value
root_line = dir_line [] (codes "dir / 0777 0 0 l0") (codes "/") (codes "l0") [] bottom refl refl level_0 root_fits

d0_line : parse_line (tree_at after_root []) (codes "dir /d0 0777 0 0 l0") ≡ GoesOn (tree_at after_d0 [])
unfolding parse_line find_named parse_words words_of is_blank object_fields_of path_fault component_fault components_of parse_path numeral digits_value
d0_line = dir_line after_root (codes "dir /d0 0777 0 0 l0") (codes "/d0") (codes "l0") (codes "d0" ∷ []) bottom refl refl level_0 (dir_fits [] (codes "d0") bottom refl (omega arith))

d1_line : parse_line (tree_at after_d0 []) (codes "dir /d1 0777 0 0 l1") ≡ GoesOn (tree_at after_d1 [])
unfolding parse_line find_named parse_words words_of is_blank object_fields_of path_fault component_fault components_of parse_path numeral digits_value
d1_line = dir_line after_d0 (codes "dir /d1 0777 0 0 l1") (codes "/d1") (codes "l1") (codes "d1" ∷ []) level_1.0 refl refl level_1.1 (dir_fits _ (codes "d1") level_1.0 refl (omega arith))

d2_line : parse_line (tree_at after_d1 []) (codes "dir /d2 0777 0 0 l2") ≡ GoesOn (tree_at after_d2 [])
unfolding parse_line find_named parse_words words_of is_blank object_fields_of path_fault component_fault components_of parse_path numeral digits_value
d2_line = dir_line after_d1 (codes "dir /d2 0777 0 0 l2") (codes "/d2") (codes "l2") (codes "d2" ∷ []) level_2.0 refl refl level_2.1 (dir_fits _ (codes "d2") level_2.0 refl (omega arith))

d3_line : parse_line (tree_at after_d2 []) (codes "dir /d3 0777 0 0 l3") ≡ GoesOn (tree_at all_dirs [])
unfolding parse_line find_named parse_words words_of is_blank object_fields_of path_fault component_fault components_of parse_path numeral digits_value
d3_line = dir_line after_d2 (codes "dir /d3 0777 0 0 l3") (codes "/d3") (codes "l3") (codes "d3" ∷ []) level_3.0 refl refl level_3.1 (dir_fits _ (codes "d3") level_3.0 refl (omega arith))

-- ---- processes

-- a process of one user and one group of the same number
abbrev proc_at : ℕ → Label → WorldProc
proc_at id label = record { label = label; ids = record { ruid = id; euid = id; suid = id; rgid = id; egid = id; sgid = id; groups = [] }; caps = caps }

-- the words of a process
abbrev proc_words : List ℕ → List ℕ → List (List ℕ)
proc_words name id = name ∷ id ∷ id ∷ codes "-" ∷ codes "=" ∷ []

-- the line of a process adds it
proc_line : (done : List WorldProc) (line name word : List ℕ) (id : ℕ) (label : Label)
    → parse_line (tree_at all_dirs done) line ≡ parse_proc_line (record { format = Two; policy = policy; bound = bound_value.0; builder = record { objects = all_dirs; procs = done } }) (proc_words name word)
    → proc_fields_of policy name word word (codes "-") ≡ Some (record { label = label_of policy name; user = id; group = id; groups = [] })
    → label_of policy name ≡ value.Known label → length done < MAX_PROCS
    → parse_line (tree_at all_dirs done) line ≡ GoesOn (tree_at all_dirs (done ++ proc_at id label ∷ []))
unfolding process_fault
proc_line done line name word id label words fields labelled few =
    let w : PartialWorld = record { format = Two; policy = policy; bound = bound_value.0; builder = record { objects = all_dirs; procs = done } } in
    let f : WordValue Label → ProcFields = λ v. record { label = v; user = id; group = id; groups = [] } in
    words
    ∙ ap (λ (o : Option ProcFields). parse_proc w o (proc_caps_of (codes "="))) fields
    ∙ (λ i. parse_proc w (Some (f (labelled i))) (caps_known i))
    ∙ ap (λ v. refuse_or (cond v (Some TooMany) None) (GoesOn (tree_at all_dirs (done ++ proc_at id label ∷ [])))) (few_before (λ (p : WorldProc). same_label p.label label) done MAX_PROCS few)

-- the processes after each line
abbrev after_p0 : List WorldProc
after_p0 = proc_at 100 bottom ∷ []

abbrev after_p1 : List WorldProc
after_p1 = after_p0 ++ proc_at 101 level_1.0 ∷ []

abbrev after_p2 : List WorldProc
after_p2 = after_p1 ++ proc_at 102 level_2.0 ∷ []

abbrev all_procs : List WorldProc
all_procs = after_p2 ++ proc_at 103 level_3.0 ∷ []

p0_line : parse_line (tree_at all_dirs []) (codes "proc l0 100 100 - \"=\"") ≡ GoesOn (tree_at all_dirs after_p0)
unfolding parse_line find_named parse_words words_of is_blank proc_fields_of groups_of numeral digits_value
p0_line = proc_line [] (codes "proc l0 100 100 - \"=\"") (codes "l0") (codes "100") 100 bottom refl refl level_0 (omega arith)

p1_line : parse_line (tree_at all_dirs after_p0) (codes "proc l1 101 101 - \"=\"") ≡ GoesOn (tree_at all_dirs after_p1)
unfolding parse_line find_named parse_words words_of is_blank proc_fields_of groups_of numeral digits_value
p1_line = proc_line after_p0 (codes "proc l1 101 101 - \"=\"") (codes "l1") (codes "101") 101 level_1.0 refl refl level_1.1 (omega arith)

p2_line : parse_line (tree_at all_dirs after_p1) (codes "proc l2 102 102 - \"=\"") ≡ GoesOn (tree_at all_dirs after_p2)
unfolding parse_line find_named parse_words words_of is_blank proc_fields_of groups_of numeral digits_value
p2_line = proc_line after_p1 (codes "proc l2 102 102 - \"=\"") (codes "l2") (codes "102") 102 level_2.0 refl refl level_2.1 (omega arith)

p3_line : parse_line (tree_at all_dirs after_p2) (codes "proc l3 103 103 - \"=\"") ≡ GoesOn (tree_at all_dirs all_procs)
unfolding parse_line find_named parse_words words_of is_blank proc_fields_of groups_of numeral digits_value
p3_line = proc_line after_p2 (codes "proc l3 103 103 - \"=\"") (codes "l3") (codes "103") 103 level_3.0 refl refl level_3.1 (omega arith)

-- ---- the head

format_line : parse_line (at.Format Two) (codes "world 2") ≡ GoesOn (at.Names Two Levels no_names)
unfolding parse_line find_named parse_words words_of is_blank
format_line = refl

levels_line : parse_line (at.Names Two Levels no_names) (codes "levels l0 l1 l2 l3") ≡ GoesOn (at.Names Two Categories (with_names no_names Levels policy.levels))
unfolding parse_line parse_words words_of is_blank names_fault
levels_line = refl

categories_line : parse_line (at.Names Two Categories (with_names no_names Levels policy.levels)) (codes "categories c0 c1") ≡ GoesOn (at.Grades Two policy)
unfolding parse_line parse_words words_of is_blank names_fault
categories_line = refl

bound_line : parse_line (at.Grades Two policy) (codes "bound all") ≡ GoesOn (tree_at [] [])
unfolding parse_line parse_words words_of is_blank
bound_line = ap (λ (v : WordValue CapSet). with_value v (λ bound. GoesOn (at.Tree (record { format = Two; policy = policy; bound = bound; builder = record { objects = []; procs = [] } })))) bound_value.1

-- the world of the generated input
pub generated_world : WorldText
generated_world = world_of (record { format = Two; policy = policy; bound = bound_value.0; builder = record { objects = all_dirs; procs = all_procs } })

script_line : parse_line (tree_at all_dirs all_procs) (codes "script") ≡ Begins generated_world
unfolding generated_world parse_line find_named parse_words words_of is_blank
script_line = refl

-- lines lead from what is expected before them to what is expected after them
abbrev ReadsOn : Expecting → List (List ℕ) → Expecting → Type 0
ReadsOn expecting [] last = expecting ≡ last
ReadsOn expecting (line ∷ lines) last = (next : Expecting) × (parse_line expecting line ≡ GoesOn next) × ReadsOn next lines last

read_on : (n : ℕ) (expecting last : Expecting) (lines : List (List ℕ)) (p : List ℕ) (ps : List (List ℕ)) → ReadsOn expecting lines last → read_lines n expecting (lines ++ p ∷ ps) ≡ read_lines (n + length lines) last (p ∷ ps)
unfolding read_lines
read_on n expecting last [] p ps reads = let same : n ≡ n + 0 = omega arith in λ i. read_lines (same i) (reads i) (p ∷ ps)
read_on n expecting last (line ∷ []) p ps reads =
    ap (λ (parsed : Parsed). after parsed n (p ∷ ps) (λ next. read_lines (n + 1) next (p ∷ ps))) reads.1 ∙ ap (λ next. read_lines (n + 1) next (p ∷ ps)) reads.2
read_on n expecting last (line ∷ other ∷ lines) p ps reads =
    let same : n + 1 + length (other ∷ lines) ≡ n + length (line ∷ other ∷ lines) = omega arith in
    ap (λ (parsed : Parsed). after parsed n (other ∷ lines ++ p ∷ ps) (λ next. read_lines (n + 1) next (other ∷ lines ++ p ∷ ps))) reads.1
    ∙ read_on (n + 1) reads.0 last (other ∷ lines) p ps reads.2 ∙ ap (λ k. read_lines k last (p ∷ ps)) same

-- the head without its last line
abbrev before_script : List (List ℕ)
before_script = take 13 head_lines

procs_read_on : ReadsOn (tree_at all_dirs []) (drop 9 before_script) (tree_at all_dirs all_procs)
procs_read_on = (tree_at all_dirs after_p0, p0_line, (tree_at all_dirs after_p1, p1_line, (tree_at all_dirs after_p2, p2_line, (tree_at all_dirs all_procs, p3_line, refl))))

tree_reads_on : ReadsOn (tree_at [] []) (drop 4 before_script) (tree_at all_dirs all_procs)
tree_reads_on = (tree_at after_root [], root_line, (tree_at after_d0 [], d0_line, (tree_at after_d1 [], d1_line, (tree_at after_d2 [], d2_line, (tree_at all_dirs [], d3_line, procs_read_on)))))

head_reads_on : ReadsOn (at.Format Two) before_script (tree_at all_dirs all_procs)
head_reads_on = (at.Names Two Levels no_names, format_line, (at.Names Two Categories (with_names no_names Levels policy.levels), levels_line, (at.Grades Two policy, categories_line, (tree_at [] [], bound_line, tree_reads_on))))

script_begins : (n : ℕ) (p : List ℕ) (ps : List (List ℕ)) → read_lines n (tree_at all_dirs all_procs) (codes "script" ∷ p ∷ ps) ≡ Accepted generated_world (n + 1) (p ∷ ps)
unfolding read_lines
script_begins n p ps = ap (λ (parsed : Parsed). after parsed n (p ∷ ps) (λ next. read_lines (n + 1) next (p ∷ ps))) script_line

-- the head is read as the world, and the script begins after it
pub head_read : (p : List ℕ) (ps : List (List ℕ)) → read_lines 1 (at.Format Two) (head_lines ++ p ∷ ps) ≡ Accepted generated_world 15 (p ∷ ps)
head_read p ps = read_on 1 (at.Format Two) (tree_at all_dirs all_procs) before_script (codes "script") (p ∷ ps) head_reads_on ∙ script_begins 14 p ps

-- the world has four processes, and the names are those of its head
pub four_procs : length generated_world.world.procs ≡ 4
unfolding generated_world
four_procs = refl

pub its_names : generated_world.policy ≡ policy
unfolding generated_world
its_names = refl
