-- An accepted text denotes a world.
use Rattle.std.specs.Prelude.{◌≡◌, ℕ, ◌+◌, ◌≤◌, ◌==◌, ◌&&◌, ◌||◌, not, nat_le, nat_lt, Bool, true, false, cond, List, [], ◌∷◌, ◌++◌, length, Option, None, Some, is_some, is_none, count_by, refl}
use Rattle.std.proofs.Common.{ap, sym, ◌∙◌, subst, append-nil, append_assoc, arith}
use Rattle.std.specs.List.{AllByRecursion, list_all}
use Rattle.std.proofs.lemmas.Bool.{and_parts, not-false, leb-false, ltb-false, both_ways}
use Rattle.std.proofs.lemmas.Option.{cond_some, option_and_then_some, same_Some}
use Rattle.cap_bits.specs.declared.state.CapState.{CapState}
use Rattle.cap_bits.specs.CapSet.{is_within}
use Rattle.cap_bits.specs.FileCaps.{caps_by}
use Rattle.cap_bits.specs.State.{no_flags}
use Rattle.fs_path.specs.declared.words.LineWord.{LineWord}
use Rattle.fs_path.specs.Name.{Name}
use Rattle.fs_path.specs.Split.{pieces}
use Rattle.fs_path.specs.Path.{PathValue, HasForm}
use Rattle.fs_path.proofs.PathLaws.{path_form}
use Rattle.fs_path.specs.PathText.{path_fault}
use Rattle.fs_path.proofs.ValueRanges.{mode_range, groups_few}
use Rattle.fs_path.specs.Values.{number_of, mode_of, groups_of}
use Rattle.fs_path.proofs.WordSizes.{words_fit}
use Rattle.fs_path.specs.Words.{words_of, is_blank}
use Rattle.lab_lattice.specs.Label.{Label, dominates, bottom}
use Rattle.lab_lattice.proofs.Labels.{dominates_both, dominates_bottom}
use Rattle.lab_text.specs.Names.{Names, same_bytes, is_label_name}
use Rattle.lab_text.specs.Policy.{PolicyNames, with_names, no_names, names_fault, MakePolicy, top_of}
use Rattle.lab_text.specs.Lists.{next_list, keyword_of as list_keyword}
use Rattle.lab_text.specs.declared.lists.NameList.{NameList}
use Rattle.lab_text.specs.declared.lists.NameList.TheVariants.{Levels, Categories, Grades}
use Rattle.lab_text.specs.declared.policy.PolicyError.{PolicyError}
use Rattle.lab_text.specs.Text.{is_label_text, parse_label}
use Rattle.lab_text.proofs.Parsed.{parsed_valid}
use Rattle.fs_path.specs.declared.words.TheConstants.{MAX_LINE}
use Rattle.kern_model.specs.declared.limits.TheConstants.{MAX_FILE_BYTES, MAX_GROUPS, MAX_OBJECTS, MAX_PROCS}
use Rattle.kern_model.specs.declared.objects.Body.{Body}
use Rattle.kern_model.specs.declared.objects.Body.TheVariants as body
use Rattle.kern_model.specs.declared.world.WorldObject.{WorldObject}
use Rattle.kern_model.specs.declared.world.WorldProc.{WorldProc}
use Rattle.kern_model.specs.Kinds.{kind_of, bytes_of, is_dir, is_file, is_mode}
use Rattle.kern_model.specs.Rules.{same_label}
use Rattle.kern_model.specs.World.{IsWorld, IsWorldObject, IsWorldProc, IsPlaced, ArePlaced, object_with_path, parent_names, objects_at, procs_at, same_names}
use Rattle.line_text.specs.Reading.{path_of}
use Rattle.line_text.specs.declared.fault.LineFault.{LineFault}
use Rattle.line_text.specs.declared.fault.LineFault.TheVariants.{OldFormat, Syntax, UnknownName}
use Rattle.world_text.specs.declared.expecting.Expecting.{Expecting}
use Rattle.world_text.specs.declared.expecting.Expecting.TheVariants as at
use Rattle.world_text.specs.declared.tree.ObjectFields.{ObjectFields}
use Rattle.world_text.specs.declared.expecting.PartialWorld.{PartialWorld}
use Rattle.world_text.specs.declared.processes.ProcFields.{ProcFields}
use Rattle.world_text.specs.declared.values.WordValue.{WordValue}
use Rattle.world_text.specs.declared.values.WordValue.TheVariants as value
use Rattle.world_text.specs.declared.keyword.Keyword.{Keyword}
use Rattle.world_text.specs.declared.keyword.Keyword.TheVariants as key
use Rattle.world_text.specs.declared.expecting.Parsed.{Parsed}
use Rattle.world_text.specs.declared.expecting.Parsed.TheVariants.{Refuses, GoesOn, Begins}
use Rattle.world_text.specs.declared.world.WorldText.{WorldText}
use Rattle.world_text.specs.Tree.{Tree}
use Rattle.world_text.specs.Placing.{is_directory, is_above, directory_of, is_root, object_fault, process_fault}
use Rattle.world_text.specs.CanBeRead.{IsWorldText}
use Rattle.world_text.specs.Values.{unless, refuse_or, with_form, with_value, bytes_in, caps_of, label_value, label_of, both}
use Rattle.world_text.specs.Head.{after_format, fault_for, unless_fault, due_after, parse_format, parse_names, parse_bound, set_of}
use Rattle.world_text.specs.TreeLines.{absolute_path, parse_object, object_of, parse_tree, object_fields_of, parse_plain, parse_file}
use Rattle.world_text.specs.Processes.{proc_caps, proc_caps_of, ids_of, parse_process, parse_proc, proc_fields_of, parse_proc_line}
use Rattle.world_text.specs.declared.format.Format.{Format}
use Rattle.world_text.specs.declared.format.Format.TheVariants.{One, Two}
use Rattle.world_text.specs.Formats.{format_named}
use Rattle.world_text.specs.Keywords.{keyword_of}
use Rattle.world_text.specs.Expecting.{world_of, after_keyword, parse_bound_line, parse_grades, parse_script, parse_after, parse_tree_line, parse_words, parse_line}
use Rattle.world_text.specs.Reading.{Reading, Accepted, after, read_lines, read_text}
use Rattle.world_text.proofs.BuilderLemmas.{count_more}
use Rattle.world_text.proofs.FileCapsLemmas.{none_by}
use Rattle.world_text.proofs.RangeLemmas.{all_and_one}

-- ---- what holds of a reading at each line

-- an object that may be the root
record IsFirst (o : WorldObject) : Type 0 where
  no_names : o.path.names ≡ []
  is_dir : o.body ≡ body.Dir
  lowest : o.label ≡ bottom

-- the first object may be the root, and each other one may come after those before it
abbrev AreRooted : List WorldObject → Type 0
AreRooted [] = Unit {0}
AreRooted (first ∷ others) = IsFirst first × ArePlaced (first ∷ []) others

record SoundTree (policy : PolicyNames) (t : Tree) : Type 0 where
  rooted : AreRooted t.objects
  objects : AllByRecursion (IsWorldObject (top_of policy)) t.objects
  procs : AllByRecursion (IsWorldProc (top_of policy)) t.procs
  objects_room : (l : Label) → objects_at l t.objects ≤ MAX_OBJECTS
  procs_room : (l : Label) → procs_at l t.procs ≤ MAX_PROCS

abbrev SoundExpecting : Expecting → Type 0
SoundExpecting (at.Format due) = Unit {0}
SoundExpecting (at.Names format list names) = Unit {0}
SoundExpecting (at.Grades format policy) = MakePolicy policy
SoundExpecting (at.Bound format policy) = MakePolicy policy
SoundExpecting (at.Tree w) = MakePolicy w.policy × SoundTree w.policy w.builder

record SoundWorld (w : WorldText) : Type 0 where
  world : IsWorld w.world
  top : w.world.top ≡ top_of w.policy
  policy : MakePolicy w.policy

record SoundParsed (parsed : Parsed) : Type 0 where
  expecting_is : (expecting : Expecting) → parsed ≡ GoesOn expecting → SoundExpecting expecting
  world_is : (w : WorldText) → parsed ≡ Begins w → SoundWorld w

refuses : (fault : LineFault) → SoundParsed (Refuses fault)
refuses fault = record { expecting_is = λ expecting e. absurd cc; world_is = λ w e. absurd cc }

goes_on : (expecting : Expecting) → SoundExpecting expecting → SoundParsed (GoesOn expecting)
goes_on expecting h = record {
  expecting_is = λ other e. let same : expecting ≡ other = cc in subst SoundExpecting same h;
  world_is = λ w e. absurd cc;
}

begins : (w : WorldText) → SoundWorld w → SoundParsed (Begins w)
begins w h = record {
  expecting_is = λ expecting e. absurd cc;
  world_is = λ other e. let same : w ≡ other = cc in subst (λ w. SoundWorld w) same h;
}

unless_sound : (b : Bool) (fault : LineFault) (parsed : Parsed) → (b ≡ false → SoundParsed parsed) → SoundParsed (unless b fault parsed)
unless_sound true fault parsed h = refuses fault
unless_sound false fault parsed h = h refl

-- a test for a fault, before what follows, keeps the result sound
first_sound : (b : Bool) (fault : LineFault) (rest : Option LineFault) (parsed : Parsed) → (b ≡ false → SoundParsed (refuse_or rest parsed)) → SoundParsed (refuse_or (cond b (Some fault) rest) parsed)
first_sound true fault rest parsed h = refuses fault
first_sound false fault rest parsed h = h refl

form_sound : {X : Type 0} (o : Option X) (k : X → Parsed) → ((x : X) → o ≡ Some x → SoundParsed (k x)) → SoundParsed (with_form o k)
form_sound None k h = refuses Syntax
form_sound (Some x) k h = h x refl

value_sound : {X : Type 0} (v : WordValue X) (k : X → Parsed) → ((x : X) → v ≡ value.Known x → SoundParsed (k x)) → SoundParsed (with_value v k)
value_sound value.Malformed k h = refuses Syntax
value_sound value.UnknownName k h = refuses UnknownName
value_sound (value.Known x) k h = h x refl

both_known : {A B : Type 0} (a : WordValue A) (b : WordValue B) (x : A × B) → both a b ≡ value.Known x → (a ≡ value.Known x.0) × (b ≡ value.Known x.1)
both_known value.Malformed b x h = absurd (cc)
both_known value.UnknownName value.Malformed x h = absurd (cc)
both_known value.UnknownName value.UnknownName x h = absurd (cc)
both_known value.UnknownName (value.Known b) x h = absurd (cc)
both_known (value.Known a) value.Malformed x h = absurd (cc)
both_known (value.Known a) value.UnknownName x h = absurd (cc)
both_known (value.Known a) (value.Known b) x h = let e : (a, b) ≡ x = cc in (ap (λ (q : _ × _). value.Known q.0) e, ap (λ (q : _ × _). value.Known q.1) e)

-- no word is longer than a file may be
abbrev AllFit : List LineWord → Type 0
AllFit ws = AllByRecursion (λ (w : LineWord). length w.bytes ≤ MAX_FILE_BYTES) ws

abbrev NamesFit : Names → Type 0
NamesFit names = AllByRecursion (λ (name : List ℕ). length name ≤ MAX_FILE_BYTES) names

names_fit : (ws : List LineWord) → AllFit ws → NamesFit (bytes_in ws)
names_fit [] fit = tt
names_fit (w ∷ ws) fit = (fit.0, names_fit ws fit.1)

keyword_sound : (keyword : List ℕ) (ws : List LineWord) (parsed : Names → Parsed) → AllFit ws → ((names : Names) → NamesFit names → SoundParsed (parsed names)) → SoundParsed (with_form (after_keyword keyword ws) parsed)
keyword_sound keyword [] parsed fit h = refuses Syntax
keyword_sound keyword (w ∷ ws) parsed fit h = by_word (not w.quoted && same_bytes w.bytes keyword)
  where
    by_word : (b : Bool) → SoundParsed (with_form (cond b (Some (bytes_in ws)) None) parsed)
    by_word true = h _ (names_fit ws fit.1)
    by_word false = refuses Syntax

none_is : {X : Type 0} (o : Option X) → is_some o ≡ false → o ≡ None
none_is None h = refl
none_is (Some x) h = absurd (cc)

-- ---- head lines

after_format_sound : (due format : Format) → SoundParsed (after_format due format)
after_format_sound One One = goes_on (at.Names One Levels no_names) tt
after_format_sound One Two = refuses Syntax
after_format_sound Two One = refuses OldFormat
after_format_sound Two Two = goes_on (at.Names Two Levels no_names) tt

format_sound : (due : Format) (names : Names) → SoundParsed (parse_format due names)
format_sound due (w ∷ []) = form_sound (format_named w) _ (λ format _. after_format_sound due format)
format_sound due _ = refuses Syntax

due_sound : (format : Format) (names : PolicyNames) (next : Option NameList) → MakePolicy names → SoundParsed (GoesOn (due_after format names next))
due_sound format names (Some Levels) h = goes_on (at.Names format Levels names) tt
due_sound format names (Some Categories) h = goes_on (at.Names format Categories names) tt
due_sound format names (Some Grades) h = goes_on (at.Grades format names) h
due_sound format names None h = goes_on (at.Bound format names) h

names_sound : (format : Format) (list : NameList) (before : PolicyNames) (names : Names) → SoundParsed (parse_names format list before names)
names_sound format list before names = unless_sound (not (list_all is_label_name names)) _ _ (λ _. by_fault (names_fault known) refl)
  where
    known : PolicyNames
    known = with_names before list names

    by_fault : (o : Option PolicyError) → names_fault known ≡ o → SoundParsed (unless_fault o (GoesOn (due_after format known (next_list list))))
    by_fault None e = due_sound format known (next_list list) e
    by_fault (Some fault) e = refuses (fault_for fault)

bound_sound : (format : Format) (policy : PolicyNames) (names : Names) → MakePolicy policy → SoundParsed (parse_bound format policy names)
bound_sound format policy (w ∷ []) h = value_sound (set_of w) _ (λ bound _. goes_on (at.Tree (record { format = format; policy = policy; bound = bound; builder = record { objects = []; procs = [] } })) (h, nothing))
  where
    nothing : SoundTree policy (record { objects = []; procs = [] })
    nothing = record { rooted = tt; objects = tt; procs = tt; objects_room = λ l. omega arith; procs_room = λ l. omega arith }
bound_sound format policy _ h = refuses Syntax

-- ---- the tree

-- an item more, at a label that has room, leaves no label with too many
room_more : {X : Type 0} (label : X → Label) (xs : List X) (x : X) (most : ℕ) → ((l : Label) → count_by (λ y. same_label (label y) l) xs ≤ most)
    → nat_le most (count_by (λ y. same_label (label y) (label x)) xs) ≡ false → (l : Label) → count_by (λ y. same_label (label y) l) (xs ++ x ∷ []) ≤ most
room_more label xs x most room fewer l = by_label (same_label (label x) l) refl
  where
    by_label : (b : Bool) → same_label (label x) l ≡ b → count_by (λ y. same_label (label y) l) (xs ++ x ∷ []) ≤ most
    by_label true e =
        let parts = and_parts (dominates (label x) l) (dominates l (label x)) e in
        let same : label x ≡ l = dominates_both (label x) l parts.0 parts.1 in
        let count : count_by (λ y. same_label (label y) (label x)) xs ≡ count_by (λ y. same_label (label y) l) xs = ap (λ l. count_by (λ y. same_label (label y) l) xs) same in
        let below = leb-false most (count_by (λ y. same_label (label y) (label x)) xs) fewer in
        let more = count_more (λ y. same_label (label y) l) xs x in
        let one : cond {A = ℕ} (same_label (label x) l) 1 0 ≡ 1 = ap (λ b. cond b 1 0) e in
        omega arith
    by_label false e =
        let more = count_more (λ y. same_label (label y) l) xs x in
        let one : cond {A = ℕ} (same_label (label x) l) 1 0 ≡ 0 = ap (λ b. cond b 1 0) e in
        let before = room l in
        omega arith

dir_body : (b : Body) → is_dir (kind_of b) ≡ true → b ≡ body.Dir
dir_body body.Dir h = refl
dir_body (body.File bytes) h = absurd (cc)
dir_body body.Fifo h = absurd (cc)
dir_body body.Pipe h = absurd (cc)

-- an object that may be given first may be the root
first_is : (o : WorldObject) (names : List Name) → o.path.names ≡ names → not (is_root names || is_directory (directory_of [] names)) ≡ false
    → (is_root names && not (is_dir (kind_of o.body) && dominates bottom o.label)) ≡ false → IsFirst o
first_is o [] e parent root =
    let parts = and_parts (is_dir (kind_of o.body)) (dominates bottom o.label) (not-false _ root) in
    record { no_names = e; is_dir = dir_body o.body parts.0; lowest = dominates_both o.label bottom (dominates_bottom o.label) parts.1 }
first_is o (n ∷ ns) e parent root = absurd (cc)

-- an object that passes the tests may come after others of which the first is the root
placed_is : (first : WorldObject) (others : List WorldObject) (o : WorldObject) (names : List Name) → o.path.names ≡ names → first.path.names ≡ []
    → is_some (object_with_path (first ∷ others) names) ≡ false → not (is_root names || is_directory (directory_of (first ∷ others) names)) ≡ false
    → not (is_above o.label (directory_of (first ∷ others) names)) ≡ false → IsPlaced (first ∷ others) o
placed_is first others o [] e root new parent order = absurd (both_ways _ new (ap (λ ns. is_some (cond (same_names ns []) (Some first) (object_with_path others []))) root))
placed_is first others o (n ∷ ns) e root new parent order = by_parent (object_with_path (first ∷ others) (parent_names (n ∷ ns))) refl (not-false _ parent) (not-false _ order)
  where
    by_parent : (p : Option WorldObject) → object_with_path (first ∷ others) (parent_names (n ∷ ns)) ≡ p → is_directory p ≡ true → is_above o.label p ≡ true → IsPlaced (first ∷ others) o
    by_parent None is dir above = absurd (cc)
    by_parent (Some p) is dir above = record {
      new = ap (object_with_path (first ∷ others)) e ∙ none_is _ new;
      parent = p;
      parent_given = ap (λ ns. object_with_path (first ∷ others) (parent_names ns)) e ∙ is;
      parent_dir = dir_body p.body dir;
      order = above;
    }

placed_more : (before others : List WorldObject) (o : WorldObject) → ArePlaced before others → IsPlaced (before ++ others) o → ArePlaced before (others ++ o ∷ [])
placed_more before [] o all placed = (subst (λ os. IsPlaced os o) (append-nil before) placed, tt)
placed_more before (x ∷ xs) o all placed = (all.0, placed_more (before ++ x ∷ []) xs o all.1 (subst (λ os. IsPlaced os o) (sym (append_assoc before (x ∷ []) xs)) placed))

rooted_more : (objects : List WorldObject) (o : WorldObject) → AreRooted objects → is_some (object_with_path objects o.path.names) ≡ false
    → not (is_root o.path.names || is_directory (directory_of objects o.path.names)) ≡ false
    → (is_root o.path.names && not (is_dir (kind_of o.body) && dominates bottom o.label)) ≡ false
    → not (is_above o.label (directory_of objects o.path.names)) ≡ false → AreRooted (objects ++ o ∷ [])
rooted_more [] o rooted new parent root order = (first_is o o.path.names refl parent root, tt)
rooted_more (first ∷ others) o rooted new parent root order = (rooted.0, placed_more (first ∷ []) others o rooted.1 (placed_is first others o o.path.names refl rooted.0.no_names new parent order))

object_sound : (w : PartialWorld) (o : WorldObject) (uniform : Bool) → MakePolicy w.policy → SoundTree w.policy w.builder → IsWorldObject (top_of w.policy) o → SoundParsed (parse_object w o uniform)
unfolding object_fault
object_sound w o uniform h s is =
    first_sound _ _ _ _ (λ new. first_sound _ _ _ _ (λ parent. first_sound _ _ _ _ (λ root. first_sound _ _ _ _ (λ order. first_sound _ _ _ _ (λ fewer. unless_sound (not uniform) _ _ (λ _.
    goes_on (at.Tree (record w { builder = record w.builder { objects = w.builder.objects ++ o ∷ [] } })) (
      h,
      record {
        rooted = rooted_more w.builder.objects o s.rooted new parent root order;
        objects = all_and_one (λ (o : WorldObject). IsWorldObject (top_of w.policy) o) w.builder.objects o s.objects is;
        procs = s.procs;
        objects_room = room_more (λ (o : WorldObject). o.label) w.builder.objects o MAX_OBJECTS s.objects_room fewer;
        procs_room = s.procs_room;
      },
    )))))))

-- a label that a word denotes is below top
label_below : (policy : PolicyNames) (text : List ℕ) (label : Label) → label_of policy text ≡ value.Known label → dominates (top_of policy) label ≡ true
label_below policy text label h = by_form (is_label_text text) (parse_label policy text) (parsed_valid policy text) h
  where
    by_form : (b : Bool) (o : Option Label) → ((l : Label) → o ≡ Some l → dominates (top_of policy) l ≡ true) → cond b (label_value o) value.Malformed ≡ value.Known label → dominates (top_of policy) label ≡ true
    by_form true None below e = absurd (cc)
    by_form true (Some l) below e = let same : l ≡ label = cc in subst (λ (l : Label). dominates (top_of policy) l ≡ true) same (below l refl)
    by_form false o below e = absurd (cc)

-- the fields of a tree line are in their ranges
record IsFormed (policy : PolicyNames) (f : ObjectFields) : Type 0 where
  absolute : f.path.absolute ≡ true
  path : HasForm f.path.absolute f.path.names
  mode : is_mode f.mode ≡ true
  below : (label : Label) → f.label ≡ value.Known label → dominates (top_of policy) label ≡ true

none_there : {X : Type 0} (o : Option X) → is_none o ≡ true → o ≡ None
none_there None h = refl
none_there (Some x) h = absurd (cc)

path_formed : (word : List ℕ) (path : PathValue) → absolute_path word ≡ Some path → (path.absolute ≡ true) × HasForm path.absolute path.names
path_formed word path is = option_and_then_some _ (path_of word) path is (λ p p_is kept.
    let said = cond_some _ _ _ p_is in
    let fine = none_there (path_fault word) said.0 in
    let absolute = cond_some _ _ _ kept in
    subst (λ (p : PathValue). (p.absolute ≡ true) × HasForm p.absolute p.names) absolute.1 (absolute.0, subst (λ (p : PathValue). HasForm p.absolute p.names) said.1 (path_form word fine)))

fields_formed : (policy : PolicyNames) (path mode uid gid label : List ℕ) (f : ObjectFields) → object_fields_of policy path mode uid gid label ≡ Some f → IsFormed policy f
unfolding object_fields_of
fields_formed policy path mode uid gid label f is =
    option_and_then_some _ (absolute_path path) f is (λ a a_is rest. option_and_then_some _ (mode_of mode) f rest (λ m m_is rest.
    option_and_then_some _ (number_of uid) f rest (λ u _ rest. option_and_then_some _ (number_of gid) f rest (λ g _ last.
    let same : record { path = a; mode = m; owner = u; group = g; label = label_of policy label } ≡ f = same_Some _ _ last in
    let formed = path_formed path a a_is in
    subst (λ (f : ObjectFields). IsFormed policy f) same (record { absolute = formed.0; path = formed.1; mode = mode_range mode m m_is; below = label_below policy label })))))

tree_sound : (w : PartialWorld) (form : Option ObjectFields) (caps : WordValue CapState) (b : Body) → MakePolicy w.policy → SoundTree w.policy w.builder
    → ((f : ObjectFields) → form ≡ Some f → IsFormed w.policy f) → length (bytes_of b) ≤ MAX_FILE_BYTES → (b ≡ body.Pipe → ⊥)
    → ((c : CapState) → caps ≡ value.Known c → is_file (kind_of b) ≡ false → c ≡ no_flags) → SoundParsed (parse_tree w form caps b)
tree_sound w form caps b h s formed few no_pipe plain =
    form_sound form _ (λ f f_is. value_sound (both f.label caps) _ (λ x is.
    let known = both_known f.label caps x is in
    object_sound w (object_of f x.0 (caps_by x.1) b) _ h s (record {
      absolute = (formed f f_is).absolute;
      path = (formed f f_is).path;
      mode = (formed f f_is).mode;
      below = (formed f f_is).below x.0 known.0;
      few = few;
      no_pipe = no_pipe;
      only_file = λ no_file. ap caps_by (plain x.1 known.1 no_file) ∙ none_by;
    })))

-- ---- processes

-- the capability sets that a process's text denotes have nothing effective that is not permitted
caps_within : (text : List ℕ) (c : CapState) → proc_caps_of text ≡ value.Known c → is_within c.e c.p ≡ true
caps_within text c is = by_value (caps_of text) is
  where
    by_test : (caps : CapState) (b : Bool) → is_within caps.e caps.p ≡ b → cond b (value.Known caps) value.Malformed ≡ value.Known c → is_within c.e c.p ≡ true
    by_test caps true within e = let same : caps ≡ c = cc in subst (λ (c : CapState). is_within c.e c.p ≡ true) same within
    by_test caps false within e = absurd (cc)

    by_value : (v : WordValue CapState) → proc_caps v ≡ value.Known c → is_within c.e c.p ≡ true
    by_value value.Malformed e = absurd (cc)
    by_value value.UnknownName e = absurd (cc)
    by_value (value.Known caps) e = by_test caps (is_within caps.e caps.p) refl e

process_sound : (w : PartialWorld) (p : WorldProc) → MakePolicy w.policy → SoundTree w.policy w.builder → IsWorldProc (top_of w.policy) p → SoundParsed (parse_process w p)
unfolding process_fault
process_sound w p h s is =
    first_sound (length w.builder.objects == 0) _ _ _ (λ _. first_sound (nat_le MAX_PROCS (procs_at p.label w.builder.procs)) _ _ _ (λ fewer.
    goes_on (at.Tree (record w { builder = record w.builder { procs = w.builder.procs ++ p ∷ [] } })) (
      h,
      record {
        rooted = s.rooted;
        objects = s.objects;
        procs = all_and_one (λ (p : WorldProc). IsWorldProc (top_of w.policy) p) w.builder.procs p s.procs is;
        objects_room = s.objects_room;
        procs_room = room_more (λ (p : WorldProc). p.label) w.builder.procs p MAX_PROCS s.procs_room fewer;
      },
    )))

-- the fields of a process line are in their ranges
record IsProcFormed (policy : PolicyNames) (f : ProcFields) : Type 0 where
  few : length f.groups ≤ MAX_GROUPS
  below : (label : Label) → f.label ≡ value.Known label → dominates (top_of policy) label ≡ true

proc_formed : (policy : PolicyNames) (label uid gid groups : List ℕ) (f : ProcFields) → proc_fields_of policy label uid gid groups ≡ Some f → IsProcFormed policy f
unfolding proc_fields_of
proc_formed policy label uid gid groups f is =
    option_and_then_some _ (number_of uid) f is (λ u _ rest. option_and_then_some _ (number_of gid) f rest (λ g _ rest. option_and_then_some _ (groups_of groups) f rest (λ gs gs_is last.
    let same : record { label = label_of policy label; user = u; group = g; groups = gs } ≡ f = same_Some _ _ last in
    subst (λ (f : ProcFields). IsProcFormed policy f) same (record { few = groups_few groups gs gs_is; below = label_below policy label }))))

proc_sound : (w : PartialWorld) (form : Option ProcFields) (text : List ℕ) → MakePolicy w.policy → SoundTree w.policy w.builder → ((f : ProcFields) → form ≡ Some f → IsProcFormed w.policy f)
    → SoundParsed (parse_proc w form (proc_caps_of text))
proc_sound w form text h s formed =
    form_sound form _ (λ f f_is. value_sound (both f.label (proc_caps_of text)) _ (λ x is.
    let known = both_known f.label (proc_caps_of text) x is in
    process_sound w (record { label = x.0; ids = ids_of f; caps = x.1 }) h s (record {
      ids = record { ruid = refl; suid = refl; rgid = refl; sgid = refl };
      few = (formed f f_is).few;
      below = (formed f f_is).below x.0 known.0;
      within = caps_within text x.1 known.1;
    })))

-- ---- lines

flags_none : (c : CapState) → value.Known no_flags ≡ value.Known c → c ≡ no_flags
flags_none c e = cc

plain_sound : (w : PartialWorld) (b : Body) (names : Names) → MakePolicy w.policy → SoundTree w.policy w.builder → length (bytes_of b) ≤ MAX_FILE_BYTES → (b ≡ body.Pipe → ⊥) → SoundParsed (parse_plain w b names)
plain_sound w b (path ∷ mode ∷ uid ∷ gid ∷ label ∷ []) h s few no_pipe =
    tree_sound w (object_fields_of w.policy path mode uid gid label) (value.Known no_flags) b h s (fields_formed w.policy path mode uid gid label) few no_pipe (λ c is _. flags_none c is)
plain_sound w b _ h s few no_pipe = refuses Syntax

file_sound : (w : PartialWorld) (names : Names) → MakePolicy w.policy → SoundTree w.policy w.builder → NamesFit names → SoundParsed (parse_file w names)
file_sound w (path ∷ mode ∷ uid ∷ gid ∷ label ∷ bytes ∷ []) h s fit =
    tree_sound w (object_fields_of w.policy path mode uid gid label) (value.Known no_flags) (body.File bytes) h s (fields_formed w.policy path mode uid gid label) fit.1.1.1.1.1.0 (λ e. absurd (cc)) (λ c is _. flags_none c is)
file_sound w (path ∷ mode ∷ uid ∷ gid ∷ label ∷ bytes ∷ caps ∷ []) h s fit =
    tree_sound w (object_fields_of w.policy path mode uid gid label) (caps_of caps) (body.File bytes) h s (fields_formed w.policy path mode uid gid label) fit.1.1.1.1.1.0 (λ e. absurd (cc)) (λ c is no_file. absurd (cc))
file_sound w _ h s fit = refuses Syntax

proc_line_sound : (w : PartialWorld) (names : Names) → MakePolicy w.policy → SoundTree w.policy w.builder → SoundParsed (parse_proc_line w names)
proc_line_sound w (label ∷ uid ∷ gid ∷ groups ∷ caps ∷ []) h s = proc_sound w (proc_fields_of w.policy label uid gid groups) caps h s (proc_formed w.policy label uid gid groups)
proc_line_sound w _ h s = refuses Syntax

-- a sound tree with objects makes a world
tree_world : (w : PartialWorld) (objects : List WorldObject) → MakePolicy w.policy → SoundTree w.policy (record w.builder { objects = objects })
    → (length objects == 0) ≡ false → SoundWorld (world_of (record w { builder = record w.builder { objects = objects } }))
tree_world w [] h s some = absurd (cc)
tree_world w (first ∷ others) h s some = record {
  world = record {
    first = first;
    others = others;
    objects_are = refl;
    no_names = s.rooted.0.no_names;
    root_body = s.rooted.0.is_dir;
    root_label = s.rooted.0.lowest;
    others_placed = s.rooted.1;
    objects = s.objects;
    procs = s.procs;
    room = record { objects = s.objects_room; procs = s.procs_room };
  };
  top = refl;
  policy = h;
}

script_sound : (w : PartialWorld) (names : Names) → MakePolicy w.policy → SoundTree w.policy w.builder → SoundParsed (parse_script w names)
script_sound w [] h s = unless_sound _ _ _ (λ some. begins (world_of w) (tree_world w w.builder.objects h s some))
script_sound w _ h s = refuses Syntax

keyword_line_sound : (keyword : Keyword) (w : PartialWorld) (names : Names) → MakePolicy w.policy → SoundTree w.policy w.builder → NamesFit names → SoundParsed (parse_after keyword w names)
keyword_line_sound key.Dir w names h s fit = plain_sound w body.Dir names h s (omega arith) (λ e. absurd (cc))
keyword_line_sound key.File w names h s fit = file_sound w names h s fit
keyword_line_sound key.Fifo w names h s fit = plain_sound w body.Fifo names h s (omega arith) (λ e. absurd (cc))
keyword_line_sound key.Proc w names h s fit = proc_line_sound w names h s
keyword_line_sound key.Script w names h s fit = script_sound w names h s

tree_line_sound : (w : PartialWorld) (ws : List LineWord) → MakePolicy w.policy → SoundTree w.policy w.builder → AllFit ws → SoundParsed (parse_tree_line w ws)
tree_line_sound w [] h s fit = refuses Syntax
tree_line_sound w (first ∷ ws) h s fit = form_sound (keyword_of first) _ (λ keyword _. keyword_line_sound keyword w (bytes_in ws) h s (names_fit ws fit.1))

bound_line_sound : (format : Format) (policy : PolicyNames) (ws : List LineWord) → MakePolicy policy → AllFit ws → SoundParsed (parse_bound_line format policy ws)
bound_line_sound format policy ws h fit = keyword_sound _ ws _ fit (λ names _. bound_sound format policy names h)

grades_sound : (format : Format) (policy : PolicyNames) (names : Option Names) (ws : List LineWord) → MakePolicy policy → AllFit ws → SoundParsed (parse_grades format policy names ws)
grades_sound format policy (Some (name ∷ names)) ws h fit = names_sound format Grades policy (name ∷ names)
grades_sound format policy (Some []) ws h fit = bound_line_sound format policy ws h fit
grades_sound format policy None ws h fit = bound_line_sound format policy ws h fit

words_sound : (expecting : Expecting) (ws : List LineWord) → SoundExpecting expecting → AllFit ws → SoundParsed (parse_words expecting ws)
unfolding parse_words
words_sound (at.Format due) ws h fit = keyword_sound _ ws _ fit (λ names _. format_sound due names)
words_sound (at.Names format list before) ws h fit = keyword_sound _ ws _ fit (λ names _. names_sound format list before names)
words_sound (at.Grades format policy) ws h fit = grades_sound format policy (after_keyword (list_keyword Grades) ws) ws h fit
words_sound (at.Bound format policy) ws h fit = bound_line_sound format policy ws h fit
words_sound (at.Tree w) ws h fit = tree_line_sound w ws h.0 h.1 fit

-- no word of a line that is not too long is longer than a file may be
line_fits : (line : List ℕ) (ws : List LineWord) → length line ≤ MAX_LINE → words_of line ≡ Some ws → AllFit ws
line_fits line ws short is = wider ws (words_fit line ws is)
  where
    wider : (ws : List LineWord) → AllByRecursion (λ (w : LineWord). length w.bytes ≤ length line) ws → AllFit ws
    wider [] fit = tt
    wider (w ∷ ws) fit = let le = fit.0 in (omega arith, wider ws fit.1)

line_sound : (expecting : Expecting) (line : List ℕ) → SoundExpecting expecting → SoundParsed (parse_line expecting line)
unfolding parse_line
line_sound expecting line h =
    unless_sound (nat_lt MAX_LINE (length line)) _ _ (λ short. by_blank (is_blank line) (form_sound (words_of line) _ (λ ws is. words_sound expecting ws h (line_fits line ws (ltb-false _ _ short) is))))
  where
    by_blank : (b : Bool) → SoundParsed (with_form (words_of line) (parse_words expecting)) → SoundParsed (cond b (GoesOn expecting) (with_form (words_of line) (parse_words expecting)))
    by_blank true s = goes_on expecting h
    by_blank false s = s

-- ---- texts

-- what a reading accepts is sound
abbrev SoundReading : Reading → Type 0
SoundReading r = (w : WorldText) (n : ℕ) (script : List (List ℕ)) → r ≡ Accepted w n script → SoundWorld w

after_sound : (parsed : Parsed) (n : ℕ) (rest : List (List ℕ)) (more : Expecting → Reading) → SoundParsed parsed → ((expecting : Expecting) → SoundExpecting expecting → SoundReading (more expecting)) → SoundReading (after parsed n rest more)
after_sound (Refuses fault) n rest more h k = λ w m script e. absurd cc
after_sound (GoesOn expecting) n rest more h k = k expecting (h.expecting_is expecting refl)
after_sound (Begins world) n rest more h k = λ w m script e. let same : world ≡ w = cc in subst (λ w. SoundWorld w) same (h.world_is world refl)

reading_sound : (n : ℕ) (expecting : Expecting) (ls : List (List ℕ)) → SoundExpecting expecting → SoundReading (read_lines n expecting ls)
unfolding read_lines
reading_sound n expecting [] h = λ w m script e. absurd cc
reading_sound n expecting (last ∷ []) h = λ w m script e. absurd cc
reading_sound n expecting (line ∷ next ∷ ls) h =
    after_sound (parse_line expecting line) n (next ∷ ls) _ (line_sound expecting line h) (λ expecting h. reading_sound (n + 1) expecting (next ∷ ls) h)

text_sound : (due : Format) (text : List ℕ) → SoundReading (read_text due text)
text_sound due text = reading_sound 1 (at.Format due) (pieces 10 text) tt

-- an accepted text denotes a world, in each format
pub accepted_world : (due : Format) (text : List ℕ) (w : WorldText) (n : ℕ) (script : List (List ℕ)) → read_text due text ≡ Accepted w n script → IsWorld w.world
accepted_world due text w n script e = (text_sound due text w n script e).world

-- the top of an accepted world is the top of its policy
pub accepted_top : (due : Format) (text : List ℕ) (w : WorldText) (n : ℕ) (script : List (List ℕ)) → read_text due text ≡ Accepted w n script → w.world.top ≡ top_of w.policy
accepted_top due text w n script e = (text_sound due text w n script e).top

-- the names of an accepted world make a policy
pub accepted_policy : (due : Format) (text : List ℕ) (w : WorldText) (n : ℕ) (script : List (List ℕ)) → read_text due text ≡ Accepted w n script → MakePolicy w.policy
accepted_policy due text w n script e = (text_sound due text w n script e).policy

-- an accepted text gives a world whose highest label is that of its policy
pub accepted_text : (due : Format) (text : List ℕ) (w : WorldText) (n : ℕ) (script : List (List ℕ)) → read_text due text ≡ Accepted w n script → IsWorldText w
accepted_text due text w n script e = record { world = accepted_world due text w n script e; top = accepted_top due text w n script e }
