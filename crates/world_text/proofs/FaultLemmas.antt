-- A line of a world is refused for a fault that a line of a world can have.
use Rattle.std.specs.Prelude.{◌≡◌, ◌==◌, ◌&&◌, ◌||◌, not, nat_le, Bool, true, false, cond, List, [], ◌∷◌, length, Option, None, Some, is_some, codes, refl}
use Rattle.std.proofs.Common.{sym, subst}
use Rattle.std.specs.List.{list_all}
use Rattle.fs_path.specs.declared.words.LineWord.{LineWord}
use Rattle.lab_lattice.specs.Label.{bottom, dominates}
use Rattle.lab_text.specs.Lists.{next_list, keyword_of}
use Rattle.lab_text.specs.Names.{Names, is_label_name}
use Rattle.lab_text.specs.Policy.{PolicyNames, with_names, no_names, names_fault}
use Rattle.lab_text.specs.declared.lists.NameList.{NameList}
use Rattle.lab_text.specs.declared.lists.NameList.TheVariants.{Levels, Grades}
use Rattle.lab_text.specs.declared.policy.PolicyError.{PolicyError}
use Rattle.lab_text.specs.declared.policy.PolicyError.TheVariants as error
use Rattle.cap_bits.specs.declared.state.CapState.{CapState}
use Rattle.kern_model.specs.declared.limits.TheConstants.{MAX_OBJECTS, MAX_PROCS}
use Rattle.kern_model.specs.declared.objects.Body.{Body}
use Rattle.kern_model.specs.declared.objects.Body.TheVariants as body
use Rattle.kern_model.specs.declared.world.WorldObject.{WorldObject}
use Rattle.kern_model.specs.declared.world.WorldProc.{WorldProc}
use Rattle.kern_model.specs.Kinds.{is_dir, kind_of}
use Rattle.kern_model.specs.World.{object_with_path, objects_at, procs_at}
use Rattle.line_text.specs.declared.fault.LineFault.{LineFault}
use Rattle.line_text.specs.declared.fault.LineFault.TheVariants.{OldFormat, Syntax, Repeated, TooMany, MixedCaps}
use Rattle.world_text.specs.declared.expecting.Expecting.{Expecting}
use Rattle.world_text.specs.declared.expecting.Expecting.TheVariants as at
use Rattle.world_text.specs.declared.expecting.PartialWorld.{PartialWorld}
use Rattle.world_text.specs.declared.expecting.Parsed.{Parsed}
use Rattle.world_text.specs.declared.expecting.Parsed.TheVariants.{Refuses, GoesOn, Begins}
use Rattle.world_text.specs.declared.format.Format.{Format}
use Rattle.world_text.specs.declared.format.Format.TheVariants.{One, Two}
use Rattle.world_text.specs.declared.keyword.Keyword.{Keyword}
use Rattle.world_text.specs.declared.keyword.Keyword.TheVariants as key
use Rattle.world_text.specs.declared.processes.ProcFields.{ProcFields}
use Rattle.world_text.specs.declared.tree.ObjectFields.{ObjectFields}
use Rattle.world_text.specs.declared.values.WordValue.{WordValue}
use Rattle.world_text.specs.declared.values.WordValue.TheVariants as value
use Rattle.world_text.specs.declared.world.WorldText.{WorldText}
use Rattle.world_text.specs.Expecting.{HasFaultOfWorld, is_of_world, world_of, after_keyword, parse_bound_line, parse_grades, parse_script, parse_after, parse_tree_line, parse_words}
use Rattle.world_text.specs.Head.{after_format, unless_fault, due_after, parse_format, parse_names, parse_bound}
use Rattle.world_text.specs.Placing.{directory_of, is_above, is_directory, is_root, object_fault, process_fault}
use Rattle.world_text.specs.Processes.{parse_process, parse_proc, parse_proc_line}
use Rattle.world_text.specs.TreeLines.{parse_object, parse_tree, parse_plain, parse_file}
use Rattle.world_text.specs.Values.{unless, refuse_or, with_form, with_value, bytes_in}

-- ---- one step of each definition

refuses : (fault : LineFault) → is_of_world fault ≡ true → HasFaultOfWorld (Refuses fault)
refuses fault is = record { of_world = λ other e. let same : fault ≡ other = cc in subst (λ (f : LineFault). is_of_world f ≡ true) same is }

malformed : HasFaultOfWorld (Refuses Syntax)
malformed = refuses Syntax refl

goes_on : (expecting : Expecting) → HasFaultOfWorld (GoesOn expecting)
goes_on expecting = record { of_world = λ fault e. absurd cc }

begins : (w : WorldText) → HasFaultOfWorld (Begins w)
begins w = record { of_world = λ fault e. absurd cc }

first_has : (b : Bool) (fault : LineFault) (more : Option LineFault) (parsed : Parsed) → is_of_world fault ≡ true → HasFaultOfWorld (refuse_or more parsed)
    → HasFaultOfWorld (refuse_or (cond b (Some fault) more) parsed)
first_has true fault more parsed is rest = refuses fault is
first_has false fault more parsed is rest = rest

form_has : {X : Type 0} (o : Option X) (k : X → Parsed) → ((x : X) → HasFaultOfWorld (k x)) → HasFaultOfWorld (with_form o k)
form_has None k rest = malformed
form_has (Some x) k rest = rest x

value_has : {X : Type 0} (v : WordValue X) (k : X → Parsed) → ((x : X) → HasFaultOfWorld (k x)) → HasFaultOfWorld (with_value v k)
value_has value.Malformed k rest = malformed
value_has value.UnknownName k rest = refuses _ refl
value_has (value.Known x) k rest = rest x

-- ---- head lines

after_format_has : (due format : Format) → HasFaultOfWorld (after_format due format)
after_format_has One One = goes_on (at.Names One Levels no_names)
after_format_has One Two = malformed
after_format_has Two One = refuses OldFormat refl
after_format_has Two Two = goes_on (at.Names Two Levels no_names)

format_has : (due : Format) (names : Names) → HasFaultOfWorld (parse_format due names)
format_has due (w ∷ []) = form_has _ _ (after_format_has due)
format_has due _ = malformed

unless_has : (malformed_names : Bool) (o : Option PolicyError) (parsed : Parsed) → HasFaultOfWorld parsed → HasFaultOfWorld (unless malformed_names Syntax (unless_fault o parsed))
unless_has true o parsed rest = malformed
unless_has false None parsed rest = rest
unless_has false (Some error.TooMany) parsed rest = refuses TooMany refl
unless_has false (Some error.Repeated) parsed rest = refuses Repeated refl
unless_has false (Some error.Empty) parsed rest = malformed
unless_has false (Some error.BadName) parsed rest = malformed
unless_has false (Some (error.NoMemory e)) parsed rest = malformed

names_have : (format : Format) (list : NameList) (before : PolicyNames) (names : Names) → HasFaultOfWorld (parse_names format list before names)
names_have format list before names = unless_has (not (list_all is_label_name names)) (names_fault (with_names before list names)) _ (goes_on (due_after format (with_names before list names) (next_list list)))

bound_has : (format : Format) (policy : PolicyNames) (names : Names) → HasFaultOfWorld (parse_bound format policy names)
bound_has format policy (w ∷ []) = value_has _ _ (λ bound. goes_on _)
bound_has format policy _ = malformed

-- ---- the tree

mixed_has : (mixed : Bool) (expecting : Expecting) → HasFaultOfWorld (unless mixed MixedCaps (GoesOn expecting))
mixed_has true expecting = refuses MixedCaps refl
mixed_has false expecting = goes_on expecting

object_has : (w : PartialWorld) (o : WorldObject) (uniform : Bool) → HasFaultOfWorld (parse_object w o uniform)
unfolding object_fault
object_has w o uniform =
    first_has (is_some (object_with_path w.builder.objects o.path.names)) _ _ _ refl
    (first_has (not (is_root o.path.names || is_directory (directory_of w.builder.objects o.path.names))) _ _ _ refl
    (first_has (is_root o.path.names && not (is_dir (kind_of o.body) && dominates bottom o.label)) _ _ _ refl
    (first_has (not (is_above o.label (directory_of w.builder.objects o.path.names))) _ _ _ refl
    (first_has (nat_le MAX_OBJECTS (objects_at o.label w.builder.objects)) _ None _ refl (mixed_has (not uniform) _)))))

process_has : (w : PartialWorld) (p : WorldProc) → HasFaultOfWorld (parse_process w p)
unfolding process_fault
process_has w p =
    first_has (length w.builder.objects == 0) _ _ _ refl (first_has (nat_le MAX_PROCS (procs_at p.label w.builder.procs)) _ None _ refl (goes_on _))

tree_has : (w : PartialWorld) (form : Option ObjectFields) (caps : WordValue CapState) (b : Body) → HasFaultOfWorld (parse_tree w form caps b)
tree_has w form caps b = form_has form _ (λ f. value_has _ _ (λ x. object_has w _ _))

proc_has : (w : PartialWorld) (form : Option ProcFields) (caps : WordValue CapState) → HasFaultOfWorld (parse_proc w form caps)
proc_has w form caps = form_has form _ (λ f. value_has _ _ (λ x. process_has w _))

plain_has : (w : PartialWorld) (b : Body) (names : Names) → HasFaultOfWorld (parse_plain w b names)
plain_has w b (path ∷ mode ∷ uid ∷ gid ∷ label ∷ []) = tree_has w _ _ b
plain_has w b _ = malformed

file_has : (w : PartialWorld) (names : Names) → HasFaultOfWorld (parse_file w names)
file_has w (path ∷ mode ∷ uid ∷ gid ∷ label ∷ bytes ∷ []) = tree_has w _ _ _
file_has w (path ∷ mode ∷ uid ∷ gid ∷ label ∷ bytes ∷ caps ∷ []) = tree_has w _ _ _
file_has w _ = malformed

proc_line_has : (w : PartialWorld) (names : Names) → HasFaultOfWorld (parse_proc_line w names)
proc_line_has w (label ∷ uid ∷ gid ∷ groups ∷ caps ∷ []) = proc_has w _ _
proc_line_has w _ = malformed

script_has : (w : PartialWorld) (names : Names) → HasFaultOfWorld (parse_script w names)
script_has w [] = by_root (length w.builder.objects == 0)
  where
    by_root : (b : Bool) → HasFaultOfWorld (unless b Syntax (Begins (world_of w)))
    by_root true = malformed
    by_root false = begins (world_of w)
script_has w _ = malformed

-- ---- lines

keyword_has : (keyword : Keyword) (w : PartialWorld) (names : Names) → HasFaultOfWorld (parse_after keyword w names)
keyword_has key.Dir w names = plain_has w body.Dir names
keyword_has key.File w names = file_has w names
keyword_has key.Fifo w names = plain_has w body.Fifo names
keyword_has key.Proc w names = proc_line_has w names
keyword_has key.Script w names = script_has w names

tree_line_has : (w : PartialWorld) (ws : List LineWord) → HasFaultOfWorld (parse_tree_line w ws)
tree_line_has w [] = malformed
tree_line_has w (first ∷ ws) = form_has _ _ (λ keyword. keyword_has keyword w (bytes_in ws))

bound_line_has : (format : Format) (policy : PolicyNames) (ws : List LineWord) → HasFaultOfWorld (parse_bound_line format policy ws)
bound_line_has format policy ws = form_has (after_keyword (codes "bound") ws) _ (bound_has format policy)

grades_have : (format : Format) (policy : PolicyNames) (names : Option Names) (ws : List LineWord) → HasFaultOfWorld (parse_grades format policy names ws)
grades_have format policy (Some (name ∷ names)) ws = names_have format Grades policy (name ∷ names)
grades_have format policy (Some []) ws = bound_line_has format policy ws
grades_have format policy None ws = bound_line_has format policy ws

words_have : (expecting : Expecting) (ws : List LineWord) → HasFaultOfWorld (parse_words expecting ws)
unfolding parse_words
words_have (at.Format due) ws = form_has (after_keyword (codes "world") ws) _ (format_has due)
words_have (at.Names format list names) ws = form_has (after_keyword (keyword_of list) ws) _ (names_have format list names)
words_have (at.Grades format policy) ws = grades_have format policy (after_keyword (keyword_of Grades) ws) ws
words_have (at.Bound format policy) ws = bound_line_has format policy ws
words_have (at.Tree w) ws = tree_line_has w ws

-- what the words of a line say has such a fault
pub words_said : (expecting : Expecting) (ws : List LineWord) (parsed : Parsed) → parsed ≡ parse_words expecting ws → HasFaultOfWorld parsed
words_said expecting ws parsed is = subst (λ (s : Parsed). HasFaultOfWorld s) (sym is) (words_have expecting ws)
