-- Each generated line is read as one call.
use Rattle.std.proofs.Common.{◌≡◌, ℕ, ◌≤◌, ◌<◌, ◌&&◌, Bool, true, false, cond, List, [], ◌∷◌, ◌++◌, length, map, codes, get_or, refl, sym, ◌∙◌, ap, arith, append_assoc, Option, Some, Ok, Err}
use Rattle.std.specs.Prelude.{nat_lt}
use Rattle.std.specs.Fmt.{decimal, digits}
use Rattle.std.specs.List.{list_all, range_with_len}
use Rattle.std.specs.Result.{is_ok}
use Rattle.std.proofs.lemmas.Bool.{and_from, and_parts, both_ways, cond-false, le-ltb, true_from_ne_false}
use Rattle.std.proofs.lemmas.List.{append-nil}
use Rattle.std.proofs.lemmas.List.Folds.{list_all_at}
use Rattle.std.proofs.lemmas.List.FromFn.{get_or-range_with_len, length-range_with_len}
use Rattle.fs_path.specs.declared.words.LineWord.{LineWord}
use Rattle.fs_path.specs.PathText.{components_of, component_fault, path_fault}
use Rattle.fs_path.specs.Split.{split_once}
use Rattle.fs_path.specs.Values.{digits_value, numeral}
use Rattle.fs_path.specs.Words.{has_spelling, is_bare_text, is_blank, line_text, quoted_text, spelling, words_of}
use Rattle.fs_path.proofs.RoundTrip.{decimal_bare, line_round_trip, number_round_trip}
use Rattle.gen_world.specs.declared.call.Action.{Action}
use Rattle.gen_world.specs.declared.call.Action.TheVariants as action
use Rattle.gen_world.specs.Calls.{call_line, call_of}
use Rattle.gen_world.specs.Calls as generated
use Rattle.kern_model.specs.declared.calls.Call.{Call}
use Rattle.kern_model.specs.declared.calls.Call.TheVariants as call
use Rattle.kern_model.specs.declared.calls.CallName.{CallName}
use Rattle.kern_model.specs.declared.calls.CallName.TheVariants as name
use Rattle.fs_path.specs.declared.words.TheConstants.{MAX_LINE}
use Rattle.kern_model.specs.declared.limits.TheConstants.{MAX_FILE_BYTES}
use Rattle.kern_model.specs.declared.numbers.Pid.{Pid}
use Rattle.kern_model.specs.Named.{call_named}
use Rattle.kern_model.specs.Names.{word_of}
use Rattle.kern_model.proofs.NamedLaws.{call_round_trip}
use Rattle.lab_text.specs.Policy.{PolicyNames}
use Rattle.lab_text.specs.Text.{label_words, parse_label}
use Rattle.script_text.specs.declared.line.Line.TheVariants as line
use Rattle.script_text.specs.declared.fault.LineError.TheVariants as error
use Rattle.script_text.specs.Argument as argument
use Rattle.script_text.specs.Calls.{one_parsed, parse_call, three_parsed, two, two_parsed, three}
use Rattle.script_text.specs.Line.{bytes_in, item_by, parse_item, parse_line, parse_words}
use Rattle.script_text.specs.Reading.{Reading, both, map_reading}
use Rattle.sec_utils.specs.Tools.{tool_named}
use Rattle.world_text.specs.Written.{bare, quoted_form}

-- the names of the generated world
abbrev pub policy : PolicyNames
policy = record { levels = codes "l0" ∷ codes "l1" ∷ codes "l2" ∷ codes "l3" ∷ []; cats = codes "c0" ∷ codes "c1" ∷ []; grades = [] }

-- ---- words and their values

-- a test that a list of the numbers below a limit passes is passed by each of them
below : (test : ℕ → Bool) (n : ℕ) → list_all test (range_with_len 0 n) ≡ true → (i : ℕ) → i < n → test i ≡ true
below test n all i small =
    let within : i < length (range_with_len 0 n) = omega (arith, small, length-range_with_len 0 n) in
    let own : get_or (range_with_len 0 n) i 0 ≡ i = omega (arith, get_or-range_with_len 0 n i 0 small) in
    true_from_ne_false (test i) (λ no. both_ways (list_all test (range_with_len 0 n)) (list_all_at test (range_with_len 0 n) i 0 within (ap test own ∙ no)) all)

-- a word is bare, and this is what is read of it
record HasValue {X : Type 0} (word : List ℕ) (read : Reading X) : Type 0 where
  is_bare : is_bare_text word ≡ true
  value : X
  is : read ≡ Ok value

has_value : {X : Type 0} (word : List ℕ) (read : Reading X) → (is_bare_text word && is_ok read) ≡ true → HasValue word read
has_value word (Ok x) e = record { is_bare = (and_parts (is_bare_text word) true e).0; value = x; is = refl }
has_value word (Err f) e = absurd (both_ways false refl (and_parts (is_bare_text word) false e).1)

-- the tag of the first process of a level
abbrev tag_of : ℕ → List ℕ
tag_of level = codes "1@l" ++ decimal level

-- each tag, directory and file is fine: a bare word that has a value
tag_fine : (level : ℕ) → level < 4 → (is_bare_text (tag_of level) && is_ok (argument.tag policy (tag_of level))) ≡ true
unfolding argument.tag split_once numeral digits_value parse_label label_words digits
tag_fine = below (λ level. is_bare_text (tag_of level) && is_ok (argument.tag policy (tag_of level))) 4 refl

abbrev directory : ℕ → List ℕ
directory d = codes "/d" ++ decimal d

directory_fine : (d : ℕ) → d < 4 → (is_bare_text (directory d) && is_ok (argument.path (directory d))) ≡ true
unfolding argument.path path_fault component_fault components_of digits
directory_fine = below (λ d. is_bare_text (directory d) && is_ok (argument.path (directory d))) 4 refl

abbrev file : ℕ → ℕ → List ℕ
file d f = directory d ++ codes "/f" ++ decimal f

abbrev file_test : ℕ → ℕ → Bool
file_test d f = is_bare_text (file d f) && is_ok (argument.path (file d f))

files_fine : (d : ℕ) → d < 4 → list_all (file_test d) (range_with_len 0 16) ≡ true
unfolding argument.path path_fault component_fault components_of digits
files_fine = below (λ d. list_all (file_test d) (range_with_len 0 16)) 4 refl

tag_value : (level : ℕ) → level < 4 → HasValue (tag_of level) (argument.tag policy (tag_of level))
tag_value level small = has_value (tag_of level) (argument.tag policy (tag_of level)) (tag_fine level small)

directory_value : (d : ℕ) → d < 4 → HasValue (directory d) (argument.path (directory d))
directory_value d small = has_value (directory d) (argument.path (directory d)) (directory_fine d small)

file_value : (d f : ℕ) → d < 4 → f < 16 → HasValue (file d f) (argument.path (file d f))
file_value d f small few = has_value (file d f) (argument.path (file d f)) (below (file_test d) 16 (files_fine d small) f few)

number_value : (f : ℕ) → f < 16 → HasValue (decimal f) (argument.number (decimal f))
unfolding argument.number
number_value f small = record { is_bare = decimal_bare f (omega arith); value = f; is = ap (λ (o : Option ℕ). argument.value_or_syntax o) (number_round_trip f (omega arith)) }

-- ---- a line by its words

-- a text is read as one call
pub record IsCall (text : List ℕ) : Type 0 where
  pub who : Pid
  pub call : Call
  pub read : parse_line policy text ≡ Ok (line.One who call)

-- the text of a tag, the word of a call and its arguments
abbrev text_of : List ℕ → List ℕ → List LineWord → List ℕ
text_of tag word arguments = line_text (map spelling (bare tag ∷ bare word ∷ arguments))

-- these words are read as the call that they name
by_words : (tag word : List ℕ) (arguments : List LineWord) (n : CallName) (who : Pid) (c : Call) → call_named word ≡ Some n → argument.tag policy tag ≡ Ok who → parse_call policy n (bytes_in arguments) ≡ Ok c
    → parse_item policy (bare tag ∷ bare word ∷ arguments) ≡ Ok (line.One who c)
unfolding parse_item map_reading both
by_words tag word arguments n who c named tagged called =
    ap (λ (o : Option CallName). item_by policy tag (bytes_in arguments) o (tool_named word)) named
    ∙ (λ i. map_reading (λ (item : Pid × Call). line.One item.0 item.1) (both (tagged i) (called i)))

-- such a text is not blank
no_blank : (level word : List ℕ) (arguments : List LineWord) → is_blank (text_of (codes "1@l" ++ level) word arguments) ≡ false
unfolding is_blank
no_blank level word arguments = refl

-- such a text, where it is short, is read as the call
call_read : (level : ℕ) (n : CallName) (arguments : List LineWord) (c : Call) (text : List ℕ) → text ≡ text_of (tag_of level) (word_of n) arguments → level < 4 → is_bare_text (word_of n) ≡ true
    → list_all has_spelling arguments ≡ true → parse_call policy n (bytes_in arguments) ≡ Ok c → length text ≤ MAX_LINE → IsCall text
unfolding parse_line
call_read level n arguments c text is small spelled rest called short =
    let tag = tag_value level small in
    let words = bare (tag_of level) ∷ bare (word_of n) ∷ arguments in
    record {
      who = tag.value;
      call = c;
      read =
          cond-false (nat_lt MAX_LINE (length text)) (Err error.TooLong) (cond (is_blank text) (Ok line.Blank) (parse_words policy (words_of text))) (le-ltb MAX_LINE (length text) short)
          ∙ cond-false (is_blank text) (Ok line.Blank) (parse_words policy (words_of text)) (ap is_blank is ∙ no_blank (decimal level) (word_of n) arguments)
          ∙ ap (λ t. parse_words policy (words_of t)) is
          ∙ ap (parse_words policy) (line_round_trip words (and_from _ _ tag.is_bare (and_from _ _ spelled rest)))
          ∙ by_words (tag_of level) (word_of n) arguments n tag.value c (call_round_trip n) tag.is called;
    }

-- ---- arguments of calls

-- a call of arguments that are read is read
one_read : {A : Type 0} (make : A → Call) (a : Reading A) (x : A) → a ≡ Ok x → map_reading make a ≡ Ok (make x)
unfolding map_reading
one_read make a x e = ap (map_reading make) e

two_read : {A B : Type 0} (make : A → B → Call) (a : Reading A) (b : Reading B) (x : A) (y : B) → a ≡ Ok x → b ≡ Ok y → two make a b ≡ Ok (make x y)
unfolding map_reading both
two_read make a b x y e f = λ i. two make (e i) (f i)

three_read : {A B C : Type 0} (make : A → B → C → Call) (a : Reading A) (b : Reading B) (c : Reading C) (x : A) (y : B) (z : C) → a ≡ Ok x → b ≡ Ok y → c ≡ Ok z → three make a b c ≡ Ok (make x y z)
unfolding map_reading both
three_read make a b c x y z e f g = λ i. three make (e i) (f i) (g i)

-- the arguments that are the same in each line
mkdir_mode : argument.mode (codes "0755") ≡ Ok 493
unfolding argument.mode numeral digits_value
mkdir_mode = refl

open_mode : argument.mode (codes "0644") ≡ Ok 420
unfolding argument.mode numeral digits_value
open_mode = refl

open_flags : is_ok (argument.flags true (codes "rwc")) ≡ true
unfolding argument.flags
open_flags = refl

read_length : argument.up_to MAX_FILE_BYTES (codes "8") ≡ Ok 8
unfolding argument.up_to numeral digits_value
read_length = refl

write_bytes : argument.bytes (codes "x") ≡ Ok (codes "x")
unfolding argument.bytes
write_bytes = refl

-- ---- the calls by their actions

module _ (number : ℕ) where
  -- the parts of the call
  abbrev level : ℕ
  level = (call_of number).level

  abbrev here : ℕ
  here = (call_of number).directory

  abbrev its_file : ℕ
  its_file = (call_of number).file

  -- the words after the tag, with this action
  abbrev words_for : Action → List ℕ
  words_for a = generated.words_of a (call_of number)

  -- the line of the call, with this action
  abbrev line_for : Action → List ℕ
  line_for a = tag_of level ++ codes " " ++ words_for a

  after_tag : (words : List ℕ) → tag_of level ++ codes " " ++ words ≡ tag_of level ++ (codes " " ++ words)
  after_tag words = append_assoc (tag_of level) (codes " ") words

  -- a word at the end of the line
  at_end : (start word : List ℕ) → tag_of level ++ codes " " ++ (start ++ word) ≡ tag_of level ++ (codes " " ++ (start ++ (word ++ [])))
  at_end start word = after_tag (start ++ word) ∙ ap (λ t. tag_of level ++ (codes " " ++ (start ++ t))) (sym (append-nil word))

  of_level : level < 4
  of_level = omega arith

  at_path : HasValue (file here its_file) (argument.path (file here its_file))
  at_path = file_value here its_file (omega arith) (omega arith)

  at_directory : HasValue (directory here) (argument.path (directory here))
  at_directory = directory_value here (omega arith)

  at_number : HasValue (decimal its_file) (argument.number (decimal its_file))
  at_number = number_value its_file (omega arith)

  flags_value : HasValue (codes "rwc") (argument.flags true (codes "rwc"))
  flags_value = has_value (codes "rwc") (argument.flags true (codes "rwc")) (ap (λ v. true && v) open_flags)

  -- the line with each action, where it is short, is read as a call
  mkdir : length (line_for action.Mkdir) ≤ MAX_LINE → IsCall (line_for action.Mkdir)
  unfolding two_parsed
  mkdir short = call_read level name.Mkdir (bare (file here its_file) ∷ bare (codes "0755") ∷ []) (call.Mkdir at_path.value 493) (line_for action.Mkdir) (after_tag (words_for action.Mkdir)) of_level refl (and_from _ _ at_path.is_bare refl)
      (two_read call.Mkdir _ _ at_path.value 493 at_path.is mkdir_mode) short

  open_file : length (line_for action.Open) ≤ MAX_LINE → IsCall (line_for action.Open)
  unfolding three_parsed
  open_file short = call_read level name.OpenPath (bare (file here its_file) ∷ bare (codes "rwc") ∷ bare (codes "0644") ∷ []) (call.OpenPath at_path.value flags_value.value (Some 420)) (line_for action.Open) (after_tag (words_for action.Open)) of_level refl
      (and_from _ _ at_path.is_bare refl) (three_read (λ path flags mode. call.OpenPath path flags (Some mode)) _ _ _ at_path.value flags_value.value 420 at_path.is flags_value.is open_mode) short

  close : length (line_for action.Close) ≤ MAX_LINE → IsCall (line_for action.Close)
  unfolding one_parsed
  close short = call_read level name.Close (bare (decimal its_file) ∷ []) (call.Close at_number.value) (line_for action.Close) (at_end (codes "close ") (decimal its_file)) of_level refl (and_from _ _ at_number.is_bare refl)
      (one_read call.Close _ at_number.value at_number.is) short

  write : length (line_for action.Write) ≤ MAX_LINE → IsCall (line_for action.Write)
  unfolding two_parsed quoted_text
  write short = call_read level name.Write (bare (decimal its_file) ∷ quoted_form (codes "x") ∷ []) (call.Write at_number.value (codes "x")) (line_for action.Write) (after_tag (words_for action.Write)) of_level refl (and_from _ _ at_number.is_bare refl)
      (two_read call.Write _ _ at_number.value (codes "x") at_number.is write_bytes) short

  read_file : length (line_for action.Read) ≤ MAX_LINE → IsCall (line_for action.Read)
  unfolding two_parsed
  read_file short = call_read level name.Read (bare (decimal its_file) ∷ bare (codes "8") ∷ []) (call.Read at_number.value 8) (line_for action.Read) (after_tag (words_for action.Read)) of_level refl (and_from _ _ at_number.is_bare refl)
      (two_read call.Read _ _ at_number.value 8 at_number.is read_length) short

  stat : length (line_for action.Stat) ≤ MAX_LINE → IsCall (line_for action.Stat)
  unfolding one_parsed
  stat short = call_read level name.Stat (bare (file here its_file) ∷ []) (call.Stat at_path.value) (line_for action.Stat) (at_end (codes "stat ") (file here its_file)) of_level refl (and_from _ _ at_path.is_bare refl)
      (one_read call.Stat _ at_path.value at_path.is) short

  unlink : length (line_for action.Unlink) ≤ MAX_LINE → IsCall (line_for action.Unlink)
  unfolding one_parsed
  unlink short = call_read level name.Unlink (bare (file here its_file) ∷ []) (call.Unlink at_path.value) (line_for action.Unlink) (at_end (codes "unlink ") (file here its_file)) of_level refl (and_from _ _ at_path.is_bare refl)
      (one_read call.Unlink _ at_path.value at_path.is) short

  readdir : length (line_for action.Readdir) ≤ MAX_LINE → IsCall (line_for action.Readdir)
  unfolding one_parsed
  readdir short = call_read level name.Readdir (bare (directory here) ∷ []) (call.Readdir at_directory.value) (line_for action.Readdir) (at_end (codes "readdir ") (directory here)) of_level refl (and_from _ _ at_directory.is_bare refl)
      (one_read call.Readdir _ at_directory.value at_directory.is) short

  by_action : (a : Action) → length (line_for a) ≤ MAX_LINE → IsCall (line_for a)
  by_action action.Mkdir short = mkdir short
  by_action action.Open short = open_file short
  by_action action.Close short = close short
  by_action action.Write short = write short
  by_action action.Read short = read_file short
  by_action action.Stat short = stat short
  by_action action.Unlink short = unlink short
  by_action action.Readdir short = readdir short

  -- a generated line is read as one call
  pub is_call : length (call_line (call_of number)) ≤ 32 → IsCall (call_line (call_of number))
  is_call short = by_action (call_of number).action (omega arith)
