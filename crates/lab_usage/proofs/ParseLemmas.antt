-- What `clap` makes of words that can be arguments.
use Rattle.std.proofs.Common.{◌≡◌, ◌∙◌, refl, sym, ap, ap₂, subst, inl, inr, ℕ, List, [], ◌∷◌, ◌==◌, not, cond, map, Bool, true, false, Option, Some, None}
use Rattle.std.specs.Prelude.{codes, option_map, string_bytes}
use Rattle.std.specs.List.{list_all}
use Rattle.std.specs.declared.string.String.{String}
use Rattle.std.specs.declared.alloc.Global.{Global}
use Rattle.std.proofs.lemmas.Bool.{and_parts}
use Rattle.std.proofs.lemmas.List.Folds.{list_all-map}
use Rattle.clap.specs.Words.{App, HasKind, HasMatchesOf, IsAmong, Kinds, Row, Rule, Shape, Text, built, fault_of, first_of, first_value, found_of, is_simple, is_simple_and_free, kind_of, matches_of, rows_of}
use Rattle.clap.specs.Walk.{Held, Step, Walk, after_step, arg_by_index, idle, nothing_held, to_positional, value, walked, word_met}
use Rattle.clap.specs.Faults.{defaults_fault, step_fault, turn_fault, walk_fault, word_fault}
use Rattle.clap.specs.Kinds.{or_else}
use Rattle.clap.specs.declared.error.Error.{Error}
use Rattle.clap.specs.declared.error.kind.ErrorKind.{ErrorKind}
use Rattle.clap.specs.declared.error.kind.ErrorKind.TheVariants as kind
use Rattle.clap.specs.declared.parser.matches.ArgMatches.{ArgMatches}
use Rattle.clap.specs.declared.parser.matches.ValueSource.TheVariants.{CommandLine}
use Rattle.clap.specs.declared.builder.value_parser.Reading.TheVariants.{AsWritten}
use Rattle.clap.proofs.OnLiterals.{clap_on_literals}
use Rattle.clap.proofs.WalkLemmas.{first_value-rows}
use Rattle.lab_usage.specs.CommandLine.{command_line}
use Rattle.lab_usage.specs.Words.{Given, given_by, given_words, is_argument}

no_dash : (t : Bool) → not t ≡ true → t ≡ false
no_dash true e = cc
no_dash false e = refl

-- ---- any command without subcommands

-- a walk that waits for the positional word p
abbrev waits_for : ℕ → Held → Walk
waits_for p h = record { held = h; waiting = idle; position = p; is_trailing = false; stopped = None }

-- the word is a value
value_met : (c : List Rule) (p : ℕ) (word : Text) (h : Held) → is_argument word ≡ true → word_met c [] false idle p word h ≡ (h, value)
value_met c p [] h e = cc
value_met c p (b ∷ bytes) h e = simp (no_dash (b == 45) e)

-- and no flag, so that none is refused
no_flag_fault : (s : Shape) (word : Text) (h : Held) → is_argument word ≡ true → word_fault s [] false idle word h ≡ []
no_flag_fault s [] h e = cc
no_flag_fault s (b ∷ bytes) h e = simp (no_dash (b == 45) e)

-- so the walk takes it to its positional word
walk_takes : (c : List Rule) (p : ℕ) (word : Text) (h : Held) → is_argument word ≡ true → walked c [] (waits_for p h) word ≡ to_positional c (arg_by_index c p) word (waits_for p h) h
unfolding walked
walk_takes c p word h e = ap (λ (met : Held × Step). after_step c word (waits_for p h) met.0 met.1) (value_met c p word h e)

-- and what fails is what that word does
turn_fails : (s : Shape) (p : ℕ) (word : Text) (h : Held) → is_argument word ≡ true → turn_fault s [] (waits_for p h) word ≡ step_fault s p h value
turn_fails s p word h e = ap₂ (λ (first : Kinds) (met : Held × Step). or_else first (step_fault s p met.0 met.1)) (no_flag_fault s word h e) (value_met s.rules p word h e)

-- ---- the command line

abbrev top : Shape
top = (built command_line).top

abbrev row_of_command : Text → Row
row_of_command command = record { id = codes "COMMAND"; values = command ∷ []; count = None; source = Some CommandLine; reading = AsWritten }

abbrev row_of_argument : Text → Row
row_of_argument argument = record (row_of_command argument) { id = codes "ARGUMENT" }

abbrev with_command : Text → Held
with_command command = record { rows = []; pending = Some (codes "COMMAND", command ∷ []); skip = 0 }

abbrev with_argument : Text → Text → Held
with_argument command argument = record { rows = row_of_command command ∷ []; pending = Some (codes "ARGUMENT", argument ∷ []); skip = 0 }

first_word : (command : Text) → is_argument command ≡ true → walked top.rules [] (waits_for 1 nothing_held) command ≡ waits_for 2 (with_command command)
first_word command e = walk_takes top.rules 1 command nothing_held e

second_word : (command argument : Text) → is_argument argument ≡ true → walked top.rules [] (waits_for 2 (with_command command)) argument ≡ waits_for 3 (with_argument command argument)
second_word command argument e = walk_takes top.rules 2 argument (with_command command) e

-- no word leaves out the command
none_fails : fault_of command_line [] ≡ kind.MissingRequiredArgument ∷ []
unfolding clap_on_literals
none_fails = refl

-- one word is the command
one_passes : (command : Text) → is_argument command ≡ true → fault_of command_line (command ∷ []) ≡ []
unfolding walk_fault defaults_fault
one_passes command e = rw (turn_fails top 1 command nothing_held e, first_word command e) refl

-- two words are the command and its argument
two_pass : (command argument : Text) → is_argument command ≡ true → is_argument argument ≡ true → fault_of command_line (command ∷ argument ∷ []) ≡ []
unfolding walk_fault defaults_fault
two_pass command argument e f =
    rw (turn_fails top 1 command nothing_held e, first_word command e, turn_fails top 2 argument (with_command command) f, second_word command argument f) refl

-- a third word is refused
three_fail : (command argument word : Text) (rest : List Text) → is_argument command ≡ true → is_argument argument ≡ true → is_argument word ≡ true
    → fault_of command_line (command ∷ argument ∷ word ∷ rest) ≡ kind.UnknownArgument ∷ []
unfolding walk_fault defaults_fault
three_fail command argument word rest e f g =
    rw (
      turn_fails top 1 command nothing_held e,
      first_word command e,
      turn_fails top 2 argument (with_command command) f,
      second_word command argument f,
      turn_fails top 3 word (with_argument command argument) g,
    ) refl

one_matches : (command : Text) → is_argument command ≡ true → matches_of command_line (command ∷ []) ≡ row_of_command command ∷ []
one_matches command e = rw (first_word command e) refl

two_match : (command argument : Text) → is_argument command ≡ true → is_argument argument ≡ true
    → matches_of command_line (command ∷ argument ∷ []) ≡ row_of_command command ∷ row_of_argument argument ∷ []
two_match command argument e f = rw (first_word command e, second_word command argument f) refl

-- what the rows of the two words give
abbrev pub given_at : List Row → Option Given
given_at rows = option_map (λ command. record { command = command; argument = first_of (codes "ARGUMENT") rows }) (first_of (codes "COMMAND") rows)

-- words that are refused give nothing
refused_texts : (texts : List Text) (k : ErrorKind) → list_all is_argument texts ≡ true → IsAmong k (fault_of command_line texts) → None ≡ given_by texts
refused_texts [] k all among = refl
refused_texts (command ∷ []) k all among = absurd (subst (IsAmong k) (one_passes command (and_parts _ _ all).0) among)
refused_texts (command ∷ argument ∷ []) k all among =
    let both = and_parts _ _ all in
    absurd (subst (IsAmong k) (two_pass command argument both.0 (and_parts _ _ both.1).0) among)
refused_texts (command ∷ argument ∷ word ∷ rest) k all among = refl

-- words that are accepted give what their rows give
accepted_texts : (texts : List Text) → list_all is_argument texts ≡ true → fault_of command_line texts ≡ [] → given_at (matches_of command_line texts) ≡ given_by texts
accepted_texts [] all passes = absurd (let fails = none_fails in cc)
accepted_texts (command ∷ []) all passes = ap given_at (one_matches command (and_parts _ _ all).0)
accepted_texts (command ∷ argument ∷ []) all passes =
    let both = and_parts _ _ all in
    ap given_at (two_match command argument both.0 (and_parts _ _ both.1).0)
accepted_texts (command ∷ argument ∷ word ∷ rest) all passes =
    let first = and_parts _ _ all in
    let second = and_parts _ _ first.1 in
    let fails = three_fail command argument word rest first.0 second.0 (and_parts _ _ second.1).0 in
    absurd (cc)

-- ---- the words of a program

abbrev texts_of : List (String Global) → List Text
texts_of = map string_bytes

abbrev are_arguments : List (String Global) → Bool
are_arguments = list_all (λ word. is_argument (string_bytes word))

same_test : (words : List (String Global)) → list_all is_argument (texts_of words) ≡ are_arguments words
same_test words = list_all-map is_argument string_bytes words

tested : (words : List (String Global)) (t : Bool) → are_arguments words ≡ t → cond t (given_by (texts_of words)) None ≡ given_words words
tested words t e = ap (λ (b : Bool). cond b (given_by (texts_of words)) None) (sym (same_test words ∙ e))

-- words of which one cannot be an argument give nothing
pub not_given : (words : List (String Global)) → are_arguments words ≡ false → None ≡ given_words words
not_given words e = tested words false e

-- nor do words that `clap` refuses
pub refused : (words : List (String Global)) (app : App) (error : Error) → are_arguments words ≡ true → app ≡ command_line
    → (is_simple_and_free app ≡ true → HasKind (fault_of app (texts_of words)) error) → (kind_of error ≡ kind.OutOfMemory → ⊥)
    → None ≡ given_words words
refused words app error e is fails other =
    elim (fails (ap is_simple_and_free is)) [
      | inl memory ↦ absurd (other memory)
      | inr among ↦
          refused_texts (texts_of words) (kind_of error) (same_test words ∙ e) (subst (λ (a : App). IsAmong (kind_of error) (fault_of a (texts_of words))) is among)
          ∙ tested words true e
    ]

-- words that `clap` accepts give what it found
pub accepted : (words : List (String Global)) (app : App) (m : ArgMatches) → are_arguments words ≡ true → app ≡ command_line
    → (is_simple_and_free app ≡ true → fault_of app (texts_of words) ≡ []) → HasMatchesOf app (texts_of words) m
    → given_at (rows_of (found_of m)) ≡ given_words words
accepted words app m e is passes has =
    let found = (has (ap is_simple is)).0 ∙ ap (λ (a : App). matches_of a (texts_of words)) is in
    let none = sym (ap (λ (a : App). fault_of a (texts_of words)) is) ∙ passes (ap is_simple_and_free is) in
    ap given_at found ∙ accepted_texts (texts_of words) (same_test words ∙ e) none ∙ tested words true e

-- the values of the matches, by their rows
pub found_rows : (m : ArgMatches) → given_at (rows_of (found_of m))
    ≡ option_map (λ command. record { command = command; argument = first_value (found_of m) (codes "ARGUMENT") }) (first_value (found_of m) (codes "COMMAND"))
found_rows m =
    rw (first_value-rows (found_of m) (codes "COMMAND"), first_value-rows (found_of m) (codes "ARGUMENT")) refl
