-- A line of programs that was parsed may be played, and one that begins with `do` is judged as a line of a script.
use Rattle.std.specs.Prelude.{◌≡◌, ℕ, ◌==◌, ◌&&◌, ◌||◌, not, nat_lt, Bool, true, false, cond, List, [], ◌∷◌, ◌++◌, length, codes, Option, None, Some, Ok, Err, refl, is_none, is_some}
use Rattle.std.proofs.Common.{sym, ◌∙◌, ap, subst}
use Rattle.std.specs.List.{list_all}
use Rattle.std.specs.Option.{ok_or, option_and_then, option_map}
use Rattle.std.proofs.lemmas.Bool.{and_parts, and_from, cond_both, cond-false}
use Rattle.fs_path.proofs.FormLemmas.{spelling_read, trim_none}
use Rattle.fs_path.proofs.WordSteps.{words_are, words_first}
use Rattle.fs_path.specs.LineForm.{Bare}
use Rattle.fs_path.specs.Words.{is_apart, is_bare, is_bare_text, is_blank, is_plain, is_space, trim_spaces, words_by, words_of}
use Rattle.fs_path.specs.declared.words.LineWord.{LineWord}
use Rattle.fs_path.specs.declared.words.TheConstants.{MAX_LINE}
use Rattle.kern_model.specs.Arguments.{has_names, is_call}
use Rattle.kern_model.specs.Named.{call_named, find_named}
use Rattle.kern_model.specs.declared.calls.Call.{Call}
use Rattle.kern_model.specs.declared.calls.CallName.{CallName}
use Rattle.kern_model.specs.declared.numbers.Pid.{Pid}
use Rattle.lab_lattice.specs.Label.{Label, dominates}
use Rattle.lab_text.specs.Policy.{PolicyNames, top_of}
use Rattle.lab_text.proofs.Parsed.{parsed_valid}
use Rattle.lab_text.specs.Text.{parse_label}
use Rattle.sec_utils.specs.Tools.{tool_named}
use Rattle.sec_utils.specs.declared.util.Tool.{Tool}
use Rattle.script_text.specs.Argument.{process_of_tag, tag as a_tag}
use Rattle.script_text.specs.Calls.{parse_call}
use Rattle.script_text.specs.Line.{bytes_in, item_by, parse_item, parse_words}
use Rattle.script_text.specs.Reading.{Reading, both, map_reading}
use Rattle.script_text.specs.Step.{DoLine, MayBeMade, StepMayBePlayed, begins_with_tool, call_by, jump_by, labels as some_labels, labels_of, line_by, parse_do, parse_jump, parse_program, parse_rounds, parse_slices, parse_step, parse_step_words, parse_stop, step_by, step_of_line, step_of_words}
use Rattle.script_text.specs.declared.fault.LineError.TheVariants as error
use Rattle.script_text.specs.declared.line.Line.TheVariants as line_is
use Rattle.script_text.specs.declared.step.ProgStep.{ProgStep}
use Rattle.script_text.specs.declared.step.ProgStep.TheVariants as step
use Rattle.script_text.specs.declared.step.StepLine.{StepLine}
use Rattle.script_text.specs.declared.step.StepLine.TheVariants as line
use Rattle.script_text.specs.declared.step.When.{When}
use Rattle.script_text.specs.declared.step_word.StepKeyword.{StepKeyword}
use Rattle.script_text.specs.declared.step_word.StepKeyword.TheVariants as keyword
use Rattle.script_text.specs.StepWords.{keyword_named, number_condition, plain_condition}
use Rattle.script_text.proofs.LineLaws.{call_fine, from_made, tag_fine, there}

-- ---- what may be played

module _ (policy : PolicyNames) where
  labels_fine : (ws : List (List ℕ)) (ls : List Label) → labels_of policy ws ≡ Some ls → list_all (dominates (top_of policy)) ls ≡ true
  labels_fine [] ls h = let is : [] ≡ ls = cc in ap (list_all (dominates (top_of policy))) (sym is)
  labels_fine (w ∷ ws) ls h = by_first (parse_label policy w) (labels_of policy ws) (parsed_valid policy w) (labels_fine ws) h
    where
      by_first : (o : Option Label) (more : Option (List Label)) → ((x : Label) → o ≡ Some x → dominates (top_of policy) x ≡ true) → ((xs : List Label) → more ≡ Some xs → list_all (dominates (top_of policy)) xs ≡ true)
          → option_and_then (λ at. option_map (λ others. at ∷ others) more) o ≡ Some ls → list_all (dominates (top_of policy)) ls ≡ true
      by_first None more below rest h = absurd (cc)
      by_first (Some x) None below rest h = absurd (cc)
      by_first (Some x) (Some xs) below rest h = let is : x ∷ xs ≡ ls = cc in ap (list_all (dominates (top_of policy))) (sym is) ∙ and_from _ _ (below x refl) (rest xs refl)

  -- all that a reading may give may be played
  abbrev IsFine : Reading StepLine → Type 0
  IsFine r = (l : StepLine) → r ≡ Ok l → StepMayBePlayed (top_of policy) l

  abbrev IsFineStep : Reading ProgStep → Type 0
  IsFineStep r = (s : ProgStep) → r ≡ Ok s → MayBeMade (top_of policy) s

  abbrev IsFineCall : Reading Call → Type 0
  IsFineCall r = (c : Call) → r ≡ Ok c → (is_call (top_of policy) c ≡ true) × (has_names c ≡ true)

  slices_fine : (ws : List (List ℕ)) → IsFine (parse_slices policy ws)
  unfolding parse_slices some_labels
  slices_fine [] l h = absurd (cc)
  slices_fine (w ∷ ws) l h = from_made (StepMayBePlayed (top_of policy)) line.Slices _ l h (λ ls e. labels_fine (w ∷ ws) ls (there (labels_of policy (w ∷ ws)) _ ls e))

  rounds_fine : (ws : List (List ℕ)) → IsFine (parse_rounds ws)
  unfolding parse_rounds
  rounds_fine [] l h = absurd (cc)
  rounds_fine (n ∷ []) l h = from_made (StepMayBePlayed (top_of policy)) line.Rounds _ l h (λ n e. tt)
  rounds_fine (n ∷ m ∷ ws) l h = absurd (cc)

  program_fine : (ws : List LineWord) → IsFine (parse_program policy ws)
  unfolding parse_program
  program_fine [] l h = absurd (cc)
  program_fine (tag ∷ []) l h = cond_both tag.quoted (Err error.Syntax) _ IsFine (λ _ l h. absurd (cc)) (λ _ l h. from_made (StepMayBePlayed (top_of policy)) line.Program _ l h (tag_fine policy tag.bytes)) l h
  program_fine (tag ∷ w ∷ ws) l h = absurd (cc)

  do_fine : (ws : List LineWord) → IsFineCall (parse_do policy ws)
  unfolding parse_do
  do_fine [] c h = absurd (cc)
  do_fine (name ∷ ws) c h = cond_both name.quoted (Err error.Syntax) _ IsFineCall (λ _ c h. absurd (cc)) (λ _. by_name (call_named name.bytes)) c h
    where
      by_name : (o : Option CallName) → IsFineCall (call_by policy (bytes_in ws) o)
      by_name None c h = absurd (cc)
      by_name (Some n) c h = call_fine policy n (bytes_in ws) c h

  jump_by_fine : (when : Reading When) (to : List ℕ) → IsFineStep (jump_by when to)
  jump_by_fine when to s h = from_made (MayBeMade (top_of policy)) (λ args. step.Jump args.0 args.1) _ s h (λ args e. tt)

  jump_fine : (ws : List (List ℕ)) → IsFineStep (parse_jump ws)
  unfolding parse_jump
  jump_fine [] s h = absurd (cc)
  jump_fine (w ∷ []) s h = absurd (cc)
  jump_fine (w ∷ to ∷ []) s h = jump_by_fine (plain_condition w) to s h
  jump_fine (w ∷ n ∷ to ∷ []) s h = jump_by_fine (number_condition w n) to s h
  jump_fine (w ∷ n ∷ to ∷ v ∷ ws) s h = absurd (cc)

  stop_fine : (ws : List LineWord) → IsFineStep (parse_stop ws)
  unfolding parse_stop
  stop_fine [] s h = let is : step.Stop ≡ s = cc in subst (MayBeMade (top_of policy)) is tt
  stop_fine (w ∷ ws) s h = absurd (cc)

  step_fine : (k : StepKeyword) (ws : List LineWord) → IsFineStep (step_by policy k ws)
  unfolding step_by
  step_fine keyword.Do ws s h = from_made (MayBeMade (top_of policy)) step.Do _ s h (do_fine ws)
  step_fine keyword.Jump ws s h = jump_fine (bytes_in ws) s h
  step_fine keyword.Stop ws s h = stop_fine ws s h
  step_fine _ ws s h = absurd (cc)

  line_fine : (o : Option StepKeyword) (ws : List LineWord) → IsFine (line_by policy o ws)
  unfolding line_by
  line_fine None ws l h = absurd (cc)
  line_fine (Some keyword.Slices) ws l h = slices_fine (bytes_in ws) l h
  line_fine (Some keyword.Rounds) ws l h = rounds_fine (bytes_in ws) l h
  line_fine (Some keyword.Program) ws l h = program_fine ws l h
  line_fine (Some k) ws l h = from_made (StepMayBePlayed (top_of policy)) line.One _ l h (step_fine k ws)

  words_fine : (ws : List LineWord) → IsFine (step_of_words policy ws)
  unfolding step_of_words
  words_fine [] l h = absurd (cc)
  words_fine (w ∷ ws) l h = cond_both w.quoted (Err error.Syntax) _ IsFine (λ _ l h. absurd (cc)) (λ _. line_fine (keyword_named w.bytes) ws) l h

  -- a line that was parsed may be played
  pub step_played : (text : List ℕ) → IsFine (parse_step policy text)
  unfolding parse_step
  step_played text =
      cond_both (nat_lt MAX_LINE (length text)) (Err error.TooLong) _ IsFine (λ _ l h. absurd (cc))
      (λ _. cond_both (is_blank text) (Ok line.Blank) _ IsFine (λ _ l h. let is : line.Blank ≡ l = cc in subst (StepMayBePlayed (top_of policy)) is tt) (λ _. by_words (words_of text)))
    where
      by_words : (o : Option (List LineWord)) → IsFine (parse_step_words policy o)
      by_words None l h = absurd (cc)
      by_words (Some ws) l h = words_fine ws l h

-- ---- calls of programs and of scripts

-- a bare word
abbrev bare : List ℕ → LineWord
bare text = record { quoted = false; bytes = text }

not_space : (b : ℕ) → is_bare b ≡ true → is_space b ≡ false
not_space b h = by_value (is_space b) (and_parts (is_plain b) (not (is_space b)) h).1
  where
    by_value : (v : Bool) → not v ≡ true → v ≡ false
    by_value true h = absurd (cc)
    by_value false h = refl

-- a line that begins with a bare word has this word and those of the rest
words_after : (text rest : List ℕ) → is_bare_text text ≡ true → is_apart rest ≡ true → words_of (text ++ rest) ≡ option_map (λ ws. bare text ∷ ws) (words_of rest)
words_after [] rest is apart = absurd (cc)
words_after (b ∷ bs) rest is apart =
    let first = (and_parts (is_bare b) (list_all is_bare bs) (and_parts (nat_lt 0 (length (b ∷ bs))) (list_all is_bare (b ∷ bs)) is).1).0 in
    words_are ((b ∷ bs) ++ rest) ∙ ap (words_by words_of) (trim_none b (bs ++ rest) (not_space b first))
    ∙ words_first ((b ∷ bs) ++ rest) rest (bare (b ∷ bs)) (spelling_read (bare (b ∷ bs)) (b ∷ bs) rest (Bare (b ∷ bs) is) apart)

module _ (policy : PolicyNames) (tag : List ℕ) (who : Pid) (is : process_of_tag policy tag ≡ Some who) where
  -- the words of a script's line, judged for a program
  abbrev for_program : Option (List LineWord) → Reading StepLine
  for_program o = cond (begins_with_tool o) (Err error.Syntax) (step_of_line (parse_words policy (option_map (λ ws. bare tag ∷ ws) o)))

  read_call : (parsed : Reading Call) → map_reading line.One (map_reading step.Do parsed) ≡ step_of_line (map_reading (λ item. line_is.One item.0 item.1) (both (a_tag policy tag) parsed))
  unfolding map_reading both a_tag
  read_call (Ok c) = sym (ap (λ o. step_of_line (map_reading (λ item. line_is.One item.0 item.1) (both (ok_or o error.BadTag) (Ok c)))) is)
  read_call (Err e) = sym (ap (λ o. step_of_line (map_reading (λ item. line_is.One item.0 item.1) (both (ok_or o error.BadTag) (Err e)))) is)

  same_call : (n : Option CallName) (tool : Option Tool) (arguments : List (List ℕ))
      → map_reading line.One (map_reading step.Do (call_by policy arguments n)) ≡ cond (is_none n && is_some tool) (Err error.Syntax) (step_of_line (item_by policy tag arguments n tool))
  unfolding map_reading
  same_call (Some n) tool arguments = read_call (parse_call policy n arguments)
  same_call None (Some tool) arguments = refl
  same_call None None arguments = refl

  by_words : (o : Option (List LineWord)) → parse_step_words policy (option_map (λ ws. bare (codes "do") ∷ ws) o) ≡ for_program o
  unfolding step_of_words line_by step_by parse_do parse_item map_reading find_named
  by_words None = refl
  by_words (Some []) = refl
  by_words (Some (name ∷ ws)) = by_quotes name.quoted (call_named name.bytes) (tool_named name.bytes)
    where
      by_quotes : (v : Bool) (n : Option CallName) (tool : Option Tool) → map_reading line.One (map_reading step.Do (cond v (Err error.Syntax) (call_by policy (bytes_in ws) n)))
          ≡ cond (is_none n && is_some tool) (Err error.Syntax) (step_of_line (cond (false || v) (Err error.Syntax) (item_by policy tag (bytes_in ws) n tool)))
      by_quotes true (Some n) tool = refl
      by_quotes true None None = refl
      by_quotes true None (Some tool) = refl
      by_quotes false n tool = same_call n tool (bytes_in ws)

pub do_judged : DoLine
unfolding parse_step is_blank
do_judged policy tag rest who bare_tag is apart =
    ap (λ o. cond (nat_lt MAX_LINE (length (codes "do" ++ rest))) (Err error.TooLong) (parse_step_words policy o)) (words_after (codes "do") rest refl apart)
    ∙ ap (cond (nat_lt MAX_LINE (length (codes "do" ++ rest))) (Err error.TooLong))
    (by_words policy tag who is (words_of rest)
    ∙ ap (λ o. cond (begins_with_tool (words_of rest)) (Err error.Syntax) (step_of_line (parse_words policy o))) (sym (words_after tag rest bare_tag apart)))
