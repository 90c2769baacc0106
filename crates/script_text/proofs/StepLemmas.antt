-- The labels of slices, read one after the other, and what a line of programs is parsed as, from its words.
use Rattle.std.proofs.Common.{◌≡◌, ℕ, ◌+◌, ◌<◌, ◌≤◌, false, cond, List, [], ◌∷◌, ◌++◌, length, get_or, drop, Option, None, Some, Ok, Err, IfOk, sym, ◌∙◌, ap, refl, append_assoc, append-nil}
use Rattle.std.specs.Option.{ok_or, option_and_then, option_map}
use Rattle.std.specs.Result.{IsErrAnd}
use Rattle.std.proofs.lemmas.Bool.{le-ltb}
use Rattle.std.proofs.lemmas.List.{at_drop_all, at_drop_more}
use Rattle.fs_path.specs.Words.{is_blank, words_of}
use Rattle.fs_path.specs.declared.words.LineWord.{LineWord}
use Rattle.fs_path.specs.declared.words.TheConstants.{MAX_LINE}
use Rattle.lab_lattice.specs.Label.{Label}
use Rattle.lab_text.specs.Policy.{PolicyNames, top_of}
use Rattle.lab_text.specs.Text.{parse_label}
use Rattle.script_text.specs.Argument.{label as a_label}
use Rattle.script_text.specs.Line.{bytes_in}
use Rattle.script_text.specs.Reading.{Answers, Reading}
use Rattle.script_text.specs.Step.{StepMayBePlayed, labels, labels_of, parse_step, parse_step_words, step_of_words}
use Rattle.script_text.specs.declared.fault.LineError.{LineError}
use Rattle.script_text.specs.declared.fault.LineError.TheVariants as error
use Rattle.script_text.specs.declared.step.StepLine.{StepLine}
use Rattle.script_text.specs.declared.step.StepLine.TheVariants as line
use Rattle.script_text.proofs.CallLemmas.{exact_answer}
use Rattle.script_text.proofs.StepLaws.{step_played}

-- ---- labels

-- labels before that of a word and those of further words
abbrev onto : List Label → Option Label → Option (List Label) → Option (List Label)
onto before first more = option_map (λ (ls : List Label). before ++ ls) (option_and_then (λ (l : Label). option_map (λ (ls : List Label). l ∷ ls) more) first)

all_refused : (o : Option Label) (before : List Label) (more all : Option (List Label)) → all ≡ onto before o more → (e : LineError) → ok_or o error.BadLabel ≡ Err e → ok_or all error.BadLabel ≡ Err e
all_refused (Some l) before more all is e h = absurd (cc)
all_refused None before more all is e h = let same : error.BadLabel ≡ e = cc in ap (λ o. ok_or o error.BadLabel) is ∙ ap (λ f. Err f) same

one_more : (o : Option Label) (l : Label) (before : List Label) (more : Option (List Label)) → ok_or o error.BadLabel ≡ Ok l → onto before o more ≡ option_map (λ (ls : List Label). (before ++ l ∷ []) ++ ls) more
one_more None l before more h = absurd (cc)
one_more (Some k) l before None h = refl
one_more (Some k) l before (Some ls) h = let same : k ≡ l = cc in ap (λ (r : Label). Some (before ++ r ∷ ls)) same ∙ ap (λ (rs : List Label). Some rs) (sym (append_assoc before (l ∷ []) ls))

module _ (policy : PolicyNames) (words : List LineWord) (i : ℕ) (w : LineWord) (within : i < length words) (is : w ≡ get_or words i w) (before : List Label)
    (known : labels_of policy (bytes_in words) ≡ option_map (λ (ls : List Label). before ++ ls) (labels_of policy (bytes_in (drop i words)))) where
  next_word : labels_of policy (bytes_in words) ≡ onto before (parse_label policy w.bytes) (labels_of policy (bytes_in (drop (i + 1) words)))
  next_word =
      known ∙ at_drop_more (λ (ws : List LineWord). option_map (λ (ls : List Label). before ++ ls) (labels_of policy (bytes_in ws))) words i w within
      ∙ ap (λ (v : LineWord). onto before (parse_label policy v.bytes) (labels_of policy (bytes_in (drop (i + 1) words)))) (sym is)

  -- a word that is a label comes after the labels before it
  pub label_taken : (l : Label) (after : List Label) → a_label policy w.bytes ≡ Ok l → after ≡ before ++ l ∷ [] → labels_of policy (bytes_in words) ≡ option_map (λ (ls : List Label). after ++ ls) (labels_of policy (bytes_in (drop (i + 1) words)))
  unfolding a_label
  label_taken l after h new =
      next_word ∙ one_more (parse_label policy w.bytes) l before (labels_of policy (bytes_in (drop (i + 1) words))) h
      ∙ ap (λ (ks : List Label). option_map (λ (ls : List Label). ks ++ ls) (labels_of policy (bytes_in (drop (i + 1) words)))) (sym new)

  -- a word that is refused as a label refuses all
  pub label_refused : (e : LineError) (r : Reading (List Label)) → a_label policy w.bytes ≡ Err e → IsErrAnd r (λ f. f ≡ e) → Answers (labels policy (bytes_in words)) r
  unfolding a_label labels
  label_refused e (Ok ls) h is = absurd is
  label_refused e (Err f) h is =
      exact_answer (labels policy (bytes_in words)) (Err f)
      (ap (λ f. Err f) is ∙ sym (all_refused (parse_label policy w.bytes) before (labels_of policy (bytes_in (drop (i + 1) words))) (labels_of policy (bytes_in words)) next_word e h))

-- after the last word the labels are all
pub labels_read : (policy : PolicyNames) (words : List LineWord) (i : ℕ) (before : List Label) → length words ≤ i → labels_of policy (bytes_in words) ≡ option_map (λ (ls : List Label). before ++ ls) (labels_of policy (bytes_in (drop i words)))
    → labels policy (bytes_in words) ≡ Ok before
unfolding labels
labels_read policy words i before past known =
    ap (λ o. ok_or o error.BadLabel)
    (known ∙ at_drop_all (λ (ws : List LineWord). option_map (λ (ls : List Label). before ++ ls) (labels_of policy (bytes_in ws))) words i past ∙ ap (λ (ls : List Label). Some ls) (append-nil before))

-- ---- lines

-- a line that is not too long is parsed by its words
step_by_words : (policy : PolicyNames) (text : List ℕ) (words : List LineWord) → length text ≤ MAX_LINE → is_blank text ≡ false → words_of text ≡ Some words → parse_step policy text ≡ step_of_words policy words
unfolding parse_step
step_by_words policy text words short some is =
    ap (λ v. cond v (Err error.TooLong) (cond (is_blank text) (Ok line.Blank) (parse_step_words policy (words_of text)))) (le-ltb MAX_LINE (length text) short)
    ∙ ap (λ v. cond v (Ok line.Blank) (parse_step_words policy (words_of text))) some ∙ ap (parse_step_words policy) is

-- what is returned for a line may be played
pub step_answer_played : (policy : PolicyNames) (text : List ℕ) (words : List LineWord) (r : Reading StepLine) → length text ≤ MAX_LINE → is_blank text ≡ false → words_of text ≡ Some words
    → Answers (step_of_words policy words) r → IfOk r (StepMayBePlayed (top_of policy))
step_answer_played policy text words (Ok l) short some is answer = step_played policy text l (step_by_words policy text words short some is ∙ answer)
step_answer_played policy text words (Err e) short some is answer = tt
