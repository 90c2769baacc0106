-- The paths of a utility, read one after the other.
use Rattle.std.proofs.Common.{◌≡◌, ℕ, ◌+◌, ◌<◌, List, [], ◌∷◌, ◌++◌, length, get_or, drop, Option, None, Some, Ok, Err, refl, sym, ◌∙◌, ap, subst, append_assoc, append-nil, ◌≤◌}
use Rattle.std.specs.Option.{ok_or, option_and_then, option_map}
use Rattle.std.specs.Result.{IsErrAnd}
use Rattle.std.proofs.lemmas.List.{at_drop_all, at_drop_more}
use Rattle.fs_path.specs.Path.{PathValue}
use Rattle.fs_path.specs.declared.words.LineWord.{LineWord}
use Rattle.line_text.specs.Reading.{path_of}
use Rattle.script_text.specs.Argument.{path as a_path}
use Rattle.script_text.specs.Line.{bytes_in}
use Rattle.script_text.specs.Reading.{Answers, IsCause, Reading}
use Rattle.script_text.specs.Tools.{paths, paths_of}
use Rattle.script_text.specs.declared.fault.LineError.{LineError}
use Rattle.script_text.specs.declared.fault.LineError.TheVariants as error

-- paths before those of a word and of further words
abbrev onto : List PathValue → Option PathValue → Option (List PathValue) → Option (List PathValue)
onto before first more = option_map (λ (ps : List PathValue). before ++ ps) (option_and_then (λ (p : PathValue). option_map (λ (ps : List PathValue). p ∷ ps) more) first)

cause_of : (o : Option PathValue) (before : List PathValue) (more all : Option (List PathValue)) → all ≡ onto before o more → (e : LineError) → IsCause (ok_or o error.BadPath) e → IsCause (ok_or all error.BadPath) e
cause_of (Some p) before more all is (error.NoMemory m) h = tt
cause_of (Some p) before more all is e h = absurd (cc)
cause_of None before more all is (error.NoMemory m) h = tt
cause_of None before more all is e h = let same : error.BadPath ≡ e = cc in ap (λ o. ok_or o error.BadPath) is ∙ ap (λ f. Err f) same

taken : (o : Option PathValue) (p : PathValue) (before : List PathValue) (more : Option (List PathValue)) → ok_or o error.BadPath ≡ Ok p → onto before o more ≡ option_map (λ (ps : List PathValue). (before ++ p ∷ []) ++ ps) more
taken None p before more h = absurd (cc)
taken (Some q) p before None h = refl
taken (Some q) p before (Some ps) h = let same : q ≡ p = cc in ap (λ (r : PathValue). Some (before ++ r ∷ ps)) same ∙ ap (λ (rs : List PathValue). Some rs) (sym (append_assoc before (p ∷ []) ps))

module _ (words : List LineWord) (i : ℕ) (w : LineWord) (within : i < length words) (is : w ≡ get_or words i w) (before : List PathValue)
    (known : paths_of (bytes_in words) ≡ option_map (λ (ps : List PathValue). before ++ ps) (paths_of (bytes_in (drop i words)))) where
  next_word : paths_of (bytes_in words) ≡ onto before (path_of w.bytes) (paths_of (bytes_in (drop (i + 1) words)))
  next_word =
      known ∙ at_drop_more (λ (ws : List LineWord). option_map (λ (ps : List PathValue). before ++ ps) (paths_of (bytes_in ws))) words i w within
      ∙ ap (λ (v : LineWord). onto before (path_of v.bytes) (paths_of (bytes_in (drop (i + 1) words)))) (sym is)

  -- a word that is a path comes after the paths before it
  pub path_taken : (p : PathValue) (after : List PathValue) → a_path w.bytes ≡ Ok p → after ≡ before ++ p ∷ [] → paths_of (bytes_in words) ≡ option_map (λ (ps : List PathValue). after ++ ps) (paths_of (bytes_in (drop (i + 1) words)))
  unfolding a_path
  path_taken p after h new =
      next_word ∙ taken (path_of w.bytes) p before (paths_of (bytes_in (drop (i + 1) words))) h
      ∙ ap (λ (qs : List PathValue). option_map (λ (ps : List PathValue). qs ++ ps) (paths_of (bytes_in (drop (i + 1) words)))) (sym new)

  -- a word that is refused as a path refuses all
  pub path_refused : (e : LineError) (r : Reading (List PathValue)) → IsCause (a_path w.bytes) e → IsErrAnd r (λ f. f ≡ e) → Answers (paths (bytes_in words)) r
  unfolding a_path paths
  path_refused e (Ok ps) h is = absurd is
  path_refused e (Err f) h is = subst (IsCause (paths (bytes_in words))) (sym is) (cause_of (path_of w.bytes) before (paths_of (bytes_in (drop (i + 1) words))) (paths_of (bytes_in words)) next_word e h)

-- after the last word the paths are all
pub paths_read : (words : List LineWord) (i : ℕ) (before : List PathValue) → length words ≤ i → paths_of (bytes_in words) ≡ option_map (λ (ps : List PathValue). before ++ ps) (paths_of (bytes_in (drop i words)))
    → paths (bytes_in words) ≡ Ok before
unfolding paths
paths_read words i before past known =
    ap (λ o. ok_or o error.BadPath)
    (known ∙ at_drop_all (λ (ws : List LineWord). option_map (λ (ps : List PathValue). before ++ ps) (paths_of (bytes_in ws))) words i past ∙ ap (λ (ps : List PathValue). Some ps) (append-nil before))
