-- Lines that are written word by word.
use Rattle.std.specs.Prelude.{◌≡◌, ℕ, Bool, true, false, cond, List, [], ◌∷◌, ◌++◌, map, refl}
use Rattle.std.proofs.Common.{ap, sym, ◌∙◌, append_assoc, append-nil}
use Rattle.std.proofs.lemmas.Grind.{flat_map-append}
use Rattle.std.specs.List.{flat_map}
use Rattle.fs_path.specs.declared.words.LineWord.{LineWord}
use Rattle.fs_path.specs.Words.{spelling, line_text}
use Rattle.lab_text.specs.Lists.{all_lists}
use Rattle.lab_text.specs.Policy.{PolicyNames}
use Rattle.lab_text.specs.declared.lists.NameList.{NameList}
use Rattle.line_text.specs.Words.{is_left_out, list_words, list_lines, list_text, names_lines}
use Rattle.line_text.specs.Reply.{with_words}
use Rattle.line_text.proofs.ReplyLemmas.{words_after}
use Rattle.world_text.specs.Written.{bare, line_of}

-- names are spelled as they stand
spelled_bare : (names : List (List ℕ)) → map spelling (map bare names) ≡ names
spelled_bare [] = refl
spelled_bare (name ∷ names) = ap (λ (ns : List (List ℕ)). name ∷ ns) (spelled_bare names)

-- the lines of lists of names are spelled as they stand
lists_spelled : (policy : PolicyNames) (lists : List NameList) → flat_map line_of (map (map bare) (flat_map (list_lines policy) lists)) ≡ flat_map (list_text policy) lists
unfolding line_of
lists_spelled policy [] = refl
lists_spelled policy (list ∷ lists) = by_test (is_left_out policy list) (lists_spelled policy lists)
  where
    more : List (List (List ℕ))
    more = flat_map (list_lines policy) lists

    line : List ℕ
    line = line_text (list_words policy list) ++ 10 ∷ []

    by_test : (b : Bool) → flat_map line_of (map (map bare) more) ≡ flat_map (list_text policy) lists → flat_map line_of (map (map bare) (cond b [] (list_words policy list ∷ []) ++ more)) ≡ cond b [] line ++ flat_map (list_text policy) lists
    by_test true rest = rest
    by_test false rest = λ i. (line_text (spelled_bare (list_words policy list) i) ++ 10 ∷ []) ++ rest i

-- a first line, those of the lists of names and a last line after a text are the text and the head
pub head_after : (policy : PolicyNames) (first last : List LineWord) (text a b new : List ℕ) → a ≡ text ++ line_of first → b ≡ a ++ flat_map (list_text policy) all_lists → new ≡ b ++ line_of last
    → new ≡ text ++ flat_map line_of (first ∷ (map (map bare) (names_lines policy) ++ last ∷ []))
head_after policy first last text a b new s1 s2 end =
    let names = flat_map (list_text policy) all_lists in
    let lines = map (map bare) (names_lines policy) in
    let rest : flat_map line_of (lines ++ last ∷ []) ≡ names ++ line_of last = flat_map-append line_of lines (last ∷ []) ∙ (λ i. lists_spelled policy all_lists i ++ append-nil (line_of last) i) in
    end ∙ ap (λ (t : List ℕ). t ++ line_of last) (s2 ∙ ap (λ (t : List ℕ). t ++ names) s1) ∙ append_assoc (text ++ line_of first) names (line_of last) ∙ append_assoc text (line_of first) (names ++ line_of last)
    ∙ ap (λ (t : List ℕ). text ++ (line_of first ++ t)) (sym rest)

-- a keyword, words and a line feed after a text are the text and a line
line_after : (text keyword : List ℕ) (words : List (List ℕ)) (line new : List ℕ) → line ≡ with_words (text ++ keyword) words → new ≡ line ++ 10 ∷ [] → new ≡ text ++ (line_text (keyword ∷ words) ++ 10 ∷ [])
line_after text keyword words line new is end = rw (end, is, words_after) (simp append_assoc)

-- a keyword, five words, further ones and a line feed after a text are the text and a line
pub object_after : (text keyword path mode owner group label : List ℕ) (more : List (List ℕ)) (a b d e f g h new : List ℕ)
    → a ≡ text ++ keyword → b ≡ a ++ 32 ∷ path → d ≡ b ++ 32 ∷ mode → e ≡ d ++ 32 ∷ owner → f ≡ e ++ 32 ∷ group → g ≡ f ++ 32 ∷ label → h ≡ with_words g more → new ≡ h ++ 10 ∷ []
    → new ≡ text ++ (line_text (keyword ∷ path ∷ mode ∷ owner ∷ group ∷ label ∷ more) ++ 10 ∷ [])
object_after text keyword path mode owner group label more a b d e f g h new s1 s2 s3 s4 s5 s6 s7 end =
    line_after text keyword (path ∷ mode ∷ owner ∷ group ∷ label ∷ more) h new (rw (s7, s6, s5, s4, s3, s2, s1)) end
