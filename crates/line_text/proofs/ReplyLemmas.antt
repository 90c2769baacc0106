-- A line that is written word by word.
use Rattle.std.proofs.Common.{◌≡◌, ℕ, List, [], ◌∷◌, ◌++◌, sym, ◌∙◌, ap, append_assoc, append-nil}
use Rattle.fs_path.specs.Words.{after_spaces, line_text}
use Rattle.line_text.specs.Reply.{with_words}

-- a text with further words is the text and the words, each after a space
pub words_after : (text : List ℕ) (words : List (List ℕ)) → with_words text words ≡ text ++ after_spaces words
words_after text [] = sym (append-nil text)
words_after text (word ∷ words) = words_after (text ++ 32 ∷ word) words ∙ append_assoc text (32 ∷ word) (after_spaces words)

-- a line of a first word, a second and further ones
pub line_written : (first word : List ℕ) (words : List (List ℕ)) (a b c d : List ℕ) → a ≡ first → b ≡ a ++ 32 ∷ word → c ≡ with_words b words → d ≡ c ++ 10 ∷ [] → d ≡ line_text (first ∷ word ∷ words) ++ 10 ∷ []
line_written first word words a b c d e f g h =
    h ∙ ap (λ t. t ++ 10 ∷ []) (g ∙ ap (λ t. with_words t words) (f ∙ ap (λ t. t ++ 32 ∷ word) e) ∙ words_after first (word ∷ words))
