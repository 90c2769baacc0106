-- A line with a head of two words.
use Rattle.std.proofs.Common.{◌≡◌, ℕ, List, [], ◌∷◌, ◌++◌, ◌∙◌, ap, append_assoc}
use Rattle.fs_path.specs.Words.{line_text}
use Rattle.line_text.specs.Reply.{with_words}
use Rattle.line_text.proofs.ReplyLemmas as reply

-- a line of a first word, a head of two words and further words
pub line_written : (first word path : List ℕ) (words : List (List ℕ)) (a b c d e : List ℕ) → a ≡ first → b ≡ a ++ 32 ∷ word → c ≡ b ++ 32 ∷ path → d ≡ with_words c words → e ≡ d ++ 10 ∷ []
    → e ≡ line_text (first ∷ (word ++ 32 ∷ path) ∷ words) ++ 10 ∷ []
line_written first word path words a b c d e f g h i j =
    reply.line_written first (word ++ 32 ∷ path) words a c d e f (h ∙ ap (λ t. t ++ 32 ∷ path) g ∙ append_assoc a (32 ∷ word) (32 ∷ path)) i j
