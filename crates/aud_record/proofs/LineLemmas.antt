-- The line of a record.
use Rattle.std.proofs.Common.{◌≡◌, ℕ, List, [], ◌∷◌, ◌++◌, ◌∙◌, ap}
use Rattle.fs_path.specs.Words.{line_text}
use Rattle.line_text.specs.Reply.{with_words}
use Rattle.line_text.proofs.ReplyLemmas as reply

-- a line of three words and further ones
pub line_written : (first word other : List ℕ) (words : List (List ℕ)) (a b c d e : List ℕ) → a ≡ first → b ≡ a ++ 32 ∷ word → c ≡ b ++ 32 ∷ other → d ≡ with_words c words → e ≡ d ++ 10 ∷ []
    → e ≡ line_text (first ∷ word ∷ other ∷ words) ++ 10 ∷ []
line_written first word other words a b c d e f g h i j =
    reply.line_written first word (other ∷ words) a b d e f g (i ∙ ap (λ t. with_words t words) h) j
