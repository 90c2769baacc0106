-- The keywords of the lines after the head.
use Rattle.std.specs.Prelude.{◌≡◌, ◌↔◌, ℕ, cond, List, [], ◌∷◌, Option, None, Some, codes}
use Rattle.fs_path.specs.declared.words.LineWord.{LineWord}
use Rattle.kern_model.specs.Named.{find_named}
use Rattle.world_text.specs.declared.keyword.Keyword.{Keyword}
use Rattle.world_text.specs.declared.keyword.Keyword.TheVariants.{Dir, File, Fifo, Proc, Script}
use Rattle.world_text.specs.Written.{bare}

-- how a keyword is written
abbrev pub keyword_word : Keyword → List ℕ
keyword_word Dir = codes "dir"
keyword_word File = codes "file"
keyword_word Fifo = codes "fifo"
keyword_word Proc = codes "proc"
keyword_word Script = codes "script"

-- each keyword once
abbrev pub all_keywords : List Keyword
all_keywords = Dir ∷ File ∷ Fifo ∷ Proc ∷ Script ∷ []

-- the keyword with a word
abbrev pub keyword_named : List ℕ → Option Keyword
keyword_named = find_named keyword_word all_keywords

-- the keyword that a word is; a word between quotes is none
abbrev pub keyword_of : LineWord → Option Keyword
keyword_of w = cond w.quoted None (keyword_named w.bytes)

-- what is found for a word is the keyword that it is without quotes, and nothing where it is none
abbrev pub IsKeywordOf : LineWord → Option Keyword → Type 0
IsKeywordOf w found = (k : Keyword) → (found ≡ Some k) ↔ (w ≡ bare (keyword_word k))
