-- No word of a line has more bytes than the line.
use Rattle.std.specs.Prelude.{◌≡◌, ℕ, zero, suc, ◌≤◌, List, [], ◌∷◌, length, Option, Some, None}
use Rattle.std.proofs.Common.{subst, arith}
use Rattle.std.specs.List.{AllByRecursion}
use Rattle.std.specs.Option.{option_and_then, option_map}
use Rattle.fs_path.specs.declared.words.LineWord.{LineWord}
use Rattle.fs_path.specs.Words.{first_word, trim_spaces, words_by, words_within, words_of}
use Rattle.fs_path.proofs.WordSteps.{WordFits, first_fits, past_shorter}

-- each word has at most n bytes
abbrev AllFit : ℕ → Option (List LineWord) → Type 0
AllFit n None = Unit {0}
AllFit n (Some ws) = AllByRecursion (λ (w : LineWord). length w.bytes ≤ n) ws

all_by : (most : ℕ) (more : List ℕ → Option (List LineWord)) (text : List ℕ) → length text ≤ most → ((rest : List ℕ) → length rest ≤ most → AllFit most (more rest)) → AllFit most (words_by more text)
all_by most more [] le rest_fits = tt
all_by most more (b ∷ bs) le rest_fits = by_word (first_word (b ∷ bs)) (first_fits (b ∷ bs))
  where
    onto : (w : LineWord) → length w.bytes ≤ most → (o : Option (List LineWord)) → AllFit most o → AllFit most (option_map (λ ws. w ∷ ws) o)
    onto w fits None all = tt
    onto w fits (Some ws) all = (fits, all)

    by_word : (o : Option (LineWord × List ℕ)) → WordFits (length (b ∷ bs)) o
        → AllFit most (option_and_then (λ (p : LineWord × List ℕ). option_map (λ ws. p.0 ∷ ws) (more p.1)) o)
    by_word None fits = tt
    by_word (Some p) fits =
        let short : length p.1 ≤ most = let rest = fits.1 in omega arith in
        let small : length p.0.bytes ≤ most = let word = fits.0 in omega arith in
        onto p.0 small (more p.1) (rest_fits p.1 short)

all_within : (most n : ℕ) (text : List ℕ) → length text ≤ most → AllFit most (words_within n text)
all_within most zero text le = let past = past_shorter text in all_by most (λ _. None) (trim_spaces text) (omega arith) (λ rest le. tt)
all_within most (suc n) text le = let past = past_shorter text in all_by most (words_within n) (trim_spaces text) (omega arith) (λ rest le. all_within most n rest le)

-- no word of a line has more bytes than the line
pub words_fit : (line : List ℕ) (ws : List LineWord) → words_of line ≡ Some ws → AllByRecursion (λ (w : LineWord). length w.bytes ≤ length line) ws
unfolding words_of
words_fit line ws is = let same : length line ≤ length line = omega arith in subst (AllFit (length line)) is (all_within (length line) (length line) line same)
