-- Each format is found by its word, and a line of the old format is refused as such.
use Rattle.std.specs.Prelude.{◌≡◌, ◌↔◌, ℕ, nat_lt, Bool, true, false, cond, List, [], ◌∷◌, length, Option, None, Some, codes, refl}
use Rattle.fs_path.specs.declared.words.LineWord.{LineWord}
use Rattle.fs_path.specs.declared.words.TheConstants.{MAX_LINE}
use Rattle.fs_path.specs.Words.{words_of, is_blank}
use Rattle.kern_model.specs.Named.{find_named}
use Rattle.lab_text.specs.Names.{Names}
use Rattle.lab_text.specs.Policy.{no_names}
use Rattle.lab_text.specs.declared.lists.NameList.TheVariants.{Levels}
use Rattle.line_text.specs.declared.fault.LineFault.TheVariants.{OldFormat, Syntax}
use Rattle.world_text.specs.declared.expecting.Expecting.TheVariants as at
use Rattle.world_text.specs.declared.expecting.Parsed.{Parsed}
use Rattle.world_text.specs.declared.expecting.Parsed.TheVariants.{Refuses, GoesOn}
use Rattle.world_text.specs.declared.format.Format.{Format}
use Rattle.world_text.specs.declared.format.Format.TheVariants.{One, Two}
use Rattle.world_text.specs.Expecting.{after_keyword, parse_words, parse_line}
use Rattle.world_text.specs.Formats.{format_word, format_named}
use Rattle.world_text.specs.Head.{after_format, parse_format}
use Rattle.world_text.specs.Values.{unless, with_form}

pub format_round_trip : (format : Format) → format_named (format_word format) ≡ Some format
unfolding find_named
format_round_trip One = refl
format_round_trip Two = refl

-- ---- a line of the old format

-- what is said of a line where format 2 is due, and where format 1 is
abbrev pub IsOldFormat : (today old : Parsed) → Type 0
IsOldFormat today old = (today ≡ Refuses OldFormat) ↔ (old ≡ GoesOn (at.Names One Levels no_names))

malformed : IsOldFormat (Refuses Syntax) (Refuses Syntax)
malformed = (λ e. absurd cc, λ e. absurd cc)

by_format : (found : Option Format) → IsOldFormat (with_form found (after_format Two)) (with_form found (after_format One))
by_format None = malformed
by_format (Some One) = (λ e. refl, λ e. refl)
by_format (Some Two) = (λ e. absurd cc, λ e. absurd cc)

by_names : (names : Option Names) → IsOldFormat (with_form names (parse_format Two)) (with_form names (parse_format One))
by_names None = malformed
by_names (Some []) = malformed
by_names (Some (word ∷ [])) = by_format (format_named word)
by_names (Some (word ∷ next ∷ more)) = malformed

by_words : (ws : Option (List LineWord)) → IsOldFormat (with_form ws (parse_words (at.Format Two))) (with_form ws (parse_words (at.Format One)))
unfolding parse_words
by_words None = malformed
by_words (Some ws) = by_names (after_keyword (codes "world") ws)

-- where format 2 is due, exactly the lines with which format 1 goes on are refused as those of the old format
pub old_format_exact : (line : List ℕ) → IsOldFormat (parse_line (at.Format Two) line) (parse_line (at.Format One) line)
unfolding parse_line
old_format_exact line = by_tests (nat_lt MAX_LINE (length line)) (is_blank line)
  where
    by_tests : (long blank : Bool) → IsOldFormat (unless long Syntax (cond blank (GoesOn (at.Format Two)) (with_form (words_of line) (parse_words (at.Format Two)))))
        (unless long Syntax (cond blank (GoesOn (at.Format One)) (with_form (words_of line) (parse_words (at.Format One)))))
    by_tests true blank = malformed
    by_tests false true = (λ e. absurd cc, λ e. absurd cc)
    by_tests false false = by_words (words_of line)
