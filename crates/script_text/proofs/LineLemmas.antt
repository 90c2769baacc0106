-- What a line is parsed as, from its words.
use Rattle.std.proofs.Common.{◌≡◌, ℕ, ◌≤◌, false, List, length, ◌∙◌, ap, Ok, Err, Some, cond, IfOk}
use Rattle.std.proofs.lemmas.Bool.{le-ltb}
use Rattle.fs_path.specs.declared.words.LineWord.{LineWord}
use Rattle.fs_path.specs.Words.{is_blank, words_of}
use Rattle.fs_path.specs.declared.words.TheConstants.{MAX_LINE}
use Rattle.lab_text.specs.Policy.{PolicyNames, top_of}
use Rattle.script_text.specs.declared.line.Line.{Line}
use Rattle.script_text.specs.declared.line.Line.TheVariants as line
use Rattle.script_text.specs.declared.fault.LineError.TheVariants as error
use Rattle.script_text.specs.Line.{MayBePlayed, parse_item, parse_line, parse_words}
use Rattle.script_text.proofs.LineLaws.{parsed_played}
use Rattle.script_text.specs.Reading.{Reading, Answers}

-- a line that is not too long is parsed by its words
line_by_words : (policy : PolicyNames) (text : List ℕ) (words : List LineWord) → length text ≤ MAX_LINE → is_blank text ≡ false → words_of text ≡ Some words → parse_line policy text ≡ parse_item policy words
unfolding parse_line
line_by_words policy text words short some is =
    ap (λ v. cond v (Err error.TooLong) (cond (is_blank text) (Ok line.Blank) (parse_words policy (words_of text)))) (le-ltb MAX_LINE (length text) short)
    ∙ ap (λ v. cond v (Ok line.Blank) (parse_words policy (words_of text))) some ∙ ap (parse_words policy) is

-- what is returned for a line may be played
pub answer_played : (policy : PolicyNames) (text : List ℕ) (words : List LineWord) (r : Reading Line) → length text ≤ MAX_LINE → is_blank text ≡ false → words_of text ≡ Some words
    → Answers (parse_item policy words) r → IfOk r (MayBePlayed (top_of policy))
answer_played policy text words (Ok l) short some is answer = parsed_played policy text l (line_by_words policy text words short some is ∙ answer)
answer_played policy text words (Err e) short some is answer = tt
