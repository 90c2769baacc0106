-- How the first line of a source is found.
use Rattle.std.specs.Prelude.{◌≡◌, ℕ, ◌+◌, ◌<◌, ◌≤◌, List, ◌++◌, length, take, Result, Option, MatchResult}
use Rattle.std.specs.Io.KnownBytes.{Consumes, IsAtEnd}
use Rattle.io_ends.specs.declared.ends.Failed.{Failed}
use Rattle.io_ends.specs.declared.lines.Look.{Look}
use Rattle.io_ends.specs.declared.lines.Look.TheVariants.{Line, LongLine, TooMuch, Part}
use Rattle.fs_path.specs.declared.words.TheConstants.{MAX_LINE}
use Rattle.io_ends.specs.Lines.{first_line, HoldsLongLine, HoldsPart, InReads}

-- what the text of the bytes that are held says of its first line
abbrev pub Looks : Look → List ℕ → ℕ → Type 0
Looks (Line n) text room = (n ≡ length (first_line (take room text))) × (n < length (take room text)) × (n ≤ MAX_LINE)
Looks LongLine text room = HoldsLongLine text room
Looks TooMuch text room = HoldsPart text room × (room < length text)
Looks Part text room = HoldsPart text room × (length text ≤ room)

-- bytes were read until the first line was found, or could not be
pub record Seeks (result : Result Look Failed) (before now : List ℕ) (room : ℕ) (left left' : Option (List ℕ)) : Type 0 where
  pub got : List ℕ
  pub took : Consumes left left' got
  pub held : now ≡ before ++ got
  pub few : length now ≤ room + 1
  pub reads : InReads before room got
  pub looks : MatchResult result (λ look. Looks look now room × (look ≡ Part → IsAtEnd left')) (λ _. HoldsPart now room)
