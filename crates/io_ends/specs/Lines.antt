-- Lines that are read one after another, and what a reader of lines answers. A text is the bytes that it holds, of which the first `room` are within the limit.
use Rattle.std.specs.Prelude.{◌≡◌, ℕ, ◌+◌, ◌<◌, ◌≤◌, ◌==◌, Bool, true, false, List, [], ◌∷◌, ◌++◌, length, take, Result, Option, MatchResult}
use Rattle.std.specs.List.{before_first, list_any}
use Rattle.std.specs.Io.KnownBytes.{Consumes, IsAtEnd}
use Rattle.io_ends.specs.declared.lines.Next.{Next}
use Rattle.io_ends.specs.declared.lines.Next.TheVariants.{Line, End, Unended, LongLine, TooMuch}
use Rattle.fs_path.specs.declared.words.TheConstants.{MAX_LINE}
use Rattle.io_ends.specs.declared.whole.ReadError.{ReadError}
use Rattle.io_ends.specs.declared.whole.ReadError.TheVariants.{Failed, NoMemory}
use Rattle.io_ends.specs.declared.whole.TheConstants.{CHUNK}
use Rattle.io_ends.specs.LinesState.{LinesState, may_take}

-- a line feed is among the bytes
abbrev pub has_line_feed : List ℕ → Bool
has_line_feed bytes = list_any (λ b. b == 10) bytes

-- the bytes before the first line feed, or all of them where there is none
abbrev pub first_line : List ℕ → List ℕ
first_line bytes = before_first (λ b. b == 10) bytes

-- a whole line is within the limit
abbrev pub HoldsLine : List ℕ → ℕ → Type 0
HoldsLine text room = has_line_feed (take room text) ≡ true

-- more bytes of one line are within the limit than a line may have
abbrev pub HoldsLongLine : List ℕ → ℕ → Type 0
HoldsLongLine text room = MAX_LINE < length (first_line (take room text))

-- within the limit is at most a part of a line, and it is not too long
pub record HoldsPart (text : List ℕ) (room : ℕ) : Type 0 where
  pub no_line : has_line_feed (take room text) ≡ false
  pub short : length (take room text) ≤ MAX_LINE

-- the first line of a text is given, and the text after its line feed is held
pub record GivesLine (text : List ℕ) (room : ℕ) (now : LinesState) : Type 0 where
  pub text_is : text ≡ now.line ++ 10 ∷ now.held
  pub one_line : has_line_feed now.line ≡ false
  pub short : length now.line ≤ MAX_LINE
  pub room_is : room ≡ length now.line + 1 + now.room
  pub more : now.more ≡ true

-- no line is given, the text is held, and no more lines may be asked for
pub record GivesNone (text : List ℕ) (room : ℕ) (now : LinesState) : Type 0 where
  pub line : now.line ≡ []
  pub held : now.held ≡ text
  pub room_is : now.room ≡ room
  pub more : now.more ≡ false

-- what each answer says of the text, and of what the source has left
abbrev pub Answers : Next → List ℕ → ℕ → LinesState → Option (List ℕ) → Type 0
Answers Line text room now left = GivesLine text room now
Answers End text room now left = GivesNone text room now × (text ≡ []) × IsAtEnd left
Answers Unended text room now left = GivesNone text room now × HoldsPart text room × (0 < length text) × (length text ≤ room) × IsAtEnd left
Answers LongLine text room now left = GivesNone text room now × HoldsLongLine text room
Answers TooMuch text room now left = GivesNone text room now × HoldsPart text room × (room < length text)

-- what an error says of the text; memory does not run out
abbrev pub Fails : ReadError → List ℕ → ℕ → LinesState → Type 0
Fails Failed text room now = GivesNone text room now × HoldsPart text room
Fails NoMemory text room now = ⊥

-- bytes were taken by reads of at most 4,096, and the last of these was made while no whole line was held
pub record InReads (held : List ℕ) (room : ℕ) (got : List ℕ) : Type 0 where
  pub earlier : List ℕ
  pub last : List ℕ
  pub got_is : got ≡ earlier ++ last
  pub chunk : length last ≤ CHUNK
  pub due : 0 < length last → HoldsPart (held ++ earlier) room

-- a call took bytes from the source, and answers by the text of the bytes that were held and these
pub record Advances (result : Result Next ReadError) (before now : LinesState) (left left' : Option (List ℕ)) : Type 0 where
  pub got : List ℕ
  pub took : Consumes left left' got
  pub reads : InReads before.held before.room got
  pub within : may_take before ≡ length got + may_take now
  pub number : now.number ≡ before.number + 1
  pub answers : MatchResult result (λ next. Answers next (before.held ++ got) before.room now left') (λ e. Fails e (before.held ++ got) before.room now)
