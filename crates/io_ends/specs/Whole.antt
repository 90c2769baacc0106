-- Bytes that are read to the end of a source, or to a limit and one byte more.
use Rattle.std.specs.Prelude.{◌≡◌, ℕ, ◌+◌, ◌≤◌, false, List, ◌++◌, length, nat_lt, take, IfOk, Result, Ok, Err}
use Rattle.std.specs.declared.option.Option.{Option}
use Rattle.std.specs.Io.KnownBytes.{Consumes, IsAtEnd}
use Rattle.io_ends.specs.Faults.{next_count}
use Rattle.io_ends.specs.declared.whole.ReadError.{ReadError}
use Rattle.io_ends.specs.declared.whole.ReadError.TheVariants.{Failed, NoMemory}
use Rattle.io_ends.specs.declared.whole.Whole.{Whole}

-- a read that failed was counted once, and nothing else was counted
abbrev pub CountsRead : {T : Type 0} → Result T ReadError → ℕ → ℕ → Type 0
CountsRead (Ok answer) before now = now ≡ before
CountsRead (Err Failed) before now = now ≡ next_count before
CountsRead (Err NoMemory) before now = now ≡ before

-- the result has the first `limit` of the bytes that were read and says whether there were more of them; where there were not, the source was read to its end
pub record IsWhole (w : Whole) (got : List ℕ) (limit : ℕ) (now : Option (List ℕ)) : Type 0 where
  pub bytes : w.bytes ≡ take limit got
  pub more : w.more ≡ nat_lt limit (length got)
  pub to_the_end : w.more ≡ false → IsAtEnd now

-- a call took at most `limit` bytes and one from the source, and its result is of exactly these
pub record ReadsWhole (result : Result Whole ReadError) (limit : ℕ) (left now : Option (List ℕ)) : Type 0 where
  pub got : List ℕ
  pub took : Consumes left now got
  pub few : length got ≤ limit + 1
  pub shows : IfOk result (λ w. IsWhole w got limit now)

-- one read appended `count` bytes, at most `most` are held, and `count` is 0 only at the end
pub record Fills (count : ℕ) (before after : List ℕ) (most : ℕ) (left now : Option (List ℕ)) : Type 0 where
  pub got : List ℕ
  pub took : Consumes left now got
  pub count_is : length got ≡ count
  pub after_is : after ≡ before ++ got
  pub small : length after ≤ most
  pub at_end : count ≡ 0 → IsAtEnd now

-- one read took no more bytes than there was room for
pub record FillFails (before : List ℕ) (most : ℕ) (left now : Option (List ℕ)) : Type 0 where
  pub got : List ℕ
  pub took : Consumes left now got
  pub small : length (before ++ got) ≤ most
