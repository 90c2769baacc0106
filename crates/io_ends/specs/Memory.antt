-- What contracts see of the ends in memory, and what a call of each does.
use Rattle.std.specs.Prelude.{◌≡◌, ℕ, ◌-◌, ◌==◌, ◌||◌, Bool, true, false, min, nat_le, List, ◌++◌, length, take, drop}
use Rattle.std.specs.List.{list_any}
use Rattle.io_ends.specs.Faults.{next_count}

-- the call of this number is among those that are to fail
abbrev pub is_listed : List ℕ → ℕ → Bool
is_listed fails call = list_any (λ n. n == call) fails

-- a source in memory: the bytes that are left, the calls that are to fail, and how many calls and faults there were
pub record SourceState : Type 0 where
  pub left : List ℕ
  pub fails : List ℕ
  pub calls : ℕ
  pub faults : ℕ

-- a call that is not listed read as many bytes as fit, and no other part of the source changed
pub record ReadGives (count : ℕ) (buf : List ℕ) (before after : SourceState) : Type 0 where
  pub unlisted : is_listed before.fails (next_count before.calls) ≡ false
  pub count_is : count ≡ min (length buf) (length before.left)
  pub given : take count buf ≡ take count before.left
  pub after_is : after ≡ record before { left = drop count before.left; calls = next_count before.calls }

-- a listed call was counted as a fault, and took nothing
pub record ReadFails (before after : SourceState) : Type 0 where
  pub listed : is_listed before.fails (next_count before.calls) ≡ true
  pub after_is : after ≡ record before { calls = next_count before.calls; faults = next_count before.faults }

-- a sink in memory: the bytes that it holds, how many it has room for in all, the calls that are to fail, and how many calls and faults there were
pub record SinkState : Type 0 where
  pub held : List ℕ
  pub room : ℕ
  pub fails : List ℕ
  pub calls : ℕ
  pub faults : ℕ

-- the next call with a piece that is not empty is listed, or the room is full
abbrev pub will_fail : SinkState → Bool
will_fail s = is_listed s.fails (next_count s.calls) || nat_le s.room (length s.held)

-- a call appended its whole piece, or as much of it as there was room for
pub record WriteTakes (count : ℕ) (piece : List ℕ) (before after : SinkState) : Type 0 where
  pub may : will_fail before ≡ false
  pub count_is : count ≡ min (length piece) (before.room - length before.held)
  pub after_is : after ≡ record before { held = before.held ++ take count piece; calls = next_count before.calls }

-- a call was counted as a fault, and appended nothing
pub record WriteFails (before after : SinkState) : Type 0 where
  pub may_not : will_fail before ≡ true
  pub after_is : after ≡ record before { calls = next_count before.calls; faults = next_count before.faults }
