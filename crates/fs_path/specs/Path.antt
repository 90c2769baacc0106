-- Paths, seen as where they start and their names.
use Rattle.std.specs.Prelude.{◌≡◌, ℕ, ◌+◌, ◌≤◌, List, length, Bool, true, cond, sum_by}
use Rattle.std.specs.List.{list_all}
use Rattle.fs_path.specs.Name.{Name, is_name}

pub record PathValue : Type 0 where
  -- whether it starts at the root
  pub absolute : Bool
  pub names : List Name

-- how many bytes names have with a `/` before each
abbrev pub written_len : List Name → ℕ
written_len names = sum_by (λ (name : Name). length name + 1) names

-- at most 32 names, each of which is a name, and at most 1,023 bytes where the path is written; a relative one has no `/` before its names
pub record HasForm (absolute : Bool) (names : List Name) : Type 0 where
  pub few : length names ≤ 32
  pub named : list_all is_name names ≡ true
  pub short : written_len names ≤ 1023 + cond absolute 0 1
