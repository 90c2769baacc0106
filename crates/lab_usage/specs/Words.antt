-- What the words of a command line give.
use Rattle.std.specs.Prelude.{ℕ, ◌==◌, Bool, false, not, cond, List, [], ◌∷◌, map, Option, Some, None, string_bytes}
use Rattle.std.specs.List.{list_all}
use Rattle.std.specs.declared.string.String.{String}
use Rattle.std.specs.declared.alloc.Global.{Global}

-- a word that can be an argument: it is not empty, and does not begin with `-`
abbrev pub is_argument : List ℕ → Bool
is_argument [] = false
is_argument (b ∷ bytes) = not (b == 45)

-- a command and its argument, by their bytes
pub record Given : Type 0 where
  pub command : List ℕ
  pub argument : Option (List ℕ)

-- one word gives the command, and two give its argument too
abbrev pub given_by : List (List ℕ) → Option Given
given_by (command ∷ []) = Some (record { command = command; argument = None })
given_by (command ∷ argument ∷ []) = Some (record { command = command; argument = Some argument })
given_by words = None

-- what one or two words give, where each can be an argument
abbrev pub given_words : List (String Global) → Option Given
given_words words = cond (list_all is_argument (map string_bytes words)) (given_by (map string_bytes words)) None
