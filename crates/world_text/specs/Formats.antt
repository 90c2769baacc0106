-- The formats of worlds.
use Rattle.std.specs.Prelude.{ℕ, List, [], ◌∷◌, Option, codes}
use Rattle.kern_model.specs.Named.{find_named}
use Rattle.world_text.specs.declared.format.Format.{Format}
use Rattle.world_text.specs.declared.format.Format.TheVariants.{One, Two}

-- what stands after `world`
abbrev pub format_word : Format → List ℕ
format_word One = codes "1"
format_word Two = codes "2"

-- each format once
abbrev pub all_formats : List Format
all_formats = One ∷ Two ∷ []

-- the format with a word
abbrev pub format_named : List ℕ → Option Format
format_named = find_named format_word all_formats
