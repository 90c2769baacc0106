-- Of which texts some words are the words.
use Rattle.std.specs.Prelude.{◌≡◌, ℕ, ◌+◌, ◌*◌, true, false, List, [], ◌∷◌, ◌++◌, Some}
use Rattle.std.specs.List.{list_all}
use Rattle.fs_path.specs.declared.words.LineWord.{LineWord}
use Rattle.fs_path.specs.Words.{is_space, is_plain, is_bare_text, is_apart, hex_value}

-- an item between quotes that denotes a byte: the byte itself, `\"`, `\\`, or `\x` and two hexadecimal digits
pub data IsItem : ℕ → List ℕ → Type 0 where
  Plain : (b : ℕ) → is_plain b ≡ true → IsItem b (b ∷ [])
  Quote : IsItem 34 (92 ∷ 34 ∷ [])
  Backslash : IsItem 92 (92 ∷ 92 ∷ [])
  Coded : (h l high low : ℕ) → hex_value h ≡ Some high → hex_value l ≡ Some low → IsItem (16 * high + low) (92 ∷ 120 ∷ h ∷ l ∷ [])

-- items that denote some bytes in order
pub data AreItems : List ℕ → List ℕ → Type 0 where
  NoItem : AreItems [] []
  ItemMore : (b : ℕ) (bytes item items : List ℕ) → IsItem b item → AreItems bytes items → AreItems (b ∷ bytes) (item ++ items)

-- a spelling of a word: the bytes of a bare word, or items between quotes that denote those of a quoted one
pub data IsSpelling : LineWord → List ℕ → Type 0 where
  Bare : (bytes : List ℕ) → is_bare_text bytes ≡ true → IsSpelling (record { quoted = false; bytes = bytes }) bytes
  Quoted : (bytes items : List ℕ) → AreItems bytes items → IsSpelling (record { quoted = true; bytes = bytes }) (34 ∷ items ++ 34 ∷ [])

-- a line that has some words: spaces alone, or spaces, a spelling of the first word, and the end or a space, from which the line has the other words
pub data HasWords : List ℕ → List LineWord → Type 0 where
  NoWord : (spaces : List ℕ) → list_all is_space spaces ≡ true → HasWords spaces []
  WordMore : (spaces text rest : List ℕ) (w : LineWord) (ws : List LineWord) → list_all is_space spaces ≡ true → IsSpelling w text → is_apart rest ≡ true → HasWords rest ws
      → HasWords (spaces ++ (text ++ rest)) (w ∷ ws)
