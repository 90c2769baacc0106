-- Where the bytes of a word are.
use Rattle.std.specs.Prelude.{ℕ, List}
use Rattle.fs_path.specs.declared.words.Storage.{Storage}
use Rattle.fs_path.specs.declared.words.Storage.TheVariants.{InLine, Apart}

-- the bytes, wherever they are
abbrev pub bytes_at : Storage → List ℕ
bytes_at (InLine bytes) = bytes.now
bytes_at (Apart bytes) = bytes
