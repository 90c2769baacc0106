-- How a file is overwritten.
use Rattle.std.specs.Prelude.{ℕ, List}
use Rattle.kern_model.specs.declared.numbers.Oid.{Oid}
use Rattle.kern_model.specs.declared.objects.Attr.{Attr}
use Rattle.kern_model.specs.FileRows.{content_change, written_over}
use Rattle.kern_model.specs.State.{State, Change, object_at}

-- the change of a file that gets a piece at a place, and these attributes
abbrev pub overwrite_change : State → Oid → ℕ → List ℕ → Attr → Change
overwrite_change s id at bytes attr = content_change id (object_at s id) (written_over (object_at s id).bytes at bytes) attr
