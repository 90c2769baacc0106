-- What is asked of a file whose content changes.
use Rattle.kern_model.specs.declared.checks.Place.{Place}
use Rattle.kern_model.specs.declared.numbers.Oid.{Oid}
use Rattle.kern_model.specs.declared.objects.Attr.{Attr}
use Rattle.kern_model.specs.FileRows.{keeps_attr}
use Rattle.kern_model.specs.Row.{Row}
use Rattle.kern_model.specs.State.{State, object_at}

-- the part of a row with soft fsetid of a file whose content changes: its attributes stay, or are cleared where that is denied
abbrev pub kept_attr : State → Oid → Place → (Attr → Row) → Row
kept_attr s id place rest = keeps_attr id place (object_at s id) rest
