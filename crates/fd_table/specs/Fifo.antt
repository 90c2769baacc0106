-- An object without its bytes, where it is a FIFO.
use Rattle.std.specs.Prelude.{[], Option, None, Some, cond}
use Rattle.std.specs.FinMap as map
use Rattle.std.specs.FinMap.{FinMap}
use Rattle.kern_model.specs.declared.numbers.Oid.{Oid}
use Rattle.kern_model.specs.declared.objects.Object.{Object}
use Rattle.kern_model.specs.Keys.{oid_cmp}
use Rattle.kern_model.specs.Kinds.{is_fifo}

abbrev pub fifo_emptied : FinMap oid_cmp Object → Oid → Option Object → FinMap oid_cmp Object
fifo_emptied objects id None = objects
fifo_emptied objects id (Some o) = cond (is_fifo o.kind) (map.insert objects id (record o { bytes = [] })) objects

-- the objects, of which one, if there is one, has no bytes where it is a FIFO
abbrev pub without_bytes : FinMap oid_cmp Object → Option Oid → FinMap oid_cmp Object
without_bytes objects None = objects
without_bytes objects (Some id) = fifo_emptied objects id (map.get objects id)
