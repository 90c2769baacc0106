-- What the table of objects and its slab end as, where an object is lent.
use Rattle.std.specs.Prelude.{ℕ}
use Rattle.std.specs.Borrow.{Lends, MutBor, Fml}
use Rattle.std.specs.contracts.alloc.Global as global
use Rattle.std.specs.contracts.impls.GlobalAllocator.TheImpl.{ghosts}
use Rattle.slab.specs.Lends.{lends_value}
use Rattle.slab.specs.Slab.{Slab}
use Rattle.kern_model.specs.declared.numbers.Oid.{Oid}
use Rattle.kern_model.specs.declared.objects.Object.{Object}
use Rattle.kern_model.specs.contracts.objects.Object as object
use Rattle.fs_nodes.specs.Nodes.{NodeSlots, with_object_at}
use Rattle.fs_nodes.specs.contracts.nodes.Nodes as nodes

-- the slab ends with the object under the key as it was left
abbrev pub LendsSlot : MutBor (Slab Object) → ℕ → MutBor Object → Fml
LendsSlot s key r = lends_value object.the_row global.the_row ghosts s key r

-- the table ends with the object that has the number as it was left
abbrev pub LendsObject : MutBor NodeSlots → Oid → MutBor Object → Fml
LendsObject s id r = Lends nodes.the_row object.the_row s r (with_object_at s.now id)
