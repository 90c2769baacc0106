use Rattle.std.specs.Prelude.{◌≡◌, ℕ, ◌+◌, Some, refl}
use Rattle.std.specs.FinMap as map
use Rattle.std.specs.FinMap.{FinMap}
use Rattle.std.proofs.Common.{ap, sym, ◌∙◌, subst}
use Rattle.slab.specs.Slab.{Slab, Updates}
use Rattle.lab_lattice.specs.Label.{Label, label_cmp}
use Rattle.kern_model.specs.declared.numbers.Oid.{Oid}
use Rattle.kern_model.specs.State.{last_drawn}
use Rattle.kern_model.specs.declared.objects.Object.{Object}
use Rattle.kern_model.specs.Keys.{oid_cmp}
use Rattle.fs_nodes.specs.Nodes.{NodeKeys, NodeSlots, NodeTable, IsPlaced, objects_in, with_new}
use Rattle.fs_nodes.proofs.Made.{same_objects, placed_reserved, objects_made, placed_made, where_err}
use Rattle.fs_nodes.proofs.nodes.Nodes.create_next.Goals as goal

reserved : (slots new : Slab Object) (keys : FinMap oid_cmp ℕ) (numbers : FinMap label_cmp ℕ) → new ≡ record slots { capacity = new.capacity } → IsPlaced slots keys numbers → IsPlaced new keys numbers
reserved slots new keys numbers same placed = subst (λ (s : Slab Object). IsPlaced s keys numbers) (sym same) (placed_reserved slots new.capacity keys numbers placed)

same_table : (slots new : Slab Object) (keys : FinMap oid_cmp ℕ) (numbers : FinMap label_cmp ℕ) (t : NodeSlots) → new ≡ record slots { capacity = new.capacity }
    → ◌≡◌ {A = NodeSlots} (record { table = record { objects = objects_in slots keys; numbers = numbers }; slots = slots; keys = keys }) t → ◌≡◌ {A = NodeTable} (record { objects = objects_in new keys; numbers = numbers }) t.table
same_table slots new keys numbers t same view =
    ap (λ (s : Slab Object). record { objects = objects_in s keys; numbers = numbers }) same
    ∙ ap (λ (m : FinMap oid_cmp Object). record { objects = m; numbers = numbers }) (same_objects slots new.capacity keys) ∙ ap (λ (n : NodeSlots). n.table) view

-- the table after a new object, by its parts
new_table : {objects' : FinMap oid_cmp Object} {numbers' : FinMap label_cmp ℕ} (numbers : FinMap label_cmp ℕ) (objects : FinMap oid_cmp Object) (t : NodeTable) (id : Oid) (o : Object)
    → id ≡ record { label = o.label; n = last_drawn numbers o.label + 1 } → ◌≡◌ {A = NodeTable} (record { objects = objects; numbers = numbers }) t
    → objects' ≡ map.insert objects id o → numbers' ≡ map.insert numbers id.label id.n → ◌≡◌ {A = NodeTable} (record { objects = objects'; numbers = numbers' }) (with_new t o.label o)
new_table numbers objects t id o is table objects_are numbers_are =
    (λ i. record { objects = objects_are i; numbers = numbers_are i })
    ∙ ap (λ (d : Oid). record { objects = map.insert objects d o; numbers = map.insert numbers d.label d.n }) is
    ∙ ap (λ (n : NodeTable). with_new n o.label o) table

pub invariant_of-self : goal.invariant_of-self
invariant_of-self c = reserved c.self.inside.slots c.reserve.new.self c.self.inside.index.keys c.self.inside.index.numbers c.reserve.ensures.rest_kept c.self.invariant

pub returns-in_err-reserve-clause-err : goal.returns-in_err-reserve-clause-err
returns-in_err-reserve-clause-err c = where_err c.from_residual.result (same_table c.self.inside.slots c.reserve.new.self c.self.inside.index.keys c.self.inside.index.numbers c.args.self.now c.reserve.ensures.rest_kept c.self.view_is)

pub invariant_of-self-in_err-enter : goal.invariant_of-self-in_err-enter
invariant_of-self-in_err-enter c =
    subst (λ (k : NodeKeys). IsPlaced c.reserve.new.self k.keys k.numbers) (sym c.in_err-enter.ensures.err)
    (reserved c.self.inside.slots c.reserve.new.self c.self.inside.index.keys c.self.inside.index.numbers c.reserve.ensures.rest_kept c.self.invariant)

pub returns-in_err-enter-clause-err : goal.returns-in_err-enter-clause-err
returns-in_err-enter-clause-err c = where_err c.from_residual-in_err-enter.result
    (ap (λ (k : NodeKeys). record { objects = objects_in c.reserve.new.self k.keys; numbers = k.numbers }) c.in_err-enter.ensures.err
    ∙ same_table c.self.inside.slots c.reserve.new.self c.self.inside.index.keys c.self.inside.index.numbers c.args.self.now c.reserve.ensures.rest_kept c.self.view_is)

-- the number that is drawn next
drawn_next : (numbers : FinMap label_cmp ℕ) (label : Label) (id : Oid) → id ≡ record { label = label; n = last_drawn numbers label + 1 } → id.n ≡ last_drawn numbers id.label + 1
drawn_next numbers label id is = subst (λ (i : Oid). i.n ≡ last_drawn numbers i.label + 1) (sym is) refl

pub invariant_of-self-2 : goal.invariant_of-self-2
invariant_of-self-2 c =
    let placed = reserved c.self.inside.slots c.reserve.new.self c.self.inside.index.keys c.self.inside.index.numbers c.reserve.ensures.rest_kept c.self.invariant in
    let updates = subst (λ (key : ℕ). Updates c.reserve.new.self c.insert_reserved.new.self key (Some c.object_from-object.result)) (c.insert_reserved.ensures.key ∙ sym c.vacant_key-key.ensures.value) c.insert_reserved.ensures.updates in
    let made = placed_made placed c.next-id.result (drawn_next c.self.inside.index.numbers c.object_from-object.result.label c.next-id.result c.next-id.ensures) c.vacant_key-key.result c.object_from-object.result c.insert_reserved.new.self c.vacant_key-key.ensures.vacant updates c.insert_reserved.ensures.len in
    subst (λ (k : NodeKeys). IsPlaced c.insert_reserved.new.self k.keys k.numbers) (sym c.in_ok-enter.ensures.ok) made

pub returns-clause-made : goal.returns-clause-made
returns-clause-made c =
    let placed = reserved c.self.inside.slots c.reserve.new.self c.self.inside.index.keys c.self.inside.index.numbers c.reserve.ensures.rest_kept c.self.invariant in
    let updates = subst (λ (key : ℕ). Updates c.reserve.new.self c.insert_reserved.new.self key (Some c.object_from-object.result)) (c.insert_reserved.ensures.key ∙ sym c.vacant_key-key.ensures.value) c.insert_reserved.ensures.updates in
    let objects = objects_made placed c.next-id.result (drawn_next c.self.inside.index.numbers c.object_from-object.result.label c.next-id.result c.next-id.ensures) c.vacant_key-key.result c.object_from-object.result c.insert_reserved.new.self c.vacant_key-key.ensures.vacant updates in
    let table = same_table c.self.inside.slots c.reserve.new.self c.self.inside.index.keys c.self.inside.index.numbers c.args.self.now c.reserve.ensures.rest_kept c.self.view_is in
    let keys = ap (λ (k : NodeKeys). objects_in c.insert_reserved.new.self k.keys) c.in_ok-enter.ensures.ok ∙ objects in
    new_table c.self.inside.index.numbers (objects_in c.reserve.new.self c.self.inside.index.keys) c.args.self.now.table c.next-id.result c.object_from-object.result c.next-id.ensures table keys (ap (λ (k : NodeKeys). k.numbers) c.in_ok-enter.ensures.ok)
    ∙ ap (λ (o : Object). with_new c.args.self.now.table o.label o) c.object_from-object.ensures
