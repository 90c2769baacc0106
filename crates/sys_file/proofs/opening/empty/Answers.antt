use Rattle.std.proofs.Common.{◌∙◌, ap, []}
use Rattle.std.specs.FinMap as map
use Rattle.kern_model.specs.declared.objects.Object.{Object}
use Rattle.kern_model.specs.FileRows.{content_change}
use Rattle.kern_model.specs.State.{State, apply_change}
use Rattle.kern_model.proofs.KeyLaws.{oid_cmp_total, oid_cmp_exact}
use Rattle.kern_model.proofs.MapLemmas.{get-insert_same}
use Rattle.fd_table.proofs.Loops.{set_twice}
use Rattle.fs_nodes.specs.Nodes.{NodeTable}
use Rattle.sys_lookup.specs.Shared.{state_of}
use Rattle.sys_file.proofs.opening.empty.Goals as goal

pub set_attr-requires : goal.set_attr-requires
set_attr-requires c =
    let id = c.args.id.now in
    let gone : Object = record (c.requires.object) { bytes = [] } in
    let there = ap (λ (x : State). map.get x.objects id) c.shared.view_is ∙ c.requires.is in
    record { value = gone; is = ap (λ (t : NodeTable). map.get t.objects id) (c.truncate.ensures.bytes c.requires.object there) ∙ get-insert_same oid_cmp_total c.shared.inside.tree.nodes.table.objects id gone }

pub returns : goal.returns
returns c = λ o is.
    let s = state_of c.shared.inside in
    let id = c.args.id.now in
    let gone : Object = record o { bytes = [] } in
    let first = c.truncate.ensures.bytes o (ap (λ (x : State). map.get x.objects id) c.shared.view_is ∙ is) in
    let there = ap (λ (t : NodeTable). map.get t.objects id) first ∙ get-insert_same oid_cmp_total s.objects id gone in
    let second = c.set_attr.ensures.attr gone there in
    (λ i. record s { objects = (second i).objects; object_numbers = (second i).numbers; entries = c.set_attr.ensures.entries i })
    ∙ (λ i. record s { objects = map.insert (first i).objects id (record gone { attr = c.args.attr }); object_numbers = (first i).numbers; entries = c.truncate.ensures.entries i })
    ∙ ap (λ (m : _). record s { objects = m }) (set_twice oid_cmp_total oid_cmp_exact s.objects id gone (record gone { attr = c.args.attr }))
    ∙ ap (λ (x : State). apply_change x (content_change id o [] c.args.attr)) c.shared.view_is
