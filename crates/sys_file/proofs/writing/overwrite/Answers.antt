use Rattle.std.proofs.Common.{◌∙◌, ap, sym, arith, length, Err}
use Rattle.std.specs.FinMap as map
use Rattle.kern_model.specs.declared.objects.Object.{Object}
use Rattle.kern_model.specs.Descriptors.{open_description}
use Rattle.kern_model.specs.FileRows.{content_change, written_over}
use Rattle.kern_model.specs.State.{State, apply_change, process_at}
use Rattle.kern_model.proofs.KeyLaws.{oid_cmp_exact, oid_cmp_total}
use Rattle.kern_model.proofs.MapLemmas.{get-insert_same}
use Rattle.fd_table.proofs.Loops.{set_twice}
use Rattle.fs_nodes.specs.Nodes.{NodeTable}
use Rattle.sys_lookup.specs.Shared.{state_of}
use Rattle.sys_file.proofs.ObjectLemmas.{object_is}
use Rattle.sys_file.proofs.writing.overwrite.Goals as goal

pub set_attr-requires : goal.set_attr-requires
set_attr-requires c =
    let id = c.args.id.now in
    let o = c.requires.file.object in
    let new = record o { bytes = written_over o.bytes c.args.at c.args.bytes.now } in
    let there = ap (λ (x : State). map.get x.objects id) c.shared.view_is ∙ c.requires.file.is in
    record {
      value = new;
      is = ap (λ (t : NodeTable). map.get t.objects id) (c.in-Ok.ensures.written o there) ∙ get-insert_same oid_cmp_total c.shared.inside.tree.nodes.table.objects id new;
    }

pub unreachable-requires : goal.unreachable-requires
unreachable-requires c =
    let file = c.requires.file in
    let there = ap (λ (x : State). map.get x.objects c.args.id.now) c.shared.view_is ∙ file.is in
    let same = object_is c.args.shared.now c.args.id.now file.object file.is in
    let past = (c.in-Err-PastEnd.ensures.past_end file.object there).0 (ap Err c.in-Err-PastEnd.field-0-is) in
    let within = c.requires.within in
    let size = ap (λ (o : Object). length o.bytes) same in
    omega (arith, past, within, size)

pub unreachable-requires-in-Err-TooBig : goal.unreachable-requires-in-Err-TooBig
unreachable-requires-in-Err-TooBig c =
    let file = c.requires.file in
    let there = ap (λ (x : State). map.get x.objects c.args.id.now) c.shared.view_is ∙ file.is in
    let big = ((c.in-Err-TooBig.ensures.too_big file.object there).0 (ap Err c.in-Err-TooBig.field-0-is)).1 in
    let few = c.requires.few in
    omega (arith, big, few)

pub returns-in-Ok-clause-written : goal.returns-in-Ok-clause-written
returns-in-Ok-clause-written c =
    let s = state_of c.shared.inside in
    let id = c.args.id.now in
    let o = c.requires.file.object in
    let bytes = written_over o.bytes c.args.at c.args.bytes.now in
    let new = record o { bytes = bytes } in
    let last = record o { bytes = bytes; attr = c.args.attr } in
    let same = object_is c.args.shared.now id o c.requires.file.is in
    let written = c.in-Ok.ensures.written o (ap (λ (x : State). map.get x.objects id) c.shared.view_is ∙ c.requires.file.is) in
    let there = ap (λ (t : NodeTable). map.get t.objects id) written ∙ get-insert_same oid_cmp_total s.objects id new in
    let set = c.set_attr.ensures.attr new there in
    (λ i. record s { objects = (set i).objects; object_numbers = (set i).numbers; entries = c.set_attr.ensures.entries i })
    ∙ (λ i. record s { objects = map.insert (written i).objects id last; object_numbers = (written i).numbers; entries = c.in-Ok.ensures.entries i })
    ∙ (λ i. record s { objects = set_twice oid_cmp_total oid_cmp_exact s.objects id new last i })
    ∙ (λ i. apply_change (c.shared.view_is i) (content_change id (sym same i) (written_over (sym same i).bytes c.args.at c.args.bytes.now) c.args.attr))

pub returns-in-Ok-clause-open : goal.returns-in-Ok-clause-open
unfolding open_description
returns-in-Ok-clause-open c = λ who fd. ap (λ (x : State). open_description x (process_at x who) fd) c.shared.view_is
