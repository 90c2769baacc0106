use Rattle.std.proofs.Common.{◌≡◌, ◌∙◌, ◌+◌, ◌-◌, ap, sym, refl, subst, arith, min, ℕ, List, [], ◌∷◌, Ok, drop, length, take}
use Rattle.std.specs.FinMap as map
use Rattle.std.proofs.lemmas.List.{length-drop, length-take}
use Rattle.kern_model.specs.FileRows.{from_file, offset_change}
use Rattle.kern_model.specs.State.{apply_change}
use Rattle.sys_lookup.proofs.PlayLemmas.{commits_as, no_memory_row, refuse_plays}
use Rattle.sys_lookup.proofs.RefuseLemmas.{lets_on}
use Rattle.sys_lookup.specs.PlaysRow.{PlaysRow}
use Rattle.sys_file.proofs.ObjectLemmas.{few_bytes, object_is}
use Rattle.sys_file.proofs.reading.read_file.Goals as goal

-- what is read is no longer than what was asked for, and than what is left
read_few : (bytes : List ℕ) (at n : ℕ) → length (take n (drop at bytes)) ≡ min n (length bytes - at)
read_few bytes at n = length-take n (drop at bytes) ∙ ap (min n) (length-drop at bytes)

pub returns-in_err-bytes : goal.returns-in_err-bytes
returns-in_err-bytes c = λ log. no_memory_row c.from_residual.result c.from_residual.ensures.1

pub overflow_cast-end : goal.overflow_cast-end
overflow_cast-end c =
    let file = c.requires.file in
    let bytes = c.in_ok-bytes.ensures file.object ((λ i. map.get c.args.shared.now.objects (c.opened.view_is i).description.object) ∙ file.is) in
    let few = ap length (c.items.ensures ∙ bytes) ∙ read_few file.object.bytes c.opened.inside.offset c.args.n in
    omega (arith, few)

pub overflow_add-end : goal.overflow_add-end
overflow_add-end c =
    let file = c.requires.file in
    let bytes = c.in_ok-bytes.ensures file.object ((λ i. map.get c.args.shared.now.objects (c.opened.view_is i).description.object) ∙ file.is) in
    let few = ap length (c.items.ensures ∙ bytes) ∙ read_few file.object.bytes c.opened.inside.offset c.args.n in
    let small = few_bytes c.args.shared.now c.requires.valid c.args.opened.now.description.object file.object file.is file.file in
    omega (arith, few, small)

pub returns : goal.returns
returns c = λ log.
    let s = c.args.shared.now in
    let f = c.args.opened.now in
    let file = c.requires.file in
    let same = object_is s f.description.object file.object file.is in
    let bytes = c.in_ok-bytes.ensures file.object ((λ i. map.get s.objects (c.opened.view_is i).description.object) ∙ file.is) in
    let is = bytes ∙ (λ i. take c.args.n (drop (c.opened.view_is i).description.offset (sym same i).bytes)) in
    refuse_plays (lets_on refl)
    (subst (λ (taken : List ℕ). PlaysRow s log (from_file f taken) (Ok c.answers.result) c.set_offset.new.shared log) is
    (commits_as {changes = offset_change f (f.description.offset + length c.in_ok-bytes.bytes) ∷ []} c.answers.ensures
    (c.set_offset.ensures f c.requires.open ∙ (λ i. apply_change s (offset_change f ((c.opened.view_is i).description.offset + length (c.items.ensures i)))))))
